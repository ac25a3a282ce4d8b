-- Frames in pieces. Each piece is in its own buffer, and the descriptor of a frame's last piece has EOP ("3.2.3.1 Receive Descriptor Status
-- Field"; the words for lists of pieces are our choice).
use Rattle.std.specs.Prelude.{◌≡◌, ◌≤◌, ⊤, ℕ, List, [], ◌∷◌, ◌++◌, length}

-- A piece of a frame: the bytes that one receive buffer contains.
pub data Piece : Type 0 where
  -- Bytes of a frame that continues in the next piece.
  Part : (bytes : List ℕ) → Piece
  -- The last bytes of a frame: EOP is set.
  Last : (bytes : List ℕ) → Piece

-- The frames that end in these pieces, if the first frame began with `begun`.
abbrev pub frames_from : List ℕ → List Piece → List (List ℕ)
frames_from begun [] = []
frames_from begun (Part bytes ∷ later) = frames_from (begun ++ bytes) later
frames_from begun (Last bytes ∷ later) = (begun ++ bytes) ∷ frames_from [] later

-- The bytes after the last end of a frame, joined. If no frame ends in these pieces: `begun`, followed by the bytes of all pieces.
abbrev pub begun_from : List ℕ → List Piece → List ℕ
begun_from begun [] = begun
begun_from begun (Part bytes ∷ later) = begun_from (begun ++ bytes) later
begun_from begun (Last bytes ∷ later) = begun_from [] later

-- The frames that end in these pieces, each with its pieces joined.
abbrev pub frames_of : List Piece → List (List ℕ)
frames_of pieces = frames_from [] pieces

-- The bytes after the last end of a frame, joined, or all bytes if no frame ends in these pieces.
abbrev pub begun_of : List Piece → List ℕ
begun_of pieces = begun_from [] pieces

-- The frame of the piece continues in the next piece.
abbrev pub IsPart : Piece → Type 0
IsPart (Part bytes) = ⊤
IsPart (Last bytes) = ⊥

-- A frame ends in the piece.
abbrev pub IsLast : Piece → Type 0
IsLast (Part bytes) = ⊥
IsLast (Last bytes) = ⊤

-- A size that the last piece of a frame can have, for buffers of one size.
pub record IsLastSize (size n : ℕ) : Type 0 where
  -- The piece has at least one byte.
  pub least : 1 ≤ n
  -- The piece fits into a buffer.
  pub most : n ≤ size

-- A piece of a frame that is cut into buffers of one size. The last piece of a frame has at least one byte and fits into a buffer; any
-- other piece fills its buffer.
abbrev pub IsCut : ℕ → Piece → Type 0
IsCut size (Part bytes) = length bytes ≡ size
IsCut size (Last bytes) = IsLastSize size (length bytes)

-- These lists of bytes as pieces, none of them the last of its frame.
abbrev pub parts : List (List ℕ) → List Piece
parts [] = []
parts (bytes ∷ later) = Part bytes ∷ parts later
