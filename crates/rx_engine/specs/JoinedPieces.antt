-- Lists of pieces whose frames have at most 1,518 bytes.
use Rattle.std.specs.Prelude.{◌≤◌, ◌∷◌, [], ℕ, Bool, List, All, length}
use Rattle.rx_engine.specs.Held.{piece_of}
use Rattle.rx_engine.specs.Pieces.{Piece, begun_from, frames_from}

-- If the first frame begins with `begun`, no frame of these pieces has more than 1,518 bytes.
pub record AreShort (begun : List ℕ) (pieces : List Piece) : Type 0 where
  -- Each frame that ends in these pieces has at most 1,518 bytes.
  pub frames : All (λ frame. length frame ≤ 1518) (frames_from begun pieces)
  -- The bytes after the last end of a frame (`begun_from`) are at most 1,518.
  pub rest : length (begun_from begun pieces) ≤ 1518

-- A list of one piece with these bytes. The flag is whether the frame ends in the piece.
abbrev pub piece_alone : Bool → List ℕ → List Piece
piece_alone ends bytes = piece_of ends bytes ∷ []
