-- Lemmas about lists of pieces: the frames that end in them, and the bytes after the last end of a frame.
use Rattle.std.proofs.Common.{◌≡◌, ◌≤◌, ◌+◌, ◌-◌, [], ◌∷◌, ◌++◌, ◌∙◌}
use Rattle.std.proofs.Common.{ℕ, List, length, length-drop, take, drop, refl, sym, ap}
use Rattle.std.proofs.Common.{append_assoc, arith}
use Rattle.std.specs.List.{concat}
use Rattle.std.proofs.lemmas.List.{append-nil, drop-take, take-append-drop, take-take, take_all}
use Rattle.rx_engine.specs.Pieces.{Piece, begun_from, begun_of, frames_from, frames_of, parts}
use Rattle.rx_engine.specs.Pieces.Piece.{Last, Part}

pub frames-append : (begun : List ℕ) (first later : List Piece)
    → frames_from begun (first ++ later) ≡ frames_from begun first ++ frames_from (begun_from begun first) later
frames-append begun [] later = refl
frames-append begun (Part bytes ∷ first) later = frames-append (begun ++ bytes) first later
frames-append begun (Last bytes ∷ first) later =
    ap (λ (frames : List (List ℕ)). (begun ++ bytes) ∷ frames) (frames-append [] first later)

pub begun-append : (begun : List ℕ) (first later : List Piece)
    → begun_from begun (first ++ later) ≡ begun_from (begun_from begun first) later
begun-append begun [] later = refl
begun-append begun (Part bytes ∷ first) later = begun-append (begun ++ bytes) first later
begun-append begun (Last bytes ∷ first) later = begun-append [] first later

-- No frame ends in a list of parts. The bytes that the frame began with, followed by the bytes of all parts, are then the bytes after the
-- last end.
pub frames-parts : (begun : List ℕ) (seen : List (List ℕ)) → frames_from begun (parts seen) ≡ []
frames-parts begun [] = refl
frames-parts begun (bytes ∷ seen) = frames-parts (begun ++ bytes) seen

pub begun-parts : (begun : List ℕ) (seen : List (List ℕ)) → begun_from begun (parts seen) ≡ begun ++ concat seen
begun-parts begun [] = sym (append-nil begun)
begun-parts begun (bytes ∷ seen) = begun-parts (begun ++ bytes) seen ∙ append_assoc begun bytes (concat seen)

-- The first bytes of a frame, followed by the next bytes, are the beginning of the frame.
pub take-next : (moved size : ℕ) (frame : List ℕ) → take moved frame ++ take size (drop moved frame) ≡ take (moved + size) frame
take-next moved size frame =
    let first : take moved (take (moved + size) frame) ≡ take moved frame = take-take moved (moved + size) frame (omega arith) in
    let next : drop moved (take (moved + size) frame) ≡ take size (drop moved frame) = drop-take moved size frame in
    ap (λ (front : List ℕ). front ++ take size (drop moved frame)) (sym first)
    ∙ ap (λ (behind : List ℕ). take moved (take (moved + size) frame) ++ behind) (sym next)
    ∙ take-append-drop moved (take (moved + size) frame)

-- If a piece that isn't the last of its frame is added at the end, the same frames end in the list. If the piece is the next one of the
-- frame after the last end, it is added to the moved bytes of this frame.
pub part-frames : (pieces : List Piece) (bytes : List ℕ) → frames_of (pieces ++ Part bytes ∷ []) ≡ frames_of pieces
part-frames pieces bytes = frames-append [] pieces (Part bytes ∷ []) ∙ append-nil (frames_of pieces)

pub part-begun : (pieces : List Piece) (frame : List ℕ) (moved size : ℕ) → begun_of pieces ≡ take moved frame
    → begun_of (pieces ++ Part (take size (drop moved frame)) ∷ []) ≡ take (moved + size) frame
part-begun pieces frame moved size begun =
    begun-append [] pieces (Part (take size (drop moved frame)) ∷ [])
    ∙ ap (λ (bytes : List ℕ). bytes ++ take size (drop moved frame)) begun
    ∙ take-next moved size frame

-- If the last piece of a frame is added at the end, the whole frame is added, and no bytes are after the last end.
pub last-frames : (pieces : List Piece) (frame : List ℕ) (moved size : ℕ) → begun_of pieces ≡ take moved frame
    → length frame - moved ≤ size
    → frames_of (pieces ++ Last (take size (drop moved frame)) ∷ []) ≡ frames_of pieces ++ frame ∷ []
last-frames pieces frame moved size begun short =
    let bytes = take size (drop moved frame) in
    let left : length (drop moved frame) ≤ size = omega (arith, length-drop moved frame) in
    let whole : take moved frame ++ bytes ≡ frame =
    ap (λ (rest : List ℕ). take moved frame ++ rest) (take_all size (drop moved frame) left) ∙ take-append-drop moved frame in
    frames-append [] pieces (Last bytes ∷ [])
    ∙ ap (λ (front : List ℕ). frames_of pieces ++ (front ++ bytes) ∷ []) begun
    ∙ ap (λ (all : List ℕ). frames_of pieces ++ all ∷ []) whole

pub last-begun : (pieces : List Piece) (bytes : List ℕ) → begun_of (pieces ++ Last bytes ∷ []) ≡ []
last-begun pieces bytes = begun-append [] pieces (Last bytes ∷ [])
