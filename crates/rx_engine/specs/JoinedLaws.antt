-- Lemmas about `AreShort`: lists of pieces whose frames have at most 1,518 bytes. Other crates use these lemmas, too.
use Rattle.std.proofs.Common.{suc, zero, true, Bool, slice_index_or, ◌≡◌, ◌≤◌, ◌++◌, ◌∷◌, [], ℕ, List, All, length, arith, ap, subst}
use Rattle.std.proofs.lemmas.List.{length-append}
use Rattle.rx_engine.specs.Pieces.{Piece, begun_from, frames_from}
use Rattle.rx_engine.specs.Pieces.Piece.{Last, Part}
use Rattle.rx_engine.specs.JoinedPieces.{AreShort, piece_alone}

-- If the frames of a list of pieces are short, the beginning of the first frame has at most 1,518 bytes.
pub begun-short : (begun : List ℕ) (pieces : List Piece) → AreShort begun pieces → length begun ≤ 1518
begun-short begun [] short = short.rest
begun-short begun (Part bytes ∷ later) short =
    let there = begun-short (begun ++ bytes) later (record { frames = short.frames; rest = short.rest }) in
    omega (arith, there, length-append begun bytes)
begun-short begun (Last bytes ∷ later) short =
    omega (arith, short.frames 0 [] (omega arith), length-append begun bytes)

-- If the frames of a list of pieces are short, the frames of the first piece and those of the later pieces are short.
pub first-short : (begun : List ℕ) (piece : Piece) (later : List Piece) → AreShort begun (piece ∷ later) → AreShort begun (piece ∷ [])
first-short begun (Part bytes) later short = record {
  frames = λ k d below. absurd (omega (arith, below));
  rest = begun-short (begun ++ bytes) later (record { frames = short.frames; rest = short.rest });
}
first-short begun (Last bytes) later short = record {
  frames = λ k d below.
      let first : 0 ≡ k = omega (arith, below) in
      subst (λ (i : ℕ). length (slice_index_or ((begun ++ bytes) ∷ []) i d) ≤ 1518) first (short.frames 0 d (omega arith));
  rest = omega arith;
}

pub later-short : (begun : List ℕ) (piece : Piece) (later : List Piece) → AreShort begun (piece ∷ later)
    → AreShort (begun_from begun (piece ∷ [])) later
later-short begun (Part bytes) later short = record { frames = short.frames; rest = short.rest }
later-short begun (Last bytes) later short = record {
  frames = λ k d below. short.frames (suc k) d (omega (arith, below));
  rest = short.rest;
}

-- If the frames of two joined lists of pieces are short, the frames of the first list and those of the second list are short.
pub front-short : (begun : List ℕ) (a b : List Piece) → AreShort begun (a ++ b) → AreShort begun a
front-short begun [] b short = record { frames = λ k d below. absurd (omega (arith, below)); rest = begun-short begun b short }
front-short begun (Part bytes ∷ a) b short =
    let rest = front-short (begun ++ bytes) a b (record { frames = short.frames; rest = short.rest }) in
    record { frames = rest.frames; rest = rest.rest }
front-short begun (Last bytes ∷ a) b short =
    let rest = front-short [] a b (record { frames = λ k d below. short.frames (suc k) d (omega (arith, below)); rest = short.rest }) in
    record { frames = all (short.frames 0 [] (omega arith)) rest.frames; rest = rest.rest }
  where
    all : length (begun ++ bytes) ≤ 1518 → All (λ frame. length frame ≤ 1518) (frames_from [] a)
        → All (λ frame. length frame ≤ 1518) ((begun ++ bytes) ∷ frames_from [] a)
    all first later zero d below = first
    all first later (suc k) d below = later k d (omega (arith, below))

pub back-short : (begun : List ℕ) (a b : List Piece) → AreShort begun (a ++ b) → AreShort (begun_from begun a) b
back-short begun [] b short = short
back-short begun (Part bytes ∷ a) b short = back-short (begun ++ bytes) a b (later-short begun (Part bytes) (a ++ b) short)
back-short begun (Last bytes ∷ a) b short = back-short [] a b (later-short begun (Last bytes) (a ++ b) short)

-- Exactly one frame ends in a list that consists of the last piece of a frame.
pub alone-one : (begun bytes : List ℕ) (ends : Bool) → ends ≡ true → length (frames_from begun (piece_alone ends bytes)) ≡ 1
alone-one begun bytes ends yes_ends = ap (λ (b : Bool). length (frames_from begun (piece_alone b bytes))) yes_ends
