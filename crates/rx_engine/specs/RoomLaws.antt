-- Lemmas about the room in the receive packet buffer: how many frames fit, and how many bytes they have. Other crates use these lemmas,
-- too.
use Rattle.std.proofs.Common.{◌≡◌, ◌≢◌, ◌≤◌, ◌+◌, ◌*◌, ◌++◌, ◌∷◌, [], ℕ, List, All, length, drop, refl, sym, ap, ◌∙◌, arith, suc}
use Rattle.std.specs.Prelude.{sum_by, slice_get, Some}
use Rattle.std.proofs.lemmas.List.Sums.{sum_by-append, sum_by-cons}
use Rattle.descriptors.specs.Frames.{IsLegal}
use Rattle.rx_engine.specs.Receiver.{oldest}
use Rattle.rx_engine.specs.Room.{cost, most_room, occupied_by}

-- A frame occupies at least its length in bytes, and a legal frame at least 80 bytes.
pub bytes-cost : (frame : List ℕ) → length frame ≤ cost frame
bytes-cost frame = omega arith

pub legal-cost : (frame : List ℕ) → IsLegal frame → 80 ≤ cost frame
legal-cost frame legal = omega (arith, legal.least)

all-first : {T : Type 0} (P : T → Type 0) (x : T) (xs : List T) → All P (x ∷ xs) → P x
all-first P x xs all = all 0 x (omega arith)

all-later : {T : Type 0} (P : T → Type 0) (x : T) (xs : List T) → All P (x ∷ xs) → All P xs
all-later P x xs all = λ k d below. all (suc k) d (omega arith)

-- Frames occupy at least the sum of their lengths in bytes.
pub bytes-occupied : (frames : List (List ℕ)) → sum_by (λ (frame : List ℕ). length frame) frames ≤ occupied_by frames
bytes-occupied [] = omega arith
bytes-occupied (frame ∷ later) =
    omega (arith, bytes-cost frame, bytes-occupied later, sum_by-cons (λ (f : List ℕ). length f) frame later, sum_by-cons cost frame later)

-- Legal frames occupy at least 80 bytes each.
pub count-occupied : (frames : List (List ℕ)) → All IsLegal frames → 80 * length frames ≤ occupied_by frames
count-occupied [] legal = omega arith
count-occupied (frame ∷ later) legal =
    omega (
      arith,
      legal-cost frame (all-first IsLegal frame later legal),
      count-occupied later (all-later IsLegal frame later legal),
      sum_by-cons cost frame later,
    )

-- A packet buffer of 48 kilobytes contains at most 614 legal frames.
pub count-fits : (frames : List (List ℕ)) → All IsLegal frames → occupied_by frames ≤ most_room → length frames ≤ 614
count-fits frames legal room = omega (arith, count-occupied frames legal)

-- If a frame is added at the end, the number of occupied bytes increases by the number of bytes that this frame occupies.
pub occupied-append : (frames : List (List ℕ)) (frame : List ℕ) → occupied_by (frames ++ frame ∷ []) ≡ occupied_by frames + cost frame
occupied-append frames frame =
    sum_by-append cost frames (frame ∷ []) ∙ ap (λ (n : ℕ). occupied_by frames + n)
    (sum_by-cons cost frame [] ∙ (let e : cost frame + 0 ≡ cost frame = omega arith in e))

-- The frames occupy the bytes that the first frame occupies, and those that the other frames occupy.
pub occupied-first : (frames : List (List ℕ)) (frame : List ℕ) → slice_get frames 0 ≡ Some frame
    → cost frame + occupied_by (drop 1 frames) ≡ occupied_by frames
occupied-first [] frame is = absurd (cc)
occupied-first (first ∷ later) frame is =
    let same : first ≡ frame = cc in
    ap (λ (f : List ℕ). cost f + occupied_by later) (sym same) ∙ sym (sum_by-cons cost first later)

-- If the packet buffer isn't empty, the frames occupy the bytes that the oldest frame occupies, and those that the other frames occupy.
pub occupied_oldest : (frames : List (List ℕ)) → frames ≢ [] → cost (oldest frames) + occupied_by (drop 1 frames) ≡ occupied_by frames
occupied_oldest [] some = absurd (some refl)
occupied_oldest (first ∷ later) some = sym (sum_by-cons cost first later)

-- If all frames are legal, the oldest one has at most 1,518 bytes.
pub legal_oldest : (frames : List (List ℕ)) → All IsLegal frames → length (oldest frames) ≤ 1518
legal_oldest [] legal = omega arith
legal_oldest (first ∷ later) legal = omega (arith, (all-first IsLegal first later legal).most)

-- If all frames are legal, the frames after the oldest one are legal.
pub legal_later : (frames : List (List ℕ)) → All IsLegal frames → All IsLegal (drop 1 frames)
legal_later [] legal = legal
legal_later (first ∷ later) legal = all-later IsLegal first later legal
