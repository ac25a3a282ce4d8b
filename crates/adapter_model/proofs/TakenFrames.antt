-- The first frames of a list, one after the other.
use Rattle.std.proofs.Common.{◌≡◌, ◌≤◌, ◌<◌, ◌+◌, ◌++◌, ◌∷◌, [], ℕ, List, length, take, slice_get, Some, sym, ap, ◌∙◌, arith}
use Rattle.std.proofs.lemmas.List.{append_assoc, length-append, length-take-le, take_more}
use Rattle.std.proofs.lemmas.Option.{get_or_from_slice_get, slice_get_within}

next-taken : (frames : List (List ℕ)) (i : ℕ) (frame : List ℕ) → slice_get frames i ≡ Some frame
    → take (i + 1) frames ≡ take i frames ++ frame ∷ []
next-taken frames i frame is =
    take_more frames i frame (slice_get_within frames i frame is)
    ∙ ap (λ (f : List ℕ). take i frames ++ f ∷ []) (get_or_from_slice_get frames i frame frame is)

-- A list that begins with `start` and the first `i` frames, and gains frame `i`, contains the first `i + 1` frames.
pub taken : (start frames : List (List ℕ)) (i : ℕ) {items items' : List (List ℕ)} {frame : List ℕ} → items' ≡ items ++ frame ∷ []
    → items ≡ start ++ take i frames → slice_get frames i ≡ Some frame → items' ≡ start ++ take (i + 1) frames
taken start frames i {frame = frame} gained is next =
    gained ∙ ap (λ (list : List (List ℕ)). list ++ frame ∷ []) is ∙ append_assoc start (take i frames) (frame ∷ [])
    ∙ ap (λ (more : List (List ℕ)). start ++ more) (sym (next-taken frames i frame next))

pub room-left : (items start frames : List (List ℕ)) (i most : ℕ) → items ≡ start ++ take i frames → i < length frames
    → length start + length frames ≤ most → length items < most
room-left items start frames i most is within room =
    omega (arith, ap length is, length-append start (take i frames), length-take-le i frames (omega (arith, within)), within, room)
