-- The bytes of a block in its memory, and the bytes that a read adds.
use Rattle.std.proofs.Common.{◌≡◌, ◌≤◌, ◌+◌, ◌-◌, ℕ, List, ◌++◌, length, take, drop, Option, sym, ap, ◌∙◌, arith}
use Rattle.std.specs.Prelude.{Vec, slice_range}
use Rattle.std.specs.List.{copy_within}
use Rattle.std.specs.Vec.{with_items}
use Rattle.std.specs.declared.alloc.Global.{Global}
use Rattle.std.specs.Io.KnownBytes.{Consumes}
use Rattle.pcap_trace.specs.Devices.{Receives}
use Rattle.std.proofs.lemmas.Slice.{between_is, between_from_start}
use Rattle.std.proofs.lemmas.List.{drop-drop, take_at, length-take-le, length-drop, with_items_is}
use Rattle.std.proofs.lemmas.List.Edits.{length-between}
use Rattle.std.proofs.Math.Seq.{take-add}

pub slice_range-drop : (xs : List ℕ) (start end count : ℕ) → slice_range xs (start + count) end ≡ drop count (slice_range xs start end)
slice_range-drop xs start end count =
    between_is xs (start + count) end ∙ sym (drop-drop count start (take end xs)) ∙ ap (drop count) (sym (between_is xs start end))

take-copy_within : (xs : List ℕ) (start end : ℕ) → start ≤ end → end ≤ length xs
    → take (end - start) (copy_within xs start end 0) ≡ slice_range xs start end
take-copy_within xs start end order within =
    let held = take (end - start) (drop start xs) in
    let all : length held ≡ end - start = length-take-le (end - start) (drop start xs) (omega (arith, length-drop start xs)) in
    take_at held (drop (0 + (end - start)) xs) (end - start) all

pub length_more : (old after : List ℕ) (start end count : ℕ) → start ≤ end → end ≤ length old → end - start + count ≤ length after
    → length (slice_range after 0 (end - start + count)) ≡ length (slice_range old start end) + count
length_more old after start end count order within fits =
    omega (arith, length-between after 0 (end - start + count) fits, length-between old start end within)

pub still_whole : (moved : Vec ℕ Global) (new : List ℕ) (end : ℕ) → length new ≡ moved.len → moved.len ≡ 327696 → end ≤ 327696
    → (0 ≤ end) × (end ≤ length (with_items moved new).items) × (length (with_items moved new).items ≡ 327696)
still_whole moved new end same whole within =
    let is : length (with_items moved new).items ≡ 327696 = ap length (with_items_is moved new same) ∙ same ∙ whole in
    (omega arith, omega (arith, is), is)

pub read_more : (old moved new after : List ℕ) (start end count : ℕ) (a b : Option (List ℕ)) → start ≤ end → end ≤ length old
    → moved ≡ copy_within old start end 0
    → take (end - start) new ≡ take (end - start) moved → Consumes a b (slice_range new (end - start) (end - start + count)) → after ≡ new
    → Receives (slice_range old start end) (slice_range after 0 (end - start + count)) a b
read_more old moved new after start end count a b order within moved_is front took after_is =
    let k = end - start in
    let held = slice_range old start end in
    let first : take k new ≡ held = front ∙ ap (take k) moved_is ∙ take-copy_within old start end order within in
    let more : slice_range new k (k + count) ≡ take count (drop k new) = ap (λ (n : ℕ). take n (drop k new)) (omega arith) in
    let whole : slice_range after 0 (k + count) ≡ held ++ slice_range new k (k + count) =
    ap (λ (t : List ℕ). slice_range t 0 (k + count)) after_is ∙ between_from_start new (k + count) ∙ take-add k count new
    ∙ ap (λ (t : List ℕ). t ++ take count (drop k new)) first ∙ ap (λ (t : List ℕ). held ++ t) (sym more) in
    (slice_range new k (k + count), whole, took)
