use Rattle.std.proofs.Common.{ℕ, List, ◌≡◌, ◌+◌, sym, ap, ◌∙◌, arith}
use Rattle.std.specs.Prelude.{slice_get, drop, length, None, Some, ◌==◌}
use Rattle.std.proofs.lemmas.List.{length-drop, drop-drop}
use Rattle.circular_buffer.specs.Buffer.{Buffer}
use Rattle.descriptors.specs.Packed.{PackedFrames, cut}
use Rattle.descriptors.specs.declared.packed.PackedQueue.TheInside.{Inside}
use Rattle.descriptors.proofs.Cut.{cut-drop, first-in-sum, is_none, none-cut, none-dropped}
use Rattle.descriptors.proofs.packed.PackedQueue.pop.Goals as goal

-- The limits of this queue, with these frames.
abbrev with_frames : Inside → List (List ℕ) → PackedFrames
with_frames queue frames = record { capacity = queue.lengths.capacity; room = length queue.bytes.items; frames = frames }

pub returns-in_default : goal.returns-in_default
returns-in_default c =
    let queue = c.self.inside in
    let bytes = drop queue.first queue.bytes.items in
    let none : slice_get queue.lengths.items 0 ≡ None = sym c.in_default.ensures.value in
    let same = none-dropped queue.lengths.items bytes none in
    rw (c.in_default.ensures.items, ← c.self.view_is) (ap (with_frames queue) same)

pub invariant_of-self-else-is_empty : goal.invariant_of-self-else-is_empty
invariant_of-self-else-is_empty c =
    let queue = c.self.inside in
    let some : slice_get queue.lengths.items 0 ≡ Some c.in-Some.length = sym c.in-Some.ensures.value in
    let part = first-in-sum queue.lengths.items c.in-Some.length some in
    rw c.in-Some.ensures.items (record {
      end_is = omega (arith, part, c.from.ensures, c.self.invariant.end_is);
      fits = c.self.invariant.fits;
      count = omega (arith, c.self.invariant.count, length-drop 1 queue.lengths.items);
      most = c.self.invariant.most;
    })

pub returns-then-is_empty : goal.returns-then-is_empty
returns-then-is_empty c =
    let queue = c.self.inside in
    let bytes = drop queue.first queue.bytes.items in
    let some : slice_get queue.lengths.items 0 ≡ Some c.in-Some.length = sym c.in-Some.ensures.value in
    let empty : length (drop 1 queue.lengths.items) ≡ 0 =
    is_none (drop 1 queue.lengths.items) (sym c.if-is_empty.true ∙ c.is_empty.ensures
    ∙ ap (λ (b : Buffer ℕ). length b.items == 0) c.in-Some.ensures.items) in
    let gone = cut-drop queue.lengths.items bytes c.in-Some.length some in
    let none : cut (drop 1 queue.lengths.items) (drop 0 queue.bytes.items) ≡ drop 1 (cut queue.lengths.items bytes) =
    none-cut (drop 1 queue.lengths.items) (drop 0 queue.bytes.items) empty
    ∙ sym (none-cut (drop 1 queue.lengths.items) (drop c.in-Some.length bytes) empty) ∙ gone in
    rw (c.in-Some.ensures.items, ← c.self.view_is) (ap (with_frames queue) none)

pub returns-else-is_empty : goal.returns-else-is_empty
returns-else-is_empty c =
    let queue = c.self.inside in
    let bytes = drop queue.first queue.bytes.items in
    let some : slice_get queue.lengths.items 0 ≡ Some c.in-Some.length = sym c.in-Some.ensures.value in
    let first : queue.first + c.from.result ≡ queue.first + c.in-Some.length = omega (arith, c.from.ensures) in
    let moved : drop (queue.first + c.from.result) queue.bytes.items ≡ drop c.in-Some.length bytes =
    ap (λ (k : ℕ). drop k queue.bytes.items) first ∙ sym (drop-drop c.in-Some.length queue.first queue.bytes.items) in
    let gone = ap (cut (drop 1 queue.lengths.items)) moved ∙ cut-drop queue.lengths.items bytes c.in-Some.length some in
    rw (c.in-Some.ensures.items, ← c.self.view_is) (ap (with_frames queue) gone)
