use Rattle.std.proofs.Common.{ℕ, List, ◌≡◌, ◌<◌, ◌+◌, ◌-◌, ◌++◌, ◌∷◌, [], length, take, drop, refl, sym, ap, ◌∙◌, arith}
use Rattle.std.specs.Prelude.{sum_by}
use Rattle.std.proofs.lemmas.List.{length-append, length-drop, with_items_is}
use Rattle.circular_buffer.specs.Buffer.{buffer}
use Rattle.descriptors.specs.QueueLaws.{keep_last-room}
use Rattle.descriptors.specs.Packed.{IsPacked, PackedFrames, packed_of, total}
use Rattle.descriptors.specs.declared.packed.PackedQueue.TheInside.{Inside}
use Rattle.descriptors.proofs.Cut.{cut-pushed, length-cut, sum-cut, total-append}
use Rattle.descriptors.proofs.packed.PackedQueue.push.Goals as goal

stand : (queue : Inside) (seen : PackedFrames) → IsPacked queue → packed_of queue ≡ seen
    → sum_by (λ (frame : List ℕ). length frame) seen.frames ≡ total queue.lengths.items
stand queue seen whole view =
    let long = length-drop queue.first queue.bytes.items in
    ap (λ (q : PackedFrames). sum_by (λ (frame : List ℕ). length frame) q.frames) (sym view)
    ∙ sum-cut queue.lengths.items (drop queue.first queue.bytes.items) (omega (arith, long, whole.end_is, whole.fits))

pub append-first-requires-clause-fits : goal.append-first-requires-clause-fits
append-first-requires-clause-fits c =
    let queue = c.self.inside in
    let all = stand queue _ c.self.invariant c.self.view_is in
    let room = ap (λ (q : PackedFrames). q.room) c.self.view_is in
    omega (arith, all, room, c.requires.room, c.self.invariant.end_is, ap length c.as_mut_slice.ensures.value)

pub invariant_of-self : goal.invariant_of-self
invariant_of-self c =
    let queue = c.self.inside in
    let n = length c.args.frame.now in
    let asked = rw (← c.self.view_is) at c.requires.place in
    let room : length queue.lengths.items < queue.lengths.capacity =
    omega (arith, asked, length-cut queue.lengths.items (drop queue.first queue.bytes.items)) in
    let more : c.push_back.new.self ≡ buffer (queue.lengths.items ++ n ∷ []) queue.lengths.capacity = c.push_back.ensures.items
    ∙ ap (λ (ns : List ℕ). buffer ns queue.lengths.capacity) (keep_last-room queue.lengths.items queue.lengths.capacity n room) in
    let size : length c.append-first.new.bytes ≡ queue.bytes.len = c.append-first.ensures.size ∙ c.as_mut_slice.ensures.len in
    let items = with_items_is queue.bytes c.append-first.new.bytes size in
    let sums = total-append queue.lengths.items n in
    rw more (record {
      end_is = omega (arith, sums, c.self.invariant.end_is);
      fits = omega (arith, c.append-first.ensures.lies, ap length items);
      count = omega (arith, room, length-append queue.lengths.items (n ∷ []));
      most = c.self.invariant.most;
    })

pub returns : goal.returns
returns c =
    let queue = c.self.inside in
    let frame = c.args.frame.now in
    let n = length frame in
    let before = drop queue.first queue.bytes.items in
    let after = drop c.append-first.result c.append-first.new.bytes in
    let asked = rw (← c.self.view_is) at c.requires.place in
    let room : length queue.lengths.items < queue.lengths.capacity =
    omega (arith, asked, length-cut queue.lengths.items before) in
    let more : c.push_back.new.self ≡ buffer (queue.lengths.items ++ n ∷ []) queue.lengths.capacity = c.push_back.ensures.items
    ∙ ap (λ (ns : List ℕ). buffer ns queue.lengths.capacity) (keep_last-room queue.lengths.items queue.lengths.capacity n room) in
    let size : length c.append-first.new.bytes ≡ queue.bytes.len = c.append-first.ensures.size ∙ c.as_mut_slice.ensures.len in
    let items = with_items_is queue.bytes c.append-first.new.bytes size in
    let count : queue.end - queue.first ≡ total queue.lengths.items = omega (arith, c.self.invariant.end_is) in
    let appended : take (total queue.lengths.items + n) after ≡ take (total queue.lengths.items) before ++ frame =
    rw (count, c.as_mut_slice.ensures.value) at c.append-first.ensures.appended in
    let pushed = cut-pushed queue.lengths.items before after frame n refl
    (omega (arith, length-drop queue.first queue.bytes.items, c.self.invariant.end_is, c.self.invariant.fits)) appended in
    let long : length c.append-first.new.bytes ≡ length queue.bytes.items =
    c.append-first.ensures.size ∙ ap length c.as_mut_slice.ensures.value in
    rw (← c.self.view_is, items, more, pushed, long) refl
