use Rattle.std.proofs.Common.{◌≡◌, ◌≤◌, ◌<◌, ◌+◌, ◌++◌, ℕ, All, length, map, vec_capacity}
use Rattle.descriptors.specs.Ring.{address_of, count_of, slots_from}
use Rattle.tx_engine.specs.Fetching.{frame_at}
use Rattle.tx_engine.specs.QueuedFrames.{CanBeCopied, queued_in}
use Rattle.tx_engine.proofs.queued.append_queued.Given as goal

abbrev pub invariant-loop-left : goal.invariant-loop-left
invariant-loop-left l = record {
  place : l.place < count_of l.ring;
  lie : All (λ slot. CanBeCopied l.memory (address_of l.ring slot)) (slots_from (count_of l.ring) l.place l.left);
  frames : l.frames.items
      ++ map (λ (slot : ℕ). frame_at l.pad l.memory (address_of l.ring slot)) (slots_from (count_of l.ring) l.place l.left)
      ≡ l.fn.frames.items ++ queued_in l.pad l.memory l.ring;
  room : length l.frames.items + l.left ≤ vec_capacity l.frames;
  capacity : vec_capacity l.fn.frames ≤ vec_capacity l.frames;
}

abbrev pub decreases-loop-left : goal.decreases-loop-left
decreases-loop-left l = l.left
