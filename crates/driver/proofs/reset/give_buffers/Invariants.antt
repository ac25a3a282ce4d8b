use Rattle.std.proofs.Common.{◌≡◌, ◌++◌, length}
use Rattle.dma_memory.specs.Owners.{HaveSameNumbers}
use Rattle.driver.proofs.reset.give_buffers.Given as goal

abbrev pub invariant-loop-buffer : goal.invariant-loop-buffer
invariant-loop-buffer l = record {
  same : HaveSameNumbers (l.initial.pool.free ++ l.initial.buffers.items) (l.pool.free ++ l.buffers.items);
  buffers : l.pool.buffers ≡ l.initial.pool.buffers;
  capacity : l.buffers.capacity ≡ l.initial.buffers.capacity;
}

abbrev pub decreases-loop-buffer : goal.decreases-loop-buffer
decreases-loop-buffer l = length l.buffers.items
