use Rattle.std.proofs.Common.{◌≡◌, ◌++◌, length}
use Rattle.dma_memory.specs.Owners.{HaveSameNumbers}
use Rattle.driver.specs.Parts.{buffers_in}
use Rattle.driver.proofs.refill.give_all.Given as goal

abbrev pub invariant-loop-part : goal.invariant-loop-part
invariant-loop-part l = record {
  same : HaveSameNumbers (buffers_in l.initial.left ++ l.initial.pool.free) (buffers_in l.left ++ l.pool.free);
  buffers : l.pool.buffers ≡ l.initial.pool.buffers;
}

abbrev pub decreases-loop-part : goal.decreases-loop-part
decreases-loop-part l = length l.left
