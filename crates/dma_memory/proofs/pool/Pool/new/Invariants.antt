use Rattle.std.proofs.Common.{◌≤◌, vec_capacity}
use Rattle.dma_memory.specs.Owners.{HasOneOwner}
use Rattle.dma_memory.proofs.pool.Pool.new.Given as goal

abbrev pub invariant-loop-number : goal.invariant-loop-number
invariant-loop-number l = record {
  all_so_far : HasOneOwner l.number l.free.items;
  room : l.buffers ≤ vec_capacity l.free;
}
