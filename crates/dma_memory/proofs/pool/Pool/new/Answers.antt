use Rattle.std.proofs.Common.{◌≡◌, arith}
use Rattle.dma_memory.specs.Owners.{HasOneOwner}
use Rattle.dma_memory.specs.OwnersLaws.{one_owner-push, no_second_from_one}
use Rattle.dma_memory.proofs.pool.Pool.new.Goals as goal

pub loop-number-preserved : goal.loop-number-preserved
loop-number-preserved c = record {
  all_so_far = rw c.in_ok-push.ensures.items
      (one_owner-push c.loop-number.number c.loop-number.free.items c.loop-number.invariant.all_so_far);
  room = omega (arith, c.push.ensures.capacity, c.loop-number.invariant.room);
}

-- After the loop, each number below `buffers` is in the pool exactly once.
all_in : (c : goal.After-loop-number) → HasOneOwner c.args.buffers c.loop-number.free.items
all_in c =
    let last : c.args.buffers ≡ c.loop-number.number = omega (arith, c.loop-number.auto, c.loop-number-test.false) in
    rw last c.loop-number.invariant.all_so_far

pub invariant_of-result : goal.invariant_of-result
invariant_of-result c = record {
  once = no_second_from_one c.args.buffers c.loop-number.free.items (all_in c);
  room = c.loop-number.invariant.room;
  most = c.ranges.buffers.fits;
}

pub returns-clause-all_in : goal.returns-clause-all_in
returns-clause-all_in c = all_in c
