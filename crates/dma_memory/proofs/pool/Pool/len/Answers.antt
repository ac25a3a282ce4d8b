use Rattle.std.proofs.Common.{arith}
use Rattle.dma_memory.specs.OwnersLaws.{length-no_second}
use Rattle.dma_memory.proofs.pool.Pool.len.Goals as goal

pub overflow_cast-result : goal.overflow_cast-result
overflow_cast-result c =
    let most = length-no_second c.self.inside.buffers c.self.inside.free.items c.self.invariant.once in
    omega (arith, most, c.self.invariant.most)

pub returns-clause-most : goal.returns-clause-most
returns-clause-most c =
    let most = length-no_second c.self.inside.buffers c.self.inside.free.items c.self.invariant.once in
    rw (← c.self.view_is) (omega (arith, most))
