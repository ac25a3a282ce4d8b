use Rattle.std.proofs.Common.{◌<◌, length, arith}
use Rattle.dma_memory.specs.OwnersLaws.{length-missing}
use Rattle.dma_memory.proofs.pool.Pool.give.Goals as goal

pub unwrap-requires : goal.unwrap-requires
unwrap-requires c =
    let inside = c.self.inside in
    let known = rw (← c.self.view_is) at c.requires.known in
    let out = rw (← c.self.view_is) at c.requires.out in
    let room : length inside.free.items < inside.buffers = length-missing inside.buffers c.args.buffer inside.free.items
    c.self.invariant.once known out in
    c.push.ensures.succeeds (omega (arith, room, c.self.invariant.room))
