use Rattle.std.proofs.Common.{ap, arith}
use Rattle.rx_engine.specs.Receiver.{Receiver}
use Rattle.rx_engine.specs.Room.{occupied_by}
use Rattle.rx_engine.specs.RoomLaws.{bytes-cost, bytes-occupied, count-occupied, legal-cost}
use Rattle.rx_engine.proofs.engine.RxEngine.store.Goals as goal

pub push-requires-clause-place : goal.push-requires-clause-place
push-requires-clause-place c =
    let engine = c.self.inside in
    let same = ap (λ (r : Receiver). occupied_by r.buffer) c.self.view_is in
    let least = count-occupied engine.buffer.frames c.self.invariant.keeps.frames in
    omega (arith, same, least, legal-cost c.args.frame.now c.requires.legal, c.requires.room, c.self.invariant.capacity)

pub push-requires-clause-room : goal.push-requires-clause-room
push-requires-clause-room c =
    let engine = c.self.inside in
    let same = ap (λ (r : Receiver). occupied_by r.buffer) c.self.view_is in
    omega (arith, same, bytes-occupied engine.buffer.frames, bytes-cost c.args.frame.now, c.requires.room, c.self.invariant.bytes)
