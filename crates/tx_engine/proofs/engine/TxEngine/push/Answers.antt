use Rattle.std.proofs.Common.{◌<◌, length, ap, arith}
use Rattle.tx_engine.specs.Transmitter.{Transmitter}
use Rattle.tx_engine.specs.BufferLaws.{length-side_by_side, pushed-whole, pushed-view}
use Rattle.tx_engine.proofs.engine.TxEngine.push.Goals as goal

pub push_padded-requires-clause-room : goal.push_padded-requires-clause-room
push_padded-requires-clause-room c =
    let engine = c.self.inside in
    let size = length-side_by_side engine.frames.frames engine.reports.items c.self.invariant.same in
    let seen = ap (λ (t : Transmitter). length t.buffer) c.self.view_is in
    omega (arith, c.requires.room, c.self.invariant.frames)

pub invariant_of-self : goal.invariant_of-self
invariant_of-self c =
    let engine = c.self.inside in
    let size = length-side_by_side engine.frames.frames engine.reports.items c.self.invariant.same in
    let seen = ap (λ (t : Transmitter). length t.buffer) c.self.view_is in
    let room : length engine.frames.frames < 4 = omega (arith, c.requires.room) in
    pushed-whole engine _ _ c.push_padded.new.self c.push_back.new.self c.self.invariant room c.push_padded.ensures
    c.push_back.ensures.items

pub returns : goal.returns
returns c =
    let engine = c.self.inside in
    let size = length-side_by_side engine.frames.frames engine.reports.items c.self.invariant.same in
    let seen = ap (λ (t : Transmitter). length t.buffer) c.self.view_is in
    let room : length engine.frames.frames < 4 = omega (arith, c.requires.room) in
    pushed-view engine _ _ c.push_padded.new.self c.push_back.new.self c.args.self.now c.self.view_is c.self.invariant room
    c.push_padded.ensures c.push_back.ensures.items
