use Rattle.std.proofs.Common.{◌↔◌, IsTrue, false, length, refl, rules, true, arith}
use Rattle.stations.specs.LogReaders.{OthersHaveRoom}
use Rattle.stations.proofs.WireEnds.{below-ends, found-at, has-room}
use Rattle.stations.proofs.wires.Wires.have_room.Goals as goal

pub index-requires : goal.index-requires
index-requires c = omega (arith, below-ends c.self.view_is c.self.invariant c.requires.there)

pub returns-then-end-ge-END_FRAMES : goal.returns-then-end-ge-END_FRAMES
returns-then-end-ge-END_FRAMES c =
    let ends = c.as_slice-ends.result.now in
    let tells : IsTrue false ↔ OthersHaveRoom (length ends) c.args.sender c.index.result.now.wire ends = (search rules) in
    has-room (found-at c.self.view_is c.self.invariant c.requires.there c.index.ensures) c.as_slice-ends.ensures.value tells

pub returns : goal.returns
returns c =
    let ends = c.as_slice-ends.result.now in
    let tells : IsTrue true ↔ OthersHaveRoom (length ends) c.args.sender c.index.result.now.wire ends =
    ((λ yes. λ k below other on. c.loop-number.invariant k (omega arith) other on), (λ room. refl)) in
    has-room (found-at c.self.view_is c.self.invariant c.requires.there c.index.ensures) c.as_slice-ends.ensures.value tells
