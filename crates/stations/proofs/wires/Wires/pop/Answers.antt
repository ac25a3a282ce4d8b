use Rattle.std.proofs.Common.{sym, ◌∙◌, refl, arith}
use Rattle.stations.proofs.WireChanges.{has-read, stays-empty}
use Rattle.stations.proofs.WireEnds.{below-ends, found-at, line-read, log-below}
use Rattle.stations.proofs.wires.Wires.pop.Goals as goal

pub index-end-requires : goal.index-end-requires
index-end-requires c = omega (arith, below-ends c.self.view_is c.self.invariant c.requires.there)

pub index-requires : goal.index-requires
index-requires c = omega (arith, log-below (found-at c.self.view_is c.self.invariant c.requires.there c.index-end.ensures))

pub returns-in_default : goal.returns-in_default
returns-in_default c = λ end is.
    let line = line-read (found-at c.self.view_is c.self.invariant c.requires.there c.index-end.ensures) c.index.ensures is in
    stays-empty c.args.self.now c.args.host end is (sym line ∙ c.in_default.ensures.none.0 refl)

pub index_mut-end-requires : goal.index_mut-end-requires
index_mut-end-requires c = omega (arith, below-ends c.self.view_is c.self.invariant c.requires.there)

pub overflow_sub-end : goal.overflow_sub-end
overflow_sub-end c = (has-read (found-at c.self.view_is c.self.invariant c.requires.there c.index-end.ensures)
    (found-at c.self.view_is c.self.invariant c.requires.there c.index_mut-end.ensures.value)
    c.index.ensures c.in-Some.ensures.there.1 c.in-Some.ensures.first).waits

pub invariant_of-self : goal.invariant_of-self
invariant_of-self c = (has-read (found-at c.self.view_is c.self.invariant c.requires.there c.index-end.ensures)
    (found-at c.self.view_is c.self.invariant c.requires.there c.index_mut-end.ensures.value)
    c.index.ensures c.in-Some.ensures.there.1 c.in-Some.ensures.first).have

pub returns : goal.returns
returns c = (has-read (found-at c.self.view_is c.self.invariant c.requires.there c.index-end.ensures)
    (found-at c.self.view_is c.self.invariant c.requires.there c.index_mut-end.ensures.value)
    c.index.ensures c.in-Some.ensures.there.1 c.in-Some.ensures.first).shown
