use Rattle.std.proofs.Common.{◌≡◌, List, Some, slice_get, slice_set, ap, sym, subst, ◌∙◌, arith}
use Rattle.stations.specs.LogReaders.{IsReader, PutsFrame}
use Rattle.stations.specs.WiresView.{HaveLogs, ends_from}
use Rattle.stations.specs.declared.wires.End.{End}
use Rattle.stations.proofs.WireChanges.{have-put, puts-reads, puts-room, puts-there, written-back}
use Rattle.stations.proofs.WireEnds.{below-ends, found-at, log-below}
use Rattle.stations.proofs.wires.Wires.put.Goals as goal

pub index-requires : goal.index-requires
index-requires c = omega (arith, below-ends c.self.view_is c.self.invariant c.requires.there)

pub index_mut-requires : goal.index_mut-requires
index_mut-requires c = omega (arith, log-below (found-at c.self.view_is c.self.invariant c.requires.there c.index.ensures))

pub put_frame-requires-clause-there : goal.put_frame-requires-clause-there
put_frame-requires-clause-there c =
    subst (λ (ends : List End). IsReader c.index.result.now.log ends c.args.sender) (sym c.as_mut_slice.ensures.value)
    (puts-there (found-at c.self.view_is c.self.invariant c.requires.there c.index.ensures))

pub put_frame-requires-clause-reads : goal.put_frame-requires-clause-reads
put_frame-requires-clause-reads c = λ k end is on.
    puts-reads (found-at c.self.view_is c.self.invariant c.requires.there c.index.ensures) c.index_mut.ensures.value k end
    (ap (λ (ends : List End). slice_get ends k) (sym c.as_mut_slice.ensures.value) ∙ is) on

pub put_frame-requires-clause-room : goal.put_frame-requires-clause-room
put_frame-requires-clause-room c = λ k end is other on.
    let found = found-at c.self.view_is c.self.invariant c.requires.there c.index.ensures in
    let at : slice_get c.self.inside.ends.items k ≡ Some end =
    ap (λ (ends : List End). slice_get ends k) (sym c.as_mut_slice.ensures.value) ∙ is in
    puts-room found c.requires.room k end at other
    ((c.self.invariant.one k c.args.sender end c.index.result.now at found.has).1 on)

pub invariant_of-self : goal.invariant_of-self
invariant_of-self c =
    let puts = subst (λ (ends : List End). PutsFrame c.index.result.now.log c.args.sender c.args.frame.now c.index_mut.result.now
    c.put_frame.new.wire_log ends c.put_frame.new.ends) c.as_mut_slice.ensures.value c.put_frame.ensures in
    let put = have-put (found-at c.self.view_is c.self.invariant c.requires.there c.index.ensures) c.requires.room
    c.index_mut.ensures.value puts in
    subst (λ (ends : List End). HaveLogs (slice_set c.self.inside.logs.items c.index.result.now.log c.put_frame.new.wire_log) ends)
    (sym (written-back c.put_frame.new.ends c.self.inside.ends.items c.self.inside.ends.len put.count c.self.inside.ends.ok.0)) put.have

pub returns : goal.returns
returns c = λ end is k.
    let puts = subst (λ (ends : List End). PutsFrame c.index.result.now.log c.args.sender c.args.frame.now c.index_mut.result.now
    c.put_frame.new.wire_log ends c.put_frame.new.ends) c.as_mut_slice.ensures.value c.put_frame.ensures in
    let put = have-put (found-at c.self.view_is c.self.invariant c.requires.there c.index.ensures) c.requires.room
    c.index_mut.ensures.value puts in
    ap (λ (ends : List End). slice_get (ends_from (slice_set c.self.inside.logs.items c.index.result.now.log
    c.put_frame.new.wire_log) 0 ends) k)
    (written-back c.put_frame.new.ends c.self.inside.ends.items c.self.inside.ends.len put.count c.self.inside.ends.ok.0)
    ∙ put.shown end is k
