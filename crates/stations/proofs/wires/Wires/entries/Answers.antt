use Rattle.std.proofs.Common.{◌≡◌, List, ℕ, length, sym, subst, arith}
use Rattle.stations.specs.WireLogs.{LogEntry, last_of_others}
use Rattle.stations.proofs.WireEnds.{below-ends, found-at, line-read, log-below, waits-last}
use Rattle.stations.proofs.wires.Wires.entries.Goals as goal

pub index-requires : goal.index-requires
index-requires c = omega (arith, below-ends c.self.view_is c.self.invariant c.requires.there)

pub index-requires-2 : goal.index-requires-2
index-requires-2 c = omega (arith, log-below (found-at c.self.view_is c.self.invariant c.requires.there c.index.ensures))

pub returns-clause-waits : goal.returns-clause-waits
returns-clause-waits c = λ end is.
    let log = c.index-2.result.now in
    let line = line-read (found-at c.self.view_is c.self.invariant c.requires.there c.index.ensures) c.index-2.ensures is in
    subst (λ (entries : List LogEntry). end.backlog ≡ last_of_others c.args.host (length end.backlog) entries)
    (sym c.as_slice.ensures.value)
    (subst (λ (frames : List (List ℕ)). frames ≡ last_of_others c.args.host (length frames) log) line
    (sym (waits-last log c.args.host c.index.result.now.cursor)))
