use Rattle.std.proofs.Common.{◌≡◌, List, ℕ, length, slice_get, ap, sym, subst, ◌∙◌, arith}
use Rattle.stations.specs.Stations.{StationState, backlog_at, backlog_of}
use Rattle.stations.specs.WireLogs.{last_of_others}
use Rattle.stations.proofs.Hosts.{below-machines, is-there}
use Rattle.stations.proofs.stations.Stations.log.Goals as goal

pub entries-requires : goal.entries-requires
entries-requires c =
    omega (arith, c.self.invariant.ends, below-machines c.self.view_is c.self.invariant c.requires.there)

pub returns-clause-waits : goal.returns-clause-waits
returns-clause-waits c =
    let ss = c.args.self.now in
    let host = c.args.host in
    let there = is-there host c.self.invariant
    (below-machines c.self.view_is c.self.invariant c.requires.there) in
    let line : there.end.backlog ≡ backlog_at ss host =
    sym (ap (λ (l : List StationState). backlog_of (slice_get l host)) (sym c.self.view_is) ∙ ap backlog_of there.is) in
    subst (λ (frames : List (List ℕ)). frames ≡ last_of_others host (length frames) c.entries.result.now) line
    (c.entries.ensures.waits there.end there.has_end)
