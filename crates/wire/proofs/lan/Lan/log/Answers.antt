use Rattle.std.proofs.Common.{◌≡◌, ◌≤◌, List, ap, arith, length, subst, sym, ◌∙◌}
use Rattle.host_calls.specs.Networks.{NetworkState}
use Rattle.stations.specs.Stations.{StationState, backlog_at}
use Rattle.stations.specs.WireLogs.{last_of_others}
use Rattle.wire.proofs.lan.Lan.log.Goals as goal

pub log-requires : goal.log-requires
log-requires c =
    let same = ap (λ (stations : List StationState). length stations) c.stations.ensures in
    record { there = omega (arith, same, c.self.invariant.same, c.len.ensures, c.if-host-len.false) }

pub returns : goal.returns
returns c =
    let k = c.args.host in
    record {
      waits =
          subst (λ (stations : List StationState). backlog_at stations k
          ≡ last_of_others k (length (backlog_at stations k)) c.log.result.now)
          (c.stations.ensures ∙ ap (λ (network : NetworkState). network.stations) c.self.view_is) c.log.ensures.waits;
      most = c.log.ensures.most;
      absent = λ past.
          let inside = subst (λ (network : NetworkState). length network.hosts ≤ k) (sym c.self.view_is) past in
          absurd (omega (arith, inside, c.len.ensures, c.if-host-len.false));
    }
