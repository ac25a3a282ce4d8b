use Rattle.std.proofs.Common.{List, ap, length, ◌∙◌}
use Rattle.stations.specs.Stations.{StationState}
use Rattle.host_calls.proofs.HostsOfNetworks.{length-played}
use Rattle.host_calls.proofs.network.Network.play.Goals as goal

pub invariant_of-self : goal.invariant_of-self
invariant_of-self g c =
    let plays = c.play.ensures.plays in
    record {
      same = ap (λ (list : List StationState). length list) plays.leaves ∙ length-played plays.step c.self.inside.stations
          ∙ c.self.invariant.same;
    }
