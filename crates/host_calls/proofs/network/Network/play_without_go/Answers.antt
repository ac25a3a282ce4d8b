use Rattle.std.proofs.Common.{◌∙◌}
use Rattle.stations.proofs.Lengths.{length-stays}
use Rattle.host_calls.proofs.network.Network.play_without_go.Goals as goal

pub invariant_of-self : goal.invariant_of-self
invariant_of-self g c =
    let plays = c.play_without_go.ensures in
    record { same = length-stays 0 plays.steps c.self.inside.stations c.play_without_go.new.self (plays.leads 0) ∙ c.self.invariant.same }
