use Rattle.wire.proofs.Bringing.{made-stands}
use Rattle.wire.proofs.lan.Lan.new.Goals as goal

pub invariant_of-result : goal.invariant_of-result
invariant_of-result c =
    made-stands c.args.plan.now.hosts.items c.in_ok-network.network.hosts c.in_ok-network.network.stations c.in_ok-network.ensures.up
