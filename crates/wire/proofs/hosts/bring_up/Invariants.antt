use Rattle.wire.specs.HostsUp.{AreUp}
use Rattle.wire.proofs.hosts.bring_up.Given as goal

-- the hosts before this one are initialized
abbrev pub invariant-loop-number : goal.invariant-loop-number
invariant-loop-number l = AreUp l.plans l.number l.network.hosts l.network.stations
