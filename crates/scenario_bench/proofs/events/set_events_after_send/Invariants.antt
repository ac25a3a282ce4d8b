use Rattle.std.proofs.Common.{◌≡◌, ◌++◌, drop}
use Rattle.std.specs.Prelude.{map}
use Rattle.scenario.specs.SoFar.{command_of_event, hosts_of}
use Rattle.scenario_bench.specs.EventLists.{arrivals_from, events_after_send}
use Rattle.run_record.specs.Puts.{wire_name_of}
use Rattle.scenario_bench.proofs.events.set_events_after_send.Given as goal

-- the events so far, followed by the arrivals at the remaining hosts, are all events after the send
abbrev pub invariant-loop-number : goal.invariant-loop-number
invariant-loop-number l = map command_of_event l.events.items
    ++ arrivals_from l.pieces l.number l.sender (wire_name_of (hosts_of l.plans) l.sender) (hosts_of (drop l.number l.plans))
    ≡ events_after_send (hosts_of l.plans) l.sender l.pieces
