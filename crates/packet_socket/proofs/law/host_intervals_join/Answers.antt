use Rattle.adapter.proofs.Intervals.{flows_join, goes_join}
use Rattle.adapter.specs.Calls.{FlowsTo, GoesTo}
use Rattle.packet_socket.proofs.Intervals.{host-join}
use Rattle.packet_socket.proofs.law.host_intervals_join.Goals as goal

pub returns-clause-flows : goal.returns-clause-flows
returns-clause-flows c first_up up h1 h2 h3 one two first later flows more = host-join (FlowsTo first_up) (FlowsTo up)
    (flows_join {first_up = first_up} {up = up}) h1 h2 h3 one two first later flows more

pub returns-clause-goes : goal.returns-clause-goes
returns-clause-goes c first_up up h1 h2 h3 one two first later goes more = host-join (GoesTo first_up) (GoesTo up)
    (goes_join {first_up = first_up} {up = up}) h1 h2 h3 one two first later goes more
