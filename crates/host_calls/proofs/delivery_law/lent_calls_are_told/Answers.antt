use Rattle.host_calls.proofs.Laws.{lent-calls}
use Rattle.host_calls.proofs.delivery_law.lent_calls_are_told.Goals as goal

pub returns : goal.returns
returns g c = lent-calls g.met.O.Observer.composes
