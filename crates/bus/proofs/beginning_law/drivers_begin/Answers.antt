-- The clause is a lemma.
use Rattle.bus.proofs.Beginnings as beginnings
use Rattle.bus.proofs.beginning_law.drivers_begin.Goals as goal

pub returns : goal.returns
returns c = beginnings.drivers_begin
