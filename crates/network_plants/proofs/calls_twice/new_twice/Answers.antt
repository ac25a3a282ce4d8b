use Rattle.network_plants.proofs.Failing.{failures-alike}
use Rattle.network_plants.proofs.Made.{refusals-alike, made-alike}
use Rattle.network_plants.proofs.calls_twice.new_twice.Goals as goal

pub returns-clause-refused : goal.returns-clause-refused
returns-clause-refused c = refusals-alike _ _ _ c.new.ensures c.new-2.ensures

pub returns-clause-made : goal.returns-clause-made
returns-clause-made c = made-alike _ _ _ c.new.ensures c.new-2.ensures

pub returns-clause-failed : goal.returns-clause-failed
returns-clause-failed c = failures-alike _ _ _ c.new.ensures c.new-2.ensures
