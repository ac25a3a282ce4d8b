use Rattle.solo_bus.proofs.SoloTicks.{prepared_on}
use Rattle.solo_bus.proofs.solo_bus.SoloBus.prepare.Goals as goal

pub returns : goal.returns
returns c = prepared_on _ c.live.new.self c.play_group.new.self _ c.live.ensures c.play_group.ensures c.count_access.ensures
