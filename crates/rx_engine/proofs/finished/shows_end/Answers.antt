use Rattle.std.proofs.Common.{◌∙◌}
use Rattle.registers.specs.Laws.{contains_is_set}
use Rattle.rx_engine.proofs.finished.shows_end.Goals as goal

pub returns : goal.returns
returns c = c.contains.ensures tt ∙ contains_is_set c.args.desc.now.status.0 1
