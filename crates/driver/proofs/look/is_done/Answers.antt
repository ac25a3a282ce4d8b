use Rattle.std.proofs.Common.{◌∙◌}
use Rattle.registers.specs.Laws.{contains_is_set}
use Rattle.driver.proofs.look.is_done.Goals as goal

pub returns : goal.returns
returns c = c.contains.ensures tt ∙ contains_is_set c.args.descriptor.now.status.0 0
