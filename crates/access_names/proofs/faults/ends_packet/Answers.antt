use Rattle.std.proofs.Common.{◌∙◌}
use Rattle.registers.specs.Laws.{contains_is_set}
use Rattle.access_names.proofs.faults.ends_packet.Goals as goal

pub returns : goal.returns
returns c = c.contains.ensures tt ∙ contains_is_set c.args.command.0 0
