use Rattle.std.specs.Prelude.{map}
use Rattle.program_plants.proofs.WrongValues.{line_values}
use Rattle.program_plants.proofs.command_line_calls.line.Goals as goal

pub returns-clause-value : goal.returns-clause-value
returns-clause-value g c =
    line_values (map g.S.AsStr.text c.args.words.now) c.line.result c.line-2.result c.line.ensures.job c.line-2.ensures.value
