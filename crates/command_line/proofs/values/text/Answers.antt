use Rattle.clap.specs.Words.{found_of}
use Rattle.command_line.proofs.Getters.{text_of}
use Rattle.command_line.proofs.values.text.Goals as goal

pub returns : goal.returns
returns c = text_of (found_of c.args.matches.now) c.args.name.now c.get_str.result c.get_str.ensures
