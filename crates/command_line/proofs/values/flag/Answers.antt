use Rattle.std.proofs.Common.{refl}
use Rattle.command_line.proofs.Getters.{flag_value}
use Rattle.command_line.proofs.values.flag.Goals as goal

pub returns : goal.returns
returns c = flag_value _ c.text.result _ c.eq.result refl c.text.ensures c.eq.ensures
