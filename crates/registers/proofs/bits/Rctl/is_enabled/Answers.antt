use Rattle.registers.specs.Laws.{contains_bit}
use Rattle.registers.proofs.bits.Rctl.is_enabled.Goals as goal

pub returns : goal.returns
returns c = rw (c.contains.ensures tt) (contains_bit c.args.self.0 1)
