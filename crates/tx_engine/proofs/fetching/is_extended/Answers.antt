use Rattle.std.proofs.Common.{◌↔◌, IsTrue, subst, sym, Bool}
use Rattle.registers.specs.Bits.{HasBit}
use Rattle.registers.specs.Laws.{contains_bit}
use Rattle.tx_engine.proofs.fetching.is_extended.Goals as goal

pub returns : goal.returns
returns c = subst (λ (b : Bool). IsTrue b ↔ HasBit c.args.command.0 5) (sym (c.contains.ensures tt)) (contains_bit c.args.command.0 5)
