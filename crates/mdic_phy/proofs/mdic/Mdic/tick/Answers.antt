use Rattle.std.proofs.Common.{rules}
use Rattle.registers.specs.Laws.{contains_is_set}
use Rattle.mdic_phy.proofs.mdic.Mdic.tick.Goals as goal

pub returns-in-Some-clause-told : goal.returns-in-Some-clause-told
returns-in-Some-clause-told c = rw (contains_is_set c.self.inside.value 29) (search rules)
