use Rattle.std.proofs.Common.{rules, sym}
use Rattle.registers.specs.Laws.{contains_is_set}
use Rattle.mdic_phy.proofs.phy.Phy.write_control.Goals as goal

pub returns-then-value-eq-RESTART : goal.returns-then-value-eq-RESTART
returns-then-value-eq-RESTART c =
    let value = c.args.value in
    rw (sym (contains_is_set value 15), sym (contains_is_set value 12), sym (contains_is_set value 9)) (search rules)

pub returns-else-self : goal.returns-else-self
returns-else-self c =
    let value = c.args.value in
    rw (sym (contains_is_set value 15), sym (contains_is_set value 12), sym (contains_is_set value 9)) (search rules)
