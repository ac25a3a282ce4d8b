use Rattle.std.proofs.Common.{◌≤◌, ℕ, Option, sym, ap, subst, ◌∙◌}
use Rattle.std.specs.Prelude.{IfSome}
use Rattle.receive_lane.specs.Choosing.{with_vlan_bit}
use Rattle.receive_lane.proofs.Writes.{wrote-vlan}
use Rattle.receive_lane.proofs.choosing.write_vlan.Goals as goal

pub returns-in-Some : goal.returns-in-Some
returns-in-Some c =
    let state = c.args.adapter.now in
    let below = subst (λ (o : Option ℕ). IfSome o (λ n. n ≤ 4095)) c.in-Some.is c.requires in
    c.write_table_word.ensures ∙ wrote-vlan c.in-Some.number state below
    ∙ ap (λ (o : Option ℕ). record state { filter = with_vlan_bit o state.filter }) (sym c.in-Some.is)
