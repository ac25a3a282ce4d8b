use Rattle.std.proofs.Common.{◌∷◌, [], get_or, take, sym, ap, ◌∙◌, arith}
use Rattle.std.proofs.lemmas.List.{map-append}
use Rattle.std.proofs.lemmas.Nat.{mod_below}
use Rattle.rx_filter.specs.Addresses.{group_number}
use Rattle.rx_filter.specs.NumberTables.{HasNumbers, numbers_of_groups}
use Rattle.rx_filter.specs.Writing.{with_number}
use Rattle.std.proofs.Common.{subst}
use Rattle.bring_up.proofs.Tables.{no-numbers, one-number-more, take-all, take-more}
use Rattle.bring_up.proofs.filter_tables.group_table.Goals as goal

pub loop-group-init : goal.loop-group-init
loop-group-init c = no-numbers c.empty_table-table.ensures

pub loop-group-preserved : goal.loop-group-preserved
loop-group-preserved c =
    let here = c.loop-group in
    let groups = c.args.groups.now in
    one-number-more (c.add_number.ensures ∙ ap (with_number here.table) c.hash_of.ensures) (mod_below _ 4096 (omega arith))
    (sym (map-append (group_number 4) (take here.group-index groups) (get_or groups here.group-index [] ∷ []))
    ∙ ap numbers_of_groups (take-more groups here.group-index [] c.loop-group-test.true)) here.invariant

pub returns : goal.returns
returns c = subst (HasNumbers c.loop-group.table)
    (ap numbers_of_groups (take-all c.args.groups.now (omega (arith, c.loop-group.auto, c.loop-group-test.false)))) c.loop-group.invariant
