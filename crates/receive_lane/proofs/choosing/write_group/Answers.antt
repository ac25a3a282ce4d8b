use Rattle.std.proofs.Common.{◌+◌, ◌*◌, ◌/◌, ◌%◌, ◌^◌, ℕ, List, Option, sym, ap, ◌∙◌, arith}
use Rattle.rx_filter.specs.Addresses.{group_number}
use Rattle.adapter.specs.Registers.{after_write}
use Rattle.receive_lane.specs.Choosing.{with_group_bit}
use Rattle.receive_lane.proofs.Writes.{wrote-group}
use Rattle.receive_lane.proofs.choosing.write_group.Goals as goal

pub returns-in-Some : goal.returns-in-Some
returns-in-Some c =
    let state = c.args.adapter.now in
    c.write_table_word.ensures
    ∙ ap (λ (n : ℕ). after_write (0x5200 + 4 * (n / 32)) (2 ^ (n % 32)) state) c.hash_of.ensures
    ∙ wrote-group (group_number 4 c.in-Some.group) state (omega arith)
    ∙ ap (λ (o : Option (List ℕ)). record state { filter = with_group_bit o state.filter }) (sym c.in-Some.is)
