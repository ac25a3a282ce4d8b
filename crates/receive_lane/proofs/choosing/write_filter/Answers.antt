use Rattle.std.proofs.Common.{ℕ, ap, ◌∙◌}
use Rattle.adapter.specs.Registers.{after_write}
use Rattle.adapter.specs.State.{AdapterState}
use Rattle.receive_lane.specs.Choosing.{with_group_bit, with_vlan_bit}
use Rattle.receive_lane.proofs.Writes.{wrote-vet}
use Rattle.receive_lane.proofs.choosing.write_filter.Goals as goal

pub returns-clause-written : goal.returns-clause-written
returns-clause-written c =
    let options = c.args.options.now in
    c.write.ensures.state
    ∙ ap (λ (word : ℕ). after_write 0x38 word c.write_vlan.new.adapter) c.from.ensures
    ∙ wrote-vet c.write_vlan.new.adapter
    ∙ ap (λ (s : AdapterState). record s { filter = record s.filter { vet = 0x8100 } }) (
    c.write_vlan.ensures
    ∙ ap (λ (s : AdapterState). record s { filter = with_vlan_bit options.vlan s.filter }) (
    c.write_group.ensures
    ∙ ap (λ (s : AdapterState). record s { filter = with_group_bit options.group s.filter }) c.write_address.ensures.written
    )
    )
