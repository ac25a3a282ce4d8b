use Rattle.std.proofs.Common.{◌≡◌, ◌&&◌, List, ℕ, refl, sym, ap, subst, ◌∙◌, arith}
use Rattle.std.specs.Prelude.{is_none, is_some}
use Rattle.mdic_phy.specs.declared.phy.Link.TheVariants.{Never}
use Rattle.rx_filter.specs.Laws.{SameSets}
use Rattle.rx_filter.specs.Registers.{filter_of}
use Rattle.adapter.specs.Registers.{after_write, filter_at_reset, new_adapter}
use Rattle.adapter.specs.State.{AdapterState}
use Rattle.receive_lane.specs.declared.filter.PassFilter.{PassFilter}
use Rattle.receive_lane.specs.Choosing.{mode_for, with_tables}
use Rattle.receive_lane.specs.Lane.{ring_at, IsLane}
use Rattle.receive_lane.specs.Options.{filter_for}
use Rattle.receive_lane.proofs.Choices.{are_chosen, mode-receiving, same_sets}
use Rattle.receive_lane.proofs.Writes.{wrote-mode}
use Rattle.receive_lane.proofs.lane.ReceiveLane.new.Goals as goal

-- a new adapter with the registers of a pass
abbrev ready : List ℕ → PassFilter → AdapterState
ready words options = record (new_adapter words Never) {
  filter = record (with_tables options (filter_at_reset words)) { rctl = mode_for options };
  receive_ring = ring_at 0 0;
}

is_ready : (c : goal.After-write) → c.write.new.self ≡ ready c.with_address-image.result c.args.options.now
is_ready c =
    let options = c.args.options.now in
    let tables = c.write_filter.ensures.written
    ∙ ap (λ (s : AdapterState). record s { filter = with_tables options s.filter }) c.in_ok-adapter.ensures in
    let ring = c.write_ring.ensures ∙ ap (λ (s : AdapterState). record s { receive_ring = ring_at 0 0 }) tables in
    c.write.ensures.state
    ∙ ap (λ (bits : ℕ). after_write 0x100 bits c.write_ring.new.adapter) (c.bits.ensures tt ∙ c.mode_of.ensures)
    ∙ wrote-mode (is_none options.address && is_none options.group) (is_some options.vlan) c.write_ring.new.adapter
    ∙ ap (λ (s : AdapterState). record s { filter = record s.filter { rctl = mode_for options } }) ring

pub invariant_of-result : goal.invariant_of-result
invariant_of-result c =
    subst (λ (s : AdapterState). IsLane (record { adapter = s; memory = c.store_all_descs.new.memory; slot = 0 }))
    (sym (is_ready c)) (record {
      receiving = mode-receiving c.args.options.now;
      room = refl;
      idle = refl;
      slot = omega arith;
      ring = refl;
      size = c.store_all_descs.ensures.size;
      buffers = c.store_all_descs.ensures.buffers;
    })

pub returns-clause-filter : goal.returns-clause-filter
returns-clause-filter c =
    let options = c.args.options.now in
    let words = c.with_address-image.result in
    let same = same_sets options (ready words options).filter c.write_filter.ensures.address c.requires (are_chosen options words) in
    subst (λ (s : AdapterState). SameSets (filter_of s.filter) (filter_for options)) (sym (is_ready c)) same

pub returns-clause-waiting : goal.returns-clause-waiting
returns-clause-waiting c = ap (λ (s : AdapterState). s.receive_ring.head) (is_ready c)
