use Rattle.std.proofs.Common.{◌≡◌, ◌<◌, ◌+◌, ◌*◌, ◌%◌, ◌^◌, List, ℕ, sym, ap, subst, ◌∙◌, arith}
use Rattle.descriptors.specs.declared.rx_desc.RxDesc.{RxDesc}
use Rattle.descriptors.specs.RxStatus.{status_bits}
use Rattle.rx_engine.specs.Descriptors.{descriptor_at}
use Rattle.adapter.specs.Registers.{after_write}
use Rattle.adapter.specs.State.{AdapterState}
use Rattle.receive_lane.specs.Lane.{lane_buffer, IsLane, LaneState}
use Rattle.receive_lane.proofs.Lanes.{descriptor_at-offered}
use Rattle.receive_lane.proofs.Steps.{IsLane-offered, with_tail}
use Rattle.receive_lane.proofs.Writes.{wrote-tail}
use Rattle.receive_lane.proofs.lane.ReceiveLane.offer.Goals as goal

buffer_is : (c : goal.After-self-1) → c.descriptor-buffer.result.address ≡ lane_buffer c.self.inside.slot
buffer_is c =
    let desc = rw (← c.self.view_is) at c.descriptor-buffer.ensures in
    ap (λ (d : RxDesc). d.address) desc ∙ c.self.invariant.buffers c.self.inside.slot c.self.invariant.slot

wrote : (c : goal.After-self-1) → c.write.new.self ≡ with_tail c.self.inside.adapter c.self.inside.slot
wrote c =
    let below = c.self.invariant.slot in
    c.write.ensures.state ∙ ap (λ (tail : ℕ). after_write 0x2818 tail c.self.inside.adapter) c.from.ensures
    ∙ wrote-tail c.self.inside.slot c.self.inside.adapter (omega arith)

pub invariant_of-self : goal.invariant_of-self
invariant_of-self c =
    let slot = c.self.inside.slot in
    let lane : LaneState = record { adapter = c.self.inside.adapter; memory = c.self.inside.memory; slot = slot } in
    let is = IsLane-offered lane c.descriptor-buffer.result.address c.self.invariant (buffer_is c) in
    subst (λ (s : AdapterState). IsLane (record { adapter = s; memory = c.store_desc.new.memory; slot = (slot + 1) % 8 })) (sym (wrote c))
    (subst (λ (m : List ℕ). IsLane (record { adapter = with_tail lane.adapter slot; memory = m; slot = (slot + 1) % 8 }))
    (sym c.store_desc.ensures) is)

pub returns-clause-offered : goal.returns-clause-offered
returns-clause-offered c =
    let slot = c.self.inside.slot in
    let memory = c.self.inside.memory in
    let buffer = c.descriptor-buffer.result.address in
    let below = c.self.invariant.slot in
    let named = buffer_is c in
    let small : buffer < 2 ^ 64 = omega arith in
    let is : descriptor_at c.store_desc.new.memory (16 * slot)
    ≡ record { address = buffer; length = 0; checksum = 0; status = record { 0 = 0 }; errors = 0; special = 0 } =
    ap (λ (m : List ℕ). descriptor_at m (16 * slot)) c.store_desc.ensures
    ∙ descriptor_at-offered memory slot buffer below c.self.invariant.size small in
    rw (← c.self.view_is) (ap (λ (d : RxDesc). status_bits d.status) is)

pub returns-clause-waiting : goal.returns-clause-waiting
returns-clause-waiting c =
    let head = rw (← c.self.view_is) at c.requires.head in
    ap (λ (s : AdapterState). s.receive_ring.head) (wrote c) ∙ head

pub returns-clause-filter : goal.returns-clause-filter
returns-clause-filter c = rw (← c.self.view_is) (ap (λ (s : AdapterState). s.filter) (wrote c))
