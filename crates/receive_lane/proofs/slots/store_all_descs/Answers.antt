use Rattle.std.proofs.Common.{◌≡◌, ◌+◌, ◌*◌, ℕ, List, length, inl, inr, ap, ◌∙◌, arith}
use Rattle.dma_memory.specs.Layout.{Counts, start_of, ReceiveBuffer}
use Rattle.rx_engine.specs.Descriptors.{named_address}
use Rattle.receive_lane.specs.Lane.{lane_buffer}
use Rattle.receive_lane.proofs.Lanes.{length-offer, NameBelow-offered}
use Rattle.receive_lane.proofs.slots.store_all_descs.Goals as goal

pub loop-slot-preserved : goal.loop-slot-preserved
loop-slot-preserved c =
    let slot = c.loop-slot.slot in
    let memory = c.loop-slot.memory in
    let buffer = c.receive_buffer.result in
    let is : buffer ≡ lane_buffer slot = c.receive_buffer.ensures.start
    ∙ ap (λ (counts : Counts). start_of counts (ReceiveBuffer (slot * 8))) c.requires.layout ∙ omega arith in
    let named = NameBelow-offered memory slot (slot + 1) buffer c.loop-slot-test.true c.loop-slot.invariant.size is
    (λ k below other. c.loop-slot.invariant.named k (elim other [ inl before ↦ before | inr after ↦ absurd (omega arith) ])) in
    record {
      size = ap length c.store_desc.ensures ∙ length-offer memory slot buffer c.loop-slot-test.true c.loop-slot.invariant.size;
      named = λ k below. ap (λ (m : List ℕ). named_address m (16 * k)) c.store_desc.ensures ∙ named k below;
    }
