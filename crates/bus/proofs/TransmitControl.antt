-- Writes of TCTL and IMS.
use Rattle.std.proofs.Common.{◌≡◌, [], ℕ, inl, inr, ⊎_elim, refl, sym, ap, subst, ◌∙◌, arith}
use Rattle.std.specs.List.{All}
use Rattle.registers.specs.Bits.{HasBit}
use Rattle.registers.specs.Kept.{causes_of}
use Rattle.registers.specs.Laws.{HasBit-union}
use Rattle.dma_memory.specs.Areas.{IsInside}
use Rattle.dma_memory.specs.Layout.{TransmitBuffer, area_of, receive_buffer_bytes}
use Rattle.descriptors.specs.Ring.{slots_from}
use Rattle.rx_engine.specs.Pieces.{frames_of}
use Rattle.adapter_model.specs.HostAreas.{data_of}
use Rattle.adapter_model.specs.Table.{register_at}
use Rattle.adapter_model.specs.World.{world_after_write}
use Rattle.adapter_model.specs.declared.register.Register.TheVariants.{Ims}
use Rattle.bus.proofs.RegisterSetting.{other_writes_leave_frames, transmitter_can_be_set}
use Rattle.bus.proofs.Lists.{all-none}
use Rattle.bus.specs.RegisterSetting.{with_transmit_control}
use Rattle.bus.specs.DriversStores.{LeavesFrames}
use Rattle.bus.specs.Beginnings.{CausesAreEnabled, TransmitterIsEnabled, EnabledForgetsNoWork}
use Rattle.bus.specs.Calls.{driver_in, frames_ended}
use Rattle.bus.specs.DriverState.{transmit_slot}
use Rattle.bus.proofs.AlikeWorlds.{ready-left, same-others, ready-set}
use Rattle.bus.proofs.Steps.{goes-same}

pub transmitter_is_enabled : TransmitterIsEnabled
transmitter_is_enabled driver control world ready below knows pads =
    let counts = driver.layout in
    let none : driver.sending ≡ 0 = ready.transmit.nothing in
    let Inside : ℕ → Type 0 = λ slot. IsInside (data_of world.memory (transmit_slot counts slot)) (area_of counts (TransmitBuffer slot)) in
    let leaves = transmitter_can_be_set driver.oldest_receive driver.oldest_transmit control world ready.law.sound (λ differ. pads) in
    goes-same driver world (with_transmit_control control world) leaves.same refl refl
    (ready-set driver world (with_transmit_control control world).adapter ready
    (record {
      sound = leaves.same.sound;
      runs = leaves.runs ready.law.runs;
      fit = leaves.same.fits receive_buffer_bytes ready.law.fit.large ready.law.fit;
      whole = leaves.same.whole receive_buffer_bytes ready.law.whole.sized ready.law.whole;
    })
    (record {
      oldest_slot = below;
      room = omega (arith, none, below);
      pads = pads;
      knows = knows;
      sources = subst (λ (k : ℕ). All Inside (slots_from counts.tx driver.oldest_transmit k)) (sym none) (all-none Inside);
    }))

pub causes_are_enabled : CausesAreEnabled
unfolding register_at
causes_are_enabled up driver causes world ready =
    let b = world_after_write 0xD0 causes world in
    let leaves : LeavesFrames driver.oldest_receive driver.oldest_transmit world b = other_writes_leave_frames driver.oldest_receive
    driver.oldest_transmit Ims causes world ready.law.sound (λ no. no) refl in
    record {
      ready = ready-left driver world b ready leaves (same-others b.adapter world);
      frames = record {
        to_send = leaves.same.to_send;
        held = leaves.same.held;
        finished_same = leaves.same.finished_same;
        pieces_same = leaves.same.pieces_same;
        written_same = leaves.same.written_same;
      };
      missed = refl;
      recorded = refl;
      mask = refl;
    }

pub enabled_forgets_no_work : EnabledForgetsNoWork
enabled_forgets_no_work up driver causes a b enabled set asked = record {
  enabled = subst (λ (mask : ℕ). HasBit mask 7) (sym enabled.mask)
      ((HasBit-union a.adapter.causes.mask (causes_of causes) 7).1 (inr set));
  asked =
      ⊎_elim
      (λ (none : frames_ended (driver_in driver a) ≡ []). inl (ap frames_of enabled.frames.pieces_same ∙ none))
      (λ (bit : HasBit a.adapter.causes.recorded 7). inr (subst (λ (recorded : ℕ). HasBit recorded 7) (sym enabled.recorded) bit))
      asked;
}
