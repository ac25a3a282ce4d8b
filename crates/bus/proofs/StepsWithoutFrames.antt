-- An action of a driver that changes neither the received frames nor the frames to be sent.
use Rattle.std.proofs.Common.{Bool, ◌≡◌, ◌+◌, [], ℕ, length, inl, sym, ap, subst, ◌∙◌, arith, refl}
use Rattle.std.proofs.lemmas.List.{append-nil}
use Rattle.registers.specs.Bits.{HasBit}
use Rattle.rx_engine.specs.Pieces.{frames_of}
use Rattle.adapter_model.specs.HostFrames.{finished_pieces, frames_held, frames_to_send}
use Rattle.adapter_model.specs.Slots.{written_back_slots}
use Rattle.adapter_model.specs.World.{World}
use Rattle.bus.specs.Pasts.{nothing}
use Rattle.bus.proofs.Intervals.{misses-stay}
use Rattle.bus.specs.DriverState.{DriverState}
use Rattle.bus.specs.Calls.{GoesTo, driver_did, driver_in}
use Rattle.bus.specs.ReadyDrivers.{ReadyWith}
use Rattle.registers.specs.Interrupts.{Interrupts}

-- The driver, with another oldest transmit slot, and this number of outstanding transmit slots.
abbrev pub from_slot : (oldest sending : ℕ) → DriverState → DriverState
from_slot oldest sending driver = record driver { oldest_transmit = oldest; sending = sending }

-- Frames, the pieces in finished slots, causes and counts are the same. Only transmit slots that were written back may have been freed.
pub record Rests (driver : DriverState) (oldest sending : ℕ) (a b : World) : Type 0 where
  pub to_send : frames_to_send b ≡ frames_to_send a
  pub held : frames_held driver.oldest_receive b ≡ frames_held driver.oldest_receive a
  pub pieces_same : finished_pieces driver.oldest_receive b ≡ finished_pieces driver.oldest_receive a
  pub frees : length (written_back_slots driver.oldest_transmit a) + sending ≡ driver.sending + length (written_back_slots oldest b)
  pub causes : b.adapter.causes ≡ a.adapter.causes
  pub missed_packets : b.adapter.missed_packets ≡ a.adapter.missed_packets

pub goes-rests : {up : Bool} (driver : DriverState) (oldest sending : ℕ) (a b : World) → ReadyWith up (from_slot oldest sending driver) b
    → Rests driver oldest sending a b
    → GoesTo up (driver_in driver a) (driver_in (from_slot oldest sending driver) b) (driver_did [] []) nothing
goes-rests {up} driver oldest sending a b ready rests = record {
  flows = record {
    ready = ready;
    layout = refl;
    sends = rests.to_send ∙ sym (append-nil (frames_to_send a));
    holds = rests.held ∙ sym (append-nil (frames_held driver.oldest_receive a));
    least = omega (arith, ap length (ap frames_of rests.pieces_same));
    frees = omega (arith, rests.frees);
    mask = ap (λ (causes : Interrupts). causes.mask) rests.causes;
    misses = misses-stay driver (from_slot oldest sending driver) a b refl refl rests.missed_packets;
  };
  causes = λ place has. subst (λ (causes : Interrupts). HasBit causes.recorded place) (sym rests.causes) has;
  recorded = inl (omega (arith, ap length (ap frames_of rests.pieces_same)));
}
