-- What remains true while a driver sets up its receive ring.
use Rattle.std.proofs.Common.{◌≡◌, ◌+◌, ◌*◌, ◌%◌, ◌++◌, ◌∷◌, [], ℕ, zero, suc, Bool, true, false, List, Option, None, Some, if◌then◌else◌}
use Rattle.std.proofs.Common.{refl, sym, ap, subst, ◌∙◌}
use Rattle.std.specs.List.{All}
use Rattle.std.proofs.lemmas.List.{append-nil}
use Rattle.registers.specs.Bits.{HasBit}
use Rattle.dma_memory.specs.Layout.{Counts}
use Rattle.adapter.specs.HostFrames.{frames_to_send}
use Rattle.adapter.specs.Registers.{after_reset, by_row, is_reset, left_by_write}
use Rattle.adapter.specs.Rings.{new_ring}
use Rattle.adapter.specs.State.{AdapterState}
use Rattle.adapter.specs.Table.{register_at, row_of}
use Rattle.adapter.specs.model_types.register.Register.{Register}
use Rattle.adapter.specs.model_types.register.Register.TheVariants.{Transmit}
use Rattle.adapter.specs.model_types.ring.RingRegisters.{RingRegisters}
use Rattle.adapter.specs.Settings.{Settings, Write, adapter_with, settings_after, settings_after_all, settings_of, writes_in}
use Rattle.adapter.proofs.Lists.{all-head, all-tail, append-empty}
use Rattle.adapter.proofs.Settings.{stays-off, writes-append}
use Rattle.adapter.specs.Calls.{stores_from}
use Rattle.bring_up.specs.ClearedDescriptors.{clears, clears_from}
use Rattle.bring_up.specs.NoFrames.{IsNotTransmitRing, LeavesTransmitRing, NewTransmitRingStays, NoFramesStay}

pub quiet_stays : NoFramesStay
quiet_stays d d' a b past goes set while_off leaves quiet =
    let arrives = while_off quiet.off leaves in
    let sends = append-empty past.put (frames_to_send b) (goes.flows.sends ∙ append-nil (frames_to_send a) ∙ quiet.none_to_send) in (
      record {
        off = subst (λ (settings : Settings). ¬ (HasBit settings.filter.rctl 1)) (sym set)
            (stays-off (writes_in past.accesses) (settings_of a.adapter) leaves quiet.off);
        none_held = goes.flows.holds ∙ ap (λ (frames : List (List ℕ)). frames ++ past.stored) quiet.none_held ∙ arrives.none_stored;
        none_to_send = sends.1;
      },
      record { none_put = sends.0; none_stored = arrives.none_stored; none_missed = arrives.none_missed },
    )

-- The registers of the transmit ring

row-leaves_transmits : (register : Register) (value : ℕ) (state : AdapterState) → IsNotTransmitRing (Some register)
    → (by_row (row_of register).kept register value state).transmit_ring ≡ state.transmit_ring
row-leaves_transmits (Transmit part) value state other = absurd other
row-leaves_transmits _ value state other = refl

-- the registers of a ring, with its head at 0
abbrev from_start : RingRegisters → RingRegisters
from_start ring = record ring { head = 0 }

new-once : (write : Write) (settings : Settings) → LeavesTransmitRing write → settings.transmit_ring ≡ new_ring
    → (settings_after write settings).transmit_ring ≡ new_ring
new-once write settings leaves new = by_case (register_at write.offset) leaves
  where
    by_test : (register : Register) (test : Bool) → IsNotTransmitRing (Some register)
        → from_start (if test then after_reset (adapter_with settings) else by_row (row_of register).kept register write.value
        (adapter_with settings)).transmit_ring ≡ new_ring
    by_test register true other = refl
    by_test register false other = ap from_start (row-leaves_transmits register write.value (adapter_with settings) other ∙ new)

    by_case : (found : Option Register) → IsNotTransmitRing found
        → from_start (left_by_write found write.value (adapter_with settings)).transmit_ring ≡ new_ring
    by_case None other = ap from_start new
    by_case (Some register) other = by_test register (is_reset register write.value) other

new-stays : (writes : List Write) (settings : Settings) → All LeavesTransmitRing writes → settings.transmit_ring ≡ new_ring
    → (settings_after_all writes settings).transmit_ring ≡ new_ring
new-stays [] settings leaves new = new
new-stays (write ∷ later) settings leaves new =
    new-stays later (settings_after write settings) (all-tail LeavesTransmitRing write later leaves)
    (new-once write settings (all-head LeavesTransmitRing write later leaves) new)

pub new_transmit_ring_stays : NewTransmitRingStays
new_transmit_ring_stays d a b past ready set leaves new =
    let ring = b.adapter.transmit_ring in
    let start : from_start ring ≡ new_ring =
    ap (λ (settings : Settings). settings.transmit_ring) set
    ∙ new-stays (writes_in past.accesses) (settings_of a.adapter) leaves (ap from_start new) in
    let tail : ring.tail ≡ 0 = ap (λ (registers : RingRegisters). registers.tail) start in
    ap (λ (registers : RingRegisters). let moved : RingRegisters = record registers { head = ring.head } in moved) start
    ∙ ap (λ (head : ℕ). let moved : RingRegisters = record new_ring { head = head } in moved) (ready.transmit.idle ∙ tail)

-- Stores write no register

pub stores-write_none : (counts : Counts) (slot : ℕ) (numbers : List ℕ) → writes_in (stores_from counts slot numbers) ≡ []
stores-write_none counts slot [] = refl
stores-write_none counts slot (number ∷ later) = stores-write_none counts ((slot + 1) % counts.rx) later

pub clears-write_none : (first n : ℕ) → writes_in (clears_from first n) ≡ []
clears-write_none first zero = refl
clears-write_none first (suc k) = writes-append (clears_from first k) (clears (first + 16 * k) ∷ [])
    ∙ ap (λ (writes : List Write). writes ++ []) (clears-write_none first k)
