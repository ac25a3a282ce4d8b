-- What a read of a register doesn't change in the adapter, and what a write doesn't change that isn't a reset.
use Rattle.std.proofs.Common.{◌≡◌, None, Option, Some, ℕ, refl}
use Rattle.adapter_model.specs.declared.register.Register.{Register}
use Rattle.adapter_model.specs.declared.register.Register.TheVariants.{Gprc, Gptc, Icr, Mpc, Rctl, Receive, Rnbc, Tctl, Transmit}
use Rattle.adapter_model.specs.Registers.{after_read, by_row, left_by_read, read_of}
use Rattle.adapter_model.specs.State.{AdapterState}
use Rattle.adapter_model.specs.Table.{register_at, row_of}
use Rattle.bus.specs.IdleRings.{IsOfRing}
use Rattle.bus.specs.RegisterSetting.{IsOfConditions}

-- RCTL and TCTL are unchanged, and the register isn't a register of a ring.
pub record KeepsControls (register : Register) (a b : AdapterState) : Type 0 where
  pub no_ring : ¬ (IsOfRing register)
  pub receive : b.filter.rctl ≡ a.filter.rctl
  pub transmit : b.transmit_control ≡ a.transmit_control

-- The engines are unchanged. The rings are unchanged, unless a register of a ring is written. RCTL and TCTL are unchanged if the conditions
-- don't depend on the written register.
pub record Leaves (register : Register) (a b : AdapterState) : Type 0 where
  pub receiver : b.receiver ≡ a.receiver
  pub transmitter : b.transmitter ≡ a.transmitter
  pub rings : ¬ (IsOfRing register) → (b.receive_ring ≡ a.receive_ring) × (b.transmit_ring ≡ a.transmit_ring)
  pub controls : ¬ (IsOfConditions register) → KeepsControls register a b

leaves-all : (register : Register) (a b : AdapterState) → ¬ (IsOfRing register) → b.receiver ≡ a.receiver → b.transmitter ≡ a.transmitter
    → b.receive_ring ≡ a.receive_ring → b.transmit_ring ≡ a.transmit_ring → b.filter.rctl ≡ a.filter.rctl
    → b.transmit_control ≡ a.transmit_control → Leaves register a b
leaves-all register a b no_ring receiver transmitter r t receive transmit = record {
  receiver = receiver;
  transmitter = transmitter;
  rings = λ other. (r, t);
  controls = λ other. record { no_ring = no_ring; receive = receive; transmit = transmit };
}

pub row-leaves : (register : Register) (value : ℕ) (state : AdapterState)
    → Leaves register state (by_row (row_of register).kept register value state)
row-leaves Rctl value state = record
    { receiver = refl; transmitter = refl; rings = λ other. (refl, refl); controls = λ other. absurd (other tt) }
row-leaves Tctl value state = record
    { receiver = refl; transmitter = refl; rings = λ other. (refl, refl); controls = λ other. absurd (other tt) }
row-leaves (Receive part) value state = record
    { receiver = refl; transmitter = refl; rings = λ other. absurd (other tt); controls = λ other. absurd (other tt) }
row-leaves (Transmit part) value state = record
    { receiver = refl; transmitter = refl; rings = λ other. absurd (other tt); controls = λ other. absurd (other tt) }
row-leaves _ value state = leaves-all _ state _ (λ no. no) refl refl refl refl refl refl

-- The adapter, with the recorded causes and the counters of `after`.
abbrev pub with_counts_of : AdapterState → AdapterState → AdapterState
with_counts_of after adapter = record adapter {
  causes = record adapter.causes { recorded = after.causes.recorded };
  missed_packets = after.missed_packets;
  received_packets = after.received_packets;
  transmitted_packets = after.transmitted_packets;
  no_receive_buffers = after.no_receive_buffers;
}

pub read-counts : (offset : ℕ) (adapter : AdapterState) → after_read offset adapter ≡ with_counts_of (after_read offset adapter) adapter
read-counts offset adapter = by_case (register_at offset)
  where
    by_register : (register : Register) → read_of register adapter ≡ with_counts_of (read_of register adapter) adapter
    by_register Icr = refl
    by_register Mpc = refl
    by_register Gprc = refl
    by_register Gptc = refl
    by_register Rnbc = refl
    by_register _ = refl

    by_case : (found : Option Register) → left_by_read found adapter ≡ with_counts_of (left_by_read found adapter) adapter
    by_case None = refl
    by_case (Some register) = by_register register
