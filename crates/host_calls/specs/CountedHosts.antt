-- Accesses whose effect on the counts is known, accesses that enable or disable neither side, and adapters with both
-- sides enabled (our choice).
use Rattle.std.specs.Prelude.{⊤, ℕ, IfSome}
use Rattle.registers.specs.Bits.{HasBit}
use Rattle.registers.specs.Places.{rctl_en, tctl_en}
use Rattle.descriptors.specs.declared.ring.Ring.{Ring}
use Rattle.descriptors.specs.Ring.{HasValidIndices}
use Rattle.adapter.specs.model_types.register.Register.{Register}
use Rattle.adapter.specs.model_types.register.Register.TheVariants.{Ctrl, Mdic, Rctl, Tctl}
use Rattle.adapter.specs.Rings.{ring_of}
use Rattle.adapter.specs.State.{AdapterState}
use Rattle.adapter.specs.Table.{register_at}
use Rattle.adapter.specs.bus_types.event.Access.{Access}
use Rattle.adapter.specs.bus_types.event.Access.TheVariants.{Loads, Reads, Stores, Writes}

-- If the access writes a register, the register has this property.
abbrev pub WritesOnly : (Register → Type 0) → Access → Type 0
WritesOnly Has (Reads offset value) = ⊤
WritesOnly Has (Writes offset value) = IfSome (register_at offset) Has
WritesOnly Has (Loads address size) = ⊤
WritesOnly Has (Stores address bytes) = ⊤

-- The register isn't MDIC, whose command may start a negotiation.
abbrev pub IsNotMdic : Register → Type 0
IsNotMdic Mdic = ⊥
IsNotMdic register = ⊤

-- The access isn't a write of MDIC, so the counts before the access determine the counts after it.
abbrev pub IsCounted : Access → Type 0
IsCounted access = WritesOnly IsNotMdic access

-- The register isn't CTRL, RCTL or TCTL. So a write of the register enables or disables neither the receive side nor
-- the transmit side.
abbrev pub IsNotControl : Register → Type 0
IsNotControl Ctrl = ⊥
IsNotControl Rctl = ⊥
IsNotControl Tctl = ⊥
IsNotControl register = ⊤

-- The access isn't a write of CTRL, RCTL or TCTL.
abbrev pub LeavesEnabled : Access → Type 0
LeavesEnabled access = WritesOnly IsNotControl access

-- With these values of RCTL and TCTL, and with these rings, both sides are enabled, and heads and tails are indices of
-- slots.
pub record AreEnabled (receive_control transmit_control : ℕ) (receive_ring transmit_ring : Ring) : Type 0 where
  -- RCTL.EN is set.
  pub receives : HasBit receive_control rctl_en
  -- TCTL.EN is set.
  pub transmits : HasBit transmit_control tctl_en
  -- RDH and RDT are indices of descriptors in the ring.
  pub receive : HasValidIndices receive_ring
  -- TDH and TDT are indices of descriptors in the ring.
  pub transmit : HasValidIndices transmit_ring

-- Both sides of the adapter are enabled, and each head and tail is the index of a slot of its ring.
abbrev pub CanAnswer : AdapterState → Type 0
CanAnswer state = AreEnabled state.filter.rctl state.transmit_control (ring_of state.receive_ring) (ring_of state.transmit_ring)
