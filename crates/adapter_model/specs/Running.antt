-- The conditions under which no step of an engine is a fault (that a step can fault is our choice).
use Rattle.std.specs.Prelude.{◌≡◌, ◌≢◌, ℕ, false, List, All}
use Rattle.registers.specs.Bits.{HasBit}
use Rattle.descriptors.specs.Ring.{HasValidIndices}
use Rattle.registers.specs.Places.{rctl_bsex}
use Rattle.tx_engine.specs.Fetching.{IsTransmittable, transmit_descriptor_at}
use Rattle.adapter_model.specs.Slots.{offered}
use Rattle.adapter_model.specs.World.{World, receive_ring, transmit_ring}

-- The descriptor at an address can be transmitted: EOP is set, DEXT is clear, and the descriptor points to 1 to 1,518 bytes inside memory.
abbrev pub CanTransmit : List ℕ → ℕ → Type 0
CanTransmit memory descriptor = IsTransmittable memory (transmit_descriptor_at memory descriptor)

-- The engines can run: no fault has stopped an engine. If `Sound` also holds for the world, no step of an engine is a fault.
pub record CanRun (world : World) : Type 0 where
  -- No fault has stopped the receive engine.
  pub receiver_runs : world.adapter.receiver.stopped ≡ false
  -- No fault has stopped the transmit engine.
  pub transmitter_runs : world.adapter.transmitter.stopped ≡ false
  -- If RDH and RDT differ, both are indices of descriptors in the receive ring.
  pub receive_indices : world.adapter.receive_ring.head ≢ world.adapter.receive_ring.tail → HasValidIndices (receive_ring world)
  -- If TDH and TDT differ, both are indices of descriptors in the transmit ring.
  pub transmit_indices : world.adapter.transmit_ring.head ≢ world.adapter.transmit_ring.tail → HasValidIndices (transmit_ring world)
  -- RCTL.BSEX is 0.
  pub not_extended : ¬ (HasBit world.adapter.filter.rctl rctl_bsex)
  -- Each offered transmit descriptor can be transmitted.
  pub transmittable : All (CanTransmit world.memory) (offered (transmit_ring world))

-- If the engines can run in the world `a`, they can run in the world `b`.
abbrev pub GoOn : World → World → Type 0
GoOn a b = CanRun a → CanRun b
