-- What a driver's write of a register changes, in the terms of the bus law (our choice).
use Rattle.std.specs.Prelude.{◌≡◌, ◌+◌, ℕ, bit_and}
use Rattle.adapter_model.specs.Rings.{ring_distance, ring_written}
use Rattle.adapter_model.specs.World.{World, world_after_write}
use Rattle.adapter_model.specs.declared.offsets.TheConstants.{RCTL, TCTL, TDBAL}
use Rattle.adapter_model.specs.declared.register.RingRegister.{RingRegister}
use Rattle.registers.specs.Kept.{receive_control_mask, transmit_control_mask}
use Rattle.bus.specs.RegisterSetting.{with_receive_control, with_transmit_control, with_transmit_ring}

-- A write of a register of the transmit ring changes only the registers of this ring.
abbrev pub TransmitRingWrites : Type 0
TransmitRingWrites =
    (part : RingRegister) (value : ℕ) (world : World)
    → world_after_write (TDBAL + ring_distance part) value world ≡ with_transmit_ring
    (ring_written part value world.adapter.transmit_ring) world

-- A write of RCTL changes only RCTL, which stores the kept bits of the value.
abbrev pub ReceiveControlWrites : Type 0
ReceiveControlWrites = (value : ℕ) (world : World)
    → world_after_write RCTL value world ≡ with_receive_control (bit_and value receive_control_mask) world

-- A write of TCTL changes only TCTL, which stores the kept bits of the value.
abbrev pub TransmitControlWrites : Type 0
TransmitControlWrites = (value : ℕ) (world : World)
    → world_after_write TCTL value world ≡ with_transmit_control (bit_and value transmit_control_mask) world
