-- The worlds after a write of a register of the transmit ring, of RCTL, and of TCTL.
use Rattle.std.proofs.Common.{ℕ, Option, ap}
use Rattle.adapter_model.specs.Registers.{left_by_write}
use Rattle.adapter_model.specs.TableLaws.{register_at-there}
use Rattle.adapter_model.specs.World.{World}
use Rattle.adapter_model.specs.declared.register.Register.{Register}
use Rattle.adapter_model.specs.declared.register.Register.TheVariants.{Rctl, Tctl, Transmit}
use Rattle.bus.specs.ControlWrites.{ReceiveControlWrites, TransmitControlWrites, TransmitRingWrites}

-- the world after a write of the register that was found at the offset
abbrev left : ℕ → World → Option Register → World
left value world found = record world { adapter = left_by_write found value world.adapter }

pub transmit_ring_writes : TransmitRingWrites
transmit_ring_writes part value world = ap (left value world) (register_at-there (Transmit part) tt)

pub receive_control_writes : ReceiveControlWrites
receive_control_writes value world = ap (left value world) (register_at-there Rctl tt)

pub transmit_control_writes : TransmitControlWrites
transmit_control_writes value world = ap (left value world) (register_at-there Tctl tt)
