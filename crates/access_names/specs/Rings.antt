-- The rings of both engines, their registers, and tests whether a ring has valid indices and whether memory contains bytes.
use Rattle.std.specs.Prelude.{◌&&◌, ◌-◌, ℕ, Bool, List, length, nat_le, nat_lt}
use Rattle.adapter.specs.World.{World, receive_ring, transmit_ring}
use Rattle.adapter.specs.model_types.register.Register.{Register}
use Rattle.adapter.specs.model_types.register.Register.TheVariants as registers
use Rattle.adapter.specs.model_types.register.RingRegister.{RingRegister}
use Rattle.adapter.specs.model_types.ring.RingRegisters.{RingRegisters}
use Rattle.descriptors.specs.Ring.{count_of}
use Rattle.descriptors.specs.declared.ring.Ring.{Ring}
use Rattle.access_names.specs.declared.engine_fault.Engine.{Engine}
use Rattle.access_names.specs.declared.engine_fault.Engine.TheVariants.{Transmit, Receive}
use Rattle.access_names.specs.declared.ring_words.RingWords.{RingWords}

-- the ring of this engine, as the adapter's registers define it
abbrev pub ring_of_engine : Engine → World → Ring
ring_of_engine Transmit world = transmit_ring world
ring_of_engine Receive world = receive_ring world

-- the registers of this engine's ring
abbrev pub registers_of_ring : Engine → World → RingRegisters
registers_of_ring Transmit world = world.adapter.transmit_ring
registers_of_ring Receive world = world.adapter.receive_ring

-- this register of this engine's ring
abbrev pub register_of : Engine → RingRegister → Register
register_of Transmit register = registers.Transmit register
register_of Receive register = registers.Receive register

-- the ring whose registers have these values
abbrev pub ring_from : RingWords → Ring
ring_from words = record { base = words.base; bytes = words.bytes; head = words.head; tail = words.tail }

-- whether head and tail are indices of descriptors in the ring (`HasValidIndices`)
abbrev pub has_valid_indices : Ring → Bool
has_valid_indices ring = nat_lt ring.head (count_of ring) && nat_lt ring.tail (count_of ring)

-- whether memory contains the n bytes from the address on (`LiesIn`)
abbrev pub is_inside : List ℕ → ℕ → ℕ → Bool
is_inside memory address n = nat_le n (length memory - address)
