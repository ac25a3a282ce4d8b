-- The five registers of a descriptor ring (3.2.6 "Receive Descriptor Queue Structure" and 3.4 "Transmit Descriptor Ring Structure"). A
-- read of these registers returns 0 in the bits that a write doesn't store (our choice).
use Rattle.std.specs.Prelude.{◌+◌, ◌*◌, ◌^◌, ℕ, bit_and}
use Rattle.descriptors.specs.declared.ring.Ring.{Ring}
use Rattle.adapter_model.specs.declared.register.RingRegister.{RingRegister}
use Rattle.adapter_model.specs.declared.register.RingRegister.TheVariants.{BaseLow, BaseHigh, Length, Head, Tail}
use Rattle.adapter_model.specs.declared.ring.RingRegisters.{RingRegisters}

-- The distance of the register from RDBAL or TDBAL, in bytes.
abbrev pub ring_distance : RingRegister → ℕ
ring_distance BaseLow = 0x00
ring_distance BaseHigh = 0x04
ring_distance Length = 0x08
ring_distance Head = 0x10
ring_distance Tail = 0x18

-- The bits that a write stores and a read returns.
abbrev pub ring_kept : RingRegister → ℕ
ring_kept BaseLow = 0xFFFFFFF0
ring_kept BaseHigh = 0xFFFFFFFF
ring_kept Length = 0x000FFF80
ring_kept Head = 0x0000FFFF
ring_kept Tail = 0x0000FFFF

-- The registers of a ring after a reset: each is 0.
abbrev pub new_ring : RingRegisters
new_ring = record { base_low = 0; base_high = 0; length_bytes = 0; head = 0; tail = 0 }

-- The value that a read of a register returns.
abbrev pub ring_answer : RingRegister → RingRegisters → ℕ
ring_answer BaseLow ring = ring.base_low
ring_answer BaseHigh ring = ring.base_high
ring_answer Length ring = ring.length_bytes
ring_answer Head ring = ring.head
ring_answer Tail ring = ring.tail

-- The registers of a ring after this number is stored in the named register.
abbrev pub with_ring : RingRegister → ℕ → RingRegisters → RingRegisters
with_ring BaseLow number ring = record ring { base_low = number }
with_ring BaseHigh number ring = record ring { base_high = number }
with_ring Length number ring = record ring { length_bytes = number }
with_ring Head number ring = record ring { head = number }
with_ring Tail number ring = record ring { tail = number }

-- The registers of a ring after a write of this value to the named register, which stores the kept bits of the value.
abbrev pub ring_written : RingRegister → ℕ → RingRegisters → RingRegisters
ring_written register value ring = with_ring register (bit_and value (ring_kept register)) ring

-- The ring that these registers define. The ring's address consists of the high word and the low word.
abbrev pub ring_of : RingRegisters → Ring
ring_of registers = record {
  base = registers.base_high * 2 ^ 32 + registers.base_low;
  bytes = registers.length_bytes;
  head = registers.head;
  tail = registers.tail;
}
