-- The status byte of a receive descriptor as a number ("3.2.3.1 Receive Descriptor Status Field" of Intel's manual).
use Rattle.std.specs.Prelude.{ℕ}
use Rattle.descriptors.specs.declared.flags.RxStatus.{RxStatus}

-- The status byte as a number.
abbrev pub status_bits : RxStatus → ℕ
status_bits status = status.0

-- The place of the bit DD, descriptor done (3.2.3.1).
abbrev pub dd : ℕ
dd = 0

-- The place of the bit EOP, end of packet (3.2.3.1).
abbrev pub eop : ℕ
eop = 1

-- The status with these bits; bits without a name are kept.
abbrev pub status_of : ℕ → RxStatus
status_of bits = record { 0 = bits }
