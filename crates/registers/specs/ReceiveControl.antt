-- Fields of several bits in RCTL and STATUS, by the codes of Intel's manual.
use Rattle.std.specs.Prelude.{ℕ, ◌==◌, ◌/◌, ◌^◌, if◌then◌else◌}
use Rattle.registers.specs.declared.receive_control.GroupOffset.{GroupOffset}
use Rattle.registers.specs.declared.receive_control.GroupOffset.TheVariants.{Bits47To36, Bits46To35, Bits45To34, Bits43To32}
use Rattle.registers.specs.declared.device_control.Speed.{Speed}
use Rattle.registers.specs.declared.device_control.Speed.TheVariants.{Mbps10, Mbps100, Mbps1000}

-- RCTL.MO (13.4.22): which 12 bits of a group address are its number.
abbrev pub group_offset_of : ℕ → GroupOffset
group_offset_of code =
    if code == 0 then Bits47To36 else if code == 1 then Bits46To35 else if code == 2 then Bits45To34 else Bits43To32

-- The number of places by which bits 47:32 of a group address are shifted down to get its number (13.5.1 "Multicast Table Array").
abbrev pub shift_of : GroupOffset → ℕ
shift_of Bits47To36 = 4
shift_of Bits46To35 = 3
shift_of Bits45To34 = 2
shift_of Bits43To32 = 0

-- RCTL.BSIZE if BSEX is 0 (13.4.22): 2,048, 1,024, 512 or 256 bytes.
abbrev pub buffer_size_of : ℕ → ℕ
buffer_size_of code = 2048 / 2 ^ code

-- STATUS.SPEED (13.4.2), in binary: 00 is 10 Mb/s, 01 is 100 Mb/s, 10 and 11 are 1000 Mb/s.
abbrev pub speed_of : ℕ → Speed
speed_of code = if code == 0 then Mbps10 else if code == 1 then Mbps100 else Mbps1000
