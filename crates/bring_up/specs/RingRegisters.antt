-- The writes of initialization to the registers of the rings, and to RCTL and TCTL.
use Rattle.std.specs.Prelude.{◌+◌, ◌*◌, ◌%◌, ◌/◌, ℕ, Bool, List, [], ◌∷◌, if◌then◌else◌}
use Rattle.adapter.specs.model_types.offsets.TheConstants.{RCTL, TCTL}
use Rattle.adapter.specs.Rings.{ring_distance}
use Rattle.adapter.specs.model_types.register.RingRegister.TheVariants.{BaseHigh, Length, Head, Tail}
use Rattle.adapter.specs.Settings.{Write}
use Rattle.adapter.specs.bus_types.bus.Bus.{Ghosts}
use Rattle.bring_up.specs.SettingSteps.{WriteActs}
use Rattle.bring_up.specs.WrittenRegisters.{register_limit, write_at}
use Rattle.registers.specs.Places.{alone, rctl_bam, rctl_bsize, rctl_en, rctl_mpe, rctl_secrc, rctl_upe, rctl_vfe}
use Rattle.registers.specs.Places.{tctl_cold, tctl_ct, tctl_en, tctl_psp}

-- The writes that set up a ring: its base, its length in bytes, and 0 as head and tail. `offset` is the offset of RDBAL
-- or TDBAL.
abbrev pub ring_setup_writes : (offset base bytes : ℕ) → List Write
ring_setup_writes offset base bytes =
    write_at offset (base % register_limit)
    ∷ write_at (offset + ring_distance BaseHigh) (base / register_limit)
    ∷ write_at (offset + ring_distance Length) bytes
    ∷ write_at (offset + ring_distance Head) 0
    ∷ write_at (offset + ring_distance Tail) 0
    ∷ []

-- The five writes that set up a ring, one after the other. After each of the first four, the bus is `b1`, `b2`, `b3` and `b4`.
pub record WritesRing {B : Type 0} (bus : Ghosts B) (offset base bytes : ℕ) (old new : B) : Type 0 where
  pub b1 : B
  pub b2 : B
  pub b3 : B
  pub b4 : B
  pub base_low : WriteActs bus old b1 offset (base % register_limit)
  pub base_high : WriteActs bus b1 b2 (offset + ring_distance BaseHigh) (base / register_limit)
  pub length : WriteActs bus b2 b3 (offset + ring_distance Length) bytes
  pub head : WriteActs bus b3 b4 (offset + ring_distance Head) 0
  pub tail : WriteActs bus b4 new (offset + ring_distance Tail) 0

-- The value of RCTL: EN, BAM, BSIZE 11b (buffers of 256 bytes) and SECRC; UPE and MPE if `promiscuous`; VFE if
-- `by_vlan`.
abbrev pub receive_control : (promiscuous by_vlan : Bool) → ℕ
receive_control promiscuous by_vlan =
    alone rctl_en + alone rctl_bam + 3 * alone rctl_bsize + alone rctl_secrc
    + (if promiscuous then alone rctl_upe + alone rctl_mpe else 0)
    + (if by_vlan then alone rctl_vfe else 0)

-- The write of RCTL that enables the receiver.
abbrev pub receive_writes : (promiscuous by_vlan : Bool) → List Write
receive_writes promiscuous by_vlan = write_at RCTL (receive_control promiscuous by_vlan) ∷ []

-- The write of RCTL that disables the receiver.
abbrev pub disable_writes : List Write
disable_writes = write_at RCTL 0 ∷ []

-- The value of TCTL: EN, PSP, CT 0x0F, COLD 0x40.
abbrev pub transmit_control : ℕ
transmit_control = alone tctl_en + alone tctl_psp + 0x0F * alone tctl_ct + 0x40 * alone tctl_cold

-- The write of TCTL that enables the transmitter.
abbrev pub transmit_writes : List Write
transmit_writes = write_at TCTL transmit_control ∷ []
