-- The registers of the receive filter, and the filter that they define.
use Rattle.std.specs.Prelude.{◌≡◌, ◌<◌, ◌/◌, ◌%◌, ◌^◌, ℕ, List, [], ◌∷◌, slice_index}
use Rattle.registers.specs.Bits.{HasBit, field}
use Rattle.registers.specs.Places.{rah_av, rctl_bam, rctl_mo, rctl_mpe, rctl_upe, rctl_vfe}
use Rattle.registers.specs.ReceiveControl.{group_offset_of, shift_of}
use Rattle.rx_filter.specs.Passing.{ReceiveFilter}

-- The registers of the receive filter.
pub record FilterRegisters : Type 0 where
  -- RAL(0) to RAL(15), receive address low (13.5.2).
  pub ral : List ℕ
  -- RAH(0) to RAH(15), receive address high (13.5.3).
  pub rah : List ℕ
  -- MTA, the multicast table array of 128 words (13.5.1).
  pub mta : List ℕ
  -- VFTA, the VLAN filter table array of 128 words (13.5.4).
  pub vfta : List ℕ
  -- RCTL (13.4.22), of which the filter reads UPE (bit 3), MPE (bit 4), MO (bits 13:12), BAM (bit 15) and VFE (bit 18).
  pub rctl : ℕ
  -- VET, the VLAN type (13.4.11).
  pub vet : ℕ

-- The bits of RAH that a write stores: bits 15:0, which contain address bytes 4 and 5, and AV, bit 31.
abbrev pub address_high_mask : ℕ
address_high_mask = 0x8000FFFF

-- Byte k of a number, counted from the lowest.
abbrev pub byte : ℕ → ℕ → ℕ
byte k number = number / 256 ^ k % 256

-- The address in an entry: bytes 0 to 3 are in RAL, and bytes 4 and 5 in bits 15:0 of RAH. The earlier byte is the lower one.
abbrev pub entry_address : ℕ → ℕ → List ℕ
entry_address low high = byte 0 low ∷ byte 1 low ∷ byte 2 low ∷ byte 3 low ∷ byte 0 high ∷ byte 1 high ∷ []

-- The entry contains this address, and its AV is set.
pub record HoldsAddress (low high : ℕ) (address : List ℕ) : Type 0 where
  -- AV is set in RAH.
  pub valid : HasBit high rah_av
  -- The address is the one in the entry.
  pub equal : address ≡ entry_address low high

-- One of the 16 entries is valid and contains this address.
abbrev pub HasEntry : List ℕ → List ℕ → List ℕ → Type 0
HasEntry ral rah address = (n : ℕ) × (n < 16) × HoldsAddress (slice_index ral n) (slice_index rah n) address

-- In a table of words of 32 bits, the bit of this number is 1.
abbrev pub HasTableBit : List ℕ → ℕ → Type 0
HasTableBit table number = HasBit (slice_index table (number / 32)) (number % 32)

-- The filter that the registers define.
unfoldable pub filter_of : FilterRegisters → ReceiveFilter
filter_of registers = record {
  addresses = HasEntry registers.ral registers.rah;
  groups = HasTableBit registers.mta;
  shift = shift_of (group_offset_of (field registers.rctl rctl_mo 2));
  every_vlan = field registers.rctl rctl_vfe 1 ≡ 0;
  vlans = HasTableBit registers.vfta;
  vlan_type = registers.vet;
  all_individuals = HasBit registers.rctl rctl_upe;
  all_groups = HasBit registers.rctl rctl_mpe;
  broadcasts = HasBit registers.rctl rctl_bam;
}
