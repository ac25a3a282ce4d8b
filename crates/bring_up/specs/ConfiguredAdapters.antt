-- The register writes of initialization in order, and the settings of an adapter after them. The setup that a driver keeps, and laws about
-- these writes, settings and setups.
use Rattle.std.specs.Prelude.{◌≡◌, ◌<◌, ◌+◌, ◌-◌, ◌*◌, ◌++◌, ℕ, Bool, true, false, List, ◌∷◌, [], All, Option, None, Some, length}
use Rattle.std.specs.Prelude.{replicate}
use Rattle.adapter.specs.model_types.offsets.TheConstants.{MTA, RDBAL, RDT, TDBAL, VFTA}
use Rattle.dma_memory.specs.Layout.{descriptor_bytes}
use Rattle.arrayvec.specs.declared.array_vec.ArrayVec.{ArrayVec}
use Rattle.registers.specs.Places.{alone, rah_av}
use Rattle.rx_filter.specs.Addresses.{IsAddress, high_word, low_word}
use Rattle.rx_filter.specs.NumberTables.{HasNumbers, numbers_of_groups}
use Rattle.rx_filter.specs.Registers.{FilterRegisters}
use Rattle.adapter.specs.model_types.ring.RingRegisters.{RingRegisters}
use Rattle.adapter.specs.Rings.{ring_of}
use Rattle.adapter.specs.State.{AdapterState}
use Rattle.adapter.specs.DriverState.{DriverSetup}
use Rattle.descriptors.specs.Ring.{count_of}
use Rattle.adapter.specs.Link.{LeavesPhy}
use Rattle.adapter.specs.Settings.{Settings, Write, settings_after_all}
use Rattle.bring_up.specs.Configuration.{IsValidIn, vlans_of}
use Rattle.bring_up.specs.FilterTables.{address_writes, table_writes}
use Rattle.bring_up.specs.RingRegisters.{receive_control, receive_writes, ring_setup_writes, transmit_control, transmit_writes}
use Rattle.bring_up.specs.SettingSteps.{IsAside}
use Rattle.bring_up.specs.WrittenRegisters.{allocation_writes, handled_causes, link_control, enable_link_writes, mask_writes, reset_writes}
use Rattle.bring_up.specs.WrittenRegisters.{register_limit, write_at}
use Rattle.bring_up.specs.declared.config.Config.{Config}
use Rattle.bring_up.specs.declared.config.TheConstants.{MOST_VLANS}
use Rattle.rx_filter.specs.declared.filter.TheConstants.{RECEIVE_ADDRESSES, TABLE_WORDS, VLAN_TYPE}

-- Whether the configuration has a list of VLANs, which may be empty.
abbrev pub names_vlans : Option (ArrayVec ℕ MOST_VLANS (Unit {0})) → Bool
names_vlans None = false
names_vlans (Some vlans) = true

-- The setup that a driver keeps from a configuration, with its adapter's address.
abbrev pub setup_of : Config → (address : List ℕ) → DriverSetup
setup_of config address = record {
  rxa = config.rxa;
  promiscuous = config.promiscuous;
  by_vlan = names_vlans config.vlans;
  vlans = vlans_of config.vlans;
  address = address;
}

-- Each number is below 2^32.
abbrev pub AreWords : List ℕ → Type 0
AreWords words = All (λ word. word < register_limit) words

-- The register writes of initialization in order, except those of EERD and MDIC, which change no setting

-- The writes before those of the rings, with these words of the group table and the VLAN table.
abbrev pub writes_before_rings : Config → (address groups vlans : List ℕ) → List Write
writes_before_rings config address groups vlans =
    reset_writes
    ++ (allocation_writes config.rxa
    ++ (enable_link_writes
    ++ (table_writes MTA groups
    ++ (table_writes VFTA vlans
    ++ address_writes address))))

-- The writes of the rings, RCTL, TCTL and IMS.
abbrev pub writes_from_rings : Config → List Write
writes_from_rings config =
    ring_setup_writes RDBAL 0 (descriptor_bytes * config.rx)
    ++ (write_at RDT (config.rx - 1) ∷ []
    ++ (receive_writes config.promiscuous (names_vlans config.vlans)
    ++ (ring_setup_writes TDBAL (descriptor_bytes * config.rx) (descriptor_bytes * config.tx)
    ++ (transmit_writes
    ++ mask_writes))))

-- All writes of initialization.
abbrev pub all_writes : Config → (address groups vlans : List ℕ) → List Write
all_writes config address groups vlans = writes_before_rings config address groups vlans ++ writes_from_rings config

-- The values of the registers after initialization

-- RCTL, VFTA, VET and the receive addresses of the receive filter are those of the setup.
pub record FilterHasSetup (setup : DriverSetup) (filter : FilterRegisters) : Type 0 where
  -- the value of RCTL
  pub receive_control_is : filter.rctl ≡ receive_control setup.promiscuous setup.by_vlan
  -- VFTA has the bits of the VLANs, and no others.
  pub vlans : HasNumbers filter.vfta setup.vlans
  -- each word of VFTA has 32 bits
  pub words : AreWords filter.vfta
  -- RAL: bytes 0 to 3 of the address in the first entry; the other 15 are 0
  pub address_low : filter.ral ≡ low_word setup.address ∷ replicate (RECEIVE_ADDRESSES - 1) 0
  -- RAH: bytes 4 and 5 of the address, and AV, in the first entry; the other 15 are 0
  pub address_high : filter.rah ≡ (high_word setup.address + alone rah_av) ∷ replicate (RECEIVE_ADDRESSES - 1) 0
  -- VET is the type of IEEE 802.1Q
  pub vlan_type : filter.vet ≡ VLAN_TYPE

-- An adapter has the setup of its driver: PBA.RXA, and the receive filter except MTA.
pub record HasSetup (setup : DriverSetup) (adapter : AdapterState) : Type 0 where
  -- the receive filter, apart from MTA
  pub filter : FilterHasSetup setup adapter.filter
  -- PBA.RXA
  pub allocation : adapter.receive_kilobytes ≡ setup.rxa

-- The receive filter has the setup of the configuration, and MTA has the bits of the configured groups.
pub record FilterIsConfigured (config : Config) (address : List ℕ) (filter : FilterRegisters) : Type 0 where
  -- all registers of the filter except MTA
  pub setup : FilterHasSetup (setup_of config address) filter
  -- MTA has the bits of the configured groups, and no others.
  pub groups : HasNumbers filter.mta (numbers_of_groups config.groups.items)
  -- each word of MTA has 32 bits
  pub group_words : AreWords filter.mta

-- The registers of a ring contain the base `base`, the size of `count` slots, and the tail `tail`. The head isn't
-- stated.
pub record RingIsConfigured (base count tail : ℕ) (registers : RingRegisters) : Type 0 where
  pub base_is : (ring_of registers).base ≡ base
  -- the number of slots
  pub count_is : count_of (ring_of registers) ≡ count
  pub tail_is : registers.tail ≡ tail

-- The settings are those that a configuration and an Ethernet address determine.
pub record IsConfigured (config : Config) (address : List ℕ) (settings : Settings) : Type 0 where
  -- CTRL contains SLU and ASDE, and no other bit
  pub device_control : settings.device_control ≡ link_control
  -- RCTL, the receive addresses, MTA, VFTA and VET
  pub filter : FilterIsConfigured config address settings.filter
  -- TCTL has the value that enables the transmitter
  pub transmit_control : settings.transmit_control ≡ transmit_control
  -- PBA.RXA is that of the configuration
  pub allocation : settings.receive_kilobytes ≡ config.rxa
  -- the mask contains TXDW, RXDMT0, RXO and RXT0, and no other cause
  pub mask : settings.mask ≡ handled_causes
  -- The receive ring begins at address 0, and RDT is the index of its last slot. The transmit ring follows, and TDT is
  -- 0.
  pub receive_ring : RingIsConfigured 0 config.rx (config.rx - 1) settings.receive_ring
  pub transmit_ring : RingIsConfigured (descriptor_bytes * config.rx) config.tx 0 settings.transmit_ring

-- The writes of initialization configure an adapter, whatever its settings were before, and don't change its EEPROM.
-- The configuration must be valid, and the words written to MTA and VFTA must have exactly the bits of its groups and
-- VLANs.
abbrev pub WritesConfigure : Type 0
WritesConfigure =
    (config : Config) (address groups vlans : List ℕ) (size : ℕ) (settings : Settings)
    → IsValidIn config size → IsAddress address → AreWords groups → AreWords vlans
    → HasNumbers groups (numbers_of_groups config.groups.items) → HasNumbers vlans (vlans_of config.vlans)
    → IsConfigured config address (settings_after_all (all_writes config address groups vlans) settings)
    × ((settings_after_all (all_writes config address groups vlans) settings).image ≡ settings.image)

-- Two adapters with the same setup have the same PBA.RXA and the same registers of the filter, except MTA.
abbrev pub SetupsAgree : Type 0
SetupsAgree =
    (setup : DriverSetup) (a b : AdapterState) → HasSetup setup a → HasSetup setup b
    → (b.filter ≡ record a.filter { mta = b.filter.mta }) × (b.receive_kilobytes ≡ a.receive_kilobytes)

-- If the tables have 128 words, no write before those of the rings is a write of RCTL or of a ring's register.
abbrev pub RingsComeLast : Type 0
RingsComeLast =
    (config : Config) (address groups vlans : List ℕ) → length groups ≡ TABLE_WORDS → length vlans ≡ TABLE_WORDS
    → All IsAside (writes_before_rings config address groups vlans)

-- If the tables have 128 words, the writes of the filter, of the rings, and after those of the rings write neither CTRL nor MDIC.
abbrev pub LinkComesFirst : Type 0
LinkComesFirst =
    (config : Config) (address groups vlans : List ℕ) → length groups ≡ TABLE_WORDS → length vlans ≡ TABLE_WORDS
    → All LeavesPhy (table_writes MTA groups ++ (table_writes VFTA vlans ++ address_writes address))
    × All LeavesPhy (writes_from_rings config)
