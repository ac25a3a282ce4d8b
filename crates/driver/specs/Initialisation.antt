-- How a driver initializes its adapter ("14.3 General Initialization", "14.4 Receive Initialization", "14.5 Transmit
-- Initialization"). The order of the accesses is our choice.
use Rattle.std.specs.Prelude.{◌≡◌, ◌≤◌, ◌<◌, ◌-◌, ◌*◌, ◌++◌, ℕ, List, [], ◌∷◌, Result, IfErr, IfOk, length}
use Rattle.adapter.specs.model_types.offsets.TheConstants.{RDBAL, RDT, TDBAL}
use Rattle.registers.specs.Counting.{greatest_count}
use Rattle.dma_memory.specs.Layout.{Counts, descriptor_bytes}
use Rattle.dma_memory.specs.Owners.{HasOneOwner}
use Rattle.eeprom.specs.Image.{HasRightSum, address_bytes}
use Rattle.rx_filter.specs.Addresses.{IsAddress}
use Rattle.rx_filter.specs.NumberTables.{HasNumbers, numbers_of_groups}
use Rattle.adapter.specs.HostFrames.{frames_held, frames_to_send}
use Rattle.adapter.specs.Slots.{finished}
use Rattle.adapter.specs.World.{World}
use Rattle.adapter.specs.Link.{HasLink}
use Rattle.adapter.specs.Pasts.{Past, joined}
use Rattle.adapter.specs.Settings.{settings_after_all, settings_of}
use Rattle.adapter.specs.bus_types.bus.Bus.{Ghosts}
use Rattle.adapter.specs.bus_types.event.Access.{Access}
use Rattle.adapter.specs.bus_types.event.Access.TheVariants.{Writes}
use Rattle.bring_up.specs.ClearedDescriptors.{clears, clears_from}
use Rattle.bring_up.specs.Configuration.{configured_counts, vlans_of}
use Rattle.bring_up.specs.ConfiguredAdapters.{AreWords, HasSetup, IsConfigured, names_vlans, setup_of}
use Rattle.bring_up.specs.ConfiguredAdapters.{writes_before_rings}
use Rattle.bring_up.specs.Device.{IsErrorOf, IsErrorOfLively}
use Rattle.bring_up.specs.DriverSteps.{accesses_of}
use Rattle.bring_up.specs.RestingRings.{HasReceiveRing}
use Rattle.bring_up.specs.RingRegisters.{receive_writes, ring_setup_writes, transmit_writes}
use Rattle.bring_up.specs.SettingSteps.{RecordsNoCause}
use Rattle.bring_up.specs.WrittenRegisters.{mask_writes}
use Rattle.bring_up.specs.declared.config.Config.{Config}
use Rattle.bring_up.specs.declared.init_error.InitError.{InitError}
use Rattle.bring_up.specs.declared.init_error.InitError.TheVariants.{Memory}
use Rattle.bring_up.specs.declared.init_error.InitError.TheVariants as errors
use Rattle.adapter.specs.Calls.{HasNoForgottenWork, IsRefilled, stores_from}
use Rattle.adapter.specs.Beginnings.{new_driver}
use Rattle.bring_up.specs.Groups.{AreNamedOnce, HasTable}
use Rattle.adapter.specs.DriverState.{DriverState, owners, receive_slot, with_owners}
use Rattle.adapter.specs.ReadyDrivers.{Ready}

-- Errors

-- What is known after an error. E10 and E15: there was no access. Other errors: as after `find_device` (`IsErrorOf`).
abbrev pub IsErrorOfInit : InitError → (image : List ℕ) (accesses : ℕ) → Type 0
IsErrorOfInit Memory image accesses = accesses ≡ 0
IsErrorOfInit errors.Config image accesses = accesses ≡ 0
IsErrorOfInit error image accesses = IsErrorOf error image accesses

-- Initialization ended with this error.
pub record RefusesInit {B : Type 0} (bus : Ghosts B) (old new : B) (error : InitError) : Type 0 where
  -- what happened in the call
  pub past : Past
  pub reports : bus.happened old new past
  -- what is known after this error
  pub why : IsErrorOfInit error (bus.world old).adapter.image (length past.accesses)
  -- what else is known if the bus is lively (`IsErrorOfLively`)
  pub why_lively : bus.lively old → IsErrorOfLively error (bus.world old)

-- Parts of initialization

-- The words of MTA, `groups`, have the bits of the groups `named`, and no others. The words of VFTA, `vlans`, have the
-- bits of the VLANs `named_vlans`, and no others. Each word has 32 bits.
pub record AreFilterTables (named : List (List ℕ)) (named_vlans groups vlans : List ℕ) : Type 0 where
  -- MTA has the bits of the groups, and no others
  pub has_groups : HasNumbers groups (numbers_of_groups named)
  -- VFTA has the bits of the VLANs, and no others
  pub has_vlans : HasNumbers vlans named_vlans
  -- each word of MTA has 32 bits
  pub groups_are : AreWords groups
  -- each word of VFTA has 32 bits
  pub vlans_are : AreWords vlans

-- A device with the address `found` in its EEPROM was found. The EEPROM's checksum is right, and the link is up. The
-- filter and the receive ring are set up, with no slot offered.
pub record HasFoundRing {B : Type 0} (bus : Ghosts B) (config : Config) (found : List ℕ) (old new : B) : Type 0 where
  pub sum : HasRightSum (bus.world old).adapter.image
  pub address : IsAddress (address_bytes (bus.world old).adapter.image)
  pub found_is : found ≡ address_bytes (bus.world old).adapter.image
  pub ring : HasReceiveRing config.rx (bus.world new)
  pub up : HasLink (bus.world new)
  pub groups : List ℕ
  pub vlans : List ℕ
  pub tables : AreFilterTables config.groups.items (vlans_of config.vlans) groups vlans
  pub settings : settings_of (bus.world new).adapter ≡ settings_after_all
      (writes_before_rings config (address_bytes (bus.world old).adapter.image) groups vlans
      ++ ring_setup_writes RDBAL 0 (descriptor_bytes * config.rx))
      (settings_of (bus.world old).adapter)

-- `find_ring` was called, with this result.
pub record FindsRing {B : Type 0} (bus : Ghosts B) (config : Config) (result : Result (List ℕ) InitError) (old new : B) : Type 0 where
  pub past : Past
  pub reports : bus.happened old new past
  pub found : IfOk result (λ address. HasFoundRing bus config address old new)
  -- If the result is Ok, neither ICR nor ICS was written.
  pub no_cause : IfOk result (λ address. RecordsNoCause past)
  pub why : IfErr result (λ error. IsErrorOf error (bus.world old).adapter.image (length past.accesses))
  pub why_lively : bus.lively old → IfErr result (λ error. IsErrorOfLively error (bus.world old))

-- First the descriptors of the first receive slots are stored with the buffers `numbers`. Then the descriptor of the
-- last slot is cleared, and the last slot's index is written to RDT.
abbrev pub first_accesses : Counts → List ℕ → List Access
first_accesses counts numbers =
    stores_from counts 0 numbers ++ (clears (receive_slot (counts.rx - 1)) ∷ Writes RDT (counts.rx - 1) ∷ [])

-- The accesses that clear the transmit descriptors, set up the transmit ring, and write TCTL.
abbrev pub transmit_accesses : Counts → List Access
transmit_accesses counts =
    clears_from (descriptor_bytes * counts.rx) counts.tx
    ++ accesses_of (ring_setup_writes TDBAL (descriptor_bytes * counts.rx) (descriptor_bytes * counts.tx) ++ transmit_writes)

-- The whole initialization

-- `accesses` end with `last`.
pub record EndsWith (accesses last : List Access) : Type 0 where
  pub earlier : List Access
  pub whole : accesses ≡ earlier ++ last

-- The accesses of initialization. `first` end with those that offer the receive slots and write RCTL. `later` set up
-- the transmit side and write IMS.
pub record InitAccesses (config : Config) (d : DriverState) (first later : List Access) : Type 0 where
  pub ends : EndsWith first
      (first_accesses d.layout d.buffers ++ accesses_of (receive_writes config.promiscuous (names_vlans config.vlans)))
  pub rest : later ≡ transmit_accesses d.layout ++ accesses_of mask_writes

-- The frames since the write of RCTL. `later` is what happened since this write.
pub record FramesSinceStart (d : DriverState) (world : World) (later : Past) : Type 0 where
  -- The frames held are exactly those that were stored. No frame was put on the wire, and no frame is to be sent.
  pub held : frames_held d.oldest_receive world ≡ later.stored
  pub none_put : later.put ≡ []
  pub none_to_send : frames_to_send world ≡ []
  -- If no frame was stored, no slot is finished, and RDH is 0.
  pub none_finished : later.stored ≡ [] → finished d.oldest_receive world ≡ []
  pub head : later.stored ≡ [] → world.adapter.receive_ring.head ≡ 0
  -- MPC counts at most the frames missed since the write of RCTL, and exactly these frames if MPC is below its greatest
  -- value.
  pub missed_most : world.adapter.missed_packets ≤ later.missed
  pub missed : world.adapter.missed_packets < greatest_count → world.adapter.missed_packets ≡ later.missed

-- The driver is ready, no work is forgotten, and `FramesSinceStart` holds.
pub record IsStarted (d : DriverState) (world : World) (later : Past) : Type 0 where
  pub ready : Ready d world
  pub work : HasNoForgottenWork d world
  pub frames : FramesSinceStart d world later

-- The EEPROM has the right checksum and is unchanged. Its first three words contain an address of six bytes. The settings
-- are those of the configuration, with this address. The link is up, and no MDIC command is pending.
pub record IsSetUp (config : Config) (old new : World) : Type 0 where
  pub sum : HasRightSum old.adapter.image
  pub address : IsAddress (address_bytes old.adapter.image)
  pub image : new.adapter.image ≡ old.adapter.image
  pub configured : IsConfigured config (address_bytes old.adapter.image) (settings_of new.adapter)
  pub up : HasLink new

-- The contract of `init` over a bus that obeys the law, if `init` returns a driver. The adapter can receive frames from
-- the write of RCTL on.
pub record Initialises {B : Type 0} (bus : Ghosts B) (config : Config) (old new : B) (d : DriverState) : Type 0 where
  -- the bus right after the write of RCTL
  pub middle : B
  pub first : Past
  pub later : Past
  pub reports_first : bus.happened old middle first
  pub reports_later : bus.happened middle new later
  pub accesses : InitAccesses config d first.accesses later.accesses
  -- neither ICR nor ICS was written
  pub no_cause : RecordsNoCause (joined first later)
  pub started : IsStarted d (bus.world new) later
  pub adapter : IsSetUp config (bus.world old) (bus.world new)
  -- The driver's setup is that of the configuration, with the address in the EEPROM, and the adapter has this setup.
  pub setup : d.setup ≡ setup_of config (address_bytes (bus.world old).adapter.image)
  pub set_up : HasSetup d.setup (bus.world new).adapter
  -- The group table has exactly the bits of the joined groups.
  pub table : HasTable d.groups (bus.world new)

-- The state of a driver that `init` returns, over any bus.
pub record IsFresh (config : Config) (driver : DriverState) : Type 0 where
  -- the layout is that of the configuration
  pub layout : driver.layout ≡ configured_counts config
  -- a new driver (`new_driver`), in which some buffers are in outstanding slots, and the others are free
  pub new : driver ≡ with_owners (new_driver (configured_counts config) driver.setup driver.groups []) driver.buffers [] driver.pool []
  -- the setup is that of the configuration, with some address
  pub setup : driver.setup ≡ setup_of config driver.setup.address
  -- the driver has joined exactly the groups of the configuration, each once
  pub joined : AreNamedOnce config.groups.items driver.groups
  -- each buffer is free or in an outstanding slot
  pub one_owner : HasOneOwner driver.layout.buffers (owners driver)
  -- others hold no piece
  pub none_out : driver.handed_out ≡ []
  -- all receive slots except one are outstanding, or no buffer is free
  pub refilled : IsRefilled driver
