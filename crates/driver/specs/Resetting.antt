-- How a driver resets its adapter and initializes it again ("14.3 General Initialization"). The order of the accesses
-- is our choice.
use Rattle.std.specs.Prelude.{◌≡◌, ◌≤◌, ◌+◌, ◌-◌, ◌*◌, ◌++◌, ℕ, Bool, false, List, [], ◌∷◌, length}
use Rattle.adapter.specs.model_types.offsets.TheConstants.{MPC, MTA, RDBAL, RDT, VFTA}
use Rattle.dma_memory.specs.Layout.{Counts, descriptor_bytes}
use Rattle.dma_memory.specs.Owners.{HaveSameNumbers}
use Rattle.adapter.specs.HostFrames.{frames_held, frames_to_send}
use Rattle.adapter.specs.World.{World}
use Rattle.adapter.specs.AdaptersAtRest.{NoFrame}
use Rattle.adapter.specs.Link.{HasLink}
use Rattle.adapter.specs.Pasts.{Past, joined}
use Rattle.adapter.specs.bus_types.bus.Bus.{Ghosts}
use Rattle.adapter.specs.bus_types.event.Access.{Access}
use Rattle.adapter.specs.bus_types.event.Access.TheVariants.{Reads, Writes}
use Rattle.bring_up.specs.ClearedDescriptors.{clears_from}
use Rattle.bring_up.specs.ConfiguredAdapters.{HasSetup}
use Rattle.bring_up.specs.DriverSteps.{ResetsDriver}
use Rattle.bring_up.specs.DriverSteps.{MakesAccesses, accesses_of}
use Rattle.bring_up.specs.FilterTables.{address_writes, table_writes}
use Rattle.bring_up.specs.RingRegisters.{disable_writes, receive_writes, ring_setup_writes}
use Rattle.bring_up.specs.WrittenRegisters.{allocation_writes, enable_link_writes, mask_writes}
use Rattle.adapter.specs.Calls.{
  HasNoForgottenWork,
  IsReadyOver,
  IsRefilled,
  Moment,
  Ran,
  SumsMisses,
  driver_in,
  held_at,
  only,
  stores_from,
}
use Rattle.adapter.specs.Calls.{missed_added}
use Rattle.adapter.specs.DriverState.{DriverSetup, DriverState, HandedOut, receive_slot, with_owners}
use Rattle.adapter.specs.ReadyDrivers.{Ready}
use Rattle.adapter.specs.Resets.{reset_driver}
use Rattle.bring_up.specs.Groups.{HasTable}
use Rattle.driver.specs.Initialisation.{AreFilterTables, transmit_accesses}

-- The accesses

-- The accesses that disable the receiver, and then read the value `misses` from MPC.
abbrev pub stop_accesses : (misses : ℕ) → List Access
stop_accesses misses = accesses_of disable_writes ++ Reads MPC misses ∷ []

-- First the descriptors of the first receive slots are stored with these buffers. Then the descriptors of the other
-- receive slots are cleared. Last, the number of these buffers is written to RDT, even if this number is 0.
abbrev pub free_accesses : Counts → (numbers : List ℕ) → List Access
free_accesses counts numbers =
    stores_from counts 0 numbers
    ++ (clears_from (receive_slot (length numbers)) (counts.rx - length numbers) ++ Writes RDT (length numbers) ∷ [])

-- The register writes after the accesses of the reset, up to and including those of the receive ring.
abbrev pub quiet_writes : DriverSetup → Counts → (groups vlans : List ℕ) → List Access
quiet_writes setup counts groups vlans =
    accesses_of (allocation_writes setup.rxa)
    ++ (accesses_of enable_link_writes
    ++ (accesses_of (table_writes MTA groups ++ (table_writes VFTA vlans ++ address_writes setup.address))
    ++ accesses_of (ring_setup_writes RDBAL 0 (descriptor_bytes * counts.rx))))

-- The accesses after those of the reset, up to and including the write of RCTL.
abbrev pub quiet_accesses : DriverSetup → Counts → (groups vlans numbers : List ℕ) → List Access
quiet_accesses setup counts groups vlans numbers =
    quiet_writes setup counts groups vlans
    ++ (free_accesses counts numbers
    ++ accesses_of (receive_writes setup.promiscuous setup.by_vlan))

-- The accesses that set up the transmit side and write IMS.
abbrev pub later_accesses : Counts → List Access
later_accesses counts = transmit_accesses counts ++ accesses_of mask_writes

-- Parts of the reset

-- A driver without outstanding or staged slots offered the first slots, with the free buffers `numbers`. Then no buffer
-- is free, or all slots except one are outstanding.
pub record OffersFree {B : Type 0} (bus : Ghosts B) (old new : Moment B) : Type 0 where
  pub numbers : List ℕ
  pub others : new.driver ≡ with_owners old.driver numbers [] new.driver.pool []
  pub pool : HaveSameNumbers old.driver.pool (numbers ++ new.driver.pool)
  pub room : length numbers + 1 ≤ old.driver.layout.rx
  pub refilled : IsRefilled new.driver
  -- If the bus obeys the law and the driver is ready with its transmit side off, the accesses are exactly these.
  pub ran : (held : List HandedOut) → IsReadyOver bus false (held_at held old)
      → Ran bus false (only (free_accesses old.driver.layout numbers)) (held_at held old) (held_at held new)

-- The receiver was disabled, and the value `misses` was read from MPC and added to the sum. The driver is still ready.
pub record StopsReceiver {B : Type 0} (bus : Ghosts B) (up : Bool) (old stopped : Moment B) : Type 0 where
  pub misses : ℕ
  pub counted : stopped.driver ≡ missed_added misses old.driver
  pub ran : Ran bus up (only (stop_accesses misses)) old stopped

-- The driver that begins again after a reset with this pool. Slots with the buffers `numbers` are outstanding, and the other buffers of the
-- pool are free. The ring is refilled (`IsRefilled`), no slot is staged, and others hold the pieces `handed_out`.
pub record BeginsAgain (stopped : DriverState) (handed_out : List HandedOut) (pool numbers : List ℕ) (new : DriverState) : Type 0 where
  pub driver : new ≡ with_owners (reset_driver pool stopped) numbers [] new.pool handed_out
  pub same : HaveSameNumbers pool (numbers ++ new.pool)
  pub refilled : IsRefilled new

-- After a reset the driver is ready, and no work is forgotten. The frames held are exactly those that were stored since the write of RCTL
-- (`later`). Since this write, no frame was put on the wire, and no frame is to be sent.
pub record IsRestarted (d : DriverState) (world : World) (later : Past) : Type 0 where
  pub ready : Ready d world
  pub work : HasNoForgottenWork d world
  pub held : frames_held d.oldest_receive world ≡ later.stored
  pub none_put : later.put ≡ []
  pub none_to_send : frames_to_send world ≡ []

-- The contract of `reset` for a driver that is ready, over a bus that obeys the law. The driver resets its adapter, and
-- initializes the adapter with the driver's setup and the joined groups. Then the driver is ready again.
pub record Resets {B : Type 0} (bus : Ghosts B) (up : Bool) (old new : Moment B) : Type 0 where
  pub stopped : Moment B
  pub stops : StopsReceiver bus up old stopped
  -- the bus after the accesses of the reset: the writes of CTRL.RST and IMC, and the read of ICR
  pub middle : B
  pub pool : List ℕ
  pub resets : ResetsDriver bus up pool stopped.driver stopped.bus middle
  -- the words of MTA, which are written before RCTL
  pub groups : List ℕ
  -- the words of VFTA, which are written before RCTL
  pub vlans : List ℕ
  pub tables : AreFilterTables old.driver.groups old.driver.setup.vlans groups vlans
  pub numbers : List ℕ
  -- the bus after the write of RCTL
  pub enabled : B
  pub quiet : MakesAccesses bus (quiet_accesses old.driver.setup old.driver.layout groups vlans numbers) middle enabled
  pub no_frame : NoFrame quiet.past
  -- the accesses after the write of RCTL
  pub later : MakesAccesses bus (later_accesses old.driver.layout) enabled new.bus
  pub restarted : IsRestarted new.driver (bus.world new.bus) later.past
  pub again : BeginsAgain stopped.driver old.driver.handed_out pool numbers new.driver
  -- The adapter has the driver's setup, and the group table has exactly the bits of the joined groups.
  pub set_up : HasSetup new.driver.setup (bus.world new.bus).adapter
  pub table : HasTable new.driver.groups (bus.world new.bus)
  -- The reset loses no count of missed frames.
  pub sums : SumsMisses (driver_in old.driver (bus.world old.bus)) (driver_in new.driver (bus.world new.bus))
      (joined stops.ran.past (joined resets.first.past (joined resets.later.past (joined quiet.past later.past))))
  -- If the link is up and no MDIC command is pending, both remain true.
  pub link : HasLink (bus.world old.bus) → HasLink (bus.world new.bus)
