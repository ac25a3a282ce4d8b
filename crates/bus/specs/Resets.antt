-- How a driver disables the receiver and resets its adapter, and what the driver knows until its receive ring is set up again (our choice).
use Rattle.std.specs.Prelude.{◌≡◌, ◌≤◌, ◌++◌, ℕ, Bool, List, [], All, length}
use Rattle.registers.specs.Bits.{HasBit}
use Rattle.registers.specs.Places.{rctl_bsex, rctl_en}
use Rattle.dma_memory.specs.Layout.{size_of}
use Rattle.dma_memory.specs.Owners.{HasOneOwner, HaveSameNumbers}
use Rattle.adapter_model.specs.Registers.{after_reset}
use Rattle.adapter_model.specs.State.{IsAdapter}
use Rattle.adapter_model.specs.World.{World}
use Rattle.bus.specs.AdaptersAtRest.{IsAtRest, NoFrame}
use Rattle.bus.specs.Law.{Happens}
use Rattle.bus.specs.Pasts.{Past, nothing}
use Rattle.bus.specs.RegisterSetting.{with_receive_control}
use Rattle.bus.specs.Calls.{GoesTo, SumsMisses, driver_did, driver_in}
use Rattle.bus.specs.DriverState.{DriverState, owners}
use Rattle.bus.specs.ReadyDrivers.{ReadyWith, Stands}

-- Before the reset

-- RCTL is written without EN and BSEX. The driver remains ready, even if receive slots are finished or in progress, or
-- frames are to be sent.
abbrev pub ReceiverIsDisabled : Type 0
ReceiverIsDisabled =
    (up : Bool) (driver : DriverState) (control : ℕ) (world : World) → ReadyWith up driver world
    → ¬ (HasBit control rctl_en) → ¬ (HasBit control rctl_bsex)
    → GoesTo up (driver_in driver world) (driver_in driver (with_receive_control control world)) (driver_did [] []) nothing

-- The reset

-- The driver after a reset: no slot is outstanding or staged, the oldest slot of each ring is slot 0, and these
-- buffers are free.
abbrev pub reset_driver : (pool : List ℕ) → DriverState → DriverState
reset_driver pool driver = record driver {
  oldest_receive = 0;
  buffers = [];
  staged = [];
  pool = pool;
  oldest_transmit = 0;
  sending = 0;
}

-- the world after a reset of the adapter; memory doesn't change
abbrev pub reset_world : World → World
reset_world world = record world { adapter = after_reset world.adapter }

-- The adapter is at rest, and memory contains the whole layout. Each buffer has exactly one owner, and the pieces of frames that others
-- hold are in their buffers.
pub record RestsWith (driver : DriverState) (world : World) : Type 0 where
  pub rest : IsAtRest world
  -- Memory contains the whole layout.
  pub lies : size_of driver.layout ≤ length world.memory
  pub one_owner : HasOneOwner driver.layout.buffers (owners driver)
  pub stand : All (Stands driver.layout world.memory) driver.handed_out

-- After a driver that is ready resets its adapter, `RestsWith` holds. The buffers of all slots are in the pool.
abbrev pub ResetForgetsSlots : Type 0
ResetForgetsSlots =
    (up : Bool) (driver : DriverState) (pool : List ℕ) (world : World) → ReadyWith up driver world
    → HaveSameNumbers (driver.pool ++ (driver.buffers ++ driver.staged)) pool
    → RestsWith (reset_driver pool driver) (reset_world world)

-- If MPC is 0 before a reset, the reset loses no count of missed frames.
abbrev pub ResetKeepsSum : Type 0
ResetKeepsSum =
    (driver : DriverState) (pool : List ℕ) (world : World) → world.adapter.missed_packets ≡ 0
    → SumsMisses (driver_in driver world) (driver_in (reset_driver pool driver) (reset_world world)) nothing

-- After the reset

-- An adapter at rest doesn't write memory, whatever happens between two accesses.
abbrev pub RestKeepsMemory : Type 0
RestKeepsMemory = (a b : World) (past : Past) → Happens a b past → IsAtRest a → b.memory ≡ a.memory

-- `RestsWith` remains true, and no frame is put on the wire, stored or missed, whatever happens between two accesses.
abbrev pub DriversRest : Type 0
DriversRest =
    (driver : DriverState) (a b : World) (past : Past) → Happens a b past → IsAdapter b.adapter → RestsWith driver a
    → RestsWith driver b × NoFrame past
