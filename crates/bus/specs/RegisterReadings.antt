-- What a driver that is ready knows after a read of a register (our choice).
use Rattle.std.specs.Prelude.{◌≡◌, ◌≢◌, ◌<◌, ℕ, Bool, []}
use Rattle.adapter_model.specs.declared.offsets.TheConstants.{ICR, MPC}
use Rattle.adapter_model.specs.Registers.{answer_at}
use Rattle.adapter_model.specs.World.{World, world_after_read}
use Rattle.bus.specs.Pasts.{nothing}
use Rattle.bus.specs.Calls.{FlowsTo, GoesTo, driver_did, driver_in, sum_limit, missed_added}
use Rattle.bus.specs.DriverState.{DriverState}
use Rattle.bus.specs.ReadyDrivers.{ReadyWith}

-- A read of MPC is an interval of the driver's run, and the value is added to the driver's sum. Before the read, the driver must be ready,
-- and the sum below 2^64.
abbrev pub MissesAreRead : Type 0
MissesAreRead =
    (up : Bool) (driver : DriverState) (world : World) → driver.missed < sum_limit → ReadyWith up driver world
    → GoesTo up (driver_in driver world) (driver_in (missed_added (answer_at MPC world.adapter) driver) (world_after_read MPC world))
    (driver_did [] []) nothing

-- ICR was read, in an interval in which the driver didn't change. No cause is recorded after the read.
pub record CausesRead (up : Bool) (driver : DriverState) (a b : World) : Type 0 where
  pub flows : FlowsTo up (driver_in driver a) (driver_in driver b) (driver_did [] []) nothing
  pub cleared : b.adapter.causes.recorded ≡ 0

-- `CausesRead` holds for a read of ICR by a driver that is ready.
abbrev pub CausesAreRead : Type 0
CausesAreRead =
    (up : Bool) (driver : DriverState) (world : World) → ReadyWith up driver world
    → CausesRead up driver world (world_after_read ICR world)

-- A read of a register other than ICR and MPC is an interval in which the driver doesn't change, and no recorded cause is cleared.
abbrev pub OthersAreRead : Type 0
OthersAreRead =
    (up : Bool) (driver : DriverState) (offset : ℕ) (world : World) → offset ≢ ICR → offset ≢ MPC → ReadyWith up driver world
    → GoesTo up (driver_in driver world) (driver_in driver (world_after_read offset world)) (driver_did [] []) nothing
