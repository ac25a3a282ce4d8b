-- How a host resets its adapter (our choice).
use Rattle.std.specs.Prelude.{◌≡◌, ℕ, Bool}
use Rattle.adapter.specs.bus_types.bus.Bus.{Ghosts}
use Rattle.driver.specs.Resetting.{Resets}
use Rattle.packet_socket.specs.HostCalls.{HostMoment, HostReady, driver_at, waiting_frames}

-- The contract of `Host::reset` for a host that is ready, over a bus that obeys the law. The driver resets its adapter, and the host is
-- ready again.
pub record HostResets {B : Type 0} (bus : Ghosts B) (up : Bool) (old new : HostMoment B) : Type 0 where
  -- the driver was reset
  pub resets : Resets bus up (driver_at bus old) (driver_at bus new)
  -- the host is ready, with its transmit side set up
  pub ready : HostReady new.host (bus.world new.bus)
  -- the frames queued for each socket are the same
  pub waiting : (socket : ℕ) → waiting_frames new.host socket (bus.world new.bus) ≡ waiting_frames old.host socket (bus.world old.bus)
