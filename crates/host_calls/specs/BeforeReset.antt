-- The frames that are lost if a host's adapter is reset in this state (our choice).
use Rattle.std.specs.Prelude.{◌≡◌, ◌≤◌, ◌+◌, vec_capacity}
use Rattle.rx_engine.specs.declared.engine.TheConstants.{MOST_FRAMES}
use Rattle.adapter.specs.HostFrames.{frames_held, frames_to_send}
use Rattle.adapter.specs.World.{World}
use Rattle.packet_socket.specs.HostState.{HostState}
use Rattle.host_calls.specs.declared.resetting.GivenUp.{GivenUp}

-- The lists `sending` and `holding` of `found` contain the frames to be sent and the frames held in this state.
-- `holding` has room for one frame in each slot of the receive ring, and for `MOST_FRAMES` frames of a full packet
-- buffer.
pub record IsBeforeReset (host : HostState) (world : World) (found : GivenUp) : Type 0 where
  pub sending : found.sending.items ≡ frames_to_send world
  pub holding : found.holding.items ≡ frames_held host.driver.oldest_receive world
  pub room : host.driver.layout.rx + MOST_FRAMES ≤ vec_capacity found.holding
