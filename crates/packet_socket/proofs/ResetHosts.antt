-- After a host's driver resets its adapter, the host is still consistent, and the queued frames are the same.
use Rattle.std.proofs.Common.{Bool, ◌≡◌, ◌++◌, map, sym, ap, subst, ◌∙◌, arith}
use Rattle.dma_memory.specs.Layout.{Counts}
use Rattle.dma_memory.specs.Owners.{HasNoSecondOwner, HaveSameNumbers}
use Rattle.dma_memory.specs.OwnersLaws.{copies-append}
use Rattle.adapter.specs.bus_types.bus.Bus.{Ghosts}
use Rattle.adapter.specs.Calls.{Moment, held_at}
use Rattle.adapter.specs.DriverState.{DriverState, holding, owners}
use Rattle.adapter.specs.ReadyDrivers.{Ready}
use Rattle.driver.specs.Parts.{buffers_of}
use Rattle.driver.specs.Resetting.{Resets}
use Rattle.packet_socket.specs.HostCalls.{HostMoment, IsReadyHost, driver_at, driver_of, host_at, waiting_frame}
use Rattle.packet_socket.specs.HostResets.{HostResets}
use Rattle.packet_socket.specs.HostState.{SocketsState, all_of, queue_at}
use Rattle.packet_socket.specs.InsideHost.{AreOfHost}
use Rattle.packet_socket.proofs.Intervals.{driver-stays, queues-stand, with_driver}
use Rattle.packet_socket.proofs.WaitingFrames.{queue-frames-same}

pub host-resets : {B : Type 0} (bus : Ghosts B) (up : Bool) (old : HostMoment B) (new : Moment B)
    → IsReadyHost bus up old → new.driver.layout ≡ old.host.driver.layout
    → Resets bus up (driver_at bus old) (held_at (driver_at bus old).driver.handed_out new)
    → HostResets bus up old (host_at new.bus (with_driver new.driver old.host))
host-resets bus up old new is layout resets =
    let h = old.host in
    let a = bus.world old.bus in
    let b = bus.world new.bus in
    let counts = h.driver.layout in
    let d = (driver_at bus old).driver in
    let e = holding d.handed_out new.driver in
    let e' = driver_of (with_driver new.driver h) b in
    let stand = resets.restarted.ready.stand in
    let end : e ≡ e' = sym (driver-stays h new.driver a b is.ready layout stand) in
    let same = queues-stand h new.driver a b is.ready layout stand in
    record {
      resets = subst (λ (s : DriverState). Resets bus up (driver_at bus old) (record new { driver = s })) end resets;
      ready = record { sizes = is.ready.sizes; ready = subst (λ (s : DriverState). Ready s b) end resets.restarted.ready };
      waiting = λ socket.
          ap (λ (c : Counts). map (waiting_frame c b.memory) (queue_at h.queues socket)) layout
          ∙ queue-frames-same counts a.memory b.memory h.queues same socket;
    }

pub reset-host : (driver driver' : DriverState) (sockets : SocketsState) → AreOfHost driver sockets → driver'.layout ≡ driver.layout
    → HaveSameNumbers (owners driver) (owners driver') → AreOfHost driver' sockets
reset-host driver driver' sockets host layout same = record {
  room = host.room ∙ ap (λ (c : Counts). c.buffers) (sym layout);
  count = host.count;
  owners = subst (λ (c : Counts). HasNoSecondOwner c.buffers (owners driver' ++ buffers_of (all_of sockets.queues))) (sym layout) (λ k.
      omega (
        arith,
        host.owners k,
        same k,
        copies-append k (owners driver) (buffers_of (all_of sockets.queues)),
        copies-append k (owners driver') (buffers_of (all_of sockets.queues)),
      ));
  sizes = host.sizes;
}
