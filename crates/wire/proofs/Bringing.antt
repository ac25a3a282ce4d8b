-- `NetworkStands` holds for a new network.
use Rattle.std.proofs.Common.{◌≡◌, ℕ, List, Some, length, slice_get, sym, ap, subst, ◌∙◌, arith}
use Rattle.std.proofs.lemmas.Option.{slice_get_within}
use Rattle.circular_buffer.proofs.Places.{slice_get-some}
use Rattle.adapter.specs.State.{IsAdapter}
use Rattle.adapter.specs.World.{World}
use Rattle.wire.specs.HostsUp.{AreUp, ComesUp}
use Rattle.network_plan.specs.declared.plan.HostPlan.{HostPlan}
use Rattle.packet_socket.specs.HostState.{HostState}
use Rattle.stations.specs.Stations.{StationState, world_of}
use Rattle.host_calls.specs.Networks.{NetworkState}
use Rattle.wire.specs.Equations.{HostStands, NetworkStands}
use Rattle.wire.proofs.Standing.{stands-with}

-- A host of the network, with its plan and its station, came up by the plan.
record HasComeUp (plans : List HostPlan) (stations : List StationState) (k : ℕ) (host : HostState) : Type 0 where
  plan : HostPlan
  station : StationState
  there : slice_get stations k ≡ Some station
  up : ComesUp plan host station

has-come_up : (plans : List HostPlan) (hosts : List HostState) (stations : List StationState) (k : ℕ) (host : HostState)
    → AreUp plans (length plans) hosts stations → slice_get hosts k ≡ Some host → HasComeUp plans stations k host
has-come_up plans hosts stations k host up is =
    let below = slice_get_within hosts k host is in
    let count = up.host_count in
    let places = up.station_count in
    let plan = slice_get-some plans k (omega (arith, below, count)) in
    let station = slice_get-some stations k (omega (arith, below, count, places)) in
    record { plan = plan.0; station = station.0; there = station.1; up = up.each k plan.0 host station.0 plan.1 is station.1 }

pub made-stands : (plans : List HostPlan) (hosts : List HostState) (stations : List StationState)
    → AreUp plans (length plans) hosts stations
    → (let network : NetworkState = record { hosts = hosts; stations = stations } in NetworkStands network)
made-stands plans hosts stations up = record {
  same = up.station_count ∙ sym up.host_count;
  each = λ k host is.
      let one = has-come_up plans hosts stations k host up is in
      subst (λ (world : World). HostStands host world) (ap world_of (sym one.there))
      (stands-with host one.station.world one.up.ready.ready one.up.ready.work one.up.ready.refilled one.up.ready.offered
      one.up.sizes.set_up one.up.sizes.table one.up.ready.can (λ small. one.up.no_frames.counts.exact));
  adapters = λ k host is.
      let one = has-come_up plans hosts stations k host up is in
      subst (λ (world : World). IsAdapter world.adapter) (ap world_of (sym one.there)) one.up.adapter;
}
