use Rattle.adapter.specs.State.{IsAdapter}
use Rattle.stations.specs.Stations.{world_at}
use Rattle.host_calls.specs.DrainedHosts.{CanBeDrained}
use Rattle.host_calls.specs.DrainSteps.{StepsInto, count_steps, outlet}
use Rattle.host_calls.specs.Networks.{OnlyHostChanges, connected_at, nth_host}
use Rattle.host_calls.proofs.network.Network.drain.Given as goal

-- The steps so far are steps into the sink (`StepsInto`), only this host has changed, and the host can still be
-- drained. If `IsAdapter` holds now, it held at the beginning.
abbrev pub invariant-loop-bytes : goal.invariant-loop-bytes
invariant-loop-bytes g l = record {
  into : StepsInto l.steps l.number (outlet (g.S.Outlet.frames l.fn.sink) (g.S.Outlet.room_left l.fn.sink))
      (outlet (g.S.Outlet.frames l.sink) (g.S.Outlet.room_left l.sink)) (connected_at l.fn.self l.number)
      (connected_at l.self l.number);
  stands : CanBeDrained (nth_host l.self l.number) (world_at l.self.stations l.number);
  adapter : IsAdapter (world_at l.self.stations l.number).adapter → IsAdapter (world_at l.fn.self.stations l.number).adapter;
  others : OnlyHostChanges l.number l.fn.self l.self;
}

abbrev pub decreases-loop-bytes : goal.decreases-loop-bytes
decreases-loop-bytes g l = count_steps (nth_host l.self l.number) (world_at l.self.stations l.number)
