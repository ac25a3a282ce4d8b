use Rattle.std.proofs.Common.{◌≡◌, [], List, arith, refl, subst, sym}
use Rattle.adapter.specs.TickGroups.{without_go}
use Rattle.stations.specs.AtomicRuns.{is_go}
use Rattle.stations.specs.LentBuses.{watched_by}
use Rattle.stations.specs.PlayedTicks.{PlaysTicks}
use Rattle.stations.specs.declared.tick.Tick.{Tick}
use Rattle.stations.proofs.Lengths.{length-stays}
use Rattle.stations.proofs.TickLoops.{empty-ticks, plays-none}
use Rattle.stations.proofs.lent_bus.LentBus.finish.Goals as goal

pub returns-then-is_empty : goal.returns-then-is_empty
returns-then-is_empty g c =
    let bus = c.args.self.now in
    let now = watched_by bus in
    let none : bus.ticks.now ≡ [] = empty-ticks bus.ticks.now c.if-is_empty.ensures in
    record {
      lent = record { stations = refl; observer = refl; host = refl };
      plays = subst (λ (ticks : List Tick). PlaysTicks g.O.Observer (without_go is_go ticks) bus.accesses now now) (sym none)
          (plays-none g.met.O.Observer.composes now bus.accesses);
      none = none;
      count = refl;
    }

pub invariant_of-self : goal.invariant_of-self
invariant_of-self g c =
    let plays = c.play_without_go.ensures in
    let host = c.args.self.now.host in
    let stays = length-stays host plays.steps c.args.self.now.stations.now c.play_without_go.new.self (plays.leads host) in
    record { there = omega (arith, c.args.self.now.there, stays); room = omega arith }
