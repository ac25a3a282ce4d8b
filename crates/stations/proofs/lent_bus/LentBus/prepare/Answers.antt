use Rattle.std.proofs.Common.{◌≡◌, [], List, ap, refl, subst, sym, ◌∙◌}
use Rattle.adapter.specs.TickGroups.{behind_group, group_of}
use Rattle.stations.specs.AtomicRuns.{is_go}
use Rattle.stations.specs.LentBuses.{watched_by}
use Rattle.stations.specs.PlayedTicks.{PlaysTicks}
use Rattle.stations.specs.declared.tick.Tick.{Tick}
use Rattle.stations.proofs.TickLoops.{empty-ticks, plays-none}
use Rattle.stations.proofs.lent_bus.LentBus.prepare.Goals as goal

pub returns-then-is_empty : goal.returns-then-is_empty
returns-then-is_empty g c =
    let bus = c.args.self.now in
    let now = watched_by bus in
    let none : bus.ticks.now ≡ [] = empty-ticks bus.ticks.now c.if-is_empty.ensures in
    record {
      lent = record { stations = refl; observer = refl; host = refl };
      plays = subst (λ (ticks : List Tick). PlaysTicks g.O.Observer (group_of is_go ticks) bus.accesses now now) (sym none)
          (plays-none g.met.O.Observer.composes now bus.accesses);
      waiting = none ∙ ap (behind_group is_go) (sym none);
      count = c.saturating_add-self.ensures;
    }
