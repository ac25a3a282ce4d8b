-- Any steps and deliveries may happen between two accesses.
use Rattle.std.proofs.Common.{List, [], ◌∷◌, sym, subst}
use Rattle.std.specs.List.{All}
use Rattle.bus.specs.Law.{Happens}
use Rattle.bus.specs.Pasts.{nothing}
use Rattle.bus.specs.Trails.{IsStep, Occurs, Trail, TrailsHappen, past_of, past_of_event, world_after}
use Rattle.bus.specs.declared.event.Event.{Event}
use Rattle.bus.specs.declared.event.Event.TheVariants.{Accesses, Arrives, Steps}
use Rattle.adapter_model.specs.World.{World}
use Rattle.bus.proofs.Composition.{happens_none, happens_trans}
use Rattle.bus.proofs.StepInstances.{arrivals_happen, steps_happen}
use Rattle.bus.proofs.Lists.{all-head, all-tail}

pub event_happens : (event : Event) (a : World) → IsStep event → Occurs event a → Happens a (world_after event a) (past_of_event event)
event_happens (Steps kind wire_free answer) a is occurs = steps_happen a kind wire_free answer occurs.0 occurs.1
event_happens (Arrives frame fate) a is occurs = arrivals_happen a fate frame occurs.0 occurs.1
event_happens (Accesses access) a is occurs = absurd is

pub trail_happens : (events : List Event) (a b : World) → All IsStep events → Trail events a b → Happens a b (past_of events)
trail_happens [] a b are same = subst (λ (w : World). Happens a w nothing) (sym same) (happens_none a)
trail_happens (event ∷ later) a b are trail =
    let first = event_happens event a (all-head IsStep event later are) trail.0 in
    happens_trans a (world_after event a) b (past_of_event event) (past_of later) first
    (trail_happens later (world_after event a) b (all-tail IsStep event later are) trail.1)

pub trails_happen : TrailsHappen
trails_happen events a b are trail = trail_happens events a b are trail
