-- Over a lively bus no frame arrives, and the adapter changes only by accesses and by ticks of its EEPROM and PHY.
use Rattle.std.proofs.Common.{◌++◌, ◌∷◌, [], All, ℕ, List, refl, sym, ap, subst, ◌∙◌, arith}
use Rattle.mdic_phy.specs.declared.phy.Link.{Link}
use Rattle.adapter.specs.Outcomes.{FrameOutcome}
use Rattle.adapter.specs.World.{World}
use Rattle.adapter.specs.model_types.step.StepKind.{StepKind}
use Rattle.adapter.specs.model_types.step.StepKind.TheVariants.{TxTake, TxPut, RxData, RxDone, EepromTick, PhyTick}
use Rattle.adapter.specs.LivelyBuses.{IsQuietEvent, Lives, machine_world}
use Rattle.adapter.specs.Pasts.{Past, joined}
use Rattle.adapter.specs.Settings.{NoArrival}
use Rattle.adapter.specs.StepsAndArrivals.{past_of_step}
use Rattle.adapter.specs.Trails.{Trail, past_of, world_after}
use Rattle.adapter.specs.bus_types.event.Event.{Event}
use Rattle.adapter.specs.bus_types.event.Event.TheVariants.{Accesses, Arrives, Steps}
use Rattle.adapter.specs.bus_types.lively_bus.LivelyBus.{LivelyBus}
use Rattle.adapter.proofs.Lists.{all-head, all-tail}
use Rattle.wire.proofs.OwnTicks.{IsAdapterOf, access-leaves, phy-tick-leaves}

step-none : (kind : StepKind) (answer : FrameOutcome) → NoArrival (past_of_step kind answer)
step-none TxTake answer = record { none_stored = refl; none_missed = refl }
step-none TxPut answer = record { none_stored = refl; none_missed = refl }
step-none RxData answer = record { none_stored = refl; none_missed = refl }
step-none RxDone answer = record { none_stored = refl; none_missed = refl }
step-none EepromTick answer = record { none_stored = refl; none_missed = refl }
step-none PhyTick answer = record { none_stored = refl; none_missed = refl }

joined-none : (first later : Past) → NoArrival first → NoArrival later → NoArrival (joined first later)
joined-none first later one two = record {
  none_stored = ap (λ (frames : List (List ℕ)). frames ++ later.stored) one.none_stored ∙ two.none_stored;
  none_missed = omega (arith, one.none_missed, two.none_missed);
}

events-none : (events : List Event) → All IsQuietEvent events → NoArrival (past_of events)
events-none [] quiet = record { none_stored = refl; none_missed = refl }
events-none (Steps kind wire_free answer ∷ later) quiet =
    joined-none (past_of_step kind answer) (past_of later) (step-none kind answer)
    (events-none later (all-tail IsQuietEvent (Steps kind wire_free answer) later quiet))
events-none (Arrives frame fate ∷ later) quiet = absurd (all-head IsQuietEvent (Arrives frame fate) later quiet)
events-none (Accesses access ∷ later) quiet =
    let rest = events-none later (all-tail IsQuietEvent (Accesses access) later quiet) in
    record { none_stored = rest.none_stored; none_missed = omega (arith, rest.none_missed) }

event-leaves : (link : Link) (event : Event) (world : World) → IsQuietEvent event → IsAdapterOf link world.adapter
    → IsAdapterOf link (world_after event world).adapter
event-leaves link (Steps EepromTick wire_free answer) world quiet is = is
event-leaves link (Steps PhyTick wire_free answer) world quiet is = phy-tick-leaves link world.adapter is
event-leaves link (Accesses access) world quiet is = access-leaves link access world is
event-leaves link event world quiet is = absurd quiet

events-leave : (link : Link) (events : List Event) (a b : World) → All IsQuietEvent events → Trail events a b
    → IsAdapterOf link a.adapter → IsAdapterOf link b.adapter
events-leave link [] a b quiet trail is = subst (λ (world : World). IsAdapterOf link world.adapter) (sym trail) is
events-leave link (event ∷ later) a b quiet trail is =
    events-leave link later (world_after event a) b (all-tail IsQuietEvent event later quiet) trail.1
    (event-leaves link event a (all-head IsQuietEvent event later quiet) is)

-- In an interval of a lively bus, no frame is stored or missed, and `IsAdapterOf` remains true.
pub record IsAlone (a b : LivelyBus) (past : Past) : Type 0 where
  pub none : NoArrival past
  pub leaves : (link : Link) → IsAdapterOf link (machine_world a).adapter → IsAdapterOf link (machine_world b).adapter

pub alone-stays : (a b : LivelyBus) (past : Past) → Lives a b past → IsAlone a b past
alone-stays a b past lives = record {
  none = subst NoArrival (sym lives.past_is) (events-none lives.events lives.quiet);
  leaves = λ link. events-leave link lives.events (machine_world a) (machine_world b) lives.quiet lives.trail;
}
