-- The events at each host: accesses only at the caller, steps and deliveries at any host.
use Rattle.std.proofs.Common.{◌≡◌, ◌≢◌, ◌==◌, ◌++◌, ◌∷◌, [], ℕ, Bool, true, false, List, inl, inr, if◌then◌else◌, sym, subst, ◌∙◌}
use Rattle.std.specs.List.{All}
use Rattle.std.proofs.lemmas.Bool.Decides.{eqb_tells}
use Rattle.std.proofs.lemmas.List.Elements.{All-cons}
use Rattle.adapter.proofs.Lists.{all-none}
use Rattle.adapter.proofs.Trails.{trail_happens}
use Rattle.adapter.specs.Law.{Happens}
use Rattle.adapter.specs.Trails.{IsStep}
use Rattle.adapter.specs.bus_types.event.Event.{Event}
use Rattle.adapter.specs.bus_types.event.Event.TheVariants.{Accesses, Arrives, Steps}
use Rattle.stations.specs.AtomicSteps.{At, AtomicStep, Idles, after_atomic}
use Rattle.stations.specs.Stations.{StationState, world_at}
use Rattle.stations.proofs.HostTrails.{steps-alone, trail-of}
use Rattle.stations.specs.AtomicRuns.{IsOfCall, IsTick, LeadsTo, events_at, past_at}
use Rattle.adapter.proofs.StepsThenAccess.{no_access}

elsewhere : (caller k host : ℕ) (event : Event) → k ≢ caller → IsOfCall caller (At host event) → (later : List Event) → All IsStep later
    → All IsStep ((if k == host then event ∷ [] else []) ++ later)
elsewhere caller k host (Steps kind wire_free answer) other is later are = chosen (k == host)
  where
    chosen : (here : Bool) → All IsStep ((if here then Steps kind wire_free answer ∷ [] else []) ++ later)
    chosen true = All-cons IsStep (Steps kind wire_free answer) later tt are
    chosen false = are
elsewhere caller k host (Arrives frame fate) other is later are = chosen (k == host)
  where
    chosen : (here : Bool) → All IsStep ((if here then Arrives frame fate ∷ [] else []) ++ later)
    chosen true = All-cons IsStep (Arrives frame fate) later tt are
    chosen false = are
elsewhere caller k host (Accesses access) other is later are =
    elim (eqb_tells k host) [
      | inl same ↦ absurd (other (same.1 ∙ is))
      | inr differ ↦ subst (λ (here : Bool). All IsStep ((if here then Accesses access ∷ [] else []) ++ later)) (sym differ.0) are
    ]

pub steps-elsewhere : (caller k : ℕ) (steps : List AtomicStep) (a b : List StationState) → k ≢ caller → LeadsTo caller steps a b
    → All IsStep (events_at k steps)
steps-elsewhere caller k [] a b other leads = all-none IsStep
steps-elsewhere caller k (At host event ∷ later) a b other leads =
    elsewhere caller k host event other leads.1 (events_at k later)
    (steps-elsewhere caller k later (after_atomic (At host event) a) b other leads.2)
steps-elsewhere caller k (Idles tick ∷ later) a b other leads = steps-elsewhere caller k later a b other leads.2

pub happens-elsewhere : (caller k : ℕ) (steps : List AtomicStep) (a b : List StationState) → k ≢ caller → LeadsTo caller steps a b
    → Happens (world_at a k) (world_at b k) (past_at k steps)
happens-elsewhere caller k steps a b other leads =
    trail_happens (events_at k steps) (world_at a k) (world_at b k) (steps-elsewhere caller k steps a b other leads)
    (trail-of caller k steps a b leads)

pub happens-alone : (caller k : ℕ) (steps : List AtomicStep) (a b : List StationState) → All IsTick steps → LeadsTo caller steps a b
    → Happens (world_at a k) (world_at b k) (past_at k steps)
happens-alone caller k steps a b are leads =
    trail_happens (events_at k steps) (world_at a k) (world_at b k) (steps-alone k steps are) (trail-of caller k steps a b leads)

pub none-elsewhere : (caller k : ℕ) (steps : List AtomicStep) (a b : List StationState) → k ≢ caller → LeadsTo caller steps a b
    → (past_at k steps).accesses ≡ []
none-elsewhere caller k steps a b other leads = no_access (events_at k steps) (steps-elsewhere caller k steps a b other leads)

pub none-alone : (k : ℕ) (steps : List AtomicStep) → All IsTick steps → (past_at k steps).accesses ≡ []
none-alone k steps are = no_access (events_at k steps) (steps-alone k steps are)
