-- Steps and deliveries with the outcome Nothing record no cause.
use Rattle.std.proofs.Common.{◌≡◌, ◌≢◌, ◌==◌, ◌⊎◌, ◌++◌, ◌∷◌, [], ℕ, Bool, true, false, Some, None, List, inl, inr}
use Rattle.std.proofs.Common.{if◌then◌else◌, refl, sym, ap, subst, ◌∙◌}
use Rattle.std.specs.List.{All}
use Rattle.std.proofs.lemmas.Bool.Decides.{eqb_tells}
use Rattle.std.proofs.lemmas.List.Elements.{All-cons}
use Rattle.mdic_phy.specs.Mdic.{has_work}
use Rattle.mdic_phy.specs.declared.mdic.Ticked.{Ticked}
use Rattle.registers.specs.Bits.{HasBit}
use Rattle.registers.specs.Laws.{HasBit-union, HasBit-zero}
use Rattle.adapter.specs.State.{AdapterState}
use Rattle.adapter.specs.Steps.{ticked}
use Rattle.adapter.specs.World.{World}
use Rattle.adapter.specs.model_types.step.StepKind.{StepKind}
use Rattle.adapter.specs.model_types.step.StepKind.TheVariants.{EepromTick, PhyTick, RxData, RxDone, TxPut, TxTake}
use Rattle.adapter.specs.Outcomes.{FrameOutcome}
use Rattle.adapter.specs.model_types.outcome.Outcome.TheVariants.{Nothing}
use Rattle.adapter.proofs.Lists.{all-head, all-none, all-tail}
use Rattle.adapter.specs.TrailCauses.{causes_by, causes_by_step, causes_by_tick, causes_in}
use Rattle.adapter.specs.Trails.{Occurs, Trail, world_after}
use Rattle.adapter.specs.bus_types.event.Event.{Event}
use Rattle.adapter.specs.bus_types.event.Event.TheVariants.{Accesses, Arrives, Steps}
use Rattle.stations.specs.AtomicSteps.{At, AtomicStep, Idles, outcome_of_event}
use Rattle.stations.specs.AtomicRuns.{events_at}
use Rattle.host_calls.specs.InterruptCauses.{DidSomething}

abbrev pub IsSilent : Event → Type 0
IsSilent event = outcome_of_event event ≡ Nothing

is-nothing : (outcome : FrameOutcome) → (outcome ≡ Nothing) ⊎ (outcome ≢ Nothing)
is-nothing Nothing = inl refl
is-nothing _ = inr (λ same. absurd (cc same))

silent-tick : (work : Bool) (tells : Ticked) → Nothing ≡ ticked work → causes_by_tick (if work then Some tells else None) ≡ 0
silent-tick true tells same = absurd (cc same)
silent-tick false tells same = refl

silent-step : (kind : StepKind) (adapter : AdapterState)
    → (kind ≡ PhyTick → Nothing ≡ ticked (has_work adapter.mdic adapter.phy)) → causes_by_step kind Nothing adapter ≡ 0
silent-step TxTake adapter tick = refl
silent-step TxPut adapter tick = refl
silent-step RxData adapter tick = refl
silent-step RxDone adapter tick = refl
silent-step EepromTick adapter tick = refl
silent-step PhyTick adapter tick = silent-tick (has_work adapter.mdic adapter.phy) _ (tick refl)

no-tick : (kind : StepKind) (world : World) (wire_free : Bool) (answer : FrameOutcome) → Occurs (Steps kind wire_free answer) world
    → answer ≡ Nothing → kind ≡ PhyTick → Nothing ≡ ticked (has_work world.adapter.mdic world.adapter.phy)
no-tick PhyTick world wire_free answer occurs nothing is = sym nothing ∙ occurs.1
no-tick TxTake world wire_free answer occurs nothing is = absurd (cc is)
no-tick TxPut world wire_free answer occurs nothing is = absurd (cc is)
no-tick RxData world wire_free answer occurs nothing is = absurd (cc is)
no-tick RxDone world wire_free answer occurs nothing is = absurd (cc is)
no-tick EepromTick world wire_free answer occurs nothing is = absurd (cc is)

silent-event : (event : Event) (world : World) → Occurs event world → IsSilent event → causes_by event world ≡ 0
silent-event (Steps kind wire_free answer) world occurs silent =
    ap (λ (s : FrameOutcome). causes_by_step kind s world.adapter) silent
    ∙ silent-step kind world.adapter (no-tick kind world wire_free answer occurs silent)
silent-event (Arrives frame fate) world occurs silent = absurd (cc silent)
silent-event (Accesses access) world occurs silent = refl

pub silent-events : (events : List Event) (a b : World) (number : ℕ) → Trail events a b → All IsSilent events
    → ¬ (HasBit (causes_in events a) number)
silent-events [] a b number trail silent set = HasBit-zero number set
silent-events (event ∷ later) a b number trail silent set =
    let first : causes_by event a ≡ 0 = silent-event event a trail.0 (all-head IsSilent event later silent) in
    elim ((HasBit-union (causes_by event a) (causes_in later (world_after event a)) number).0 set) [
      | inl here ↦ HasBit-zero number (subst (λ (n : ℕ). HasBit n number) first here)
      | inr behind ↦
          silent-events later (world_after event a) b number trail.1 (all-tail IsSilent event later silent) behind
    ]

-- An event at the caller has an outcome other than Nothing, or the outcome of each event at the caller is Nothing

did-before : (caller : ℕ) (step : AtomicStep) (later : List AtomicStep) → DidSomething caller later → DidSomething caller (step ∷ later)
did-before caller step later did = record {
  before = step ∷ did.before;
  event = did.event;
  behind = did.behind;
  split = ap (λ (list : List AtomicStep). step ∷ list) did.split;
  something = did.something;
}

did-first : (caller host : ℕ) (event : Event) (later : List AtomicStep) → caller ≡ host → outcome_of_event event ≢ Nothing
    → DidSomething caller (At host event ∷ later)
did-first caller host event later same something = record {
  before = [];
  event = event;
  behind = later;
  split = ap (λ (k : ℕ). At k event ∷ later) (sym same);
  something = something;
}

silent-first : (here : Bool) (event : Event) (others : List Event) → (here ≡ true → IsSilent event) → All IsSilent others
    → All IsSilent ((if here then event ∷ [] else []) ++ others)
silent-first true event others is all = All-cons IsSilent event others (is refl) all
silent-first false event others is all = all

pub did-or_silent : (caller : ℕ) (steps : List AtomicStep) → DidSomething caller steps ⊎ All IsSilent (events_at caller steps)
did-or_silent caller [] = inr (all-none IsSilent)
did-or_silent caller (Idles tick ∷ later) =
    elim (did-or_silent caller later) [ inl did ↦ inl (did-before caller (Idles tick) later did) | inr silent ↦ inr silent ]
did-or_silent caller (At host event ∷ later) =
    elim (did-or_silent caller later) [
      | inl did ↦ inl (did-before caller (At host event) later did)
      | inr silent ↦ elim (eqb_tells caller host) [
        | inl same ↦ elim (is-nothing (outcome_of_event event)) [
          | inl nothing ↦ inr (silent-first (caller == host) event (events_at caller later) (λ here. nothing) silent)
          | inr something ↦ inl (did-first caller host event later same.1 something)
        ]
        | inr other ↦ inr (silent-first (caller == host) event (events_at caller later) (λ here. absurd (cc (here, other.0))) silent)
      ]
    ]
