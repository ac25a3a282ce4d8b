-- The first access among atomic steps, and the ticks before it.
use Rattle.std.proofs.Common.{◌≡◌, ◌==◌, ◌++◌, ◌∷◌, [], ℕ, Bool, true, List, if◌then◌else◌, refl, sym, ap, subst, ◌∙◌}
use Rattle.std.specs.List.{All}
use Rattle.std.proofs.lemmas.Bool.{eq-eqb}
use Rattle.std.proofs.lemmas.List.Elements.{All-cons}
use Rattle.adapter.proofs.Lists.{all-none}
use Rattle.adapter.specs.Pasts.{Past}
use Rattle.adapter.specs.Trails.{IsAnswered, past_of}
use Rattle.adapter.specs.bus_types.event.Access.{Access}
use Rattle.adapter.specs.bus_types.event.Event.TheVariants.{Accesses, Arrives, Steps}
use Rattle.adapter.proofs.StepsThenAccess.{no_access}
use Rattle.stations.specs.AtomicSteps.{At, AtomicStep, CanHappen, Idles, after_atomic}
use Rattle.stations.specs.Stations.{StationState, world_at}
use Rattle.stations.proofs.HostTrails.{steps-alone}
use Rattle.stations.specs.AtomicRunLaws.{past_join}
use Rattle.stations.specs.AtomicRuns.{IsOfCall, IsTick, LeadsTo, events_at, past_at}

-- The access is the caller's first one among these steps from the stations `a`; `middle` are the stations right before
-- the access.
pub record FirstAccess (caller : ℕ) (steps : List AtomicStep) (a : List StationState) (access : Access) : Type 0 where
  pub early : List AtomicStep
  pub later : List AtomicStep
  pub middle : List StationState
  pub split : steps ≡ early ++ At caller (Accesses access) ∷ later
  pub ticks : All IsTick early
  pub leads : LeadsTo caller early a middle
  pub answered : IsAnswered access (world_at middle caller)

behind-tick : (caller : ℕ) (step : AtomicStep) (steps : List AtomicStep) (a : List StationState) (access : Access) → IsTick step
    → CanHappen step a → IsOfCall caller step → FirstAccess caller steps (after_atomic step a) access
    → FirstAccess caller (step ∷ steps) a access
behind-tick caller step steps a access is happens of_call first = record {
  early = step ∷ first.early;
  later = first.later;
  middle = first.middle;
  split = ap (λ (list : List AtomicStep). step ∷ list) first.split;
  ticks = All-cons IsTick step first.early is first.ticks;
  leads = (happens, of_call, first.leads);
  answered = first.answered;
}

pub tick-accesses : (k : ℕ) (step : AtomicStep) (later : List AtomicStep) → IsTick step
    → (past_at k (step ∷ later)).accesses ≡ (past_at k later).accesses
tick-accesses k step later is =
    let alone = steps-alone k (step ∷ []) (All-cons IsTick step [] is (all-none IsTick)) in
    ap (λ (past : Past). past.accesses) (past_join k (step ∷ []) later)
    ∙ ap (λ (list : List Access). list ++ (past_at k later).accesses) (no_access (events_at k (step ∷ [])) alone)

pub first-access : (caller : ℕ) (steps : List AtomicStep) (a b : List StationState) (access : Access) (more : List Access)
    → LeadsTo caller steps a b → (past_at caller steps).accesses ≡ access ∷ more → FirstAccess caller steps a access
first-access caller [] a b access more leads is = absurd (cc)
first-access caller (At host (Steps kind wire_free answer) ∷ later) a b access more leads is =
    let step = At host (Steps kind wire_free answer) in
    behind-tick caller step later a access tt leads.0 leads.1
    (first-access caller later (after_atomic step a) b access more leads.2 (sym (tick-accesses caller step later tt) ∙ is))
first-access caller (At host (Arrives frame fate) ∷ later) a b access more leads is =
    let step = At host (Arrives frame fate) in
    behind-tick caller step later a access tt leads.0 leads.1
    (first-access caller later (after_atomic step a) b access more leads.2 (sym (tick-accesses caller step later tt) ∙ is))
first-access caller (Idles tick ∷ later) a b access more leads is =
    behind-tick caller (Idles tick) later a access leads.1 leads.0 leads.1
    (first-access caller later a b access more leads.2 is)
first-access caller (At host (Accesses one) ∷ later) a b access more leads is =
    let here : (caller == host) ≡ true = eq-eqb caller host (sym leads.1) in
    let begins : one ∷ (past_of (events_at caller later)).accesses ≡ access ∷ more =
    subst (λ (c : Bool). (past_of ((if c then Accesses one ∷ [] else []) ++ events_at caller later)).accesses ≡ access ∷ more) here is in
    let same : one ≡ access = cc begins in
    record {
      early = [];
      later = later;
      middle = a;
      split =
          ap (λ (k : ℕ). At k (Accesses one) ∷ later) leads.1
          ∙ ap (λ (x : Access). At caller (Accesses x) ∷ later) same;
      ticks = all-none IsTick;
      leads = refl;
      answered =
          subst (λ (x : Access). IsAnswered x (world_at a caller)) same
          (subst (λ (k : ℕ). IsAnswered one (world_at a k)) leads.1 leads.0.occurs);
    }
