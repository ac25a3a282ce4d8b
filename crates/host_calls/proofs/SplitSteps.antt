-- Atomic steps of a call, split at one of its accesses.
use Rattle.std.proofs.Common.{◌≡◌, ◌≤◌, ◌+◌, ◌++◌, ◌∷◌, [], ℕ, Bool, List, if◌then◌else◌, refl, sym, ap, subst, ◌∙◌}
use Rattle.std.proofs.Common.{arith, length, min}
use Rattle.std.specs.List.{All}
use Rattle.std.proofs.lemmas.Bool.{eq-eqb}
use Rattle.std.proofs.lemmas.List.Elements.{All-cons}
use Rattle.adapter.proofs.Lists.{all-head, all-none, all-tail}
use Rattle.adapter.specs.LivelyBuses.{most_accesses}
use Rattle.adapter.specs.Trails.{past_of}
use Rattle.adapter.specs.bus_types.event.Access.{Access}
use Rattle.adapter.specs.bus_types.event.Event.TheVariants.{Accesses, Arrives, Steps}
use Rattle.stations.specs.AtomicSteps.{At, AtomicStep, CanHappen, Idles, IsNoAccess, after_atomic}
use Rattle.stations.specs.Stations.{StationState}
use Rattle.stations.specs.AtomicRuns.{IsOfCall, IsTick, LeadsTo, counted_of, events_at, past_at}
use Rattle.host_calls.specs.CallsOfHosts.{EndsWithAccess}
use Rattle.host_calls.proofs.FirstAccess.{tick-accesses}

-- The steps from the stations `a` to `b` contain the access of host k, after its accesses `first` and before its
-- accesses `later`.
pub record SplitSteps (k : ℕ) (access : Access) (first later : List Access) (steps : List AtomicStep) (a b : List StationState) : Type 0
  where
    pub before : List AtomicStep
    pub behind : List AtomicStep
    -- the stations right before the access
    pub middle : List StationState
    pub split : steps ≡ before ++ At k (Accesses access) ∷ behind
    pub before_are : (past_at k before).accesses ≡ first
    pub behind_are : (past_at k behind).accesses ≡ later
    pub leads : LeadsTo k before a middle
    pub rest : LeadsTo k (At k (Accesses access) ∷ behind) middle b

pub own-accesses : (k host : ℕ) (one : Access) (later : List AtomicStep) → host ≡ k
    → (past_at k (At host (Accesses one) ∷ later)).accesses ≡ one ∷ (past_at k later).accesses
own-accesses k host one later is =
    ap (λ (here : Bool). (past_of ((if here then Accesses one ∷ [] else []) ++ events_at k later)).accesses) (eq-eqb k host (sym is))

tick-before : (k : ℕ) (step : AtomicStep) (steps : List AtomicStep) (a b : List StationState) (access : Access) (first later : List Access)
    → IsTick step → CanHappen step a → IsOfCall k step → SplitSteps k access first later steps (after_atomic step a) b
    → SplitSteps k access first later (step ∷ steps) a b
tick-before k step steps a b access first later is happens of_call found = record {
  before = step ∷ found.before;
  behind = found.behind;
  middle = found.middle;
  split = ap (λ (list : List AtomicStep). step ∷ list) found.split;
  before_are = tick-accesses k step found.before is ∙ found.before_are;
  behind_are = found.behind_are;
  leads = (happens, of_call, found.leads);
  rest = found.rest;
}

pub split-steps : (k : ℕ) (steps : List AtomicStep) (a b : List StationState) (access : Access) (first later : List Access)
    → LeadsTo k steps a b → (past_at k steps).accesses ≡ first ++ access ∷ later → SplitSteps k access first later steps a b
split-steps k [] a b access [] later leads is = absurd (cc)
split-steps k [] a b access (one ∷ first) later leads is = absurd (cc)
split-steps k (At host (Steps kind wire_free answer) ∷ steps) a b access first later leads is =
    let step = At host (Steps kind wire_free answer) in
    tick-before k step steps a b access first later tt leads.0 leads.1
    (split-steps k steps (after_atomic step a) b access first later leads.2 (sym (tick-accesses k step steps tt) ∙ is))
split-steps k (At host (Arrives frame fate) ∷ steps) a b access first later leads is =
    let step = At host (Arrives frame fate) in
    tick-before k step steps a b access first later tt leads.0 leads.1
    (split-steps k steps (after_atomic step a) b access first later leads.2 (sym (tick-accesses k step steps tt) ∙ is))
split-steps k (Idles tick ∷ steps) a b access first later leads is =
    tick-before k (Idles tick) steps a b access first later leads.1 leads.0 leads.1
    (split-steps k steps a b access first later leads.2 is)
split-steps k (At host (Accesses one) ∷ steps) a b access [] later leads is =
    let begins : one ∷ (past_at k steps).accesses ≡ access ∷ later = sym (own-accesses k host one steps leads.1) ∙ is in
    let same : one ≡ access = cc begins in
    let Here : ℕ → Access → Type 0 = λ n x. LeadsTo k (At n (Accesses x) ∷ steps) a b in
    record {
      before = [];
      behind = steps;
      middle = a;
      split = ap (λ (n : ℕ). At n (Accesses one) ∷ steps) leads.1 ∙ ap (λ (x : Access). At k (Accesses x) ∷ steps) same;
      before_are = refl;
      behind_are = cc begins;
      leads = refl;
      rest = subst (Here k) same (subst (λ (n : ℕ). Here n one) leads.1 leads);
    }
split-steps k (At host (Accesses one) ∷ steps) a b access (other ∷ first) later leads is =
    let step = At host (Accesses one) in
    let begins : one ∷ (past_at k steps).accesses ≡ other ∷ (first ++ access ∷ later) = sym (own-accesses k host one steps leads.1) ∙ is in
    let found = split-steps k steps (after_atomic step a) b access first later leads.2 (cc begins) in
    record {
      before = step ∷ found.before;
      behind = found.behind;
      middle = found.middle;
      split = ap (λ (list : List AtomicStep). step ∷ list) found.split;
      before_are = own-accesses k host one found.before leads.1
          ∙ ap (λ (x : Access). x ∷ (past_at k found.before).accesses) (cc begins)
          ∙ ap (λ (list : List Access). other ∷ list) found.before_are;
      behind_are = found.behind_are;
      leads = (leads.0, leads.1, found.leads);
      rest = found.rest;
    }

pub ticks-alone : (k : ℕ) (steps : List AtomicStep) (a b : List StationState) → LeadsTo k steps a b → (past_at k steps).accesses ≡ []
    → All IsTick steps
ticks-alone k [] a b leads none = all-none IsTick
ticks-alone k (At host (Steps kind wire_free answer) ∷ steps) a b leads none =
    let step = At host (Steps kind wire_free answer) in
    All-cons IsTick step steps tt
    (ticks-alone k steps (after_atomic step a) b leads.2 (sym (tick-accesses k step steps tt) ∙ none))
ticks-alone k (At host (Arrives frame fate) ∷ steps) a b leads none =
    let step = At host (Arrives frame fate) in
    All-cons IsTick step steps tt
    (ticks-alone k steps (after_atomic step a) b leads.2 (sym (tick-accesses k step steps tt) ∙ none))
ticks-alone k (Idles tick ∷ steps) a b leads none =
    All-cons IsTick (Idles tick) steps leads.1 (ticks-alone k steps a b leads.2 none)
ticks-alone k (At host (Accesses one) ∷ steps) a b leads none =
    let some : one ∷ (past_at k steps).accesses ≡ [] = sym (own-accesses k host one steps leads.1) ∙ none in absurd (cc some)

-- If the last step is an access and no access follows the split one, no tick follows the split one

no-tick_last : (step : AtomicStep) → IsTick step → ¬ IsNoAccess step → ⊥
no-tick_last (At host (Steps kind wire_free answer)) is last = last tt
no-tick_last (At host (Arrives frame fate)) is last = last tt
no-tick_last (At host (Accesses access)) is last = absurd (cc is)
no-tick_last (Idles tick) is last = last tt

no-ticks_last : (step : AtomicStep) (behind : List AtomicStep) → All IsTick behind → EndsWithAccess (step ∷ behind) → behind ≡ []
no-ticks_last step [] are ends = refl
no-ticks_last step (next ∷ later) are ends =
    let none = no-ticks_last next later (all-tail IsTick next later are) ends in
    absurd (no-tick_last next (all-head IsTick next later are)
    (subst (λ (list : List AtomicStep). EndsWithAccess (next ∷ list)) none ends))

ends-behind : (before : List AtomicStep) (step : AtomicStep) (behind : List AtomicStep) → EndsWithAccess (before ++ step ∷ behind)
    → EndsWithAccess (step ∷ behind)
ends-behind [] step behind ends = ends
ends-behind (first ∷ []) step behind ends = ends
ends-behind (first ∷ next ∷ before) step behind ends = ends-behind (next ∷ before) step behind ends

pub nothing-behind : (k : ℕ) (access : Access) (first : List Access) (steps : List AtomicStep) (a b : List StationState)
    → (found : SplitSteps k access first [] steps a b) → EndsWithAccess steps → found.behind ≡ []
nothing-behind k access first steps a b found ends =
    let step = At k (Accesses access) in
    no-ticks_last step found.behind
    (ticks-alone k found.behind (after_atomic step found.middle) b found.rest.2 found.behind_are)
    (ends-behind found.before step found.behind (subst EndsWithAccess found.split ends))

pub counted-accesses : (k n : ℕ) (steps : List AtomicStep) (a b : List StationState) → LeadsTo k steps a b
    → n + length (past_at k steps).accesses ≤ most_accesses → counted_of n steps ≡ n + length (past_at k steps).accesses
counted-accesses k n [] a b leads few = omega arith
counted-accesses k n (At host (Steps kind wire_free answer) ∷ steps) a b leads few =
    let step = At host (Steps kind wire_free answer) in
    let count = ap length (tick-accesses k step steps tt) in
    let rest = counted-accesses k n steps (after_atomic step a) b leads.2 (omega (arith, count)) in omega (arith, rest, count)
counted-accesses k n (At host (Arrives frame fate) ∷ steps) a b leads few =
    let step = At host (Arrives frame fate) in
    let count = ap length (tick-accesses k step steps tt) in
    let rest = counted-accesses k n steps (after_atomic step a) b leads.2 (omega (arith, count)) in omega (arith, rest, count)
counted-accesses k n (At host (Accesses access) ∷ steps) a b leads few =
    let count = ap length (own-accesses k host access steps leads.1) in
    let rest = counted-accesses k (min (n + 1) most_accesses) steps (after_atomic (At host (Accesses access)) a) b leads.2
    (omega (arith, count)) in
    omega (arith, rest, count)
counted-accesses k n (Idles tick ∷ steps) a b leads few = counted-accesses k n steps a b leads.2 few
