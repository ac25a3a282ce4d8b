-- Laws of two consecutive lists of atomic steps, and of what is noted of atomic steps.
use Rattle.std.proofs.Common.{◌≡◌, ℕ, List, [], ◌∷◌, ◌++◌, map, refl, sym, ap, subst, ◌∙◌, append_assoc}
use Rattle.std.proofs.lemmas.Grind.{flat_map-append}
use Rattle.adapter.specs.Pasts.{joined}
use Rattle.adapter.specs.TrailLaws.{past_of-append}
use Rattle.adapter.specs.Trails.{past_of}
use Rattle.adapter.specs.bus_types.event.Event.TheVariants.{Accesses, Arrives, Steps}
use Rattle.stations.specs.AtomicSteps.{At, AtomicStep, Idles, after_atomic}
use Rattle.stations.specs.Stations.{StationState}
use Rattle.stations.specs.Outcomes.{note_of}
use Rattle.stations.specs.declared.outcomes.Numbered.{Numbered}
use Rattle.stations.specs.AtomicRuns.{
  LeadsTo,
  counted_by,
  counted_of,
  events_at,
  events_by,
  noted_by,
  noted_of,
  numbered_outcome,
  past_at,
  step_told,
  steps_told,
}

pub leads_join : (caller : ℕ) (first later : List AtomicStep) (a b c : List StationState) → LeadsTo caller first a b
    → LeadsTo caller later b c
    → LeadsTo caller (first ++ later) a c
leads_join caller [] later a b c one two = subst (λ (ss : List StationState). LeadsTo caller later ss c) one two
leads_join caller (step ∷ first) later a b c one two = (one.0, one.1, leads_join caller first later (after_atomic step a) b c one.2 two)

-- The list `all` of some steps consists of the lists `of_step` of each step, in order.
each_join : {X : Type 0} (of_step : ℕ → AtomicStep → List X) (all : ℕ → List AtomicStep → List X) → ((n : ℕ) → all n [] ≡ [])
    → ((n : ℕ) (step : AtomicStep) (later : List AtomicStep) → all n (step ∷ later) ≡ of_step n step ++ all (counted_by n step) later)
    → (n : ℕ) (first later : List AtomicStep) → all n (first ++ later) ≡ all n first ++ all (counted_of n first) later
each_join {X} of_step all none more n [] later = ap (λ (list : List X). list ++ all n later) (sym (none n))
each_join {X} of_step all none more n (step ∷ first) later =
    more n step (first ++ later)
    ∙ ap (λ (list : List X). of_step n step ++ list) (each_join of_step all none more (counted_by n step) first later)
    ∙ sym (append_assoc (of_step n step) (all (counted_by n step) first) (all (counted_of (counted_by n step) first) later))
    ∙ ap (λ (list : List X). list ++ all (counted_of (counted_by n step) first) later) (sym (more n step first))

pub noted_join : (n : ℕ) (first later : List AtomicStep)
    → noted_of n (first ++ later) ≡ noted_of n first ++ noted_of (counted_of n first) later
noted_join n first later = each_join noted_by noted_of (λ n. refl) (λ n step later. refl) n first later

pub steps_told_join : (n : ℕ) (first later : List AtomicStep)
    → steps_told n (first ++ later) ≡ steps_told n first ++ steps_told (counted_of n first) later
steps_told_join n first later = each_join step_told steps_told (λ n. refl) (λ n step later. refl) n first later

-- The outcomes noted of atomic steps (`noted_of`) are those that an observer is told, without their ticks.
pub steps_told_noted : (n : ℕ) (steps : List AtomicStep) → map note_of (steps_told n steps) ≡ noted_of n steps
steps_told_noted n [] = refl
steps_told_noted n (At host (Steps kind wire_free answer) ∷ later) =
    ap (λ (list : List Numbered). numbered_outcome n (At host (Steps kind wire_free answer)) ++ list) (steps_told_noted n later)
steps_told_noted n (At host (Arrives frame fate) ∷ later) =
    ap (λ (list : List Numbered). numbered_outcome n (At host (Arrives frame fate)) ++ list) (steps_told_noted n later)
steps_told_noted n (At host (Accesses access) ∷ later) = steps_told_noted (counted_by n (At host (Accesses access))) later
steps_told_noted n (Idles tick ∷ later) = ap (λ (list : List Numbered). numbered_outcome n (Idles tick) ++ list) (steps_told_noted n later)

pub counted_join : (n : ℕ) (first later : List AtomicStep) → counted_of n (first ++ later) ≡ counted_of (counted_of n first) later
counted_join n [] later = refl
counted_join n (step ∷ first) later = counted_join (counted_by n step) first later

pub past_join : (k : ℕ) (first later : List AtomicStep) → past_at k (first ++ later) ≡ joined (past_at k first) (past_at k later)
past_join k first later = ap past_of (flat_map-append (events_by k) first later) ∙ past_of-append (events_at k first) (events_at k later)
