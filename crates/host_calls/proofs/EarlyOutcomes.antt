-- The outcomes with 0 accesses before them are those of the steps before the first access.
use Rattle.std.proofs.Common.{◌≡◌, ◌==◌, ◌<◌, ◌+◌, ◌++◌, ◌∷◌, [], ℕ, Bool, false, List, if◌then◌else◌, filter, map, min}
use Rattle.std.proofs.Common.{refl, ap, ◌∙◌, arith}
use Rattle.std.specs.List.{All}
use Rattle.std.proofs.lemmas.Bool.{ne_eqb}
use Rattle.std.proofs.lemmas.List.{append-nil}
use Rattle.std.proofs.lemmas.List.Elements.{filter-append}
use Rattle.adapter.specs.model_types.offsets.TheConstants.{ICR}
use Rattle.adapter.proofs.Lists.{all-head, all-tail}
use Rattle.adapter.specs.bus_types.event.Access.TheVariants.{Reads}
use Rattle.adapter.specs.bus_types.event.Event.TheVariants.{Accesses, Arrives, Steps}
use Rattle.stations.specs.AtomicSteps.{At, AtomicStep, Idles, step_outcome}
use Rattle.stations.specs.declared.outcomes.Numbered.{Numbered}
use Rattle.adapter.specs.Outcomes.{FrameOutcome}
use Rattle.stations.proofs.TickLoops.{counted-ticks}
use Rattle.stations.specs.AtomicRunLaws.{noted_join}
use Rattle.adapter.specs.LivelyBuses.{most_accesses}
use Rattle.stations.specs.AtomicRuns.{IsTick, counted_of, noted_of}
use Rattle.host_calls.specs.CausesLaws.{noted_first}
use Rattle.host_calls.specs.InterruptCauses.{ReadsIcrFirst}

abbrev bears_zero : Numbered → Bool
bears_zero one = one.accesses == 0

skipped : (n : ℕ) (outcome : FrameOutcome) (rest : List Numbered) → 0 < n
    → filter bears_zero ((let one : Numbered = record { accesses = n; outcome = outcome } in one) ∷ rest) ≡ filter bears_zero rest
skipped n outcome rest some =
    let one : Numbered = record { accesses = n; outcome = outcome } in
    let not : (n == 0) ≡ false = ne_eqb n 0 (λ same. absurd (omega (arith, some, same))) in
    ap (λ (b : Bool). if b then one ∷ filter bears_zero rest else filter bears_zero rest) not

late-bear_none : (n : ℕ) (steps : List AtomicStep) → 0 < n → filter bears_zero (noted_of n steps) ≡ []
late-bear_none n [] some = refl
late-bear_none n (At host (Steps kind wire_free answer) ∷ later) some =
    skipped n (step_outcome (At host (Steps kind wire_free answer))) (noted_of n later) some ∙ late-bear_none n later some
late-bear_none n (At host (Arrives frame fate) ∷ later) some =
    skipped n (step_outcome (At host (Arrives frame fate))) (noted_of n later) some ∙ late-bear_none n later some
late-bear_none n (At host (Accesses access) ∷ later) some = late-bear_none (min (n + 1) most_accesses) later (omega arith)
late-bear_none n (Idles tick ∷ later) some =
    skipped n (step_outcome (Idles tick)) (noted_of n later) some ∙ late-bear_none n later some

early-bear_zero : (early : List AtomicStep) → All IsTick early → filter bears_zero (noted_of 0 early) ≡ map noted_first early
early-bear_zero [] are = refl
early-bear_zero (At host (Steps kind wire_free answer) ∷ later) are =
    ap (λ (list : List Numbered). noted_first (At host (Steps kind wire_free answer)) ∷ list)
    (early-bear_zero later (all-tail IsTick _ later are))
early-bear_zero (At host (Arrives frame fate) ∷ later) are =
    ap (λ (list : List Numbered). noted_first (At host (Arrives frame fate)) ∷ list)
    (early-bear_zero later (all-tail IsTick _ later are))
early-bear_zero (At host (Accesses access) ∷ later) are = let no = all-head IsTick (At host (Accesses access)) later are in absurd (cc)
early-bear_zero (Idles tick ∷ later) are =
    ap (λ (list : List Numbered). noted_first (Idles tick) ∷ list) (early-bear_zero later (all-tail IsTick _ later are))

pub early-outcomes_bear_zero : (caller : ℕ) (steps early : List AtomicStep) (causes : ℕ) → ReadsIcrFirst caller steps early causes
    → filter (λ (one : Numbered). one.accesses == 0) (noted_of 0 steps) ≡ map noted_first early
early-outcomes_bear_zero caller steps early causes first =
    let rest = At caller (Accesses (Reads ICR causes)) ∷ first.later in
    ap (λ (list : List AtomicStep). filter bears_zero (noted_of 0 list)) first.split
    ∙ ap (filter bears_zero) (noted_join 0 early rest)
    ∙ filter-append bears_zero (noted_of 0 early) (noted_of (counted_of 0 early) rest)
    ∙ ap (λ (n : ℕ). filter bears_zero (noted_of 0 early) ++ filter bears_zero (noted_of n rest)) (counted-ticks 0 early first.ticks)
    ∙ ap (λ (list : List Numbered). filter bears_zero (noted_of 0 early) ++ list) (late-bear_none 1 first.later (omega arith))
    ∙ append-nil (filter bears_zero (noted_of 0 early))
    ∙ early-bear_zero early first.ticks
