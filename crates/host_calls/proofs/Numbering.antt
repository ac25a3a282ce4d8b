-- The numbers of accesses before outcomes.
use Rattle.std.proofs.Common.{◌≡◌, ◌≤◌, ◌+◌, ◌++◌, ◌∷◌, [], ℕ, List, All, map, min, refl, sym, ap, ◌∙◌, append_assoc, arith}
use Rattle.std.proofs.lemmas.List.{append-nil, map-append}
use Rattle.adapter.specs.TickGroups.{behind_group, group_of, played_in, waiting_after, without_go}
use Rattle.adapter.specs.bus_types.event.Access.{Access}
use Rattle.adapter.specs.bus_types.event.Event.TheVariants.{Accesses, Arrives, Steps}
use Rattle.stations.specs.AtomicSteps.{At, AtomicStep, Idles, after_atomic, tick_of}
use Rattle.stations.specs.Stations.{StationState}
use Rattle.stations.specs.declared.outcomes.Numbered.{Numbered}
use Rattle.stations.specs.declared.tick.Tick.{Tick}
use Rattle.stations.specs.declared.tick.Tick.TheVariants.{Deliver, Go, Step}
use Rattle.stations.proofs.TickLoops.{counted-ticks}
use Rattle.stations.specs.AtomicRunLaws.{counted_join, noted_join}
use Rattle.adapter.specs.LivelyBuses.{most_accesses}
use Rattle.stations.specs.AtomicRuns.{IsTick, LeadsTo, counted_of, is_go, noted_of}
use Rattle.host_calls.specs.TickNumbers.{numbers, noted_numbers}

next : (i n j : ℕ) (ticks : List Tick) (others : List ℕ) → min i n ≡ j → numbers ticks i n ≡ others
    → (let list : List ℕ = min i n ∷ numbers ticks i n in list) ≡ j ∷ others
next i n j ticks others same rest =
    ap (λ (number : ℕ). let list : List ℕ = number ∷ numbers ticks i n in list) same ∙ ap (λ (list : List ℕ). j ∷ list) rest

-- The greatest u64 may replace a greater number of Gos, because each number is at most `n`.
capped : (ticks : List Tick) (i n : ℕ) → n ≤ most_accesses → numbers ticks i n ≡ numbers ticks (min i most_accesses) n
capped [] i n most = refl
capped (Go ∷ ticks) i n most =
    let same : min (i + 1) most_accesses ≡ min (min i most_accesses + 1) most_accesses = omega arith in
    capped ticks (i + 1) n most
    ∙ ap (λ (j : ℕ). numbers ticks j n) same
    ∙ sym (capped ticks (min i most_accesses + 1) n most)
capped (Step host kind ∷ ticks) i n most = next i n (min (min i most_accesses) n) ticks _ (omega (arith, most)) (capped ticks i n most)
capped (Deliver host ∷ ticks) i n most = next i n (min (min i most_accesses) n) ticks _ (omega (arith, most)) (capped ticks i n most)

late : (ticks : List Tick) (i n : ℕ) → n ≤ i → numbers ticks i n ≡ numbers (without_go is_go ticks) n n
late [] i n behind = refl
late (Go ∷ ticks) i n behind = late ticks (i + 1) n (omega (arith, behind))
late (Step host kind ∷ ticks) i n behind = next i n (min n n) ticks _ (omega (arith, behind)) (late ticks i n behind)
late (Deliver host ∷ ticks) i n behind = next i n (min n n) ticks _ (omega (arith, behind)) (late ticks i n behind)

-- The count `j` is at least `i`, and at most the greatest count.
record Grows (i j : ℕ) : Type 0 where
  least : i ≤ j
  most : j ≤ most_accesses

grows : (steps : List AtomicStep) (i : ℕ) → i ≤ most_accesses → Grows i (counted_of i steps)
grows [] i most = record { least = omega arith; most = most }
grows (At host (Steps kind wire_free answer) ∷ later) i most = grows later i most
grows (At host (Arrives frame fate) ∷ later) i most = grows later i most
grows (At host (Accesses access) ∷ later) i most =
    let rest = grows later (min (i + 1) most_accesses) (omega arith) in
    record { least = omega (arith, most, rest.least); most = rest.most }
grows (Idles tick ∷ later) i most = grows later i most

numbered-steps :
    (caller i n : ℕ) (steps : List AtomicStep) (others : List Tick) (a b : List StationState) → LeadsTo caller steps a b
    → i ≤ most_accesses → n ≤ most_accesses → counted_of i steps ≤ n
    → numbers (map tick_of steps ++ others) i n ≡ noted_numbers (noted_of i steps) ++ numbers others (counted_of i steps) n
numbered-steps caller i n [] others a b leads low most within = refl
numbered-steps caller i n (At host (Steps kind wire_free answer) ∷ later) others a b leads low most within =
    next i n i (map tick_of later ++ others) _ (omega (arith, within, (grows later i low).least))
    (numbered-steps caller i n later others (after_atomic (At host (Steps kind wire_free answer)) a) b leads.2 low most within)
numbered-steps caller i n (At host (Arrives frame fate) ∷ later) others a b leads low most within =
    next i n i (map tick_of later ++ others) _ (omega (arith, within, (grows later i low).least))
    (numbered-steps caller i n later others (after_atomic (At host (Arrives frame fate)) a) b leads.2 low most within)
numbered-steps caller i n (At host (Accesses access) ∷ later) others a b leads low most within =
    capped (map tick_of later ++ others) (i + 1) n most
    ∙ numbered-steps caller (min (i + 1) most_accesses) n later others (after_atomic (At host (Accesses access)) a) b leads.2 (omega arith)
    most
    within
numbered-steps caller i n (Idles Go ∷ later) others a b leads low most within = let never = leads.1 in absurd (cc)
numbered-steps caller i n (Idles (Step host kind) ∷ later) others a b leads low most within =
    next i n i (map tick_of later ++ others) _ (omega (arith, within, (grows later i low).least))
    (numbered-steps caller i n later others a b leads.2 low most within)
numbered-steps caller i n (Idles (Deliver host) ∷ later) others a b leads low most within =
    next i n i (map tick_of later ++ others) _ (omega (arith, within, (grows later i low).least))
    (numbered-steps caller i n later others a b leads.2 low most within)

numbered-group :
    (ticks others : List Tick) (i n : ℕ) → numbers others (i + 1) n ≡ numbers (behind_group is_go ticks) (i + 1) n
    → numbers (group_of is_go ticks ++ Go ∷ others) i n ≡ numbers ticks i n
numbered-group [] others i n same = same
numbered-group (Go ∷ ticks) others i n same = same
numbered-group (Step host kind ∷ ticks) others i n same = ap (λ (list : List ℕ). min i n ∷ list) (numbered-group ticks others i n same)
numbered-group (Deliver host ∷ ticks) others i n same = ap (λ (list : List ℕ). min i n ∷ list) (numbered-group ticks others i n same)

numbered-played :
    (accesses : List Access) (ticks : List Tick) (i n : ℕ)
    → numbers (played_in is_go Go [] accesses ticks ++ waiting_after is_go accesses ticks) i n ≡ numbers ticks i n
numbered-played [] ticks i n = refl
numbered-played (access ∷ later) ticks i n =
    let rest = behind_group is_go ticks in
    let played = played_in is_go Go [] later rest in
    let waiting = waiting_after is_go later rest in
    ap (λ (list : List Tick). numbers list i n) (append_assoc (group_of is_go ticks) (Go ∷ played) waiting)
    ∙ numbered-group ticks (played ++ waiting) i n (numbered-played later rest (i + 1) n)

-- The numbers of a call's outcomes are those of its ticks.
pub numbered-all :
    (caller : ℕ) (ticks : List Tick) (accesses : List Access) (first last : List AtomicStep) (a m b : List StationState)
    → LeadsTo caller first a m → All IsTick last → LeadsTo caller last m b → map tick_of first ≡ played_in is_go Go [] accesses ticks
    → map tick_of last ≡ without_go is_go (waiting_after is_go accesses ticks)
    → numbers ticks 0 (counted_of 0 first) ≡ noted_numbers (noted_of 0 (first ++ last))
numbered-all caller ticks accesses first last a m b leads are later played ended =
    let n = counted_of 0 first in
    let waiting = waiting_after is_go accesses ticks in
    let low : 0 ≤ most_accesses = omega arith in
    let same : n ≤ n = omega arith in
    let most : n ≤ most_accesses = (grows first 0 low).most in
    let still = counted-ticks n last are in
    let within : counted_of n last ≤ n = omega (arith, still) in
    sym (numbered-played accesses ticks 0 n)
    ∙ ap (λ (list : List Tick). numbers (list ++ waiting) 0 n) (sym played)
    ∙ numbered-steps caller 0 n first waiting a m leads low most same
    ∙ ap (λ (list : List ℕ). noted_numbers (noted_of 0 first) ++ list)
    (late waiting n n same
    ∙ ap (λ (list : List Tick). numbers list n n) (sym ended ∙ sym (append-nil (map tick_of last)))
    ∙ numbered-steps caller n n last [] m b later most most within
    ∙ append-nil (noted_numbers (noted_of n last)))
    ∙ sym (map-append (λ (one : Numbered). one.accesses) (noted_of 0 first) (noted_of n last))
    ∙ ap noted_numbers (sym (noted_join 0 first last))

pub counted-all : (first last : List AtomicStep) → All IsTick last → counted_of 0 (first ++ last) ≡ counted_of 0 first
counted-all first last are = counted_join 0 first last ∙ counted-ticks (counted_of 0 first) last are
