-- The happenings of the outcomes, and of the steps, whose numbers of earlier accesses pass a test.
use Rattle.std.proofs.Common.{◌≡◌, ◌≤◌, ◌++◌, ◌∷◌, [], Bool, true, false, ℕ, List, map, if◌then◌else◌, refl, sym, ap}
use Rattle.std.proofs.Common.{append_assoc, arith, ◌∙◌}
use Rattle.adapter.specs.LivelyBuses.{most_accesses}
use Rattle.adapter.specs.TickGroups.{without_go}
use Rattle.adapter.specs.bus_types.event.Event.TheVariants.{Accesses, Arrives, Steps}
use Rattle.stations.specs.AtomicSteps.{At, AtomicStep, Idles, tick_of}
use Rattle.stations.specs.Stations.{StationState}
use Rattle.stations.specs.declared.outcomes.Numbered.{Numbered}
use Rattle.stations.specs.declared.tick.Tick.{Tick}
use Rattle.stations.specs.declared.tick.Tick.TheVariants.{Deliver, Go, Step}
use Rattle.stations.specs.AtomicRuns.{LeadsTo, counted_by, counted_of, is_go, noted_of}
use Rattle.host_calls.proofs.HostLists.{none-chosen}
use Rattle.host_calls.specs.DeliveryLaws.{OutcomesTellByNumber, happened_where}
use Rattle.host_calls.specs.Happenings.{Happening, happened_by, happened_in, outcome_happenings, tick_happenings_where}

where-without_go : (is_such : ℕ → Bool) (ticks : List Tick) (outcomes : List Numbered)
    → tick_happenings_where is_such (without_go is_go ticks) outcomes ≡ tick_happenings_where is_such ticks outcomes
where-without_go is_such [] outcomes = refl
where-without_go is_such (Go ∷ ticks) outcomes = where-without_go is_such ticks outcomes
where-without_go is_such (Step host kind ∷ ticks) [] = refl
where-without_go is_such (Step host kind ∷ ticks) (one ∷ outcomes) =
    ap (λ (list : List Happening). (if is_such one.accesses then outcome_happenings host one.outcome else []) ++ list)
    (where-without_go is_such ticks outcomes)
where-without_go is_such (Deliver host ∷ ticks) [] = refl
where-without_go is_such (Deliver host ∷ ticks) (one ∷ outcomes) =
    ap (λ (list : List Happening). (if is_such one.accesses then outcome_happenings host one.outcome else []) ++ list)
    (where-without_go is_such ticks outcomes)

where-told : (is_such : ℕ → Bool) (caller n : ℕ) (steps : List AtomicStep) (a b : List StationState) → LeadsTo caller steps a b
    → tick_happenings_where is_such (map tick_of steps) (noted_of n steps) ≡ happened_where is_such n steps
where-told is_such caller n [] a b leads = refl
where-told is_such caller n (At host (Steps kind wire_free answer) ∷ later) a b leads =
    ap (λ (list : List Happening). (if is_such n then happened_by (At host (Steps kind wire_free answer)) else []) ++ list)
    (where-told is_such caller n later _ b leads.2)
where-told is_such caller n (At host (Arrives frame fate) ∷ later) a b leads =
    ap (λ (list : List Happening). (if is_such n then happened_by (At host (Arrives frame fate)) else []) ++ list)
    (where-told is_such caller n later _ b leads.2)
where-told is_such caller n (At host (Accesses access) ∷ later) a b leads =
    let count = counted_by n (At host (Accesses access)) in
    where-told is_such caller count later _ b leads.2
    ∙ ap (λ (front : List Happening). front ++ happened_where is_such count later) (none-chosen (is_such n))
where-told is_such caller n (Idles Go ∷ later) a b leads = let never = leads.1 in absurd (cc)
where-told is_such caller n (Idles (Step host kind) ∷ later) a b leads =
    ap (λ (list : List Happening). (if is_such n then [] else []) ++ list) (where-told is_such caller n later _ b leads.2)
where-told is_such caller n (Idles (Deliver host) ∷ later) a b leads =
    ap (λ (list : List Happening). (if is_such n then [] else []) ++ list) (where-told is_such caller n later _ b leads.2)

pub told-by_number : OutcomesTellByNumber
told-by_number is_such caller ticks steps a b leads same =
    sym (where-without_go is_such ticks (noted_of 0 steps))
    ∙ ap (λ (list : List Tick). tick_happenings_where is_such list (noted_of 0 steps)) (sym same)
    ∙ where-without_go is_such (map tick_of steps) (noted_of 0 steps)
    ∙ where-told is_such caller 0 steps a b leads

-- Parts of a list of steps

pub where-append : (is_such : ℕ → Bool) (n : ℕ) (first later : List AtomicStep)
    → happened_where is_such n (first ++ later) ≡ happened_where is_such n first ++ happened_where is_such (counted_of n first) later
where-append is_such n [] later = refl
where-append is_such n (step ∷ first) later =
    ap (λ (list : List Happening). (if is_such n then happened_by step else []) ++ list)
    (where-append is_such (counted_by n step) first later)
    ∙ sym (append_assoc (if is_such n then happened_by step else []) (happened_where is_such (counted_by n step) first)
    (happened_where is_such (counted_of (counted_by n step) first) later))

one-more : (n : ℕ) (step : AtomicStep) → n ≤ most_accesses → (n ≤ counted_by n step) × (counted_by n step ≤ most_accesses)
one-more n (At host (Steps kind wire_free answer)) within = (omega arith, within)
one-more n (At host (Arrives frame fate)) within = (omega arith, within)
one-more n (At host (Accesses access)) within = (omega (arith, within), omega (arith, within))
one-more n (Idles tick) within = (omega arith, within)

pub more-counted : (n : ℕ) (steps : List AtomicStep) → n ≤ most_accesses
    → (n ≤ counted_of n steps) × (counted_of n steps ≤ most_accesses)
more-counted n [] within = (omega arith, within)
more-counted n (step ∷ later) within =
    let one = one-more n step within in
    let rest = more-counted (counted_by n step) later one.1 in
    (omega (arith, one.0, rest.0), rest.1)

-- Either all numbers in the interval are such numbers, or none is.
pub where-such : (is_such : ℕ → Bool) (n : ℕ) (steps : List AtomicStep) (such : Bool) → n ≤ most_accesses
    → ((m : ℕ) → n ≤ m → m ≤ counted_of n steps → is_such m ≡ such)
    → happened_where is_such n steps ≡ (if such then happened_in steps else [])
where-such is_such n [] true within all = refl
where-such is_such n [] false within all = refl
where-such is_such n (step ∷ later) such within all =
    let one = one-more n step within in
    let more = (more-counted n (step ∷ later) within).0 in
    ap (λ (here : Bool). (if here then happened_by step else []) ++ happened_where is_such (counted_by n step) later)
    (all n (omega arith) more)
    ∙ ap (λ (list : List Happening). (if such then happened_by step else []) ++ list)
    (where-such is_such (counted_by n step) later such one.1 (λ m low high. all m (omega (arith, low, one.0)) high))
    ∙ both such
  where
    both : (b : Bool) → (if b then happened_by step else []) ++ (if b then happened_in later else [])
        ≡ (if b then happened_by step ++ happened_in later else [])
    both true = refl
    both false = refl
