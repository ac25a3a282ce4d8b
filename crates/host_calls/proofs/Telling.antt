-- The outcomes of ticks determine the happenings of atomic steps.
use Rattle.std.proofs.Common.{◌≡◌, ◌++◌, ◌∷◌, [], false, not, ℕ, List, map, refl, sym, ap, ◌∙◌}
use Rattle.std.proofs.Common.{append_assoc}
use Rattle.std.proofs.lemmas.List.{append-nil, map-append}
use Rattle.std.proofs.lemmas.List.Elements.{filter-append}
use Rattle.adapter.specs.TickGroups.{behind_group, group_of, played_in, waiting_after, without_go}
use Rattle.adapter.specs.bus_types.event.Access.{Access}
use Rattle.adapter.specs.bus_types.event.Event.TheVariants.{Accesses, Arrives, Steps}
use Rattle.stations.specs.AtomicSteps.{At, AtomicStep, Idles, PlaysTick, after_atomic, step_outcome, outcome_of_event, tick_of}
use Rattle.stations.specs.Stations.{StationState}
use Rattle.stations.specs.declared.outcomes.Numbered.{Numbered}
use Rattle.adapter.specs.Outcomes.{FrameOutcome}
use Rattle.stations.specs.declared.tick.Tick.{Tick}
use Rattle.stations.specs.declared.tick.Tick.TheVariants.{Deliver, Go, Step}
use Rattle.stations.specs.AtomicRunLaws.{leads_join}
use Rattle.stations.specs.AtomicRuns.{IsOfCall, IsTick, LeadsTo, counted_by, is_go, noted_of}
use Rattle.host_calls.specs.DeliveryLaws.{LeadsAlone}
use Rattle.host_calls.specs.Happenings.{Happening, happened_in, tick_happenings, lone_tick_happenings, outcome_happenings}

pub told-steps :
    (caller n : ℕ) (steps : List AtomicStep) (a b : List StationState) → LeadsTo caller steps a b
    → tick_happenings (map tick_of steps) (noted_of n steps) ≡ happened_in steps
told-steps caller n [] a b leads = refl
told-steps caller n (At host (Steps kind wire_free answer) ∷ later) a b leads =
    let step = At host (Steps kind wire_free answer) in
    ap (λ (behind : List Happening). outcome_happenings host (step_outcome step) ++ behind)
    (told-steps caller n later (after_atomic step a) b leads.2)
told-steps caller n (At host (Arrives frame fate) ∷ later) a b leads =
    let step = At host (Arrives frame fate) in
    ap (λ (behind : List Happening). outcome_happenings host (step_outcome step) ++ behind)
    (told-steps caller n later (after_atomic step a) b leads.2)
told-steps caller n (At host (Accesses access) ∷ later) a b leads =
    let step = At host (Accesses access) in
    told-steps caller (counted_by n step) later (after_atomic step a) b leads.2
told-steps caller n (Idles Go ∷ later) a b leads = let never = leads.1 in absurd (cc)
told-steps caller n (Idles (Step host kind) ∷ later) a b leads = told-steps caller n later a b leads.2
told-steps caller n (Idles (Deliver host) ∷ later) a b leads = told-steps caller n later a b leads.2

pub told-without_go : (ticks : List Tick) (outcomes : List Numbered) → tick_happenings (without_go is_go ticks) outcomes
    ≡ tick_happenings ticks outcomes
told-without_go [] outcomes = refl
told-without_go (Go ∷ ticks) outcomes = told-without_go ticks outcomes
told-without_go (Step host kind ∷ ticks) [] = refl
told-without_go (Step host kind ∷ ticks) (one ∷ outcomes) =
    ap (λ (behind : List Happening). outcome_happenings host one.outcome ++ behind) (told-without_go ticks outcomes)
told-without_go (Deliver host ∷ ticks) [] = refl
told-without_go (Deliver host ∷ ticks) (one ∷ outcomes) =
    ap (λ (behind : List Happening). outcome_happenings host one.outcome ++ behind) (told-without_go ticks outcomes)

-- The ticks that are played and the remaining ticks are all ticks except each Go

group-and_behind : (ticks : List Tick)
    → without_go is_go (group_of is_go ticks) ++ without_go is_go (behind_group is_go ticks) ≡ without_go is_go ticks
group-and_behind [] = refl
group-and_behind (Go ∷ ticks) = refl
group-and_behind (Step host kind ∷ ticks) = ap (λ (behind : List Tick). Step host kind ∷ behind) (group-and_behind ticks)
group-and_behind (Deliver host ∷ ticks) = ap (λ (behind : List Tick). Deliver host ∷ behind) (group-and_behind ticks)

pub played-and_waiting : (accesses : List Access) (ticks : List Tick)
    → without_go is_go (played_in is_go Go [] accesses ticks) ++ without_go is_go (waiting_after is_go accesses ticks)
    ≡ without_go is_go ticks
played-and_waiting [] ticks = refl
played-and_waiting (access ∷ later) ticks =
    let group = group_of is_go ticks in
    let rest = behind_group is_go ticks in
    let played = played_in is_go Go [] later rest in
    let waiting = without_go is_go (waiting_after is_go later rest) in
    ap (λ (front : List Tick). front ++ waiting) (filter-append (λ tick. not (is_go tick)) group (Go ∷ played))
    ∙ append_assoc (without_go is_go group) (without_go is_go played) waiting
    ∙ ap (λ (behind : List Tick). without_go is_go group ++ behind) (played-and_waiting later rest)
    ∙ group-and_behind ticks

without-twice : (ticks : List Tick) → without_go is_go (without_go is_go ticks) ≡ without_go is_go ticks
without-twice [] = refl
without-twice (Go ∷ ticks) = without-twice ticks
without-twice (Step host kind ∷ ticks) = ap (λ (behind : List Tick). Step host kind ∷ behind) (without-twice ticks)
without-twice (Deliver host ∷ ticks) = ap (λ (behind : List Tick). Deliver host ∷ behind) (without-twice ticks)

pub same-ticks : (ticks : List Tick) (accesses : List Access) (first last : List AtomicStep)
    → map tick_of first ≡ played_in is_go Go [] accesses ticks
    → map tick_of last ≡ without_go is_go (waiting_after is_go accesses ticks)
    → without_go is_go (map tick_of (first ++ last)) ≡ without_go is_go ticks
same-ticks ticks accesses first last played ended =
    ap (without_go is_go) (map-append tick_of first last)
    ∙ filter-append (λ tick. not (is_go tick)) (map tick_of first) (map tick_of last)
    ∙ ap (λ (front : List Tick). without_go is_go front ++ without_go is_go (map tick_of last)) played
    ∙ ap (λ (behind : List Tick). without_go is_go (played_in is_go Go [] accesses ticks) ++ without_go is_go behind) ended
    ∙ ap (λ (behind : List Tick). without_go is_go (played_in is_go Go [] accesses ticks) ++ behind)
    (without-twice (waiting_after is_go accesses ticks))
    ∙ played-and_waiting accesses ticks

pub said-all :
    (caller : ℕ) (ticks : List Tick) (accesses : List Access) (first last : List AtomicStep) (a m b : List StationState)
    → LeadsTo caller first a m → LeadsTo caller last m b → map tick_of first ≡ played_in is_go Go [] accesses ticks
    → map tick_of last ≡ without_go is_go (waiting_after is_go accesses ticks)
    → tick_happenings ticks (noted_of 0 (first ++ last)) ≡ happened_in (first ++ last)
said-all caller ticks accesses first last a m b leads later played ended =
    let outcomes = noted_of 0 (first ++ last) in
    sym (told-without_go ticks outcomes)
    ∙ ap (λ (list : List Tick). tick_happenings list outcomes) (sym (same-ticks ticks accesses first last played ended))
    ∙ told-without_go (map tick_of (first ++ last)) outcomes
    ∙ told-steps caller 0 (first ++ last) a b (leads_join caller first last a m b leads later)

-- A tick outside a call

alone-step : (step : AtomicStep)
    → lone_tick_happenings (tick_of step) (record { accesses = 0; outcome = step_outcome step } ∷ []) ≡ happened_in (step ∷ [])
alone-step (At host (Steps kind wire_free answer)) = sym (append-nil (outcome_happenings host
    (outcome_of_event (Steps kind wire_free answer))))
alone-step (At host (Arrives frame fate)) = sym (append-nil (outcome_happenings host (outcome_of_event (Arrives frame fate))))
alone-step (At host (Accesses access)) = refl
alone-step (Idles tick) = refl

pub said-alone : (a b : List StationState) (tick : Tick) (outcome : FrameOutcome) (plays : PlaysTick a tick outcome b)
    → lone_tick_happenings tick (record { accesses = 0; outcome = outcome } ∷ []) ≡ happened_in (plays.step ∷ [])
said-alone a b tick outcome plays =
    ap (λ (t : Tick). lone_tick_happenings t (record { accesses = 0; outcome = outcome } ∷ [])) (sym plays.tick_is)
    ∙ ap (λ (o : FrameOutcome). lone_tick_happenings (tick_of plays.step) (record { accesses = 0; outcome = o } ∷ []))
    (sym plays.outcome_is)
    ∙ alone-step plays.step

record IsLone (step : AtomicStep) : Type 0 where
  is_tick : IsTick step
  of_call : (caller : ℕ) → IsOfCall caller step

is-lone : (step : AtomicStep) → is_go (tick_of step) ≡ false → IsLone step
is-lone (At host (Steps kind wire_free answer)) other = record { is_tick = tt; of_call = λ caller. tt }
is-lone (At host (Arrives frame fate)) other = record { is_tick = tt; of_call = λ caller. tt }
is-lone (At host (Accesses access)) other = absurd (cc)
is-lone (Idles tick) other = record { is_tick = other; of_call = λ caller. other }

pub leads-alone : (old new : List StationState) (tick : Tick) (outcome : FrameOutcome) (plays : PlaysTick old tick outcome new)
    → is_go tick ≡ false → LeadsAlone plays.step old new
leads-alone old new tick outcome plays other =
    let lone = is-lone plays.step (ap is_go plays.tick_is ∙ other) in
    record { is_tick = lone.is_tick; leads = λ caller. (plays.happens, lone.of_call caller, plays.leaves) }
