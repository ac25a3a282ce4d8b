-- What a call itself did, among the happenings of its ticks.
use Rattle.std.proofs.Common.{◌≡◌, ◌==◌, ◌++◌, ◌∷◌, [], Bool, true, false, ℕ, List, All, map, if◌then◌else◌, refl, sym, ap, ◌∙◌}
use Rattle.std.proofs.Common.{append_assoc}
use Rattle.std.proofs.lemmas.List.{append-nil}
use Rattle.adapter.proofs.Lists.{all-head, all-tail}
use Rattle.adapter.specs.TickGroups.{without_go}
use Rattle.adapter.specs.bus_types.event.Event.TheVariants.{Accesses, Arrives, Steps}
use Rattle.stations.specs.AtomicSteps.{At, AtomicStep, Idles, step_outcome, tick_of}
use Rattle.stations.specs.declared.outcomes.Numbered.{Numbered}
use Rattle.stations.specs.declared.tick.Tick.{Tick}
use Rattle.stations.specs.declared.tick.Tick.TheVariants.{Deliver, Go, Step}
use Rattle.stations.specs.AtomicRuns.{IsTick, is_go, noted_of}
use Rattle.host_calls.proofs.Telling.{told-without_go}
use Rattle.host_calls.specs.DeliveryLaws.{CallsAreToldBetweenTicks, IsBetween, NoAccessIsToldAtTheEnd, OneAccessIsToldAtItsPlace}
use Rattle.host_calls.specs.DeliveryLaws.{OnlyTicksAreTold}
use Rattle.host_calls.specs.Happenings.{Happening, happened_by, happened_in, tick_happenings, tick_happenings_around, outcome_happenings}

-- What the call did is between two parts of the happenings

nothing-more : (middle : List Happening) → IsBetween middle [] middle
nothing-more middle = record { before = []; behind = []; ticks = refl; all = sym (append-nil middle) }

either-place : (before : Bool) (middle front later said : List Happening) → IsBetween middle later said
    → IsBetween middle (front ++ later) (if before then front ++ said else middle ++ (front ++ later))
either-place true middle front later said between = record {
  before = front ++ between.before;
  behind = between.behind;
  ticks = ap (λ (list : List Happening). front ++ list) between.ticks ∙ sym (append_assoc front between.before between.behind);
  all = ap (λ (list : List Happening). front ++ list) between.all
      ∙ sym (append_assoc front between.before (middle ++ between.behind));
}
either-place false middle front later said between = record { before = []; behind = front ++ later; ticks = refl; all = refl }

pub around_ticks : CallsAreToldBetweenTicks
around_ticks middle [] outcomes = nothing-more middle
around_ticks middle (Go ∷ ticks) outcomes = around_ticks middle ticks outcomes
around_ticks middle (Step host kind ∷ ticks) [] = nothing-more middle
around_ticks middle (Step host kind ∷ ticks) (one ∷ outcomes) =
    either-place (one.accesses == 0) middle (outcome_happenings host one.outcome) (tick_happenings ticks outcomes)
    (tick_happenings_around middle ticks outcomes)
    (around_ticks middle ticks outcomes)
around_ticks middle (Deliver host ∷ ticks) [] = nothing-more middle
around_ticks middle (Deliver host ∷ ticks) (one ∷ outcomes) =
    either-place (one.accesses == 0) middle (outcome_happenings host one.outcome) (tick_happenings ticks outcomes)
    (tick_happenings_around middle ticks outcomes)
    (around_ticks middle ticks outcomes)

pub told-around_nothing : OnlyTicksAreTold
told-around_nothing ticks outcomes = let between = around_ticks [] ticks outcomes in between.all ∙ sym between.ticks

-- A Go has no happening

on-both : (before : Bool) (middle front some some' rest rest' : List Happening) → some ≡ some' → rest ≡ rest'
    → (if before then front ++ some else middle ++ (front ++ rest)) ≡ (if before then front ++ some' else middle ++ (front ++ rest'))
on-both true middle front some some' rest rest' one two = ap (λ (list : List Happening). front ++ list) one
on-both false middle front some some' rest rest' one two = ap (λ (list : List Happening). middle ++ (front ++ list)) two

around-without_go : (middle : List Happening) (ticks : List Tick) (outcomes : List Numbered)
    → tick_happenings_around middle (without_go is_go ticks) outcomes ≡ tick_happenings_around middle ticks outcomes
around-without_go middle [] outcomes = refl
around-without_go middle (Go ∷ ticks) outcomes = around-without_go middle ticks outcomes
around-without_go middle (Step host kind ∷ ticks) [] = refl
around-without_go middle (Step host kind ∷ ticks) (one ∷ outcomes) =
    on-both (one.accesses == 0) middle (outcome_happenings host one.outcome) _ _ _ _ (around-without_go middle ticks outcomes)
    (told-without_go ticks outcomes)
around-without_go middle (Deliver host ∷ ticks) [] = refl
around-without_go middle (Deliver host ∷ ticks) (one ∷ outcomes) =
    on-both (one.accesses == 0) middle (outcome_happenings host one.outcome) _ _ _ _ (around-without_go middle ticks outcomes)
    (told-without_go ticks outcomes)

around-same : (middle : List Happening) (ticks others : List Tick) (outcomes : List Numbered)
    → without_go is_go others ≡ without_go is_go ticks → tick_happenings_around middle ticks outcomes
    ≡ tick_happenings_around middle others outcomes
around-same middle ticks others outcomes same =
    sym (around-without_go middle ticks outcomes)
    ∙ ap (λ (list : List Tick). tick_happenings_around middle list outcomes) (sym same)
    ∙ around-without_go middle others outcomes

around-first : (middle : List Happening) (first rest : List AtomicStep) → All IsTick first
    → tick_happenings_around middle (map tick_of (first ++ rest)) (noted_of 0 (first ++ rest))
    ≡ happened_in first ++ tick_happenings_around middle (map tick_of rest) (noted_of 0 rest)
around-first middle [] rest are = refl
around-first middle (At host (Steps kind wire_free answer) ∷ first) rest are =
    let step = At host (Steps kind wire_free answer) in
    ap (λ (list : List Happening). outcome_happenings host (step_outcome step) ++ list)
    (around-first middle first rest (all-tail IsTick step first are))
    ∙ sym (append_assoc (happened_by step) (happened_in first) (tick_happenings_around middle (map tick_of rest) (noted_of 0 rest)))
around-first middle (At host (Arrives frame fate) ∷ first) rest are =
    let step = At host (Arrives frame fate) in
    ap (λ (list : List Happening). outcome_happenings host (step_outcome step) ++ list)
    (around-first middle first rest (all-tail IsTick step first are))
    ∙ sym (append_assoc (happened_by step) (happened_in first) (tick_happenings_around middle (map tick_of rest) (noted_of 0 rest)))
around-first middle (At host (Accesses access) ∷ first) rest are =
    let never = all-head IsTick (At host (Accesses access)) first are in absurd (cc)
around-first middle (Idles Go ∷ first) rest are = let never = all-head IsTick (Idles Go) first are in absurd (cc)
around-first middle (Idles (Step host kind) ∷ first) rest are =
    around-first middle first rest (all-tail IsTick (Idles (Step host kind)) first are)
around-first middle (Idles (Deliver host) ∷ first) rest are =
    around-first middle first rest (all-tail IsTick (Idles (Deliver host)) first are)

told-ticks : (n : ℕ) (steps : List AtomicStep) → All IsTick steps → tick_happenings (map tick_of steps) (noted_of n steps)
    ≡ happened_in steps
told-ticks n [] are = refl
told-ticks n (At host (Steps kind wire_free answer) ∷ later) are =
    let step = At host (Steps kind wire_free answer) in
    ap (λ (list : List Happening). outcome_happenings host (step_outcome step) ++ list)
    (told-ticks n later (all-tail IsTick step later are))
told-ticks n (At host (Arrives frame fate) ∷ later) are =
    let step = At host (Arrives frame fate) in
    ap (λ (list : List Happening). outcome_happenings host (step_outcome step) ++ list)
    (told-ticks n later (all-tail IsTick step later are))
told-ticks n (At host (Accesses access) ∷ later) are =
    let never = all-head IsTick (At host (Accesses access)) later are in absurd (cc)
told-ticks n (Idles Go ∷ later) are = let never = all-head IsTick (Idles Go) later are in absurd (cc)
told-ticks n (Idles (Step host kind) ∷ later) are = told-ticks n later (all-tail IsTick (Idles (Step host kind)) later are)
told-ticks n (Idles (Deliver host) ∷ later) are = told-ticks n later (all-tail IsTick (Idles (Deliver host)) later are)

around-last : (middle : List Happening) (steps : List AtomicStep) → All IsTick steps
    → tick_happenings_around middle (map tick_of steps) (noted_of 1 steps) ≡ middle ++ happened_in steps
around-last middle [] are = sym (append-nil middle)
around-last middle (At host (Steps kind wire_free answer) ∷ later) are =
    ap (λ (list : List Happening). middle ++ list) (told-ticks 1 (At host (Steps kind wire_free answer) ∷ later) are)
around-last middle (At host (Arrives frame fate) ∷ later) are =
    ap (λ (list : List Happening). middle ++ list) (told-ticks 1 (At host (Arrives frame fate) ∷ later) are)
around-last middle (At host (Accesses access) ∷ later) are =
    let never = all-head IsTick (At host (Accesses access)) later are in absurd (cc)
around-last middle (Idles Go ∷ later) are = let never = all-head IsTick (Idles Go) later are in absurd (cc)
around-last middle (Idles (Step host kind) ∷ later) are =
    ap (λ (list : List Happening). middle ++ list) (told-ticks 1 (Idles (Step host kind) ∷ later) are)
around-last middle (Idles (Deliver host) ∷ later) are =
    ap (λ (list : List Happening). middle ++ list) (told-ticks 1 (Idles (Deliver host) ∷ later) are)

pub told-at_access : OneAccessIsToldAtItsPlace
told-at_access caller ticks access first last middle before later same =
    let steps = first ++ At caller (Accesses access) ∷ last in
    around-same middle ticks (map tick_of steps) (noted_of 0 steps) same
    ∙ around-first middle first (At caller (Accesses access) ∷ last) before
    ∙ ap (λ (list : List Happening). happened_in first ++ list) (around-last middle last later)

pub told-at_end : NoAccessIsToldAtTheEnd
told-at_end ticks steps middle are same =
    around-same middle ticks (map tick_of steps) (noted_of 0 steps) same
    ∙ ap (λ (list : List AtomicStep). tick_happenings_around middle (map tick_of list) (noted_of 0 list)) (sym (append-nil steps))
    ∙ around-first middle steps [] are
