-- The invariants of the loops that play ticks one after the other.
use Rattle.std.proofs.Common.{◌≡◌, ◌≢◌, ◌≤◌, ◌-◌, ◌++◌, ◌∷◌, ◌==◌, [], inl, inr, Bool, false, true, ℕ, List, All, length, map}
use Rattle.std.proofs.Common.{suc, refl, sym, ap, subst, ◌∙◌}
use Rattle.std.proofs.Common.{append_assoc}
use Rattle.std.proofs.Common.{arith, if◌then◌else◌, length-append, not}
use Rattle.std.proofs.lemmas.Bool.Decides.{eqb_tells}
use Rattle.std.proofs.lemmas.List.{append-nil, map-append}
use Rattle.std.proofs.lemmas.List.Elements.{All-append, All-cons}
use Rattle.adapter.proofs.Lists.{all-head, all-none, all-tail}
use Rattle.adapter.specs.TickGroups.{behind_group, group_of, without_go}
use Rattle.adapter.specs.bus_types.event.Event.TheVariants.{Accesses, Arrives, Steps}
use Rattle.stations.specs.AtomicSteps.{At, AtomicStep, Idles, PlaysNoted, Watched, step_outcome, tick_of}
use Rattle.stations.specs.ToldTicks.{ComposesTold, TickTold, tick_told}
use Rattle.stations.specs.declared.observer.Observer.{Ghosts as OfObserver}
use Rattle.adapter.specs.Outcomes.{FrameOutcome}
use Rattle.stations.specs.declared.tick.Tick.{Tick}
use Rattle.stations.specs.declared.tick.Tick.TheVariants.{Deliver, Go, Step}
use Rattle.stations.specs.AtomicRunLaws.{leads_join, steps_told_join}
use Rattle.stations.specs.AtomicRuns.{IsOfCall, IsTick, counted_by, counted_of, is_go, step_told, steps_told}
use Rattle.stations.specs.PlayedTicks.{PlaysTicks}

-- What is known of an atomic step that is a tick other than Go.
record AnswersTick (step : AtomicStep) : Type 0 where
  is : IsTick step
  of_call : (caller : ℕ) → IsOfCall caller step
  told_as : (n : ℕ) → step_told n step ≡ tick_told (tick_of step) n (step_outcome step) ∷ []
  counted : (n : ℕ) → counted_by n step ≡ n

answers-tick : (step : AtomicStep) (tick : Tick) → tick_of step ≡ tick → is_go tick ≡ false → AnswersTick step
answers-tick (At host (Steps kind wire_free answer)) tick same other =
    record { is = tt; of_call = λ caller. tt; told_as = λ n. refl; counted = λ n. refl }
answers-tick (At host (Arrives frame fate)) tick same other =
    record { is = tt; of_call = λ caller. tt; told_as = λ n. refl; counted = λ n. refl }
answers-tick (At host (Accesses access)) tick same other =
    let is : is_go Go ≡ false = ap is_go same ∙ other in
    absurd (cc)
answers-tick (Idles t) tick same other =
    let is : is_go t ≡ false = ap is_go same ∙ other in
    record { is = is; of_call = λ caller. is; told_as = λ n. refl; counted = λ n. refl }

pub counted-ticks : (n : ℕ) (steps : List AtomicStep) → All IsTick steps → counted_of n steps ≡ n
counted-ticks n [] are = refl
counted-ticks n (At host (Steps kind wire_free answer) ∷ later) are = counted-ticks n later (all-tail IsTick _ later are)
counted-ticks n (At host (Arrives frame fate) ∷ later) are = counted-ticks n later (all-tail IsTick _ later are)
counted-ticks n (At host (Accesses access) ∷ later) are = let no = all-head IsTick (At host (Accesses access)) later are in absurd (cc)
counted-ticks n (Idles tick ∷ later) are = counted-ticks n later (all-tail IsTick _ later are)

pub plays-none : {O : Type 0} {g : OfObserver O} → ComposesTold g.heard → (now : Watched O) (n : ℕ) → PlaysTicks g [] n now now
plays-none composes now n = record {
  steps = [];
  are = all-none IsTick;
  leads = λ caller. refl;
  played = refl;
  heard = composes.stays now.observer;
  room = omega arith;
}

pub plays-join : {O : Type 0} {g : OfObserver O} {a b c : Watched O} {first later : List Tick} {n : ℕ} → ComposesTold g.heard
    → PlaysTicks g first n a b → PlaysTicks g later n b c → PlaysTicks g (first ++ later) n a c
plays-join {g = g} {a = a} {b = b} {c = c} {first = first} {later = later} {n = n} composes one two = record {
  steps = one.steps ++ two.steps;
  are = All-append IsTick one.steps two.steps one.are two.are;
  leads = λ caller.
      leads_join caller one.steps two.steps a.stations b.stations c.stations (one.leads caller) (two.leads caller);
  played =
      map-append tick_of one.steps two.steps
      ∙ ap (λ (list : List Tick). list ++ map tick_of two.steps) one.played
      ∙ ap (λ (list : List Tick). first ++ list) two.played;
  heard =
      subst (g.heard a.observer c.observer)
      (ap (λ (k : ℕ). steps_told n one.steps ++ steps_told k two.steps) (sym (counted-ticks n one.steps one.are))
      ∙ sym (steps_told_join n one.steps two.steps))
      (composes.joins a.observer b.observer c.observer _ _ one.heard two.heard);
  room = omega (arith, one.room, two.room, length-append first later);
}

plays-one : {O : Type 0} {g : OfObserver O} {old new : Watched O} {tick : Tick} {n : ℕ} → is_go tick ≡ false
    → PlaysNoted g tick n old new → PlaysTicks g (tick ∷ []) n old new
plays-one {g = g} {old = old} {new = new} {tick = tick} {n = n} other one =
    let step = one.plays.step in
    let answers = answers-tick step tick one.plays.tick_is other in
    let told : step_told n step ≡ tick_told tick n one.outcome ∷ [] =
    answers.told_as n
    ∙ ap (λ (t : Tick). tick_told t n (step_outcome step) ∷ []) one.plays.tick_is
    ∙ ap (λ (o : FrameOutcome). tick_told tick n o ∷ []) one.plays.outcome_is in
    record {
      steps = step ∷ [];
      are = All-cons IsTick step [] answers.is (all-none IsTick);
      leads = λ caller. (one.plays.happens, answers.of_call caller, one.plays.leaves);
      played = ap (λ (t : Tick). t ∷ []) one.plays.tick_is;
      heard = subst (g.heard old.observer new.observer) (ap (λ (list : List TickTold). list ++ []) (sym told)) one.heard;
      room = one.room;
    }

-- Loops: the ticks that were played so far, and the remaining ticks

-- The ticks `front` are the first ticks of the group, and `rest` are the ticks after them.
pub record InGroup (ticks front rest : List Tick) : Type 0 where
  pub group : group_of is_go ticks ≡ front ++ group_of is_go rest
  pub behind : behind_group is_go ticks ≡ behind_group is_go rest

pub group-begins : (ticks : List Tick) → InGroup ticks [] ticks
group-begins ticks = record { group = refl; behind = refl }

pub group-goes_on : (ticks front rest : List Tick) (tick : Tick) → InGroup ticks front (tick ∷ rest) → is_go tick ≡ false
    → InGroup ticks (front ++ tick ∷ []) rest
group-goes_on ticks front rest tick so_far other = record {
  group =
      so_far.group
      ∙ ap (λ (go : Bool). front ++ (if go then [] else tick ∷ group_of is_go rest)) other
      ∙ sym (append_assoc front (tick ∷ []) (group_of is_go rest));
  behind = so_far.behind ∙ ap (λ (go : Bool). if go then rest else behind_group is_go rest) other;
}

pub keeps-tick : (front rest : List Tick) (tick : Tick) → is_go tick ≡ false
    → front ++ without_go is_go (tick ∷ rest) ≡ (front ++ tick ∷ []) ++ without_go is_go rest
keeps-tick front rest tick other =
    ap (λ (b : Bool). front ++ (if not b then tick ∷ without_go is_go rest else without_go is_go rest)) other
    ∙ sym (append_assoc front (tick ∷ []) (without_go is_go rest))

-- The invariant of the loop over a group: the first ticks of the group were played, and `rest` are the remaining ticks.
pub record GroupPlayed {O : Type 0} (g : OfObserver O) (ticks : List Tick) (n : ℕ) (rest : List Tick) (old mid : Watched O) : Type 0 where
  pub front : List Tick
  pub split : InGroup ticks front rest
  pub plays : PlaysTicks g front n old mid
  pub room : length rest ≤ g.room_left mid.observer

-- The invariant of the loop over all groups: the ticks before `rest`, except each Go, were played.
pub record AllPlayed {O : Type 0} (g : OfObserver O) (ticks : List Tick) (n : ℕ) (rest : List Tick) (old mid : Watched O) : Type 0 where
  pub front : List Tick
  pub split : without_go is_go ticks ≡ front ++ without_go is_go rest
  pub plays : PlaysTicks g front n old mid
  pub room : length rest ≤ g.room_left mid.observer

split-group : (ticks : List Tick) → without_go is_go ticks ≡ group_of is_go ticks ++ without_go is_go (behind_group is_go ticks)
split-group [] = refl
split-group (tick ∷ later) = by_case (split-group later) (is_go tick)
  where
    by_case : without_go is_go later ≡ group_of is_go later ++ without_go is_go (behind_group is_go later) → (go : Bool)
        → (if not go then tick ∷ without_go is_go later else without_go is_go later)
        ≡ (if go then [] else tick ∷ group_of is_go later) ++ without_go is_go (if go then later else behind_group is_go later)
    by_case split true = refl
    by_case split false = ap (λ (list : List Tick). tick ∷ list) split

-- The ticks after the next group are fewer, unless there is no tick.
pub behind-shorter : (ticks : List Tick) → length (behind_group is_go ticks) ≤ length ticks - 1
behind-shorter [] = omega arith
behind-shorter (tick ∷ later) = by_case (behind-shorter later) (is_go tick)
  where
    by_case : length (behind_group is_go later) ≤ length later - 1 → (go : Bool)
        → length (if go then later else behind_group is_go later) ≤ suc (length later) - 1
    by_case fewer true = omega arith
    by_case fewer false = omega (arith, fewer)

not-go : (tick : Tick) → tick ≢ Go → is_go tick ≡ false
not-go Go other = absurd (other refl)
not-go (Step host kind) other = refl
not-go (Deliver host) other = refl

pub group-begins-played : {O : Type 0} {g : OfObserver O} {ticks : List Tick} {n : ℕ} {now : Watched O} → ComposesTold g.heard
    → length ticks ≤ g.room_left now.observer → GroupPlayed g ticks n ticks now now
group-begins-played {ticks = ticks} {n} {now} composes room =
    record { front = []; split = group-begins ticks; plays = plays-none composes now n; room = room }

pub all-begins-played : {O : Type 0} {g : OfObserver O} {ticks : List Tick} {n : ℕ} {now : Watched O} → ComposesTold g.heard
    → length ticks ≤ g.room_left now.observer → AllPlayed g ticks n ticks now now
all-begins-played {ticks = ticks} {n} {now} composes room =
    record { front = []; split = refl; plays = plays-none composes now n; room = room }

pub group-more : {O : Type 0} {g : OfObserver O} → ComposesTold g.heard
    → (old mid new : Watched O) (ticks rest : List Tick) (tick : Tick) (n : ℕ)
    → GroupPlayed g ticks n (tick ∷ rest) old mid → tick ≢ Go → PlaysNoted g tick n mid new → GroupPlayed g ticks n rest old new
group-more composes old mid new ticks rest tick n so_far other one = record {
  front = so_far.front ++ tick ∷ [];
  split = group-goes_on ticks so_far.front rest tick so_far.split (not-go tick other);
  plays = plays-join composes so_far.plays (plays-one (not-go tick other) one);
  room = omega (arith, so_far.room, one.room);
}

-- No tick of the group remains.
pub group-end : {O : Type 0} {g : OfObserver O} {old mid : Watched O} {ticks rest : List Tick} {n : ℕ}
    → GroupPlayed g ticks n rest old mid → group_of is_go rest ≡ [] → PlaysTicks g (group_of is_go ticks) n old mid
group-end {g = g} {old} {mid} {n = n} so_far none =
    subst (λ (list : List Tick). PlaysTicks g list n old mid)
    (sym (so_far.split.group ∙ ap (λ (list : List Tick). so_far.front ++ list) none ∙ append-nil so_far.front)) so_far.plays

pub no-ticks : (ticks : List Tick) → length ticks ≡ 0 → ticks ≡ []
no-ticks [] none = refl
no-ticks (tick ∷ later) none = absurd (omega (arith, none))

pub empty-ticks : (ticks : List Tick) → true ≡ (length ticks == 0) → ticks ≡ []
empty-ticks ticks is = elim (eqb_tells (length ticks) 0) [
  | inl none ↦ no-ticks ticks none.1
  | inr some ↦ absurd (let bad : true ≡ false = is ∙ some.0 in cc)
]

pub all-more : {O : Type 0} {g : OfObserver O} {old mid new : Watched O} {ticks rest later : List Tick} {n : ℕ} → ComposesTold g.heard
    → AllPlayed g ticks n rest old mid → PlaysTicks g (group_of is_go rest) n mid new → later ≡ behind_group is_go rest
    → length later ≤ g.room_left new.observer → AllPlayed g ticks n later old new
all-more {rest = rest} composes so_far plays behind room = record {
  front = so_far.front ++ group_of is_go rest;
  split = so_far.split ∙ ap (λ (list : List Tick). so_far.front ++ list) (split-group rest)
      ∙ sym (append_assoc so_far.front (group_of is_go rest) (without_go is_go (behind_group is_go rest)))
      ∙ ap (λ (list : List Tick). (so_far.front ++ group_of is_go rest) ++ without_go is_go list) (sym behind);
  plays = plays-join composes so_far.plays plays;
  room = room;
}

pub all-end : {O : Type 0} {g : OfObserver O} {old mid : Watched O} {ticks : List Tick} {n : ℕ} → AllPlayed g ticks n [] old mid
    → PlaysTicks g (without_go is_go ticks) n old mid
all-end {g = g} {old = old} {mid = mid} {n = n} so_far =
    subst (λ (list : List Tick). PlaysTicks g list n old mid) (sym (so_far.split ∙ append-nil so_far.front)) so_far.plays
