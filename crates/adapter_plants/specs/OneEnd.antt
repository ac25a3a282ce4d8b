-- The same ticks, played from one state, lead to one state, and observers are told the same outcomes.
use Rattle.std.proofs.Common.{◌≡◌, ◌++◌, ◌∷◌, [], ℕ, List, refl, sym, ap, subst, ◌∙◌}
use Rattle.std.specs.Prelude.{map}
use Rattle.std.specs.List.{All}
use Rattle.std.proofs.lemmas.List.Elements.{All-head, All-tail}
use Rattle.adapter.specs.Outcomes.{FrameOutcome}
use Rattle.adapter_plants.specs.OneStep.{atoms_one}
use Rattle.adapter.specs.bus_types.event.Event.TheVariants.{Accesses, Arrives, Steps}
use Rattle.adapter.specs.TickGroups.{without_go}
use Rattle.stations.specs.AtomicRuns.{IsTick, LeadsTo, counted_by, is_go, step_told, steps_told}
use Rattle.stations.specs.AtomicSteps.{AtomicStep, At, Idles, IsNoAccess, Watched, after_atomic, step_outcome, tick_of}
use Rattle.stations.specs.PlayedTicks.{PlaysTicks}
use Rattle.stations.specs.LentBuses.{Finished, watched_by}
use Rattle.stations.specs.Stations.{StationState}
use Rattle.stations.specs.ToldTicks.{TickTold, tick_told}
use Rattle.stations.specs.declared.lent_bus.LentBus.{LentBus}
use Rattle.stations.specs.declared.observer.Observer.{Ghosts as OfObserver}
use Rattle.stations.specs.declared.tick.Tick.{Tick}

no_access : (step : AtomicStep) → IsTick step → IsNoAccess step
no_access (At host (Steps kind free answer)) is = is
no_access (At host (Arrives frame fate)) is = is
no_access (At host (Accesses access)) is = absurd (cc (is))
no_access (Idles tick) is = tt

-- For a step that is a tick, observers are told this tick with its outcome, and no access is counted.
told_of_tick : (n : ℕ) (step : AtomicStep) → IsTick step → step_told n step ≡ tick_told (tick_of step) n (step_outcome step) ∷ []
told_of_tick n (At host (Steps kind free answer)) is = refl
told_of_tick n (At host (Arrives frame fate)) is = refl
told_of_tick n (At host (Accesses access)) is = absurd (cc (is))
told_of_tick n (Idles tick) is = refl

uncounted : (n : ℕ) (step : AtomicStep) → IsTick step → counted_by n step ≡ n
uncounted n (At host (Steps kind free answer)) is = refl
uncounted n (At host (Arrives frame fate)) is = refl
uncounted n (At host (Accesses access)) is = absurd (cc (is))
uncounted n (Idles tick) is = refl

told_first : (n : ℕ) (step : AtomicStep) (later : List AtomicStep) → IsTick step
    → steps_told n (step ∷ later) ≡ tick_told (tick_of step) n (step_outcome step) ∷ steps_told n later
told_first n step later is =
    ap (λ (told : List TickTold). told ++ steps_told (counted_by n step) later) (told_of_tick n step is)
    ∙ ap (λ (k : ℕ). tick_told (tick_of step) n (step_outcome step) ∷ steps_told k later) (uncounted n step is)

same_told : (n : ℕ) (x y : AtomicStep) (xs ys : List AtomicStep) → IsTick x → IsTick y → tick_of x ≡ tick_of y
    → step_outcome x ≡ step_outcome y → steps_told n xs ≡ steps_told n ys → steps_told n (x ∷ xs) ≡ steps_told n (y ∷ ys)
same_told n x y xs ys is is' ticks outcomes rest =
    told_first n x xs is
    ∙ ap (λ (tick : Tick). tick_told tick n (step_outcome x) ∷ steps_told n xs) ticks
    ∙ ap (λ (outcome : FrameOutcome). tick_told (tick_of y) n outcome ∷ steps_told n xs) outcomes
    ∙ ap (λ (told : List TickTold). tick_told (tick_of y) n (step_outcome y) ∷ told) rest
    ∙ sym (told_first n y ys is')

-- The states `new` and `other` are equal, and after both lists of steps the observers were told the same outcomes.
record EndAsOne (n : ℕ) (steps others : List AtomicStep) (new other : List StationState) : Type 0 where
  states : new ≡ other
  told : steps_told n steps ≡ steps_told n others

ends_one : (caller n : ℕ) (steps others : List AtomicStep) (old new other : List StationState) → All IsTick steps → All IsTick others
    → map tick_of steps ≡ map tick_of others → LeadsTo caller steps old new → LeadsTo caller others old other
    → EndAsOne n steps others new other
ends_one caller n [] [] old new other are are' same p q = record { states = p ∙ sym q; told = refl }
ends_one caller n [] (y ∷ ys) old new other are are' same p q = absurd (cc (same))
ends_one caller n (x ∷ xs) [] old new other are are' same p q = absurd (cc (same))
ends_one caller n (x ∷ xs) (y ∷ ys) old new other are are' same p q =
    let first : tick_of x ≡ tick_of y = cc (same) in
    let rest : map tick_of xs ≡ map tick_of ys = cc (same) in
    let is = All-head IsTick x xs are in
    let is' = All-head IsTick y ys are' in
    let one = atoms_one x y old (no_access x is) (no_access y is') first p.0 q.0 in
    let later = ends_one caller n xs ys (after_atomic x old) new other (All-tail IsTick x xs are) (All-tail IsTick y ys are') rest p.2
    (subst (λ (s : List StationState). LeadsTo caller ys s other) (sym one.states) q.2) in
    record { states = later.states; told = same_told n x y xs ys is is' first one.outcomes later.told }

-- The stations of `new` and `other` are equal, and from `old` to `new` and from `old'` to `other`, the observers were told the same
-- outcomes.
pub record AreOneEnd {O : Type 0} (observers : OfObserver O) (old old' new other : Watched O) : Type 0 where
  pub states : new.stations ≡ other.stations
  pub told : List TickTold
  pub heard : observers.heard old.observer new.observer told
  pub other_heard : observers.heard old'.observer other.observer told

ticks_one : {O : Type 0} (observers : OfObserver O) (ticks : List Tick) (accesses : ℕ) (old old' new other : Watched O)
    → old.stations ≡ old'.stations → PlaysTicks observers ticks accesses old new → PlaysTicks observers ticks accesses old' other
    → AreOneEnd observers old old' new other
ticks_one observers ticks accesses old old' new other same p q =
    let one = ends_one 0 accesses p.steps q.steps old.stations new.stations other.stations p.are q.are (p.played ∙ sym q.played)
    (p.leads 0) (subst (λ (s : List StationState). LeadsTo 0 q.steps s other.stations) (sym same) (q.leads 0)) in
    record {
      states = one.states;
      told = steps_told accesses p.steps;
      heard = p.heard;
      other_heard = subst (λ (told : List TickTold). observers.heard old'.observer other.observer told) (sym one.told) q.heard;
    }

-- If two lent buses have the same stations, ticks and count of accesses, `finish` results in equal stations, and reports the same outcomes
-- to both observers.
pub finished_one : {O : Type 0} {g : OfObserver O} (a b c d : LentBus O g) → a.stations.now ≡ c.stations.now → a.ticks.now ≡ c.ticks.now
    → a.accesses ≡ c.accesses → Finished a b → Finished c d → AreOneEnd g (watched_by a) (watched_by c) (watched_by b) (watched_by d)
finished_one {O} {g} a b c d stations ticks accesses p q =
    let again = subst (λ (n : ℕ). PlaysTicks g (without_go is_go c.ticks.now) n (watched_by c) (watched_by d)) (sym accesses) q.plays in
    let again = subst (λ (ticks : List Tick). PlaysTicks g (without_go is_go ticks) a.accesses (watched_by c) (watched_by d))
    (sym ticks) again in
    ticks_one g (without_go is_go a.ticks.now) a.accesses (watched_by a) (watched_by c) (watched_by b) (watched_by d) stations p.plays again
