-- A solo bus that plays the same ticks and requests from one state has one list of events.
use Rattle.std.proofs.Common.{◌≡◌, ◌+◌, ◌++◌, ◌∷◌, [], ℕ, List, Bool, refl, sym, ap, subst, length, ◌∙◌}
use Rattle.std.specs.Prelude.{⊤, map}
use Rattle.adapter.specs.Outcomes.{FrameOutcome}
use Rattle.adapter.specs.World.{World}
use Rattle.adapter.specs.model_types.step.StepKind.{StepKind}
use Rattle.adapter.specs.model_types.step.StepKind.TheVariants.{EepromTick, PhyTick, RxData, RxDone, TxPut, TxTake}
use Rattle.adapter_plants.specs.OneAnswer.{answers_are_one}
use Rattle.adapter_plants.specs.OneFate.{one_fate}
use Rattle.adapter.specs.StepsAndArrivals.{past_of_step}
use Rattle.adapter.specs.Trails.{Trail, past_of, world_after}
use Rattle.adapter.specs.bus_types.event.Access.{Access}
use Rattle.adapter.specs.bus_types.event.Access.TheVariants.{Loads, Reads, Stores, Writes}
use Rattle.adapter.specs.bus_types.event.Event.{Event}
use Rattle.adapter.specs.bus_types.event.Event.TheVariants.{Accesses, Arrives, Steps}
use Rattle.rx_engine.specs.declared.arrival.Fate.{Fate}
use Rattle.adapter.specs.SoloBuses.{AreFree, solo_tick_of}

-- The two accesses are equal, except for the values that reads returned.
abbrev pub IsSameRequest : Access → Access → Type 0
IsSameRequest (Reads offset value) (Reads at other) = offset ≡ at
IsSameRequest (Writes offset value) (Writes at other) = (offset ≡ at) × (value ≡ other)
IsSameRequest (Loads address size) (Loads at other) = (address ≡ at) × (size ≡ other)
IsSameRequest (Stores address bytes) (Stores at other) = (address ≡ at) × (bytes ≡ other)
IsSameRequest _ _ = ⊥

-- The two lists contain the same accesses in the same order, except for the values that reads returned.
abbrev pub AreSameRequests : List Access → List Access → Type 0
AreSameRequests [] [] = ⊤
AreSameRequests (x ∷ xs) (y ∷ ys) = IsSameRequest x y × AreSameRequests xs ys
AreSameRequests _ _ = ⊥

access_one : (a b : Access) (world : World) → IsSameRequest a b → Trail (Accesses a ∷ []) world (world_after (Accesses a) world)
    → Trail (Accesses b ∷ []) world (world_after (Accesses b) world) → a ≡ b
access_one (Reads offset value) (Reads at other) world same p q =
    let again = subst (λ (x : ℕ). Trail (Accesses (Reads x other) ∷ []) world (world_after (Accesses (Reads x other)) world)) (sym same) q
    in
    ap (λ (x : ℕ). Reads offset x) (p.0 ∙ sym again.0) ∙ ap (λ (x : ℕ). Reads x other) same
access_one (Reads offset value) _ world same p q = absurd same
access_one (Writes offset value) (Writes at other) world same p q = cc (same.0, same.1)
access_one (Writes offset value) _ world same p q = absurd same
access_one (Loads address size) (Loads at other) world same p q = cc (same.0, same.1)
access_one (Loads address size) _ world same p q = absurd same
access_one (Stores address bytes) (Stores at other) world same p q = cc (same.0, same.1)
access_one (Stores address bytes) _ world same p q = absurd same

pub no_accesses : (kind : StepKind) (answer : FrameOutcome) → (past_of_step kind answer).accesses ≡ []
no_accesses TxTake answer = refl
no_accesses TxPut answer = refl
no_accesses RxData answer = refl
no_accesses RxDone answer = refl
no_accesses EepromTick answer = refl
no_accesses PhyTick answer = refl

pub trail_end : (events : List Event) (a b c : World) → Trail events a b → Trail events a c → b ≡ c
trail_end [] a b c p q = p ∙ sym q
trail_end (event ∷ later) a b c p q = trail_end later (world_after event a) b c p.1 q.1

-- Two lists of events that can happen from the world `a`, with the same ticks and the same requests. The first leads to `b`, and the second
-- to `c`.
pub record Courses (xs ys : List Event) (a b c : World) (frames : ℕ) : Type 0 where
  pub ticks : map solo_tick_of xs ≡ map solo_tick_of ys
  pub free : AreFree xs frames
  pub other_free : AreFree ys frames
  pub requests : AreSameRequests (past_of xs).accesses (past_of ys).accesses
  pub trail : Trail xs a b
  pub other_trail : Trail ys a c

-- Two lists of events for which `Courses` holds are equal.
pub courses_one : (xs ys : List Event) (a b c : World) (frames : ℕ) → Courses xs ys a b c frames → xs ≡ ys
courses_one [] [] a b c frames p = refl
courses_one [] (y ∷ ys) a b c frames p = absurd (cc (p.ticks))
courses_one (x ∷ xs) [] a b c frames p = absurd (cc (p.ticks))
courses_one (Steps kind free answer ∷ xs) (Steps other another outcome ∷ ys) a b c frames p =
    let kinds : other ≡ kind = cc (p.ticks) in
    let rest : map solo_tick_of xs ≡ map solo_tick_of ys = cc (p.ticks) in
    let frees : another ≡ free = p.other_free.0 ∙ sym p.free.0 in
    let trail = subst (λ (k : StepKind). Trail (Steps k another outcome ∷ ys) a c) kinds p.other_trail in
    let trail = subst (λ (f : Bool). Trail (Steps kind f outcome ∷ ys) a c) frees trail in
    let answers : outcome ≡ answer = sym (answers_are_one kind free a.memory a.adapter answer outcome p.trail.0.1 trail.0.1) in
    let trail = subst (λ (o : FrameOutcome). Trail (Steps kind free o ∷ ys) a c) answers trail in
    let other_free = subst (λ (k : StepKind). AreFree (Steps k another outcome ∷ ys) frames) kinds p.other_free in
    let other_free = subst (λ (o : FrameOutcome). AreFree (Steps kind another o ∷ ys) frames) answers other_free in
    let requests = subst (λ (made : List Access). AreSameRequests (made ++ (past_of xs).accesses)
    ((past_of_step other outcome).accesses ++ (past_of ys).accesses))
    (no_accesses kind answer) p.requests in
    let requests = subst (λ (made : List Access). AreSameRequests (past_of xs).accesses (made ++ (past_of ys).accesses))
    (no_accesses other outcome) requests in
    let later = courses_one xs ys (world_after (Steps kind free answer) a) b c (frames + length (past_of_step kind answer).put) (record {
      ticks = rest;
      free = p.free.1;
      other_free = other_free.1;
      requests = requests;
      trail = p.trail.1;
      other_trail = trail.1;
    }) in
    cc (kinds, frees, answers, later)
courses_one (Steps kind free answer ∷ xs) (Arrives frame fate ∷ ys) a b c frames p = absurd (cc (p.ticks))
courses_one (Steps kind free answer ∷ xs) (Accesses access ∷ ys) a b c frames p = absurd (cc (p.ticks))
courses_one (Arrives frame fate ∷ xs) (Steps kind free answer ∷ ys) a b c frames p = absurd (cc (p.ticks))
courses_one (Arrives frame fate ∷ xs) (Arrives another other ∷ ys) a b c frames p =
    let same : another ≡ frame = cc (p.ticks) in
    let rest : map solo_tick_of xs ≡ map solo_tick_of ys = cc (p.ticks) in
    let trail = subst (λ (f : List ℕ). Trail (Arrives f other ∷ ys) a c) same p.other_trail in
    let fates : other ≡ fate = sym (one_fate a.adapter frame fate other p.trail.0.1 trail.0.1) in
    let trail = subst (λ (f : Fate). Trail (Arrives frame f ∷ ys) a c) fates trail in
    let later = courses_one xs ys (world_after (Arrives frame fate) a) b c frames (record {
      ticks = rest;
      free = p.free;
      other_free = p.other_free;
      requests = p.requests;
      trail = p.trail.1;
      other_trail = trail.1;
    }) in
    cc (same, fates, later)
courses_one (Arrives frame fate ∷ xs) (Accesses access ∷ ys) a b c frames p = absurd (cc (p.ticks))
courses_one (Accesses access ∷ xs) (Steps kind free answer ∷ ys) a b c frames p = absurd (cc (p.ticks))
courses_one (Accesses access ∷ xs) (Arrives frame fate ∷ ys) a b c frames p = absurd (cc (p.ticks))
courses_one (Accesses access ∷ xs) (Accesses other ∷ ys) a b c frames p =
    let rest : map solo_tick_of xs ≡ map solo_tick_of ys = cc (p.ticks) in
    let same : other ≡ access = sym (access_one access other a p.requests.0 (p.trail.0, refl) (p.other_trail.0, refl)) in
    let trail = subst (λ (x : Access). Trail (Accesses x ∷ ys) a c) same p.other_trail in
    let later = courses_one xs ys (world_after (Accesses access) a) b c frames (record {
      ticks = rest;
      free = p.free;
      other_free = p.other_free;
      requests = p.requests.1;
      trail = p.trail.1;
      other_trail = trail.1;
    }) in
    cc (same, later)
