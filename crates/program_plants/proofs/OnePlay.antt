-- What is played on an adapter leads to one state, and one list is told.
use Rattle.std.proofs.Common.{◌≡◌, ◌==◌, ◌+◌, ◌++◌, ◌∷◌, [], ℕ, List, length, not, refl, sym, ap, subst, ◌∙◌, Bool, true, false}
use Rattle.std.specs.Prelude.{if◌then◌else◌, replicate}
use Rattle.adapter.specs.model_types.outcome.Outcome.{Outcome}
use Rattle.adapter.specs.model_types.step.StepKind.{StepKind}
use Rattle.adapter_plants.specs.OneAnswer.{one_answer}
use Rattle.adapter_plants.specs.OneFate.{one_fate}
use Rattle.adapter.specs.bus_types.event.Access.{Access}
use Rattle.adapter.specs.bus_types.event.Access.TheVariants.{Loads, Reads, Stores}
use Rattle.adapter.specs.bus_types.event.Event.{Event}
use Rattle.dma_memory.specs.HostMemory.{bytes_at}
use Rattle.played_adapter.specs.Choices.{drawn, step_action}
use Rattle.played_adapter.specs.Draws.{drawn_count}
use Rattle.played_adapter.specs.Order.{InOrder, Joins, Tells, Times}
use Rattle.played_adapter.specs.Outcomes.{did, moved_by}
use Rattle.played_adapter.specs.Playing.{Accessed, AllArrive, AnswersLoad, AnswersStore, Arrives, Chosen, Draws, DrawsChoice}
use Rattle.played_adapter.specs.Playing.{FrameArrives, HappensTold, HappensAlone}
use Rattle.played_adapter.specs.Playing.{Interleaves, Makes, NextArrives, OldestArrives, PlaysStepOfKind}
use Rattle.played_adapter.specs.Playing.{PlaysScheduled, Prepares, Steps, Ticks}
use Rattle.played_adapter.specs.Playing.{kinds_of_ticks, access_counted, drawn_from, due_in, noted, without_next}
use Rattle.played_adapter.specs.Told.{Told}
use Rattle.played_adapter.specs.declared.choices.Choice.{Choice}
use Rattle.played_adapter.specs.declared.choices.Choice.TheVariants.{Arrival, Step}
use Rattle.played_adapter.specs.declared.choices.Move.{Move}
use Rattle.played_adapter.specs.declared.choices.Move.TheVariants.{Hold, Play, Tick}
use Rattle.played_adapter.specs.declared.player.PlayedAdapter.{PlayedAdapter}
use Rattle.played_adapter.specs.declared.scheduling.ScheduledStep.{ScheduledStep}
use Rattle.rx_engine.specs.declared.arrival.Fate.{Fate}
use Rattle.step_schedules.specs.declared.deviation.Action.TheVariants.{Arrive}

-- If something happens twice from the same state, the states after it are equal, and so are the lists that are told.
abbrev pub IsOne : {S : Type 0} → (S → S → List Told → Type 0) → Type 0
IsOne {S} HappensTold = (a b c : S) (told other : List Told) → HappensTold a b told → HappensTold a c other → (b ≡ c) × (told ≡ other)

both_told : (a b c d : List Told) → a ≡ b → c ≡ d → a ++ c ≡ b ++ d
both_told a b c d same later = ap (λ (x : List Told). x ++ c) same ∙ ap (λ (x : List Told). b ++ x) later

joins_one : {S T : Type 0} (First : S → List Told → Type 0) (Later : S → T → List Told → Type 0)
    → ((m n : S) (x y : List Told) → First m x → First n y → (m ≡ n) × (x ≡ y))
    → ((m : S) (b c : T) (x y : List Told) → Later m b x → Later m c y → (b ≡ c) × (x ≡ y))
    → (b c : T) (told other : List Told) → Joins First (λ m. Later m b) told → Joins First (λ m. Later m c) other
    → (b ≡ c) × (told ≡ other)
joins_one First Later first_one later_one b c told other p q =
    let firsts = first_one p.middle q.middle p.first q.first p.happens q.happens in
    let later = subst (λ m. Later m c q.rest) (sym firsts.0) q.goes_on in
    let rests = later_one p.middle b c p.rest q.rest p.goes_on later in
    (rests.0, p.told_is ∙ both_told p.first q.first p.rest q.rest firsts.1 rests.1 ∙ sym q.told_is)

in_order_one : {X S : Type 0} (HappensTold : X → S → S → List Told → Type 0) → ((x : X) → IsOne (HappensTold x)) → (xs : List X)
    → IsOne (InOrder HappensTold xs)
in_order_one HappensTold each [] a b c told other p q = (p.0 ∙ sym q.0, p.1 ∙ sym q.1)
in_order_one HappensTold each (x ∷ later) a b c told other p q =
    joins_one (λ m first. HappensTold x a m first) (λ m d rest. InOrder HappensTold later m d rest)
    (λ m n. each x a m n) (λ m. in_order_one HappensTold each later m) b c told other p q

times_one : {S : Type 0} (HappensTold : S → S → List Told → Type 0) → IsOne HappensTold → (count : ℕ) → IsOne (Times HappensTold count)
times_one HappensTold one count = in_order_one (λ (turn : ℕ). HappensTold) (λ turn. one) (replicate count 0)

happens_one : (event : Event) (of_it : List Told) (next : PlayedAdapter) → IsOne (HappensTold event of_it next)
happens_one event of_it next a b c told other p q = (p.after ∙ sym q.after, p.told_is ∙ sym q.told_is)

pub outcome_is_one : (kind : StepKind) (a b c : PlayedAdapter) (outcome another : Outcome (Unit {0})) (told other : List Told)
    → Steps kind outcome a b told → Steps kind another a c other → outcome ≡ another
outcome_is_one kind a b c outcome another told other p q =
    one_answer kind _ a.machine.world.memory a.machine.world.adapter outcome another p.occurs.1 q.occurs.1

pub steps_one : (kind : StepKind) (a b c : PlayedAdapter) (outcome another : Outcome (Unit {0})) (told other : List Told)
    → Steps kind outcome a b told → Steps kind another a c other → (b ≡ c) × (told ≡ other)
steps_one kind a b c outcome another told other p q =
    let same = outcome_is_one kind a b c outcome another told other p q in
    let again = subst (λ (x : Outcome (Unit {0})). Steps kind x a c other) (sym same) q in
    (p.after ∙ sym again.after, p.told_is ∙ sym again.told_is)

pub step_one : (kind : StepKind) (outcome : Outcome (Unit {0})) → IsOne (Steps kind outcome)
step_one kind outcome a b c told other p q = (p.after ∙ sym q.after, p.told_is ∙ sym q.told_is)

pub arrives_one : (frame : List ℕ) (a b c : PlayedAdapter) (fate another : Fate) (told other : List Told)
    → Arrives frame fate a b told → Arrives frame another a c other → fate ≡ another
arrives_one frame a b c fate another told other p q =
    one_fate a.machine.world.adapter frame fate another p.occurs.1 q.occurs.1

pub arrival_one : (frame : List ℕ) (fate : Fate) → IsOne (Arrives frame fate)
arrival_one frame fate a b c told other p q = (p.after ∙ sym q.after, p.told_is ∙ sym q.told_is)

plays_one : (kind : StepKind) → IsOne (PlaysStepOfKind kind)
plays_one kind a b c told other p q =
    let outcomes = outcome_is_one kind a.0 b.0 c.0 p.outcome q.outcome told other p.steps q.steps in
    let same = steps_one kind a.0 b.0 c.0 p.outcome q.outcome told other p.steps q.steps in
    let counts : b.1 ≡ c.1 = p.count ∙ ap (λ (x : Outcome (Unit {0})). a.1 + moved_by x) outcomes ∙ sym q.count in
    (ap (λ (x : PlayedAdapter). (x, b.1)) same.0 ∙ ap (λ (n : ℕ). (c.0, n)) counts, same.1)

-- The ticks and the scheduled steps before an access.

ticks_one : IsOne Ticks
ticks_one a b c told other p q =
    let same =
    in_order_one PlaysStepOfKind plays_one (if a.ticks then kinds_of_ticks else []) (a, 0) (b, p.0) (c, q.0) told other p.1 q.1 in
    (ap (λ (x : PlayedAdapter × ℕ). x.0) same.0, same.1)

scheduled_one : (step : ScheduledStep) → IsOne (PlaysScheduled step)
scheduled_one step a b c told other p q = steps_one step.kind (without_next a) b c p.0 q.0 told other p.1 q.1

-- Offered frames, choices, moves and accesses.

frame_one : (frame : List ℕ) (later : List (List ℕ)) (a b c : PlayedAdapter) (fate another : Fate) (told other : List Told)
    → FrameArrives frame later fate a b told → FrameArrives frame later another a c other → (b ≡ c) × (told ≡ other)
frame_one frame later a b c fate another told other p q =
    let same = one_fate a.machine.world.adapter frame fate another p.occurs.1 q.occurs.1 in
    let again = subst (λ (x : Fate). FrameArrives frame later x a c other) (sym same) q in
    (p.after ∙ sym again.after, p.told_is ∙ sym again.told_is)

oldest_one : (offered : List (List ℕ)) → IsOne (OldestArrives offered)
oldest_one [] a b c told other p q = (p.0 ∙ sym q.0, p.1 ∙ sym q.1)
oldest_one (frame ∷ later) a b c told other p q = frame_one frame later a b c p.0 q.0 told other p.1 q.1

next_one : IsOne NextArrives
next_one a b c told other p q = oldest_one a.offered a b c told other p q

pub all_one : IsOne AllArrive
all_one a b c told other p q = times_one NextArrives next_one (length a.offered) a b c told other p q

chosen_one : (choice : Choice) → IsOne (Chosen choice)
chosen_one (Step kind) a b c told other p q =
    let outcomes = outcome_is_one kind a b c p.outcome q.outcome p.first q.first p.steps q.steps in
    let same = steps_one kind a b c p.outcome q.outcome p.first q.first p.steps q.steps in (
      same.0,
      p.told_is ∙ both_told p.first q.first (noted (did p.outcome) (step_action kind)) (noted (did q.outcome) (step_action kind)) same.1
          (ap (λ (x : Outcome (Unit {0})). noted (did x) (step_action kind)) outcomes) ∙ sym q.told_is,
    )
chosen_one Arrival a b c told other p q =
    let same = next_one a b c p.first q.first p.arrives q.arrives in
    (same.0, p.told_is ∙ ap (λ (x : List Told). x ++ noted (not (length a.offered == 0)) Arrive) same.1 ∙ sym q.told_is)

draws_choice_one : IsOne DrawsChoice
draws_choice_one a b c told other p q = chosen_one (drawn a.offered a.generator).0 (drawn_from a) b c told other p q

interleaves_one : IsOne Interleaves
interleaves_one a b c told other p q =
    times_one DrawsChoice draws_choice_one (drawn_count a.most_steps a.generator).0
    (record a { generator = (drawn_count a.most_steps a.generator).1 }) b c told other p q

makes_one : (move : Move) → IsOne (Makes move)
makes_one (Tick kind) a b c told other p q = steps_one kind a b c p.0 q.0 told other p.1 q.1
makes_one (Hold action) a b c told other p q = (p.0 ∙ sym q.0, p.1 ∙ sym q.1)
makes_one (Play choice) a b c told other p q = chosen_one choice a b c told other p q

pub moves_one : (moves : List Move) → IsOne (InOrder Makes moves)
moves_one moves = in_order_one Makes makes_one moves

draws_one : IsOne Draws
draws_one a b c told other p q =
    let same = interleaves_one a p.0 q.0 told other p.1 q.1 in
    (p.2 ∙ ap (λ (x : PlayedAdapter). access_counted x) same.0 ∙ sym q.2, same.1)

prepares_one : IsOne Prepares
prepares_one a b c told other p q =
    joins_one (Ticks a)
    (λ ticked d later. Joins (InOrder PlaysScheduled (due_in ticked) ticked) (λ waited rest. Draws waited d rest) later)
    (λ m n. ticks_one a m n)
    (λ m d e x y. joins_one (InOrder PlaysScheduled (due_in m) m) (λ waited f rest. Draws waited f rest)
    (λ k l. in_order_one PlaysScheduled scheduled_one (due_in m) m k l) draws_one d e x y)
    b c told other p q

pub reads_one : (offset value another : ℕ) (a b c : PlayedAdapter) (told other : List Told)
    → Accessed (Reads offset value) a b told → Accessed (Reads offset another) a c other → value ≡ another
reads_one offset value another a b c told other p q =
    let firsts = prepares_one a p.middle q.middle p.first q.first p.happens q.happens in
    let again = subst (λ (m : PlayedAdapter). HappensAlone (Reads offset another) m c q.rest) (sym firsts.0) q.goes_on in
    p.goes_on.occurs ∙ sym again.occurs

pub accessed_one : (access : Access) → IsOne (Accessed access)
accessed_one access a b c told other p q =
    joins_one (Prepares a) (λ middle d rest. HappensAlone access middle d rest) (λ m n. prepares_one a m n)
    (λ m d e x y p q. (p.after ∙ sym q.after, p.told_is ∙ sym q.told_is)) b c told other p q

pub loads_one : (address : ℕ) (old new another : List ℕ) (yes no : Bool) (a b c : PlayedAdapter) (told other : List Told)
    → AnswersLoad address old new yes a b told → AnswersLoad address old another no a c other
    → (yes ≡ no) × (new ≡ another) × (b ≡ c) × (told ≡ other)
loads_one address old new another true true a b c told other p q =
    let same = accessed_one (Loads address (length old)) a b c told other (p.accessed refl) (q.accessed refl) in (
      refl,
      p.loaded refl ∙ ap (λ (x : PlayedAdapter). bytes_at x.machine.world.memory address (length old)) same.0 ∙ sym (q.loaded refl),
      same.0,
      same.1,
    )
loads_one address old new another true false a b c told other p q = let is = p.range ∙ sym q.range in absurd (cc)
loads_one address old new another false true a b c told other p q = let is = p.range ∙ sym q.range in absurd (cc)
loads_one address old new another false false a b c told other p q =
    let one = p.refused refl in
    let two = q.refused refl in
    (refl, one.0 ∙ sym two.0, one.1 ∙ sym two.1, one.2 ∙ sym two.2)

pub stores_one : (address : ℕ) (bytes : List ℕ) (yes no : Bool) (a b c : PlayedAdapter) (told other : List Told)
    → AnswersStore address bytes yes a b told → AnswersStore address bytes no a c other → (yes ≡ no) × (b ≡ c) × (told ≡ other)
stores_one address bytes true true a b c told other p q =
    let same = accessed_one (Stores address bytes) a b c told other (p.accessed refl) (q.accessed refl) in
    (refl, same.0, same.1)
stores_one address bytes true false a b c told other p q = let is = p.range ∙ sym q.range in absurd (cc)
stores_one address bytes false true a b c told other p q = let is = p.range ∙ sym q.range in absurd (cc)
stores_one address bytes false false a b c told other p q =
    let one = p.refused refl in
    let two = q.refused refl in
    (refl, one.0 ∙ sym two.0, one.1 ∙ sym two.1)

pub one_told : {O S : Type 0} (heard : O → O → List Told → Type 0) (HappensTold : S → S → List Told → Type 0) → IsOne HappensTold
    → (a b c : S)
    (before after before' after' : O) → Tells heard before after (HappensTold a b) → Tells heard before' after' (HappensTold a c)
    → (b ≡ c) × ((told : List Told) × heard before after told × heard before' after' told)
one_told heard HappensTold one a b c before after before' after' p q =
    let same = one a b c p.told q.told p.holds q.holds in
    (same.0, (p.told, p.hears, subst (λ (told : List Told). heard before' after' told) (sym same.1) q.hears))

-- Two observers were told the same list.
pub heard_alike : {O : Type 0} (heard : O → O → List Told → Type 0) (a b c d : O) {told same : List Told} → told ≡ same
    → heard a b told → heard c d same → (told : List Told) × heard a b told × heard c d told
heard_alike heard a b c d {told} is first other = (told, first, subst (heard c d) (sym is) other)
