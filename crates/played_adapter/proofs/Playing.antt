-- The steps before an access don't change the size of memory. If no steps are played before an access, only the access happens.
use Rattle.std.proofs.Common.{◌≡◌, ◌∙◌, ◌+◌, ◌++◌, ◌∷◌, ◌≤◌, [], ℕ, Bool, List, true, ap, arith, cond, length, nat_le, subst, sym}
use Rattle.std.proofs.lemmas.Bool.Decides.{nat_tests}
use Rattle.rand_pcg.specs.Lcg.{Lcg}
use Rattle.adapter.specs.model_types.outcome.Outcome.{Outcome}
use Rattle.adapter.specs.model_types.step.StepKind.{StepKind}
use Rattle.adapter.proofs.Trails.{event_happens}
use Rattle.adapter.specs.bus_types.event.Event.TheVariants.{Arrives}
use Rattle.played_adapter.specs.Draws.{drawn_count}
use Rattle.played_adapter.specs.Order.{InOrder, Times}
use Rattle.played_adapter.specs.Choices.{drawn}
use Rattle.played_adapter.specs.Playing.{Chosen, DrawsChoice, HappensAlone, Interleaves, Makes, OldestArrives, PlaysStepOfKind}
use Rattle.played_adapter.specs.Playing.{PlaysScheduled, Prepares, QuietAccessesAreExact, Steps, kinds_of_ticks, access_counted, drawn_from}
use Rattle.played_adapter.specs.Playing.{due_in, has_bytes, step_of, without_next}
use Rattle.played_adapter.specs.Told.{Told}
use Rattle.played_adapter.specs.declared.choices.Choice.{Choice}
use Rattle.played_adapter.specs.declared.choices.Choice.TheVariants.{Arrival, Step}
use Rattle.played_adapter.specs.declared.choices.Move.{Move}
use Rattle.played_adapter.specs.declared.choices.Move.TheVariants.{Hold, Play, Tick}
use Rattle.played_adapter.specs.declared.player.PlayedAdapter.{PlayedAdapter}
use Rattle.played_adapter.specs.declared.scheduling.ScheduledStep.{ScheduledStep}
use Rattle.played_adapter.proofs.Telling.{in_order_keeps}

abbrev size_of : PlayedAdapter → ℕ
size_of a = length a.machine.world.memory

step_keeps : (kind : StepKind) (outcome : Outcome (Unit {0})) (a b : PlayedAdapter) (told : List Told) → Steps kind outcome a b told
    → size_of b ≡ size_of a
step_keeps kind outcome a b told steps =
    ap size_of steps.after ∙ (event_happens (step_of kind outcome a) a.machine.world tt steps.occurs).steady.size

oldest_keeps : (offered : List (List ℕ)) (a b : PlayedAdapter) (told : List Told) → OldestArrives offered a b told → size_of b ≡ size_of a
oldest_keeps [] a b told same = ap size_of same.0
oldest_keeps (frame ∷ later) a b told arrives =
    ap size_of arrives.1.after ∙ (event_happens (Arrives frame arrives.0) a.machine.world tt arrives.1.occurs).steady.size

chosen_keeps : (choice : Choice) (a b : PlayedAdapter) (told : List Told) → Chosen choice a b told → size_of b ≡ size_of a
chosen_keeps (Step kind) a b told played = step_keeps kind played.outcome a b played.first played.steps
chosen_keeps Arrival a b told played = oldest_keeps a.offered a b played.first played.arrives

drawn_keeps : (a b : PlayedAdapter) (told : List Told) → DrawsChoice a b told → size_of b ≡ size_of a
drawn_keeps a b told draws = chosen_keeps (drawn a.offered a.generator).0 (drawn_from a) b told draws

interleaving_keeps : (a b : PlayedAdapter) (told : List Told) → Interleaves a b told → size_of b ≡ size_of a
interleaving_keeps a b told steps =
    in_order_keeps (λ (turn : ℕ). DrawsChoice) size_of (λ turn. drawn_keeps) _
    (record a { generator = (drawn_count a.most_steps a.generator).1 }) b told steps

made_keeps : (next : Move) (a b : PlayedAdapter) (told : List Told) → Makes next a b told → size_of b ≡ size_of a
made_keeps (Tick kind) a b told played = step_keeps kind played.0 a b told played.1
made_keeps (Hold action) a b told noted = ap size_of noted.0
made_keeps (Play choice) a b told chosen = chosen_keeps choice a b told chosen

pub moves_keep : (moves : List Move) (a b : PlayedAdapter) (told : List Told) (address count : ℕ) → InOrder Makes moves a b told
    → has_bytes b address count ≡ has_bytes a address count
moves_keep moves a b told address count made =
    ap (λ (size : ℕ). nat_le (address + count) size) (in_order_keeps Makes size_of made_keeps moves a b told made)

scheduled_keeps : (step : ScheduledStep) (a b : PlayedAdapter) (told : List Told) → PlaysScheduled step a b told → size_of b ≡ size_of a
scheduled_keeps step a b told played = step_keeps step.kind played.0 (without_next a) b told played.1

played_keeps : (kind : StepKind) (a b : PlayedAdapter × ℕ) (told : List Told) → PlaysStepOfKind kind a b told → size_of b.0 ≡ size_of a.0
played_keeps kind a b told played = step_keeps kind played.outcome a.0 b.0 told played.steps

pub still_fits : (a b : PlayedAdapter) (told : List Told) (address count : ℕ) → has_bytes a address count ≡ true → Prepares a b told
    → address + count ≤ size_of b
still_fits a b told address count fits steps =
    let ticked = steps.middle in
    let waited = steps.goes_on.middle in
    let draws = steps.goes_on.goes_on in
    let ticks : size_of ticked ≡ size_of a = in_order_keeps PlaysStepOfKind (λ (s : PlayedAdapter × ℕ). size_of s.0) played_keeps _ (a, 0)
    (ticked, steps.happens.0) _ steps.happens.1 in
    let first : size_of waited ≡ size_of ticked = in_order_keeps PlaysScheduled size_of scheduled_keeps _ ticked waited _
    steps.goes_on.happens in
    let later = interleaving_keeps waited draws.0 _ draws.1 in
    let kept : size_of b ≡ size_of a = ap size_of draws.2 ∙ later ∙ first ∙ ticks in
    let before : address + count ≤ size_of a = grind (arith, nat_tests) in
    omega arith

pub draws_fit : (a b : PlayedAdapter) (told : List Told) (address count : ℕ) → has_bytes a address count ≡ true
    → Interleaves a b told → address + count ≤ size_of b
draws_fit a b told address count fits steps =
    let later = interleaving_keeps a b told steps in
    let before : address + count ≤ size_of a = grind (arith, nat_tests) in
    omega arith

none_drawn : (a b : PlayedAdapter) (told : List Told) → a.most_steps ≡ 0 → Interleaves a b told → (b ≡ a) × (told ≡ [])
none_drawn a b told none steps =
    subst (λ (drawn : ℕ × Lcg). Times DrawsChoice drawn.0 (record a { generator = drawn.1 }) b told)
    (ap (λ (most : ℕ). drawn_count most a.generator) none) steps

pub quiet_accesses : QuietAccessesAreExact
quiet_accesses access a b told no_ticks none_is_drawn none_is_due accessed =
    let steps = accessed.happens in
    let ticked = steps.middle in
    let waited = steps.goes_on.middle in
    let draws = steps.goes_on.goes_on in
    let ticks = subst (λ (on : Bool). InOrder PlaysStepOfKind (cond on kinds_of_ticks []) (a, 0) (ticked, steps.happens.0) steps.first)
    no_ticks
    steps.happens.1 in
    let ticked_is : ticked ≡ a = ap (λ (s : PlayedAdapter × ℕ). s.0) ticks.0 in
    let none_due : due_in ticked ≡ [] = ap due_in ticked_is ∙ none_is_due in
    let due = subst (λ (due : List ScheduledStep). InOrder PlaysScheduled due ticked waited steps.goes_on.first) none_due
    steps.goes_on.happens in
    let waited_is : waited ≡ a = due.0 ∙ ticked_is in
    let drawn = none_drawn waited draws.0 _ (ap (λ (s : PlayedAdapter). s.most_steps) waited_is ∙ none_is_drawn) draws.1 in
    let same : accessed.middle ≡ access_counted a = draws.2 ∙ ap access_counted (drawn.0 ∙ waited_is) in
    let nothing : accessed.first ≡ [] = steps.told_is ∙ ap (λ (t : List Told). t ++ steps.rest) ticks.1
    ∙ steps.goes_on.told_is ∙ ap (λ (t : List Told). t ++ steps.goes_on.rest) due.1 ∙ drawn.1 in
    subst (λ (t : List Told). HappensAlone access (access_counted a) b t)
    (ap (λ (t : List Told). t ++ accessed.rest) (sym nothing) ∙ sym accessed.told_is)
    (subst (λ (s : PlayedAdapter). HappensAlone access s b accessed.rest) same accessed.goes_on)
