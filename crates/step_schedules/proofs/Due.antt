-- The actions that are due before an event.
use Rattle.std.proofs.Common.{◌≡◌, ◌∙◌, ◌+◌, ◌++◌, ◌<◌, ◌||◌, ◌∷◌, [], ℕ, Bool, List, None, Option, Some, ap, arith, drop, false, filter}
use Rattle.std.proofs.Common.{get_or, if◌then◌else◌, length, map, refl, subst, suc, sym, take, true}
use Rattle.std.proofs.Math.Seq.{drop-cons}
use Rattle.std.proofs.lemmas.List.{append-nil, map-append, take-append-drop, take_more}
use Rattle.std.proofs.lemmas.List.Elements.{filter-append}
use Rattle.std.proofs.lemmas.List.Folds.{list_any-append}
use Rattle.std.specs.List.{list_any}
use Rattle.step_schedules.specs.Agendas.{held_after, held_by, holds_eeprom, holds_phy}
use Rattle.step_schedules.specs.Events.{EventValue}
use Rattle.step_schedules.specs.Players.{chosen}
use Rattle.step_schedules.specs.Waiting.{WaitingValue, action_of, due_action, due_before, is_due, waiting_value}
use Rattle.step_schedules.specs.declared.deviation.Action.{Action}
use Rattle.step_schedules.specs.declared.waiting.Waiting.{Waiting}

-- the actions, and one more, if there is one
abbrev pub with_next : List Action → Option Action → List Action
with_next actions None = actions
with_next actions (Some action) = actions ++ action ∷ []

one_due : (is : Bool) (actions : List Action) (w : WaitingValue)
    → actions ++ map action_of (if is then w ∷ [] else []) ≡ with_next actions (if is then Some (action_of w) else None)
one_due true actions w = refl
one_due false actions w = append-nil actions

pub due_next : (event : EventValue) (ws : List WaitingValue) (w : WaitingValue)
    → due_before event (ws ++ w ∷ []) ≡ with_next (due_before event ws) (due_action event w)
due_next event ws w =
    ap (map action_of) (filter-append (is_due event) ws (w ∷ []))
    ∙ map-append action_of (filter (is_due event) ws) (filter (is_due event) (w ∷ []))
    ∙ one_due (is_due event w) (due_before event ws) w

or_none : (is : Bool) → (is || false) ≡ is
or_none true = refl
or_none false = refl

any_next : (p : Action → Bool) (actions : List Action) (action : Action)
    → list_any p (actions ++ action ∷ []) ≡ (list_any p actions || p action)
any_next p actions action =
    list_any-append p actions (action ∷ []) ∙ ap (λ (is : Bool). list_any p actions || is) (or_none (p action))

held_so : (actions : List Action) (next : Option Action) → held_by (with_next actions next) ≡ held_after (held_by actions) next
held_so actions None = refl
held_so actions (Some action) =
    ap (λ (is : Bool). record { eeprom = is; phy = list_any holds_phy (actions ++ action ∷ []) }) (any_next holds_eeprom actions action)
    ∙ ap (λ (is : Bool). record { eeprom = list_any holds_eeprom actions || holds_eeprom action; phy = is })
    (any_next holds_phy actions action)

pub held_next : (event : EventValue) (ws : List WaitingValue) (w : WaitingValue)
    → held_by (due_before event (ws ++ w ∷ [])) ≡ held_after (held_by (due_before event ws)) (due_action event w)
held_next event ws w = ap held_by (due_next event ws w) ∙ held_so (due_before event ws) (due_action event w)

chosen_here : (is : Bool) (w : WaitingValue) (later : List WaitingValue) (action : Action) (number : ℕ)
    → (if is then Some (action_of w) else None) ≡ Some action → ((rest : List Action) → number ≡ chosen (action ∷ rest))
    → number ≡ chosen (map action_of (if is then w ∷ later else later))
chosen_here true w later action number same is =
    subst (λ (a : Option Action). number ≡ chosen (with_next [] a ++ map action_of later)) (sym same) (is (map action_of later))
chosen_here false w later action number same is = absurd (cc)

pub chosen_at : (event : EventValue) (before : List WaitingValue) (w : WaitingValue) (later : List WaitingValue) (action : Action)
    (number : ℕ)
    → due_before event before ≡ [] → due_action event w ≡ Some action → ((rest : List Action) → number ≡ chosen (action ∷ rest))
    → number ≡ chosen (due_before event (before ++ w ∷ later))
chosen_at event before w later action number none same is =
    chosen_here (is_due event w) w (filter (is_due event) later) action number same is
    ∙ sym (ap chosen (ap (map action_of) (filter-append (is_due event) before (w ∷ later))
    ∙ map-append action_of (filter (is_due event) before) (filter (is_due event) (w ∷ later))
    ∙ ap (λ (l : List Action). l ++ due_before event (w ∷ later)) none))

pub split_at : {X : Type 0} (xs : List X) (i : ℕ) (x : X) → i < length xs → x ≡ get_or xs i x → xs ≡ take i xs ++ x ∷ drop (i + 1) xs
split_at {X} xs i x inside is =
    let next : suc i ≡ i + 1 = omega arith in
    sym (take-append-drop i xs)
    ∙ ap (λ (l : List X). take i xs ++ l) (drop-cons xs i x inside
    ∙ ap (λ (y : X). y ∷ drop (suc i) xs) (sym is) ∙ ap (λ (n : ℕ). x ∷ drop n xs) next)

pub read_split : (all : List Waiting) (i : ℕ) (one : Waiting) → i < length all → one ≡ get_or all i one
    → map waiting_value all ≡ map waiting_value (take i all) ++ waiting_value one ∷ map waiting_value (drop (i + 1) all)
read_split all i one inside is =
    ap (map waiting_value) (split_at all i one inside is) ∙ map-append waiting_value (take i all) (one ∷ drop (i + 1) all)

pub read_more : (all : List Waiting) (i : ℕ) (one : Waiting) → i < length all → one ≡ get_or all i one
    → map waiting_value (take (i + 1) all) ≡ map waiting_value (take i all) ++ waiting_value one ∷ []
read_more all i one inside is =
    ap (map waiting_value) (take_more all i one inside ∙ ap (λ (w : Waiting). take i all ++ w ∷ []) (sym is))
    ∙ map-append waiting_value (take i all) (one ∷ [])
