-- The options at a place: which actions are tried there, after the last action at this place.
use Rattle.std.specs.Prelude.{◌≡◌, ◌≢◌, ◌<◌, ◌≤◌, ◌∷◌, [], ℕ, Bool}
use Rattle.std.specs.Prelude.{List, true, false, ◌==◌, ◌&&◌, ◌||◌, not, nat_le, length}
use Rattle.std.specs.Prelude.{◌⊎◌, if◌then◌else◌, min}
use Rattle.std.specs.List.{filter, range_with_len}
use Rattle.search.specs.Actions.{action_in, actor_of, are_pair, free, is_pair, is_possible, none}
use Rattle.search.specs.declared.actions.Action.{Action}

-- An action is tried after another one at the same place, unless both commute and the other order is tried, or both are a pair, which is
-- tried as one action.
abbrev pub is_tried_after : List Action → ℕ → ℕ → Bool
is_tried_after actions last number =
    actor_of actions last == free || actor_of actions number == free
    || (nat_le (actor_of actions last) (actor_of actions number) && not (are_pair actions last number))

-- An action is an option after the action `last` at the same place, or after `none`. In a search of every schedule, all actions but pairs are
-- options.
abbrev pub is_option : List Action → ℕ → ℕ → Bool → ℕ → Bool
is_option actions possible last is_every number =
    is_possible possible number
    && (if is_every then not (is_pair actions number) else (last == none || is_tried_after actions last number))

-- the options at a place, in ascending order
abbrev pub options : List Action → ℕ → ℕ → Bool → List ℕ
options actions possible last is_every =
    filter (is_option actions possible last is_every) (range_with_len 0 (min (length actions) 64))

-- Why nothing is left out.

-- A table of at most 64 actions. The parts of each pair have its actor, and are no pairs.
pub record IsTable (actions : List Action) : Type 0 where
  pub most : length actions ≤ 64
  pub parts : (pair part : ℕ) → is_pair actions pair ≡ true
      → ((action_in actions pair).first ≡ part) ⊎ ((action_in actions pair).second ≡ part)
      → (is_pair actions part ≡ false) × (actor_of actions part ≡ actor_of actions pair)

-- Two actions commute at a place.
pub record Commute (actions : List Action) (one other : ℕ) : Type 0 where
  pub one_may : actor_of actions one ≢ free
  pub other_may : actor_of actions other ≢ free
  pub different : actor_of actions one ≢ actor_of actions other

-- An action is the pair of two others.
pub record IsPairOf (actions : List Action) (pair first second : ℕ) : Type 0 where
  pub within : pair < length actions
  pub begins : (action_in actions pair).first ≡ first
  pub ends : (action_in actions pair).second ≡ second

-- A sequence of actions becomes another one by exchanges of neighbors that commute, and by joining neighbors to their pair.
pub data Becomes (actions : List Action) : List ℕ → List ℕ → Type 0 where
  same : (sequence : List ℕ) → Becomes actions sequence sequence
  exchanged : (one other : ℕ) (later : List ℕ) → Commute actions one other
      → Becomes actions (one ∷ other ∷ later) (other ∷ one ∷ later)
  joined : (first second pair : ℕ) (later : List ℕ) → IsPairOf actions pair first second
      → Becomes actions (first ∷ second ∷ later) (pair ∷ later)
  below : (one : ℕ) (before after : List ℕ) → Becomes actions before after → Becomes actions (one ∷ before) (one ∷ after)
  then : (before between after : List ℕ) → Becomes actions before between → Becomes actions between after
      → Becomes actions before after

-- The first action of a sequence, if there is one, is tried after `last`.
abbrev pub GoesOn : List Action → ℕ → List ℕ → Type 0
GoesOn actions last [] = Unit {0}
GoesOn actions last (next ∷ later) = is_tried_after actions last next ≡ true

-- Each action of a sequence is tried after the one before it.
abbrev pub IsTried : List Action → List ℕ → Type 0
IsTried actions [] = Unit {0}
IsTried actions (last ∷ later) = GoesOn actions last later × IsTried actions later

-- Each sequence of actions at a place becomes one that is tried, and that isn't longer.
abbrev pub NothingIsLeftOut : Type 0
NothingIsLeftOut =
    (actions : List Action) → IsTable actions → (sequence : List ℕ)
    → (tried : List ℕ) × (Becomes actions sequence tried × IsTried actions tried × (length tried ≤ length sequence))
