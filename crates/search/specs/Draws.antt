-- What is drawn at a place.
use Rattle.std.specs.Prelude.{◌≡◌, ◌<◌, ◌≤◌, ℕ, Bool, List, true}
use Rattle.std.specs.Prelude.{false, ◌==◌, ◌&&◌, ◌||◌, nat_le, nat_lt, slice_index, if◌then◌else◌}
use Rattle.search.specs.Actions.{action_in, is_possible, none}
use Rattle.search.specs.declared.actions.Action.{Action}
use Rattle.search.specs.declared.priorities.Priorities.{Priorities}

-- An action would do something, and is drawn in the way `kind`.
pub record IsDrawn (actions : List Action) (possible kind number : ℕ) : Type 0 where
  pub does : is_possible possible number ≡ true
  pub is_kind : (action_in actions number).drawn ≡ kind

-- An action would do something, and is drawn as `ENGINE`, `HALF`, `QUARTER` or `ANSWER`. So it is one of the table.
pub record IsDrawable (actions : List Action) (possible number : ℕ) : Type 0 where
  pub does : is_possible possible number ≡ true
  pub kind : (action_in actions number).drawn < 4

-- An action was left for a place, and isn't any more.
pub record IsTaken (old new number : ℕ) : Type 0 where
  pub was : is_possible old number ≡ true
  pub gone : is_possible new number ≡ false

-- No other actions are left for a place than before.
abbrev pub AreFewer : ℕ → ℕ → Type 0
AreFewer old new = (number : ℕ) → is_possible new number ≡ true → is_possible old number ≡ true

-- Priorities.

-- the group of an action, or 0 if it has none with a priority
abbrev pub group_of : List Action → ℕ → ℕ
group_of actions number =
    if nat_lt (action_in actions number).group 64 then (action_in actions number).group else 0

-- the priority of an action: that of its group
abbrev pub priority_of : Priorities → List Action → ℕ → ℕ
priority_of priorities actions number = slice_index priorities.groups (group_of actions number)

-- an action of one of `count` groups would do something; group 0 is the driver, which has no action
abbrev pub is_waiting : List Action → ℕ → ℕ → ℕ → Bool
is_waiting actions possible count number =
    is_possible possible number && (action_in actions number).drawn == 0
    && nat_lt 0 (group_of actions number) && nat_lt (group_of actions number) count

-- An action would do something, and goes before `first`, an action with a smaller number, or none.
abbrev pub takes_over : Priorities → List Action → ℕ → ℕ → ℕ → ℕ → Bool
takes_over priorities actions possible count first number =
    is_waiting actions possible count number
    && (first == none || nat_le (priority_of priorities actions first) (priority_of priorities actions number))

-- The action `first` goes before `other`, or is `other`: its priority is higher, or equal, and its number isn't smaller.
pub record GoesBefore (priorities : Priorities) (actions : List Action) (other first : ℕ) : Type 0 where
  pub priority : priority_of priorities actions other ≤ priority_of priorities actions first
  pub number : priority_of priorities actions other ≡ priority_of priorities actions first → other ≤ first

-- No action of a group with a higher priority than that of `first` would do something, and none of its group with a higher number.
abbrev pub GoesFirst : Priorities → List Action → ℕ → ℕ → ℕ → Type 0
GoesFirst priorities actions possible count first =
    (other : ℕ) → is_waiting actions possible count other ≡ true → GoesBefore priorities actions other first

-- the group that runs at a place: the driver's is 0
abbrev pub running : Priorities → ℕ
running priorities = if nat_lt priorities.runs 64 then priorities.runs else 0

-- An action goes first, and before the group that runs: its priority is higher, or the place waits for another group.
pub record GoesNext (priorities : Priorities) (actions : List Action) (possible count first : ℕ) : Type 0 where
  pub goes_first : GoesFirst priorities actions possible count first
  pub overtakes : priorities.must_wait ≡ false
      → slice_index priorities.groups (running priorities) < priority_of priorities actions first
