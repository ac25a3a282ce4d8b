-- Actions, their pairs, and masks of actions.
use Rattle.std.specs.Prelude.{ℕ, Bool, List, ◌==◌, ◌&&◌, not, nat_lt, slice_index_or}
use Rattle.std.specs.Int.{bit_at}
use Rattle.std.specs.List.{list_any}
use Rattle.search.specs.declared.actions.Action.{Action}

-- no action, and the actor of an action that commutes with no other
abbrev pub none : ℕ
none = 0xFFFFFFFF

abbrev pub free : ℕ
free = 0xFFFFFFFF

-- the action with this number; outside of the table, one that commutes with no other, and is no pair
abbrev pub action_in : List Action → ℕ → Action
action_in actions number =
    slice_index_or actions number
    (record { actor = free; first = none; second = none; drawn = none; group = none })

abbrev pub actor_of : List Action → ℕ → ℕ
actor_of actions number = (action_in actions number).actor

-- an action is a pair: two other actions, one after the other
abbrev pub is_pair : List Action → ℕ → Bool
is_pair actions number = not ((action_in actions number).first == none)

-- two actions, one after the other, are a pair of the table
abbrev pub are_pair : List Action → ℕ → ℕ → Bool
are_pair actions first second =
    list_any (λ (pair : Action). pair.first == first && pair.second == second) actions

-- a mask contains an action: bit `number`, below 64, is set
abbrev pub is_possible : ℕ → ℕ → Bool
is_possible mask number = nat_lt number 64 && bit_at mask number == 1

-- an action of the table is drawn in this way
abbrev pub is_of_kind : List Action → ℕ → ℕ → Bool
is_of_kind actions kind number = (action_in actions number).drawn == kind
