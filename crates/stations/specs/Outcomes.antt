-- The outcomes of ticks that an observer collects (our choice).
use Rattle.std.specs.Prelude.{◌≡◌, ◌≤◌, ◌+◌, ◌++◌, ℕ, List, length, map, vec_capacity}
use Rattle.stations.specs.ToldTicks.{TickTold}
use Rattle.stations.specs.declared.outcomes.Numbered.{Numbered}
use Rattle.stations.specs.declared.outcomes.Outcomes.TheInside.{Inside}

-- The collected outcomes, in order, and the number of further outcomes for which there is room.
pub record OutcomeList : Type 0 where
  pub list : List Numbered
  pub room : ℕ

-- The value of `Outcomes` in contracts, from the fields of the struct.
abbrev pub outcomes_of : Inside → OutcomeList
outcomes_of inside = record { list = inside.list.items; room = length inside.spare.items }

-- The list's memory has room for the outcomes in the list and for one more outcome for each spare frame.
pub record HasPlaces (inside : Inside) : Type 0 where
  pub places : length inside.list.items + length inside.spare.items ≤ vec_capacity inside.list

-- The outcome that an observer was told, with the number of accesses before its tick.
abbrev pub note_of : TickTold → Numbered
note_of told = record { accesses = told.accesses; outcome = told.outcome }

-- The outcomes of the ticks that were told were appended, in order.
abbrev pub Collects : (before after : OutcomeList) → List TickTold → Type 0
Collects before after told = after.list ≡ before.list ++ map note_of told

-- The number of further outcomes for which there is room.
abbrev pub room_of : OutcomeList → ℕ
room_of outcomes = outcomes.room
