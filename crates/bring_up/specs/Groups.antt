-- The groups that a host has joined, and the bits of the group table for them ("13.5.1 Multicast Table Array"). That a
-- host keeps a list of at most 32 groups is our choice.
use Rattle.std.specs.Prelude.{⊤, ◌≡◌, ◌≤◌, ◌<◌, ◌⊎◌, ◌↔◌, ◌+◌, ◌*◌, ◌/◌, ◌∷◌, [], ℕ, All, Bool, List, Result, length, slice_set}
use Rattle.std.specs.List.{Contains}
use Rattle.std.specs.Result.{OnOk}
use Rattle.registers.specs.Bits.{HasBit}
use Rattle.registers.specs.ReceiveControl.{shift_of}
use Rattle.registers.specs.declared.receive_control.GroupOffset.TheVariants.{Bits47To36}
use Rattle.rx_filter.specs.Addresses.{IsGroup, group_number}
use Rattle.rx_filter.specs.NumberTables.{HasNumbers, numbers_of_groups}
use Rattle.adapter.specs.World.{World}
use Rattle.adapter.specs.model_types.offsets.TheConstants.{MTA, REGISTER_BYTES}
use Rattle.bring_up.specs.ConfiguredAdapters.{AreWords}
use Rattle.bring_up.specs.WrittenRegisters.{register_limit}
use Rattle.bring_up.specs.declared.config.TheConstants.{MOST_GROUPS}
use Rattle.bring_up.specs.declared.groups.GroupError.{GroupError}
use Rattle.adapter.specs.bus_types.bus.Bus.{Ghosts}
use Rattle.adapter.specs.bus_types.event.Access.{Access}
use Rattle.adapter.specs.bus_types.event.Access.TheVariants.{Writes}
use Rattle.adapter.specs.Calls.{IsReadyOver, Moment, Ran, at, only}
use Rattle.adapter.specs.DriverState.{DriverState}

-- No group is in the list twice.
abbrev pub EachOnce : List (List ℕ) → Type 0
EachOnce [] = ⊤
EachOnce (group ∷ later) = (¬ (Contains later group)) × EachOnce later

-- At most 32 groups are joined, each once. Each address is that of a group.
pub record AreJoined (groups : List (List ℕ)) : Type 0 where
  pub most : length groups ≤ MOST_GROUPS
  pub groups_all : All IsGroup groups
  pub once : EachOnce groups

-- The list `groups` contains exactly the groups of `named`, each once.
pub record AreNamedOnce (named groups : List (List ℕ)) : Type 0 where
  -- no group is in the list twice
  pub once : EachOnce groups
  -- a group is in the list exactly if it is in `named`
  pub same : (group : List ℕ) → Contains groups group ↔ Contains named group

-- The group table

-- the number of a group, if RCTL.MO is 00
abbrev pub group_number_of : List ℕ → ℕ
group_number_of group = group_number (shift_of Bits47To36) group

-- A group in the list has the same number as this group.
abbrev pub HasNumber : List (List ℕ) → List ℕ → Type 0
HasNumber groups group = Contains (numbers_of_groups groups) (group_number_of group)

-- The group table of an adapter has exactly the bits of these groups.
pub record HasTable (groups : List (List ℕ)) (world : World) : Type 0 where
  -- MTA has the bits of the groups' numbers, and no others
  pub numbers : HasNumbers world.adapter.filter.mta (numbers_of_groups groups)
  -- each word of MTA has 32 bits
  pub words : AreWords world.adapter.filter.mta

-- If MTA has exactly the bits of the joined groups, these groups determine its words.
abbrev pub TablesAgree : Type 0
TablesAgree =
    (groups : List (List ℕ)) (a b : World) → HasTable groups a → HasTable groups b → b.adapter.filter.mta ≡ a.adapter.filter.mta

-- The 32 bits of `value` are those of the word `word` in a group table with exactly the bits of `numbers`.
abbrev pub IsWord : (word : ℕ) → (numbers : List ℕ) → (value : ℕ) → Type 0
IsWord word numbers value = (place : ℕ) → place < 32 → HasBit value place ↔ Contains numbers (word * 32 + place)

-- the index of the word of the group table that contains the bit of a group's number
abbrev pub word_of : List ℕ → ℕ
word_of group = group_number_of group / 32

-- The only access writes the word that contains the bit of the group's number. The word gets exactly the bits of the
-- numbers of `groups`.
pub record WritesWord (group : List ℕ) (groups : List (List ℕ)) (accesses : List Access) : Type 0 where
  -- the value that is written
  pub value : ℕ
  -- the value has exactly the bits of those numbers of `groups` that are in this word
  pub bits : IsWord (word_of group) (numbers_of_groups groups) value
  -- there is no other access
  pub is : accesses ≡ Writes (MTA + REGISTER_BYTES * word_of group) value ∷ []

-- The accesses to the group table when a group is joined or left. `kept` are the groups that are joined both before and
-- after, and `groups` are those joined after. If a group of `kept` has the same number, there is no access. Otherwise
-- one word is written.
abbrev pub SetsTable : (kept : List (List ℕ)) → (group : List ℕ) → (groups : List (List ℕ)) → List Access → Type 0
SetsTable kept group groups accesses =
    (HasNumber kept group × (accesses ≡ [])) ⊎ ((¬ HasNumber kept group) × WritesWord group groups accesses)

-- A driver joins or leaves a group

-- the driver with these joined groups
abbrev pub with_groups : List (List ℕ) → DriverState → DriverState
with_groups groups driver = record driver { groups = groups }

-- A driver joined or left a group over a bus that obeys the law, while the groups `kept` remained joined. The accesses
-- are exactly those of `SetsTable`. If the group table had exactly the bits of the groups joined before, it has exactly
-- the bits of those joined after.
pub record ChangesJoined {B : Type 0} (bus : Ghosts B) (up : Bool) (kept : List (List ℕ)) (group : List ℕ) (old new : Moment B) : Type 0
  where
    pub accesses : List Access
    pub sets : SetsTable kept group new.driver.groups accesses
    pub ran : Ran bus up (only accesses) old new
    pub table : HasTable old.driver.groups (bus.world old.bus) → HasTable new.driver.groups (bus.world new.bus)

-- `join` or `leave`, over a bus that obeys the law. If the result is Ok, the joined groups changed from `groups` to `groups'`, while the
-- groups `kept` remained joined. `ChangesJoined` holds for the driver that has joined `groups`, whatever else its state is.
abbrev pub ChangesGroups : {B : Type 0} → Ghosts B → Result (Unit {0}) GroupError → (kept : List (List ℕ)) → (group : List ℕ)
    → (groups groups' : List (List ℕ)) → (old new : B) → Type 0
ChangesGroups bus result kept group groups groups' old new =
    (up : Bool) (d : DriverState) → IsReadyOver bus up (at old d)
    → OnOk result (ChangesJoined bus up kept group (at old (with_groups groups d)) (at new (with_groups groups' d)))

-- The only access wrote `value` to the word of the group table that contains the bit of `group`. The value has exactly those bits of the
-- numbers of `groups` that are in this word. The other words of the table are the same.
pub record RewritesWord {B : Type 0} (bus : Ghosts B) (up : Bool) (group : List ℕ) (groups : List (List ℕ)) (d : DriverState) (old new : B)
    : Type 0 where
  pub value : ℕ
  pub bits : IsWord (word_of group) (numbers_of_groups groups) value
  pub fits : value < register_limit
  pub table : (bus.world new).adapter.filter.mta ≡ slice_set (bus.world old).adapter.filter.mta (word_of group) value
  pub ran : Ran bus up (only (Writes (MTA + REGISTER_BYTES * word_of group) value ∷ [])) (at old d) (at new d)
