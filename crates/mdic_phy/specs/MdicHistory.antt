-- The value of MDIC, and the events at the PHY, from the list of all writes and ticks since the register was new.
use Rattle.std.specs.Prelude.{◌≡◌, ◌≢◌, ℕ, Bool, true, false, List, [], ◌∷◌, ◌++◌, Option, Some, None, if◌then◌else◌}
use Rattle.std.specs.List.{list_any}
use Rattle.registers.specs.Bits.{is_set}
use Rattle.mdic_phy.specs.declared.mdic.Operation.{Operation}
use Rattle.mdic_phy.specs.declared.mdic.Operation.TheVariants as operation
use Rattle.mdic_phy.specs.declared.mdic.Ticked.{Ticked}
use Rattle.mdic_phy.specs.Phy.{PhyState, read_value, comes_up, is_counting}
use Rattle.mdic_phy.specs.Mdic.{MdicState, new_mdic, mdic_after_write, mdic_after_tick, phy_after_tick}
use Rattle.mdic_phy.specs.Mdic.{kept_bits, with_ready, with_error, with_data}
use Rattle.mdic_phy.specs.Mdic.{data_bits, regadd, phyadd, operation_of, reaches_phy, told}
use Rattle.mdic_phy.specs.PhyHistory.{PhyEvent, phy_after_all}
use Rattle.mdic_phy.specs.PhyHistory as phy
use Rattle.mdic_phy.specs.PhyPlaces.{mdic_i}

-- An event at the register: a write of a value, or a tick of the PHY. A read changes nothing.
pub data MdicEvent : Type 0 where
  Write : ℕ → MdicEvent
  Tick : MdicEvent

-- The register MDIC and its PHY.
pub record MdicAndPhy : Type 0 where
  pub mdic : MdicState
  pub phy : PhyState

-- MDIC and the PHY after one event. A write doesn't change the PHY.
abbrev pub after_mdic_event : MdicEvent → MdicAndPhy → MdicAndPhy
after_mdic_event (Write value) both = record { mdic = mdic_after_write value; phy = both.phy }
after_mdic_event Tick both = record { mdic = mdic_after_tick both.mdic both.phy; phy = phy_after_tick both.mdic both.phy }

-- MDIC and the PHY after a list of events, the oldest first.
abbrev pub after_mdic_events : List MdicEvent → MdicAndPhy → MdicAndPhy
after_mdic_events [] both = both
after_mdic_events (event ∷ later) both = after_mdic_events later (after_mdic_event event both)

-- A new register MDIC and this PHY, after a list of events.
abbrev pub both_behind : PhyState → List MdicEvent → MdicAndPhy
both_behind state events = after_mdic_events events (record { mdic = new_mdic; phy = state })

-- The access of a command to the PHY, as a list: a read or a write of register REGADD if PHYADD is 1. Otherwise the list is empty (manual,
-- 13.4.7).
abbrev pub access_of : Option Operation → ℕ → List PhyEvent
access_of None value = []
access_of (Some operation.Write) value = if reaches_phy value then phy.Write (regadd value) (data_bits value) ∷ [] else []
access_of (Some operation.Read) value = if reaches_phy value then phy.Read (regadd value) ∷ [] else []

-- The events at the PHY: each tick, and after it the access of the write that is right before this tick. A write makes no access if another
-- write follows it before a tick, or if no tick has followed yet.
abbrev pub accesses : List MdicEvent → List PhyEvent
accesses [] = []
accesses (Tick ∷ later) = phy.Tick ∷ accesses later
accesses (Write value ∷ []) = []
accesses (Write value ∷ Tick ∷ later) = phy.Tick ∷ (access_of (operation_of value) value ++ accesses later)
accesses (Write value ∷ Write next ∷ later) = accesses (Write next ∷ later)

-- The state of the PHY after a list of events of MDIC is its state after the events at the PHY (`accesses`).
abbrev pub AccessesByHistory : Type 0
AccessesByHistory = (state : PhyState) (all : List MdicEvent) → (both_behind state all).phy ≡ phy_after_all (accesses all) state

-- Whether the event is a write.
abbrev pub is_write : MdicEvent → Bool
is_write (Write value) = true
is_write Tick = false

-- No event of the list is a write.
abbrev pub NoWrite : List MdicEvent → Type 0
NoWrite events = list_any is_write events ≡ false

-- The value of MDIC after a list of events, if MDIC was new and the PHY was in this state before them.
abbrev pub mdic_reads : PhyState → List MdicEvent → ℕ
mdic_reads state events = (both_behind state events).mdic.value

-- The PHY, from this state on, after a list of events of MDIC and one more tick.
abbrev pub ticked_phy : PhyState → List MdicEvent → PhyState
ticked_phy state events = phy_after_all (accesses events ++ phy.Tick ∷ []) state

-- What a tick after these events reports to the adapter, if MDIC was new and the PHY was in this state before them.
abbrev pub told_behind : PhyState → List MdicEvent → Option Ticked
told_behind state events = told (both_behind state events).mdic (both_behind state events).phy

-- The PHY, from this state on, after a list of events of MDIC.
abbrev pub phy_of : PhyState → List MdicEvent → PhyState
phy_of state events = phy_after_all (accesses events) state

-- The report of a tick of a PHY in this state, if no command is pending: whether the link changes from down to up. The result is `None` if
-- no countdown is running.
abbrev pub told_of_link : PhyState → Option Ticked
told_of_link phy = if is_counting phy then Some (record { link_changed = comes_up phy; access_complete = false }) else None

-- A tick reports LSC if the link changed from down to up. The tick reports MDAC if a command ended whose I is set (manual, 13.4.7): the
-- command of the write right before this tick, and no other.
pub record ToldByHistory : Type 0 where
  -- A tick before any other event: no command is pending.
  pub first : (state : PhyState) → told_behind state [] ≡ told_of_link state
  -- A tick right after another tick: no command is pending.
  pub ticked : (state : PhyState) (before : List MdicEvent)
      → told_behind state (before ++ Tick ∷ []) ≡ told_of_link (phy_of state (before ++ Tick ∷ []))
  -- A tick right after a write without a command.
  pub no_command : (state : PhyState) (before : List MdicEvent) (value : ℕ) → operation_of value ≡ None
      → told_behind state (before ++ Write value ∷ []) ≡ told_of_link (phy_of state (before ++ Write value ∷ []))
  -- A tick right after a write with a command: the tick reports MDAC exactly if I is set in the written value.
  pub command : (state : PhyState) (before : List MdicEvent) (value : ℕ) (asked : Operation) → operation_of value ≡ Some asked
      → told_behind state (before ++ Write value ∷ [])
      ≡ Some (record { link_changed = comes_up (phy_of state (before ++ Write value ∷ [])); access_complete = is_set value mdic_i })

-- The value of MDIC depends only on the last write, and on the PHY's register at the first tick after this write, if any (manual, 13.4.7).
-- Commands of earlier writes don't matter.
pub record MdicByHistory : Type 0 where
  -- Without a write, the register reads 0.
  pub never_written : (state : PhyState) (all : List MdicEvent) → NoWrite all → mdic_reads state all ≡ 0
  -- Until a tick, the register reads the last written value, without R, E and bit 31.
  pub no_tick_yet : (state : PhyState) (before : List MdicEvent) (value : ℕ)
      → mdic_reads state (before ++ Write value ∷ []) ≡ kept_bits value
  -- If OP of the last write is 00 or 11, ticks don't change the value.
  pub no_command : (state : PhyState) (before : List MdicEvent) (value : ℕ) (after : List MdicEvent) → operation_of value ≡ None
      → NoWrite after
      → mdic_reads state (before ++ Write value ∷ after) ≡ kept_bits value
  -- After a tick has ended a write command for the PHY, the register reads the kept bits of the written value, with R set.
  pub written : (state : PhyState) (before : List MdicEvent) (value : ℕ) (after : List MdicEvent)
      → operation_of value ≡ Some operation.Write → phyadd value ≡ 1 → NoWrite after
      → mdic_reads state (before ++ Write value ∷ Tick ∷ after) ≡ with_ready (kept_bits value)
  -- After a tick has ended a read command for the PHY, R is set, and DATA is the PHY's register at this tick.
  pub read : (state : PhyState) (before : List MdicEvent) (value : ℕ) (after : List MdicEvent) → operation_of value ≡ Some operation.Read
      → phyadd value ≡ 1 → NoWrite after
      → mdic_reads state (before ++ Write value ∷ Tick ∷ after)
      ≡ with_ready (with_data (read_value (regadd value) (ticked_phy state before)) (kept_bits value))
  -- After a tick has ended a command with a PHYADD other than 1, R and E are set, and DATA is as written.
  pub not_there : (state : PhyState) (before : List MdicEvent) (value : ℕ) (asked : Operation) (after : List MdicEvent)
      → operation_of value ≡ Some asked → phyadd value ≢ 1 → NoWrite after
      → mdic_reads state (before ++ Write value ∷ Tick ∷ after) ≡ with_error (kept_bits value)
