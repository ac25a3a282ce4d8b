-- Whether the link is up, and the values of the control and status registers, from the list of all events since a PHY was new.
use Rattle.std.specs.Prelude.{◌≡◌, ℕ, ◌≤◌, ◌==◌, ◌&&◌, ◌||◌, Bool, true, false, not, List, [], ◌∷◌, ◌++◌, count_by, nat_le, IsTrue}
use Rattle.std.specs.Prelude.{if◌then◌else◌}
use Rattle.std.specs.List.{list_any}
use Rattle.registers.specs.Bits.{is_set}
use Rattle.registers.specs.Places.{alone}
use Rattle.mdic_phy.specs.declared.phy.Link.{Link}
use Rattle.mdic_phy.specs.declared.phy.Link.TheVariants.{After, Never}
use Rattle.mdic_phy.specs.Phy.{PhyState, new_phy, phy_after_write, phy_after_read, after_tick}
use Rattle.mdic_phy.specs.Phy.{read_value, link_is_up, link_seen, link_unseen}
use Rattle.mdic_phy.specs.PhyPlaces.{control_enable, control_reset, control_restart}

-- An event at a PHY: a tick, a read of a register, or a write of a value to a register.
pub data PhyEvent : Type 0 where
  Tick : PhyEvent
  Read : ℕ → PhyEvent
  Write : ℕ → ℕ → PhyEvent

-- The PHY after one event.
abbrev pub phy_after : PhyEvent → PhyState → PhyState
phy_after Tick phy = after_tick phy
phy_after (Read register) phy = phy_after_read register phy
phy_after (Write register value) phy = phy_after_write register value phy

-- The PHY after a list of events, the oldest first.
abbrev pub phy_after_all : List PhyEvent → PhyState → PhyState
phy_after_all [] phy = phy
phy_after_all (event ∷ later) phy = phy_after_all later (phy_after event phy)

-- A PHY that was new, after a list of events.
abbrev pub phy_behind : Link → List PhyEvent → PhyState
phy_behind link events = phy_after_all events (new_phy link)

-- Whether the event is a tick.
abbrev pub is_tick_of_phy : PhyEvent → Bool
is_tick_of_phy Tick = true
is_tick_of_phy (Read register) = false
is_tick_of_phy (Write register value) = false

-- Whether the event is a read of the status register, register 1.
abbrev pub is_status_read : PhyEvent → Bool
is_status_read Tick = false
is_status_read (Read register) = register == 1
is_status_read (Write register value) = false

-- Whether the event is a write of the control register, register 0.
abbrev pub is_control_write : PhyEvent → Bool
is_control_write Tick = false
is_control_write (Read register) = false
is_control_write (Write register value) = register == 0

-- Whether the event is a write of register 0 with bit 15 (IEEE 802.3, 22.2.4.1, "Reset").
abbrev pub is_phy_reset : PhyEvent → Bool
is_phy_reset Tick = false
is_phy_reset (Read register) = false
is_phy_reset (Write register value) = register == 0 && is_set value control_reset

-- Whether the event is a write of register 0 with bits 12 and 9, and without bit 15 (22.2.4.1, "Restart Auto-Negotiation").
abbrev pub is_restart : PhyEvent → Bool
is_restart Tick = false
is_restart (Read register) = false
is_restart (Write register value) = register == 0 && (not
    (is_set value control_reset) && (is_set value control_enable && is_set value control_restart))

-- Whether the event is a reset or a restart. Only these events take the link down.
abbrev pub takes_down : PhyEvent → Bool
takes_down event = is_phy_reset event || is_restart event

-- No event of the list passes the test.
abbrev pub HasNo : (PhyEvent → Bool) → List PhyEvent → Type 0
HasNo test events = list_any test events ≡ false

-- With `After d`, 1 ≤ d, the link is up exactly if at least d ticks, but no reset, followed the last start of negotiation. With `Never`,
-- the link is down.
pub record LinkByHistory : Type 0 where
  -- The link is down if no write ever started negotiation.
  pub never_started : (link : Link) (all : List PhyEvent) → HasNo is_restart all → link_is_up (phy_behind link all) ≡ false
  -- The link is down if no write started negotiation since a reset.
  pub reset : (link : Link) (before : List PhyEvent) (event : PhyEvent) (after : List PhyEvent) → IsTrue (is_phy_reset event)
      → HasNo is_restart after
      → link_is_up (phy_behind link (before ++ event ∷ after)) ≡ false
  -- With `After d` and d at least 1, the link is up exactly if at least d ticks followed the start of negotiation. Neither a reset nor a
  -- restart may have followed this start.
  pub started : (d : ℕ) (before : List PhyEvent) (event : PhyEvent) (after : List PhyEvent) → 1 ≤ d → IsTrue (is_restart event)
      → HasNo takes_down after
      → link_is_up (phy_behind (After d) (before ++ event ∷ after)) ≡ nat_le d (count_by is_tick_of_phy after)
  -- A link that is set to `Never` is down.
  pub never : (all : List PhyEvent) → link_is_up (phy_behind Never all) ≡ false

-- The value of the status register after a list of events.
abbrev pub status_behind : Link → List PhyEvent → ℕ
status_behind link events = read_value 1 (phy_behind link events)

-- `value` if the link is up after the events, and 0 if the link is down.
abbrev pub where_up : Link → List PhyEvent → ℕ → ℕ
where_up link events value = if link_is_up (phy_behind link events) then value else 0

-- Bit 5 of the status register is set exactly if the link is up. Bit 2 is set exactly if the link is up and the register was read after the
-- last reset or restart (22.2.4.2, "Link Status": latched low until read).
pub record LatchByHistory : Type 0 where
  -- Bit 2 is 0 before the first read of the register.
  pub never_read : (link : Link) (all : List PhyEvent) → HasNo is_status_read all → status_behind link all ≡ where_up link all link_unseen
  -- Bit 2 is 0 if no read of the register followed a reset or a restart.
  pub taken_down : (link : Link) (before : List PhyEvent) (event : PhyEvent) (after : List PhyEvent) → IsTrue (takes_down event)
      → HasNo is_status_read after
      → status_behind link (before ++ event ∷ after) ≡ where_up link (before ++ event ∷ after) link_unseen
  -- Bit 2 is 1 if the link is up and neither a reset nor a restart followed a read of the register.
  pub stayed : (link : Link) (before : List PhyEvent) (event : PhyEvent) (after : List PhyEvent) → IsTrue (is_status_read event)
      → HasNo takes_down after
      → status_behind link (before ++ event ∷ after) ≡ where_up link (before ++ event ∷ after) link_seen

-- The value of the control register after a list of events.
abbrev pub control_behind : Link → List PhyEvent → ℕ
control_behind link events = read_value 0 (phy_behind link events)

-- The control register reads bit 12 of the last value written to it. If this write was a reset, or nothing was written, bit 12 is 1.
pub record ControlByHistory : Type 0 where
  -- Before the first write of the register, bit 12 is 1.
  pub never_written : (link : Link) (all : List PhyEvent) → HasNo is_control_write all → control_behind link all ≡ alone control_enable
  -- If the last write was a reset, bit 12 is 1.
  pub reset : (link : Link) (before : List PhyEvent) (value : ℕ) (after : List PhyEvent) → is_set value control_reset ≡ true
      → HasNo is_control_write after
      → control_behind link (before ++ Write 0 value ∷ after) ≡ alone control_enable
  -- If the last write wasn't a reset, the register reads bit 12 of the written value.
  pub kept : (link : Link) (before : List PhyEvent) (value : ℕ) (after : List PhyEvent) → is_set value control_reset ≡ false
      → HasNo is_control_write after
      → control_behind link (before ++ Write 0 value ∷ after) ≡ (if is_set value control_enable then alone control_enable else 0)
