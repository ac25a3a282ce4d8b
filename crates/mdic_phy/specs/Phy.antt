-- A PHY with the registers of IEEE 802.3, clause 22, as far as they concern the link, one step at a time.
use Rattle.std.specs.Prelude.{ℕ, ◌-◌, ◌==◌, ◌&&◌, Bool, true, false, nat_le, not, if◌then◌else◌}
use Rattle.registers.specs.Bits.{is_set, union}
use Rattle.registers.specs.Places.{alone}
use Rattle.mdic_phy.specs.declared.phy.Link.{Link}
use Rattle.mdic_phy.specs.declared.phy.Link.TheVariants.{After, Never}
use Rattle.mdic_phy.specs.declared.phy.Negotiation.{Negotiation}
use Rattle.mdic_phy.specs.declared.phy.Negotiation.TheVariants.{NotStarted, Running, Complete}
use Rattle.mdic_phy.specs.PhyPlaces.{control_enable, control_reset, control_restart, status_complete, status_link}

-- The state of a PHY.
pub record PhyState : Type 0 where
  -- The number of ticks that negotiation takes until the link is up, or `Never`.
  pub link : Link
  -- Whether negotiation is enabled (register 0, bit 12).
  pub negotiation_enabled : Bool
  -- The state of negotiation.
  pub negotiation : Negotiation
  -- Whether the link status (register 1, bit 2) is latched low.
  pub latched_low : Bool

-- A PHY that is new or reset. Its link is down, its negotiation is enabled but not started, and the link status is latched low. That
-- negotiation doesn't begin without a write is our choice: a PHY of clause 22 begins negotiation by itself.
abbrev pub new_phy : Link → PhyState
new_phy link = record { link = link; negotiation_enabled = true; negotiation = NotStarted; latched_low = true }

-- Whether negotiation has ended.
abbrev pub is_complete : Negotiation → Bool
is_complete NotStarted = false
is_complete (Running left) = false
is_complete Complete = true

-- Whether the link is up: negotiation is complete (our choice).
abbrev pub link_is_up : PhyState → Bool
link_is_up phy = is_complete phy.negotiation

-- Negotiation after a start, by the setting of the link: complete after this number of ticks (1 tick if the number is 0). With `Never`,
-- negotiation doesn't start (our choice).
abbrev pub negotiation_of : Link → Negotiation
negotiation_of (After ticks) = Running ticks
negotiation_of Never = NotStarted

-- The PHY after negotiation restarts: the link is down, and the link status is latched low (22.2.4.1, "Restart Auto-Negotiation"; 22.2.4.2,
-- "Link Status").
abbrev pub restarted : PhyState → PhyState
restarted phy = record phy { negotiation = negotiation_of phy.link; latched_low = true }

-- The PHY after a write of register 0 (22.2.4.1). Bit 15 resets the PHY, and the other bits then have no effect (our choice). Otherwise bit
-- 12 is stored, and bit 9 restarts negotiation if bit 12 is set.
abbrev pub after_control : ℕ → PhyState → PhyState
after_control value phy =
    if is_set value control_reset then new_phy phy.link else
    (let kept : PhyState = record phy { negotiation_enabled = is_set value control_enable } in
    if is_set value control_enable && is_set value control_restart then restarted kept else kept)

-- The PHY after a write of a register. All registers except 0 ignore the write (our choice).
abbrev pub phy_after_write : ℕ → ℕ → PhyState → PhyState
phy_after_write register value phy = if register == 0 then after_control value phy else phy

-- The value of register 0: bit 12 as stored; the other bits read 0 (our choice).
abbrev pub control_value : PhyState → ℕ
control_value phy = if phy.negotiation_enabled then alone control_enable else 0

-- The value of the status register with Auto-Negotiation Complete, and without Link Status (22.2.4.2).
abbrev pub link_unseen : ℕ
link_unseen = alone status_complete

-- The value of the status register with Auto-Negotiation Complete and Link Status (22.2.4.2).
abbrev pub link_seen : ℕ
link_seen = union (alone status_complete) (alone status_link)

-- The value of register 1 (22.2.4.2): bit 5 if negotiation is complete, and bit 2 if the link is up and its status isn't latched low. The
-- other bits read 0 (our choice).
abbrev pub status_value : PhyState → ℕ
status_value phy = if link_is_up phy then (if phy.latched_low then link_unseen else link_seen) else 0

-- The value of a register: control, status, the two identifiers (22.2.4.3.1), and 0 for each other register (our choice).
abbrev pub read_value : ℕ → PhyState → ℕ
read_value register phy =
    if register == 0 then control_value phy else
    (if register == 1 then status_value phy else
    (if register == 2 then 0x0141 else
    (if register == 3 then 0x0C20 else 0)))

-- The PHY after a read of a register. A read of register 1 clears the latch, even if the link is down (22.2.4.2, "Link Status"). A read of
-- another register changes nothing.
abbrev pub phy_after_read : ℕ → PhyState → PhyState
phy_after_read register phy = if register == 1 then record phy { latched_low = false } else phy

-- Whether negotiation is running: it counts ticks.
abbrev pub is_running : Negotiation → Bool
is_running NotStarted = false
is_running (Running left) = true
is_running Complete = false

-- Whether the PHY's negotiation is counting ticks.
abbrev pub is_counting : PhyState → Bool
is_counting phy = is_running phy.negotiation

-- Negotiation after a tick: a running countdown decreases by 1, and at 0 negotiation is complete (the number of ticks is our choice).
abbrev pub counted_down : Negotiation → Negotiation
counted_down NotStarted = NotStarted
counted_down (Running left) = if nat_le left 1 then Complete else Running (left - 1)
counted_down Complete = Complete

-- The PHY after a tick: only negotiation can change.
abbrev pub after_tick : PhyState → PhyState
after_tick phy = record phy { negotiation = counted_down phy.negotiation }

-- Whether a tick changes the link from down to up.
abbrev pub comes_up : PhyState → Bool
comes_up phy = link_is_up (after_tick phy) && not (link_is_up phy)
