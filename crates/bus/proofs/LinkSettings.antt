-- Ticks and commands don't change the setting of the PHY's link.
use Rattle.std.proofs.Common.{◌≡◌, ℕ, zero, suc, Bool, true, false, cond, Option, Some, None, refl, ◌∙◌}
use Rattle.std.specs.Fn.{iterate}
use Rattle.mdic_phy.specs.declared.mdic.Operation.{Operation}
use Rattle.mdic_phy.specs.declared.mdic.Operation.TheVariants as operation
use Rattle.mdic_phy.specs.Mdic.{data_bits, has_work, mdic_after_tick, phy_after_tick, phy_ended, reaches_phy, regadd}
use Rattle.mdic_phy.specs.Phy.{PhyState, after_tick, counted_down, is_complete, is_counting, link_is_up}
use Rattle.mdic_phy.specs.Phy as state
use Rattle.mdic_phy.specs.PhyHistory as phy
use Rattle.mdic_phy.specs.PhyLaws.{link-after_event}
use Rattle.bus.specs.Law.{Management, phy_ticked}

pub link-ended : (pending : Option Operation) (value : ℕ) (s : PhyState) → (phy_ended pending value s).link ≡ s.link
link-ended None value s = refl
link-ended (Some operation.Write) value s = by_case (reaches_phy value)
  where
    by_case : (here : Bool) → (cond here (state.phy_after_write (regadd value) (data_bits value) s) s).link ≡ s.link
    by_case true = link-after_event (phy.Write (regadd value) (data_bits value)) s
    by_case false = refl
link-ended (Some operation.Read) value s = by_case (reaches_phy value)
  where
    by_case : (here : Bool) → (cond here (state.phy_after_read (regadd value) s) s).link ≡ s.link
    by_case true = link-after_event (phy.Read (regadd value)) s
    by_case false = refl

abbrev ticked : Management → Management
ticked management = record { mdic = mdic_after_tick management.mdic management.phy; phy = phy_after_tick management.mdic management.phy }

link-tick : (management : Management) → (phy_ticked management).phy.link ≡ management.phy.link
link-tick management = by_case (has_work management.mdic management.phy)
  where
    by_case : (works : Bool) → (cond works (ticked management) management).phy.link ≡ management.phy.link
    by_case true = link-ended management.mdic.pending management.mdic.value (after_tick management.phy)
    by_case false = refl

pub link-ticks : (n : ℕ) (management : Management) → (iterate phy_ticked n management).phy.link ≡ management.phy.link
link-ticks zero management = refl
link-ticks (suc n) management = link-ticks n (phy_ticked management) ∙ link-tick management
