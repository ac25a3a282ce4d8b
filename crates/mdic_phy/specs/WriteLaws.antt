-- Lemmas about one write of the PHY, by the four tests on which its effect depends.
use Rattle.std.proofs.Common.{◌≡◌, ℕ, ◌==◌, ◌&&◌, ◌||◌, Bool, true, false, not, cond, refl, ap}
use Rattle.std.proofs.lemmas.Bool.{false≢true, true≢false}
use Rattle.registers.specs.Bits.{is_set}
use Rattle.mdic_phy.specs.declared.phy.Link.TheVariants.{Never}
use Rattle.mdic_phy.specs.declared.phy.Negotiation.TheVariants.{NotStarted}
use Rattle.mdic_phy.specs.Phy.{PhyState, new_phy, restarted, negotiation_of, phy_after_write}
use Rattle.mdic_phy.specs.PhyPlaces.{control_enable, control_reset, control_restart}

-- The PHY after a write, by four flags: whether register 0 is written, and whether bits 15, 12 and 9 are set.
abbrev pub by_tests : Bool → Bool → Bool → Bool → PhyState → PhyState
by_tests control reset enable again phy =
    cond control (cond reset (new_phy phy.link)
    (let kept : PhyState = record phy { negotiation_enabled = enable } in cond (enable && again) (restarted kept) kept)) phy

pub after_write-by_tests : (register value : ℕ) (phy : PhyState)
    → phy_after_write register value phy
    ≡ by_tests (register == 0) (is_set value control_reset) (is_set value control_enable) (is_set value control_restart) phy
after_write-by_tests register value phy = refl

-- Whether the write resets the PHY, and whether it restarts negotiation.
abbrev pub resets_phy : Bool → Bool → Bool
resets_phy control reset = control && reset

abbrev pub restarts : Bool → Bool → Bool → Bool → Bool
restarts control reset enable again = control && (not reset && (enable && again))

-- No write changes the setting of the link.
pub link-by_tests : (c r e a : Bool) (phy : PhyState) → (by_tests c r e a phy).link ≡ phy.link
link-by_tests false r e a phy = refl
link-by_tests true true e a phy = refl
link-by_tests true false true true phy = refl
link-by_tests true false true false phy = refl
link-by_tests true false false a phy = refl

-- A write that isn't a restart doesn't start negotiation.
pub not_started-by_tests : (c r e a : Bool) (phy : PhyState) → restarts c r e a ≡ false → phy.negotiation ≡ NotStarted
    → (by_tests c r e a phy).negotiation ≡ NotStarted
not_started-by_tests false r e a phy none idle = idle
not_started-by_tests true true e a phy none idle = refl
not_started-by_tests true false true true phy none idle = absurd (true≢false none)
not_started-by_tests true false true false phy none idle = idle
not_started-by_tests true false false a phy none idle = idle

-- After a reset, negotiation is not started.
pub reset-by_tests : (c r e a : Bool) (phy : PhyState) → resets_phy c r ≡ true → (by_tests c r e a phy).negotiation ≡ NotStarted
reset-by_tests false r e a phy is = absurd (false≢true is)
reset-by_tests true true e a phy is = refl
reset-by_tests true false e a phy is = absurd (false≢true is)

-- After a restart, negotiation is in the state that the setting of the link determines (`negotiation_of`).
pub restart-by_tests : (c r e a : Bool) (phy : PhyState) → restarts c r e a ≡ true
    → (by_tests c r e a phy).negotiation ≡ negotiation_of phy.link
restart-by_tests false r e a phy is = absurd (false≢true is)
restart-by_tests true true e a phy is = absurd (false≢true is)
restart-by_tests true false true true phy is = refl
restart-by_tests true false true false phy is = absurd (false≢true is)
restart-by_tests true false false a phy is = absurd (false≢true is)

-- A write that neither resets nor restarts changes neither negotiation nor the latch.
pub stays-by_tests : (c r e a : Bool) (phy : PhyState) → (resets_phy c r || restarts c r e a) ≡ false
    → ((by_tests c r e a phy).negotiation ≡ phy.negotiation) × ((by_tests c r e a phy).latched_low ≡ phy.latched_low)
stays-by_tests false r e a phy none = (refl, refl)
stays-by_tests true true e a phy none = absurd (true≢false none)
stays-by_tests true false true true phy none = absurd (true≢false none)
stays-by_tests true false true false phy none = (refl, refl)
stays-by_tests true false false a phy none = (refl, refl)

-- A write that resets or restarts latches the link status low.
pub latched-by_tests : (c r e a : Bool) (phy : PhyState) → (resets_phy c r || restarts c r e a) ≡ true
    → (by_tests c r e a phy).latched_low ≡ true
latched-by_tests false r e a phy is = absurd (false≢true is)
latched-by_tests true true e a phy is = refl
latched-by_tests true false true true phy is = refl
latched-by_tests true false true false phy is = absurd (false≢true is)
latched-by_tests true false false a phy is = absurd (false≢true is)

-- No write clears the latch of the link status.
pub still_latched-by_tests : (c r e a : Bool) (phy : PhyState) → phy.latched_low ≡ true → (by_tests c r e a phy).latched_low ≡ true
still_latched-by_tests false r e a phy was = was
still_latched-by_tests true true e a phy was = refl
still_latched-by_tests true false true true phy was = refl
still_latched-by_tests true false true false phy was = was
still_latched-by_tests true false false a phy was = was

-- If the link is set to `Never`, no write starts negotiation.
pub never-by_tests : (c r e a : Bool) (phy : PhyState) → phy.link ≡ Never → phy.negotiation ≡ NotStarted
    → (by_tests c r e a phy).negotiation ≡ NotStarted
never-by_tests false r e a phy never idle = idle
never-by_tests true true e a phy never idle = refl
never-by_tests true false true true phy never idle = ap negotiation_of never
never-by_tests true false true false phy never idle = idle
never-by_tests true false false a phy never idle = idle

-- After a write of the control register, bit 12 is set if and only if the write was a reset or set bit 12.
pub enabled-by_tests : (r e a : Bool) (phy : PhyState) → (by_tests true r e a phy).negotiation_enabled ≡ cond r true e
enabled-by_tests true e a phy = refl
enabled-by_tests false true true phy = refl
enabled-by_tests false true false phy = refl
enabled-by_tests false false a phy = refl

pub enabled_stays-by_tests : (c r e a : Bool) (phy : PhyState) → c ≡ false
    → (by_tests c r e a phy).negotiation_enabled ≡ phy.negotiation_enabled
enabled_stays-by_tests false r e a phy none = refl
enabled_stays-by_tests true r e a phy none = absurd (true≢false none)
