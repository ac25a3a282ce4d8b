-- The commands of initialization to the PHY, and the link.
use Rattle.std.specs.Prelude.{⊤, ◌≡◌, ◌≢◌, ◌≤◌, ◌<◌, ◌+◌, ◌*◌, ◌⊎◌, ℕ, true, Err, None, Result, IfErr, IfOk, IsOk, length}
use Rattle.std.specs.Fn.{iterate}
use Rattle.adapter.specs.model_types.offsets.TheConstants.{MDIC}
use Rattle.mdic_phy.specs.declared.phy.Link.{Link}
use Rattle.mdic_phy.specs.declared.phy.Link.TheVariants.{After, Never}
use Rattle.mdic_phy.specs.Mdic.{ended, kept_bits, operation_of, phy_ended}
use Rattle.mdic_phy.specs.Phy.{PhyState, after_tick, negotiation_of}
use Rattle.mdic_phy.specs.PhyPlaces.{control_enable, control_restart, mdic_op, mdic_phyadd, mdic_regadd}
use Rattle.registers.specs.Bits.{HasBit}
use Rattle.registers.specs.Places.{alone}
use Rattle.adapter.specs.State.{AdapterState}
use Rattle.bring_up.specs.EepromReading.{most_reads}
use Rattle.adapter.specs.Law.{Management, management_of, phy_ticked}
use Rattle.adapter.specs.Link.{HasLink}
use Rattle.adapter.specs.bus_types.bus.Bus.{Ghosts}
use Rattle.bring_up.specs.declared.init_error.InitError.{InitError}
use Rattle.bring_up.specs.declared.init_error.InitError.TheVariants.{NoLink, PhyTimeout}
use Rattle.bring_up.specs.SettingSteps.{WritesOneRegister}
use Rattle.mdic_phy.specs.PhyPlaces.{status_complete, status_link}

-- A PHY with this link right after its autonegotiation was enabled and started.
abbrev pub started : Link → PhyState
started link = record { link = link; negotiation_enabled = true; negotiation = negotiation_of link; latched_low = true }

-- Autonegotiation was started, and since then nothing but ticks has changed the PHY. No command is pending.
pub record IsNegotiating (adapter : AdapterState) : Type 0 where
  pub ticks : ℕ
  pub phy : adapter.phy ≡ iterate after_tick ticks (started adapter.phy.link)
  pub no_command : adapter.mdic.pending ≡ None

-- The link needs more than this number of ticks, or is never up.
abbrev pub NeedsMoreThan : ℕ → Link → Type 0
NeedsMoreThan ticks (After d) = ticks < d
NeedsMoreThan ticks Never = ⊤

-- The value of MDIC for a command to the PHY, at address 1: the operation, the PHY's register, and the data ("13.4.7
-- MDI Control Register").
abbrev pub command_word : (operation register word : ℕ) → ℕ
command_word operation register word = operation * alone mdic_op + alone mdic_phyadd + register * alone mdic_regadd + word

-- The first command of initialization: a write (01b) of the PHY's control register that enables and restarts
-- autonegotiation (IEEE 802.3, 22.2.4.1).
abbrev pub restart_word : ℕ
restart_word = command_word 1 0 (alone control_enable + alone control_restart)

-- The second command of initialization: a read (10b) of the PHY's status register.
abbrev pub status_word : ℕ
status_word = command_word 2 1 0

-- The value of MDIC is one of the two commands of initialization.
abbrev pub IsCommand : ℕ → Type 0
IsCommand word = (word ≡ restart_word) ⊎ (word ≡ status_word)

-- Of `all` ticks, `before` were played before the command was written, one tick ended the command, and `later` followed. Over a lively
-- bus, `before` is at least 1.
pub record TicksOfCommand (lively : Type 0) (all : ℕ) : Type 0 where
  pub before : ℕ
  pub later : ℕ
  pub all_are : before + 1 + later ≡ all
  pub some : lively → 1 ≤ before

-- A command ended between two states of MDIC and the PHY, and then MDIC contains the value `answer`.
pub record EndsCommand (lively : Type 0) (word all : ℕ) (a b : Management) (answer : ℕ) : Type 0 where
  pub ticks : TicksOfCommand lively all
  -- the PHY after the tick that ends the command
  pub phy : PhyState
  pub counted : phy ≡ after_tick (iterate phy_ticked ticks.before a).phy
  -- the value of MDIC when this command ends with this PHY
  pub answers : answer ≡ ended (operation_of word) (kept_bits word) phy
  -- MDIC contains this value, and no command is pending
  pub mdic : b.mdic ≡ record { value = answer; pending = None }
  -- the PHY after the command and the later ticks
  pub leaves : b.phy ≡ iterate after_tick ticks.later (phy_ended (operation_of word) (kept_bits word) phy)

-- A command is written to MDIC, and its end is awaited, with this result.
pub record Commands {B : Type 0} (bus : Ghosts B) (word : ℕ) (result : Result ℕ InitError) (old new : B) : Type 0 where
  pub asks : WritesOneRegister bus MDIC old new
  -- There are at least two accesses.
  pub accesses : 2 ≤ length asks.past.accesses
  -- The setting of the PHY's link doesn't change.
  pub link : (bus.world new).adapter.phy.link ≡ (bus.world old).adapter.phy.link
  -- If the result is Ok, the command has ended, and the result is the value of MDIC.
  pub ends : IfOk result (EndsCommand (bus.lively old) word asks.past.phy_ticks (management_of (bus.world old).adapter)
      (management_of (bus.world new).adapter))
  -- An error is returned only after at least 1,000 accesses.
  pub late : IfErr result (λ error. most_reads ≤ length asks.past.accesses)
  -- Over a lively bus, no error is returned.
  pub in_time : bus.lively old → IsOk result

-- Autonegotiation is started, with this result.
pub record Negotiates {B : Type 0} (bus : Ghosts B) (result : Result (Unit {0}) InitError) (old new : B) : Type 0 where
  pub asks : WritesOneRegister bus MDIC old new
  -- The setting of the PHY's link doesn't change.
  pub link : (bus.world new).adapter.phy.link ≡ (bus.world old).adapter.phy.link
  -- If the result is Ok, autonegotiation was started in this call: fewer ticks were played since its start than in the whole call.
  pub started : IfOk result (λ done. (begun : IsNegotiating (bus.world new).adapter) × (begun.ticks < asks.past.phy_ticks))
  -- An error is returned only after at least 1,000 accesses.
  pub late : IfErr result (λ error. most_reads ≤ length asks.past.accesses)
  -- Over a lively bus, no error is returned.
  pub in_time : bus.lively old → IsOk result

-- The link is awaited, with this result.
pub record AwaitsLink {B : Type 0} (bus : Ghosts B) (result : Result (Unit {0}) InitError) (old new : B) : Type 0 where
  pub asks : WritesOneRegister bus MDIC old new
  -- The setting of the PHY's link doesn't change.
  pub link : (bus.world new).adapter.phy.link ≡ (bus.world old).adapter.phy.link
  -- If the result is Ok, MDIC contains a status with bits 5 and 2: autonegotiation is complete and the link is up.
  pub seen : IfOk result
      (λ done. HasBit (bus.world new).adapter.mdic.value status_complete × HasBit (bus.world new).adapter.mdic.value status_link)
  -- If the result is Ok, the link is up, and no MDIC command is pending.
  pub up : IfOk result (λ done. HasLink (bus.world new))
  -- An error is returned only after at least 1,000 accesses.
  pub late : IfErr result (λ error. most_reads ≤ length asks.past.accesses)
  -- E14 is returned only after at least 2,000 accesses.
  pub no_link : result ≡ Err NoLink → 2 * most_reads ≤ length asks.past.accesses
  -- Over a lively bus, E13 isn't returned.
  pub in_time : bus.lively old → result ≢ Err PhyTimeout
  -- Over a lively bus, if autonegotiation was started before, E14 is returned only if the link needs more than 2,000
  -- ticks, or is never up.
  pub slow : bus.lively old → IsNegotiating (bus.world old).adapter → result ≡ Err NoLink
      → NeedsMoreThan (2 * most_reads) (bus.world old).adapter.phy.link
