-- A device is found, call by call.
use Rattle.std.proofs.Common.{◌≡◌, ◌++◌, ℕ, List, sym, ap, ◌∙◌}
use Rattle.adapter.specs.World.{World}
use Rattle.adapter.specs.Pasts.{Past, joined}
use Rattle.adapter.specs.bus_types.bus.Bus.{Ghosts}
use Rattle.adapter.specs.AdaptersAtRest.{IsAtRest}
use Rattle.adapter.specs.Settings.{Settings, Write, settings_after_all, settings_of}
use Rattle.adapter.proofs.Settings.{image-stays, link-stays, settings-append}
use Rattle.bring_up.proofs.Steps.{IntervalsJoin}
use Rattle.bring_up.proofs.WritesAtRest.{allocation-aside, link-aside}
use Rattle.bring_up.proofs.CausesLeft.{allocation-causes, asks-causes, eerd-causes, joined-causes, link-causes, mdic-causes, reset-causes}
use Rattle.bring_up.proofs.CausesLeft.{sets-causes}
use Rattle.bring_up.specs.SettingSteps.{WritesOneRegister, RecordsNoCause, Sets}
use Rattle.bring_up.specs.WrittenRegisters.{allocation_writes, enable_link_writes, reset_writes}

-- The EEPROM was read: the adapter is at rest, with the settings after the writes of a reset. No access wrote ICR or ICS.
pub record IsRead {B : Type 0} (bus : Ghosts B) (old new : B) : Type 0 where
  pub past : Past
  pub reports : bus.happened old new past
  pub rests : IsAtRest (bus.world new)
  pub settings : settings_of (bus.world new).adapter ≡ settings_after_all reset_writes (settings_of (bus.world old).adapter)
  pub no_cause : RecordsNoCause past

pub is-read : {B : Type 0} (bus : Ghosts B) → IntervalsJoin bus
    → (old middle new : B) → Sets bus reset_writes old middle → IsAtRest (bus.world middle) → WritesOneRegister bus 0x0014 middle new
    → IsRead bus old new
is-read bus joins old middle new resets rest asks = record {
  past = joined resets.past asks.past;
  reports = joins old middle new resets.past asks.past resets.reports asks.reports;
  rests = (asks.rests rest).0;
  settings = asks.settings ∙ resets.settings;
  no_cause = joined-causes resets.past asks.past (sets-causes bus old middle reset_writes resets reset-causes)
      (asks-causes bus middle new 0x0014 eerd-causes asks);
}

-- PBA and CTRL were written: the adapter is at rest, with the settings after the writes of a reset, of PBA and of CTRL. No access wrote ICR
-- or ICS.
pub record IsPrepared {B : Type 0} (bus : Ghosts B) (old new : B) (kilobytes : ℕ) : Type 0 where
  pub past : Past
  pub reports : bus.happened old new past
  pub rests : IsAtRest (bus.world new)
  pub settings : settings_of (bus.world new).adapter
      ≡ settings_after_all (reset_writes ++ (allocation_writes kilobytes ++ enable_link_writes)) (settings_of (bus.world old).adapter)
  pub no_cause : RecordsNoCause past

pub device-image : (a b : World) (writes : List Write) → settings_of b.adapter ≡ settings_after_all writes (settings_of a.adapter)
    → b.adapter.image ≡ a.adapter.image
device-image a b writes set = ap (λ (settings : Settings). settings.image) set ∙ image-stays writes (settings_of a.adapter)

pub device-link : (a b : World) (writes : List Write) → settings_of b.adapter ≡ settings_after_all writes (settings_of a.adapter)
    → b.adapter.phy.link ≡ a.adapter.phy.link
device-link a b writes set = ap (λ (settings : Settings). settings.link) set ∙ link-stays writes (settings_of a.adapter)

pub is-set : {B : Type 0} (bus : Ghosts B) → IntervalsJoin bus
    → (old read shared new : B) (kilobytes : ℕ) → IsRead bus old read
    → Sets bus (allocation_writes kilobytes) read shared → Sets bus enable_link_writes shared new
    → IsPrepared bus old new kilobytes
is-set bus joins old read shared new kilobytes is shares links = record {
  past = joined is.past (joined shares.past links.past);
  reports = joins old read new is.past (joined shares.past links.past) is.reports
      (joins read shared new shares.past links.past shares.reports links.reports);
  rests = (links.rests link-aside (shares.rests (allocation-aside kilobytes) is.rests).0).0;
  settings =
      links.settings
      ∙ ap (settings_after_all enable_link_writes) (shares.settings ∙ ap (settings_after_all (allocation_writes kilobytes)) is.settings)
      ∙ sym (settings-append (allocation_writes kilobytes) enable_link_writes
      (settings_after_all reset_writes (settings_of (bus.world old).adapter)))
      ∙ sym (settings-append reset_writes (allocation_writes kilobytes ++ enable_link_writes) (settings_of (bus.world old).adapter));
  no_cause = joined-causes is.past (joined shares.past links.past) is.no_cause
      (joined-causes shares.past links.past
      (sets-causes bus read shared (allocation_writes kilobytes) shares (allocation-causes kilobytes))
      (sets-causes bus shared new enable_link_writes links link-causes));
}

pub still-ready : {B : Type 0} (bus : Ghosts B) → IntervalsJoin bus
    → (old middle new : B) (kilobytes : ℕ) → IsPrepared bus old middle kilobytes → WritesOneRegister bus 0x0020 middle new
    → IsPrepared bus old new kilobytes
still-ready bus joins old middle new kilobytes is asks = record {
  past = joined is.past asks.past;
  reports = joins old middle new is.past asks.past is.reports asks.reports;
  rests = (asks.rests is.rests).0;
  settings = asks.settings ∙ is.settings;
  no_cause = joined-causes is.past asks.past is.no_cause (asks-causes bus middle new 0x0020 mdic-causes asks);
}
