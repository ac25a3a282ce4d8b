-- What a driver knows after it found a device, and after each error.
use Rattle.std.specs.Prelude.{⊤, ◌≡◌, ◌≤◌, ◌++◌, ◌*◌, ℕ, List, Result, IfErr, IfOk, length}
use Rattle.eeprom.specs.Image.{HasRightSum}
use Rattle.adapter.specs.World.{World}
use Rattle.adapter.specs.Link.{HasLink}
use Rattle.adapter.specs.Pasts.{Past}
use Rattle.adapter.specs.AdaptersAtRest.{IsAtRest}
use Rattle.adapter.specs.Settings.{settings_after_all, settings_of}
use Rattle.adapter.specs.bus_types.bus.Bus.{Ghosts}
use Rattle.bring_up.specs.EepromReading.{most_reads}
use Rattle.bring_up.specs.Link.{NeedsMoreThan}
use Rattle.bring_up.specs.SettingSteps.{RecordsNoCause}
use Rattle.bring_up.specs.WrittenRegisters.{allocation_writes, enable_link_writes, reset_writes}
use Rattle.bring_up.specs.declared.init_error.InitError.{InitError}
use Rattle.bring_up.specs.declared.init_error.InitError.TheVariants.{Checksum, EepromTimeout, Memory, NoLink, PhyTimeout}
use Rattle.bring_up.specs.declared.init_error.InitError.TheVariants as errors

-- The error is returned before any access: E10 or E15. The device causes every other error.
abbrev pub IsBeforeAccess : InitError → Type 0
IsBeforeAccess Memory = ⊤
IsBeforeAccess errors.Config = ⊤
IsBeforeAccess error = ⊥

-- A device was found: `image` is the image of its EEPROM, with the right checksum. The adapter is at rest, its link is up, and no MDIC
-- command is pending. The settings are those after the writes of the reset, of PBA and of CTRL.
pub record IsFound {B : Type 0} (bus : Ghosts B) (kilobytes : ℕ) (old new : B) (image : List ℕ) : Type 0 where
  pub image_is : image ≡ (bus.world old).adapter.image
  pub sum_is_right : HasRightSum image
  pub rests : IsAtRest (bus.world new)
  pub settings : settings_of (bus.world new).adapter ≡ settings_after_all
      (reset_writes ++ (allocation_writes kilobytes ++ enable_link_writes))
      (settings_of (bus.world old).adapter)
  pub up : HasLink (bus.world new)

-- When an error is returned. E12: only if the checksum is wrong. E11 and E13: only after at least 1,000 accesses. E14:
-- only after at least 2,000 accesses. E10 and E15: never.
abbrev pub IsErrorOf : InitError → (image : List ℕ) (accesses : ℕ) → Type 0
IsErrorOf EepromTimeout image accesses = most_reads ≤ accesses
IsErrorOf Checksum image accesses = ¬ (HasRightSum image)
IsErrorOf PhyTimeout image accesses = most_reads ≤ accesses
IsErrorOf NoLink image accesses = 2 * most_reads ≤ accesses
IsErrorOf Memory image accesses = ⊥
IsErrorOf errors.Config image accesses = ⊥

-- When an error is returned over a lively bus. E11 and E13: never. E14: only if the checksum is right, and the link
-- needs more than 2,000 ticks or is never up. Nothing is stated for E10, E12 and E15.
abbrev pub IsErrorOfLively : InitError → World → Type 0
IsErrorOfLively EepromTimeout before = ⊥
IsErrorOfLively Checksum before = ⊤
IsErrorOfLively PhyTimeout before = ⊥
IsErrorOfLively NoLink before = HasRightSum before.adapter.image × NeedsMoreThan (2 * most_reads) before.adapter.phy.link
IsErrorOfLively Memory before = ⊤
IsErrorOfLively errors.Config before = ⊤

-- `find_device` was called, with this result. If the result is Ok, `IsFound` holds. If the result is an error, `IsErrorOf` holds, and over
-- a lively bus also `IsErrorOfLively`.
pub record FindsDevice {B : Type 0} (bus : Ghosts B) (kilobytes : ℕ) (result : Result (List ℕ) InitError) (old new : B) : Type 0 where
  pub past : Past
  pub reports : bus.happened old new past
  pub found : IfOk result (IsFound bus kilobytes old new)
  -- If the result is Ok, neither ICR nor ICS was written.
  pub no_cause : IfOk result (λ image. RecordsNoCause past)
  pub why : IfErr result (λ error. IsErrorOf error (bus.world old).adapter.image (length past.accesses))
  pub why_lively : bus.lively old → IfErr result (λ error. IsErrorOfLively error (bus.world old))
