-- Reading the EEPROM through EERD ("13.4.4 EEPROM Read Register").
use Rattle.std.specs.Prelude.{◌≡◌, ◌≤◌, ℕ, List, Result, IfOk, OnErr, length}
use Rattle.adapter.specs.model_types.offsets.TheConstants.{EERD}
use Rattle.eeprom.specs.Image.{word_at}
use Rattle.eeprom.specs.declared.image.TheConstants.{WORDS}
use Rattle.adapter.specs.bus_types.bus.Bus.{Ghosts}
use Rattle.bring_up.specs.SettingSteps.{WritesOneRegister}
use Rattle.bring_up.specs.declared.init_error.InitError.{InitError}

-- the number of reads of a register after which a driver gives up (our choice)
abbrev pub most_reads : ℕ
most_reads = 1000

-- The word at an address is read through EERD, with this result.
pub record ReadsWord {B : Type 0} (bus : Ghosts B) (address : ℕ) (result : Result ℕ InitError) (old new : B) : Type 0 where
  pub asks : WritesOneRegister bus EERD old new
  -- If the result is Ok, it is the word of the adapter's EEPROM.
  pub word : IfOk result (λ word. word ≡ word_at (bus.world old).adapter.image address)
  -- An error is returned only after at least 1,000 accesses.
  pub in_vain : OnErr result (most_reads ≤ length asks.past.accesses)
  -- The adapter's EEPROM has 64 words.
  pub size : length (bus.world old).adapter.image ≡ WORDS

-- All words are read through EERD, with this result.
pub record ReadsImage {B : Type 0} (bus : Ghosts B) (result : Result (List ℕ) InitError) (old new : B) : Type 0 where
  pub asks : WritesOneRegister bus EERD old new
  -- If the result is Ok, it is the image of the adapter's EEPROM.
  pub image : IfOk result (λ image. image ≡ (bus.world old).adapter.image)
  -- An error is returned only after at least 1,000 accesses.
  pub in_vain : OnErr result (most_reads ≤ length asks.past.accesses)
