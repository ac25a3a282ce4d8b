-- The job that the words ask for, or the value for which they are refused, by clap's matches for the words (our choice).
use Rattle.std.specs.Prelude.{◌≡◌, ◌≤◌, ◌⊎◌, ◌↔◌, IfSome, IsTrue, ℕ, Bool, List, [], ◌∷◌, IsSomeAnd, Option, Some, None}
use Rattle.std.specs.Borrow.{Bor}
use Rattle.std.specs.Prelude.{⊤, ◌||◌, IsNone, IsSome, codes, option_map, true}
use Rattle.std.specs.Str.{bytes_eq}
use Rattle.clap.specs.Words.{Row, Text, first_of, found_of, rows_of}
use Rattle.clap.specs.declared.parser.matches.ArgMatches.{ArgMatches}
use Rattle.command_line.specs.Shape.{found_in, refusals}
use Rattle.text.specs.Addresses.{SpellsAddress}
use Rattle.command_line.specs.Spelling.{IsGroupAddress, IsKilobytes, IsLink, SpellsCount, SpellsDecimal, SpellsGroup}
use Rattle.command_line.specs.Spelling.{SpellsKilobytes, SpellsLink, SpellsRingSize, SpellsVlan, SpellsWord}
use Rattle.command_line.specs.declared.error.InvalidValue.{InvalidValue}
use Rattle.command_line.specs.declared.job.DriveJob.{DriveJob}
use Rattle.command_line.specs.declared.job.Job.{Job}
use Rattle.command_line.specs.declared.job.Job.TheVariants.{Drive, Pass, Run, Show, Serve}
use Rattle.receive_lane.specs.declared.filter.PassFilter.{PassFilter}
use Rattle.command_line.specs.declared.job.PassJob.{PassJob}
use Rattle.command_line.specs.declared.job.RunJob.{RunJob}
use Rattle.command_line.specs.declared.job.ServeImage.{ServeImage}
use Rattle.command_line.specs.declared.job.ServeImage.TheVariants as images
use Rattle.command_line.specs.declared.job.ServeJob.{ServeJob}
use Rattle.command_line.specs.declared.job.ServeLink.{ServeLink}
use Rattle.command_line.specs.declared.job.ServeLink.TheVariants as links
use Rattle.command_line.specs.declared.job.ShowJob.{ShowJob}
use Rattle.command_line.specs.declared.job.ValueOption.{ValueOption}
use Rattle.command_line.specs.declared.job.ValueOption.TheVariants as options

-- the first text that clap's matches have for the option, flag or path of this name, if there is a text
abbrev pub text_in : ArgMatches → Text → Option Text
text_in matches name = first_of name (rows_of (found_of matches))

-- an option's value is what its text spells; the option has no value if and only if it has no text
abbrev pub IsValueOf : {V : Type 0} → (Text → V → Type 0) → Option Text → Option V → Type 0
IsValueOf spells None None = ⊤
IsValueOf spells (Some text) (Some value) = spells text value
IsValueOf spells _ _ = ⊥

-- an option's value is what its text spells, or the default if the option has no text
abbrev pub IsValueOr : {V : Type 0} → (Text → V → Type 0) → V → Option Text → V → Type 0
IsValueOr spells default None value = value ≡ default
IsValueOr spells default (Some text) value = spells text value

-- `value` is the text of an option, or `None` if the option has no text
abbrev pub IsTextOf : Option Text → Option (Bor Text) → Type 0
IsTextOf text value = text ≡ option_map (λ value. value.now) value

-- the flag's value is true if and only if clap's text for the flag is "true"
abbrev pub IsFlagOf : Option Text → Bool → Type 0
IsFlagOf text flag = IsTrue flag ↔ (text ≡ Some (codes "true"))

-- each option of the filter has the value of its text, or no value if it has no text
pub record IsPassFilterOf (rows : List Row) (filter : PassFilter) : Type 0 where
  pub address : IsValueOf SpellsAddress (first_of (codes "address") rows) filter.address
  pub group : IsValueOf SpellsGroup (first_of (codes "group") rows) filter.group
  pub vlan : IsValueOf SpellsVlan (first_of (codes "vlan") rows) filter.vlan

-- the paths of both files are given, and the options of a `pass` have the values of their texts
pub record IsPassJobOf (rows : List Row) (job : PassJob) : Type 0 where
  pub filter : IsPassFilterOf rows job.filter
  pub input : first_of (codes "IN") rows ≡ Some job.input.now
  pub output : first_of (codes "OUT") rows ≡ Some job.output.now
  pub nanos : IsFlagOf (first_of (codes "nanos") rows) job.nanos

-- the paths of the scenario and the folder are given, and the options of a `run` have the values of their texts
pub record IsRunJobOf (rows : List Row) (job : RunJob) : Type 0 where
  pub scenario : first_of (codes "SCENARIO") rows ≡ Some job.scenario.now
  pub directory : first_of (codes "OUTDIR") rows ≡ Some job.directory.now
  pub wires : IsFlagOf (first_of (codes "wires") rows) job.wires
  pub nanos : IsFlagOf (first_of (codes "nanos") rows) job.nanos
  pub events : IsTextOf (first_of (codes "events") rows) job.events

-- the path of the trace is given
abbrev pub IsShowJobOf : List Row → ShowJob → Type 0
IsShowJobOf rows job = first_of (codes "TRACE") rows ≡ Some job.trace.now

-- the file of `--image` if `--image` is given without `--address`; without `--image`, an image of the given or default address
abbrev pub IsImageOf : List Row → ServeImage → Type 0
IsImageOf rows (images.File path) =
    (first_of (codes "image") rows ≡ Some path.now) × IsNone (first_of (codes "address") rows)
IsImageOf rows (images.Address address) =
    IsNone (first_of (codes "image") rows)
    × IsValueOr SpellsAddress (2 ∷ 0 ∷ 0 ∷ 0 ∷ 0 ∷ 1 ∷ []) (first_of (codes "address") rows) address

-- each option of a `serve` has the value of its text, or its default
pub record IsServeJobOf (rows : List Row) (job : ServeJob) : Type 0 where
  pub memory : IsValueOr SpellsWord 0x100000 (first_of (codes "memory") rows) job.memory
  pub registers : IsValueOr SpellsWord 0xFEB00000 (first_of (codes "registers") rows) job.registers
  pub image : IsImageOf rows job.image
  pub link : IsValueOr SpellsLink (links.After 1) (first_of (codes "link") rows) job.link
  pub kilobytes : IsValueOr SpellsKilobytes 48 (first_of (codes "rxa") rows) job.receive_kilobytes
  pub seed : IsValueOr SpellsDecimal 0 (first_of (codes "seed") rows) job.seed
  pub missed : IsValueOr SpellsCount 0 (first_of (codes "missed") rows) job.missed
  pub schedule : IsTextOf (first_of (codes "schedule") rows) job.schedule
  pub «record» : IsTextOf (first_of (codes "record") rows) job.«record»

-- each option of a `drive` has the value of its text, or its default, and the paths of both traces are given
pub record IsDriveJobOf (rows : List Row) (job : DriveJob) : Type 0 where
  pub registers : IsValueOr SpellsWord 0xFEB00000 (first_of (codes "registers") rows) job.registers
  pub memory : IsValueOr SpellsWord 0x100000 (first_of (codes "memory") rows) job.memory
  pub rx : IsValueOr SpellsRingSize 64 (first_of (codes "rx") rows) job.rx
  pub tx : IsValueOr SpellsRingSize 64 (first_of (codes "tx") rows) job.tx
  pub buffers : IsValueOr SpellsRingSize 512 (first_of (codes "buffers") rows) job.buffers
  pub expect : IsValueOf SpellsDecimal (first_of (codes "expect") rows) job.expect
  pub idle : IsValueOf SpellsDecimal (first_of (codes "idle") rows) job.idle
  pub send : first_of (codes "send") rows ≡ Some job.send.now
  pub receive : first_of (codes "receive") rows ≡ Some job.receive.now

-- the job is the one that the subcommand with this name asks for with these rows
abbrev pub IsJobOf : Text × List Row → Job → Type 0
IsJobOf found (Pass job) = (found.0 ≡ codes "pass") × IsPassJobOf found.1 job
IsJobOf found (Run job) = (found.0 ≡ codes "run") × IsRunJobOf found.1 job
IsJobOf found (Show job) = (found.0 ≡ codes "show") × IsShowJobOf found.1 job
IsJobOf found (Serve job) = (found.0 ≡ codes "serve") × IsServeJobOf found.1 job
IsJobOf found (Drive job) = (found.0 ≡ codes "drive") × IsDriveJobOf found.1 job

-- bounds of a filter, whatever the words are: the group bit of a group is 1, and a VLAN identifier is at most 4095
abbrev pub IsWithinBounds : PassFilter → Type 0
IsWithinBounds filter = IfSome filter.group IsGroupAddress × IfSome filter.vlan (λ n. n ≤ 4095)

-- Bounds of a `serve` for any words: the receive packet buffer has an allowed size. The link needs 1 to 65,535 ticks, or is never up.
abbrev pub IsServable : ServeJob → Type 0
IsServable job = IsKilobytes job.receive_kilobytes × IsLink job.link

-- the bounds of a job's values, whatever the words are
abbrev pub HasBounds : Job → Type 0
HasBounds (Pass job) = IsWithinBounds job.filter
HasBounds (Run job) = ⊤
HasBounds (Show job) = ⊤
HasBounds (Serve job) = IsServable job
HasBounds (Drive job) = ⊤

-- the paths of both files of a `pass` are given
abbrev pub HasFiles : List Row → Type 0
HasFiles rows = IsSome (first_of (codes "IN") rows) × IsSome (first_of (codes "OUT") rows)

-- the paths of the file and the folder of a `run` are given
abbrev pub HasScenario : List Row → Type 0
HasScenario rows = IsSome (first_of (codes "SCENARIO") rows) × IsSome (first_of (codes "OUTDIR") rows)

-- the path of the file of a `show` is given
abbrev pub HasTrace : List Row → Type 0
HasTrace rows = IsSome (first_of (codes "TRACE") rows)

-- the paths of both traces of a `drive` are given
abbrev pub HasTraces : List Row → Type 0
HasTraces rows = IsSome (first_of (codes "send") rows) × IsSome (first_of (codes "receive") rows)

-- the subcommand is one of the program's, and the paths that it requires are given
abbrev pub IsSubcommand : Text → List Row → Type 0
IsSubcommand name rows =
    ((name ≡ codes "pass") × HasFiles rows) ⊎ (((name ≡ codes "run") × HasScenario rows)
    ⊎ (((name ≡ codes "show") × HasTrace rows) ⊎ ((name ≡ codes "serve") ⊎ ((name ≡ codes "drive") × HasTraces rows))))

-- the name of an option, without the hyphens
abbrev pub name_of : ValueOption → Text
name_of options.Address = codes "address"
name_of options.Group = codes "group"
name_of options.Vlan = codes "vlan"
name_of options.Memory = codes "memory"
name_of options.Registers = codes "registers"
name_of options.Image = codes "image"
name_of options.Link = codes "link"
name_of options.Rxa = codes "rxa"
name_of options.Seed = codes "seed"
name_of options.Missed = codes "missed"
name_of options.Rx = codes "rx"
name_of options.Tx = codes "tx"
name_of options.Buffers = codes "buffers"
name_of options.Expect = codes "expect"
name_of options.Idle = codes "idle"

-- whether the subcommand with this name has the option
abbrev pub has_option : Text → ValueOption → Bool
has_option name options.Address = bytes_eq name (codes "pass") || bytes_eq name (codes "serve")
has_option name options.Group = bytes_eq name (codes "pass")
has_option name options.Vlan = bytes_eq name (codes "pass")
has_option name options.Memory = bytes_eq name (codes "serve") || bytes_eq name (codes "drive")
has_option name options.Registers = bytes_eq name (codes "serve") || bytes_eq name (codes "drive")
has_option name options.Image = bytes_eq name (codes "serve")
has_option name options.Link = bytes_eq name (codes "serve")
has_option name options.Rxa = bytes_eq name (codes "serve")
has_option name options.Seed = bytes_eq name (codes "serve")
has_option name options.Missed = bytes_eq name (codes "serve")
has_option name options.Rx = bytes_eq name (codes "drive")
has_option name options.Tx = bytes_eq name (codes "drive")
has_option name options.Buffers = bytes_eq name (codes "drive")
has_option name options.Expect = bytes_eq name (codes "drive")
has_option name options.Idle = bytes_eq name (codes "drive")

-- the text has the option's form; `--image` takes any text, but only if `--address` isn't given
abbrev pub IsSpelled : List Row → ValueOption → Text → Type 0
IsSpelled rows options.Address text = (address : List ℕ) × SpellsAddress text address
IsSpelled rows options.Group text = (address : List ℕ) × SpellsGroup text address
IsSpelled rows options.Vlan text = (n : ℕ) × SpellsVlan text n
IsSpelled rows options.Memory text = (n : ℕ) × SpellsWord text n
IsSpelled rows options.Registers text = (n : ℕ) × SpellsWord text n
IsSpelled rows options.Image text = IsNone (first_of (codes "address") rows)
IsSpelled rows options.Link text = (link : ServeLink) × SpellsLink text link
IsSpelled rows options.Rxa text = (n : ℕ) × SpellsKilobytes text n
IsSpelled rows options.Seed text = (n : ℕ) × SpellsDecimal text n
IsSpelled rows options.Missed text = (n : ℕ) × SpellsCount text n
IsSpelled rows options.Rx text = (n : ℕ) × SpellsRingSize text n
IsSpelled rows options.Tx text = (n : ℕ) × SpellsRingSize text n
IsSpelled rows options.Buffers text = (n : ℕ) × SpellsRingSize text n
IsSpelled rows options.Expect text = (n : ℕ) × SpellsDecimal text n
IsSpelled rows options.Idle text = (n : ℕ) × SpellsDecimal text n

-- The option is given with this text, and is refused: the text doesn't have the option's form, or the option excludes another given option.
pub record IsInvalidIn (rows : List Row) (value : InvalidValue) : Type 0 where
  pub given : first_of (name_of value.option) rows ≡ Some value.text.now
  pub unspelled : ¬ IsSpelled rows value.option value.text.now

-- the option is given, and is refused: its text doesn't have the option's form, or the option excludes another given option
pub record IsMisspelled (rows : List Row) (option : ValueOption) : Type 0 where
  pub text : Text
  pub given : first_of (name_of option) rows ≡ Some text
  pub unspelled : ¬ IsSpelled rows option text

-- the refused option is `option`, and `IsMisspelled` holds of it
abbrev pub IsMisspelledAs : ValueOption → List Row → ValueOption → Type 0
IsMisspelledAs option rows refused = (refused ≡ option) × IsMisspelled rows refused

-- the subcommand with this name has the option, and `IsMisspelled` holds of the option
abbrev pub IsMisspelledOf : Text → List Row → ValueOption → Type 0
IsMisspelledOf name rows option = (has_option name option ≡ true) × IsMisspelled rows option

-- clap accepts the words, and the job is that of the subcommand that clap finds in the words
abbrev pub IsAskedBy : List Text → Job → Type 0
IsAskedBy words job = (refusals words ≡ []) × IsSomeAnd (found_in words) (λ found. IsJobOf found job)

-- clap accepts the words. The subcommand that clap finds in the words has the value's option, and the value is invalid.
abbrev pub IsRefusedIn : List Text → InvalidValue → Type 0
IsRefusedIn words value =
    (refusals words ≡ [])
    × IsSomeAnd (found_in words) (λ found. (has_option found.0 value.option ≡ true) × IsInvalidIn found.1 value)
