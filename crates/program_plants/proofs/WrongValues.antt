-- Words that ask for a job aren't refused for a value in them.
use Rattle.std.proofs.Common.{◌≡◌, ◌∙◌, ◌||◌, ℕ, List, Bool, true, false, Option, Some, None, refl, sym, ap₂, subst, true≢false, inl, inr}
use Rattle.std.specs.Prelude.{Result, Ok, Err, IfErr, IfOk, OnOk, IsNone, IsSomeAnd, codes}
use Rattle.std.specs.Str.{bytes_eq}
use Rattle.std.proofs.lemmas.Option.{same_Some}
use Rattle.clap.specs.Words.{Row, Text, first_of}
use Rattle.command_line.specs.Errors.{IfValue}
use Rattle.command_line.specs.Jobs.{IsAskedBy, IsDriveJobOf, IsImageOf, IsInvalidIn, IsJobOf, IsPassJobOf, IsRefusedIn, IsServeJobOf}
use Rattle.command_line.specs.Jobs.{IsSpelled, IsValueOf, IsValueOr, has_option, name_of}
use Rattle.command_line.specs.Shape.{found_in}
use Rattle.command_line.specs.Spelling.{SpellsCount, SpellsDecimal, SpellsGroup, SpellsKilobytes, SpellsLink, SpellsRingSize}
use Rattle.command_line.specs.Spelling.{SpellsVlan, SpellsWord}
use Rattle.command_line.specs.declared.error.InvalidValue.{InvalidValue}
use Rattle.command_line.specs.declared.error.LineError.{LineError}
use Rattle.command_line.specs.declared.error.LineError.TheVariants.{Memory, NotUnicode, Value, Words}
use Rattle.command_line.specs.declared.job.DriveJob.{DriveJob}
use Rattle.command_line.specs.declared.job.Job.{Job}
use Rattle.command_line.specs.declared.job.Job.TheVariants.{Drive, Pass, Run, Show, Serve}
use Rattle.command_line.specs.declared.job.PassJob.{PassJob}
use Rattle.command_line.specs.declared.job.ServeImage.{ServeImage}
use Rattle.command_line.specs.declared.job.ServeImage.TheVariants as image
use Rattle.command_line.specs.declared.job.ServeJob.{ServeJob}
use Rattle.command_line.specs.declared.job.ValueOption.{ValueOption}
use Rattle.command_line.specs.declared.job.ValueOption.TheVariants as option
use Rattle.text.specs.Addresses.{SpellsAddress}
use Rattle.program_files.specs.Adapters.{HasAdapterOf, IsSameAdapterAnswer}
use Rattle.program_plants.specs.SameJobs.{AreSameJobs}
use Rattle.program_plants.proofs.OneJob.{asked_one, image_moved, not_both}

-- The text of an option that has a value has the option's form.

module _ {V : Type 0} (spells : List ℕ → V → Type 0) where
  of_form : (first : Option Text) (value : Option V) (text : Text) → IsValueOf spells first value → first ≡ Some text
      → (v : V) × spells text v
  of_form (Some given) (Some value) text is same = (value, subst (λ (t : Text). spells t value) (same_Some given text same) is)
  of_form (Some given) None text is same = absurd is
  of_form None (Some value) text is same = absurd is
  of_form None None text is same = absurd (cc (same))

  or_of_form : (default : V) (first : Option Text) (value : V) (text : Text) → IsValueOr spells default first value → first ≡ Some text
      → (v : V) × spells text v
  or_of_form default (Some given) value text is same = (value, subst (λ (t : Text). spells t value) (same_Some given text same) is)
  or_of_form default None value text is same = absurd (cc (same))

address_of_form : (rows : List Row) (one : ServeImage) (text : Text) → IsImageOf rows one → first_of (codes "address") rows ≡ Some text
    → (address : List ℕ) × SpellsAddress text address
address_of_form rows (image.File path) text is given = absurd (not_both _ text given is.1)
address_of_form rows (image.Address address) text is given = or_of_form SpellsAddress _ _ address text is.1 given

image_alone : (rows : List Row) (one : ServeImage) (text : Text) → IsImageOf rows one → first_of (codes "image") rows ≡ Some text
    → IsNone (first_of (codes "address") rows)
image_alone rows (image.File path) text is given = is.1
image_alone rows (image.Address address) text is given = absurd (not_both _ text given is.0)

-- No option of a job is refused.

pass_spelled : (rows : List Row) (job : PassJob) (one : ValueOption) (text : Text) → has_option (codes "pass") one ≡ true
    → IsPassJobOf rows job → first_of (name_of one) rows ≡ Some text → IsSpelled rows one text
pass_spelled rows job option.Address text has is given = of_form SpellsAddress _ job.filter.address text is.filter.address given
pass_spelled rows job option.Group text has is given = of_form SpellsGroup _ job.filter.group text is.filter.group given
pass_spelled rows job option.Vlan text has is given = of_form SpellsVlan _ job.filter.vlan text is.filter.vlan given
pass_spelled rows job _ text has is given = absurd (true≢false (sym has))

serve_spelled : (rows : List Row) (job : ServeJob) (one : ValueOption) (text : Text) → has_option (codes "serve") one ≡ true
    → IsServeJobOf rows job → first_of (name_of one) rows ≡ Some text → IsSpelled rows one text
serve_spelled rows job option.Address text has is given = address_of_form rows job.image text is.image given
serve_spelled rows job option.Image text has is given = image_alone rows job.image text is.image given
serve_spelled rows job option.Memory text has is given = or_of_form SpellsWord _ _ job.memory text is.memory given
serve_spelled rows job option.Registers text has is given = or_of_form SpellsWord _ _ job.registers text is.registers given
serve_spelled rows job option.Link text has is given = or_of_form SpellsLink _ _ job.link text is.link given
serve_spelled rows job option.Rxa text has is given = or_of_form SpellsKilobytes _ _ job.receive_kilobytes text is.kilobytes given
serve_spelled rows job option.Seed text has is given = or_of_form SpellsDecimal _ _ job.seed text is.seed given
serve_spelled rows job option.Missed text has is given = or_of_form SpellsCount _ _ job.missed text is.missed given
serve_spelled rows job _ text has is given = absurd (true≢false (sym has))

drive_spelled : (rows : List Row) (job : DriveJob) (one : ValueOption) (text : Text) → has_option (codes "drive") one ≡ true
    → IsDriveJobOf rows job → first_of (name_of one) rows ≡ Some text → IsSpelled rows one text
drive_spelled rows job option.Memory text has is given = or_of_form SpellsWord _ _ job.memory text is.memory given
drive_spelled rows job option.Registers text has is given = or_of_form SpellsWord _ _ job.registers text is.registers given
drive_spelled rows job option.Rx text has is given = or_of_form SpellsRingSize _ _ job.rx text is.rx given
drive_spelled rows job option.Tx text has is given = or_of_form SpellsRingSize _ _ job.tx text is.tx given
drive_spelled rows job option.Buffers text has is given = or_of_form SpellsRingSize _ _ job.buffers text is.buffers given
drive_spelled rows job option.Expect text has is given = of_form SpellsDecimal _ job.expect text is.expect given
drive_spelled rows job option.Idle text has is given = of_form SpellsDecimal _ job.idle text is.idle given
drive_spelled rows job _ text has is given = absurd (true≢false (sym has))

has_none : (name : Text) (one : ValueOption) → bytes_eq name (codes "pass") ≡ false → bytes_eq name (codes "serve") ≡ false
    → bytes_eq name (codes "drive") ≡ false → has_option name one ≡ false
has_none name option.Address pass serve drive = ap₂ (λ (a b : Bool). a || b) pass serve
has_none name option.Memory pass serve drive = ap₂ (λ (a b : Bool). a || b) serve drive
has_none name option.Registers pass serve drive = ap₂ (λ (a b : Bool). a || b) serve drive
has_none name _ pass serve drive = cc (pass, serve, drive)

own : (name text : Text) (one : ValueOption) → name ≡ text → has_option name one ≡ true → has_option text one ≡ true
own name text one same has = subst (λ (t : Text). has_option t one ≡ true) same has

not_invalid : (found : Text × List Row) (job : Job) (value : InvalidValue) → IsJobOf found job → has_option found.0 value.option ≡ true
    → ¬ IsInvalidIn found.1 value
not_invalid found (Pass job) value is has invalid =
    invalid.unspelled (pass_spelled found.1 job value.option value.text.now (own _ _ value.option is.0 has) is.1 invalid.given)
not_invalid found (Serve job) value is has invalid =
    invalid.unspelled (serve_spelled found.1 job value.option value.text.now (own _ _ value.option is.0 has) is.1 invalid.given)
not_invalid found (Drive job) value is has invalid =
    invalid.unspelled (drive_spelled found.1 job value.option value.text.now (own _ _ value.option is.0 has) is.1 invalid.given)
not_invalid found (Run job) value is has invalid =
    true≢false (sym (own _ _ value.option is.0 has) ∙ has_none (codes "run") value.option refl refl refl)
not_invalid found (Show job) value is has invalid =
    true≢false (sym (own _ _ value.option is.0 has) ∙ has_none (codes "show") value.option refl refl refl)

not_both_found : (found : Option (Text × List Row)) (job : Job) (value : InvalidValue) → IsSomeAnd found (λ it. IsJobOf it job)
    → IsSomeAnd found (λ it. (has_option it.0 value.option ≡ true) × IsInvalidIn it.1 value) → ⊥
not_both_found None job value is refused = is
not_both_found (Some found) job value is refused = not_invalid found job value is refused.0 refused.1

asked_not_invalid : (words : List Text) (job : Job) (value : InvalidValue) → IsAskedBy words job → IsRefusedIn words value → ⊥
asked_not_invalid words job value asked refused = not_both_found (found_in words) job value asked.1 refused.1

pub line_values : (words : List Text) (one two : Result Job LineError) → IfOk one (IsAskedBy words)
    → IfErr two (λ error. IfValue error (IsRefusedIn words)) → OnOk one (IfErr two (λ error. IfValue error (λ _. ⊥)))
line_values words (Ok job) (Err (Value value)) asked refused = asked_not_invalid words job value asked refused
line_values words (Ok job) (Err (Words error)) asked refused = tt
line_values words (Ok job) (Err NotUnicode) asked refused = tt
line_values words (Ok job) (Err Memory) asked refused = tt
line_values words (Ok job) (Ok other) asked refused = tt
line_values words (Err error) two asked refused = tt

-- Options can't both be and not be for the adapter of a job.

adapter_moved : (a b : Job) (job : ServeJob) → AreSameJobs a b → HasAdapterOf job a → HasAdapterOf job b
adapter_moved (Serve a) (Serve b) job same is = record {
  memory = sym same.adapter.memory ∙ is.memory;
  registers = sym same.adapter.registers ∙ is.registers;
  image = image_moved a.image b.image job.image same.adapter.image is.image;
  link = sym same.adapter.link ∙ is.link;
  kilobytes = sym same.adapter.kilobytes ∙ is.kilobytes;
  missed = sym same.adapter.missed ∙ is.missed;
}
adapter_moved (Serve a) _ job same is = absurd same
adapter_moved _ b job same is = absurd is

not_both_answers : (words : List Text) (job : ServeJob) → IsSameAdapterAnswer words job true → IsSameAdapterAnswer words job false → ⊥
not_both_answers words job asked (inl refused) = refused asked.1.0
not_both_answers words job asked (inr (inl invalid)) = asked_not_invalid words asked.0 invalid.0 asked.1 invalid.1
not_both_answers words job asked (inr (inr other)) =
    other.2 (adapter_moved asked.0 other.0 job (asked_one words asked.0 other.0 asked.1 other.1) asked.2)

pub answer_one : (words : List Text) (job : ServeJob) (one two : Bool) → IsSameAdapterAnswer words job one
    → IsSameAdapterAnswer words job two → one ≡ two
answer_one words job true true p q = refl
answer_one words job true false p q = absurd (not_both_answers words job p q)
answer_one words job false true p q = absurd (not_both_answers words job q p)
answer_one words job false false p q = refl
