-- Words ask for one job.
use Rattle.std.proofs.Common.{◌≡◌, ◌<◌, ℕ, List, Bool, true, false, Option, Some, None, refl, sym, ap, subst, arith, ◌∙◌}
use Rattle.std.specs.Prelude.{◌↔◌, Err, IfOk, Ok, Result, IsNone, IsSomeAnd, IsTrue, codes}
use Rattle.std.specs.Str.{bytes_eq}
use Rattle.clap.specs.Words.{Row, Text}
use Rattle.clap.specs.Kinds.{IsAmong, Kinds}
use Rattle.clap.specs.Words.{kind_of}
use Rattle.clap.specs.declared.error.Error.{Error}
use Rattle.std.proofs.lemmas.List.{ext_get_or}
use Rattle.text.specs.Addresses.{SpellsAddress}
use Rattle.text.specs.Numbers.{number_in, number_spelled}
use Rattle.command_line.specs.Errors.{IsRefusalOf}
use Rattle.command_line.specs.Jobs.{IsAskedBy, IsDriveJobOf, IsImageOf, IsJobOf, IsPassFilterOf, IsPassJobOf, IsRunJobOf}
use Rattle.command_line.specs.Jobs.{IsServeJobOf, IsValueOf, IsValueOr}
use Rattle.command_line.specs.Shape.{found_in}
use Rattle.command_line.specs.Spelling.{SpellsCount, SpellsDecimal, SpellsGroup, SpellsKilobytes, SpellsLink}
use Rattle.command_line.specs.Spelling.{SpellsRingSize, SpellsVlan, SpellsWord}
use Rattle.command_line.specs.declared.job.DriveJob.{DriveJob}
use Rattle.command_line.specs.declared.job.Job.{Job}
use Rattle.command_line.specs.declared.job.Job.TheVariants.{Drive, Pass, Run, Show, Serve}
use Rattle.receive_lane.specs.declared.filter.PassFilter.{PassFilter}
use Rattle.command_line.specs.declared.job.PassJob.{PassJob}
use Rattle.command_line.specs.declared.job.RunJob.{RunJob}
use Rattle.command_line.specs.declared.job.ServeImage.{ServeImage}
use Rattle.command_line.specs.declared.job.ServeImage.TheVariants.{Address, File}
use Rattle.command_line.specs.declared.job.ServeJob.{ServeJob}
use Rattle.command_line.specs.declared.job.ServeLink.TheVariants.{After, Never}
use Rattle.program_files.specs.Adapters.{AreSameImage, HasAdapterOf, HaveSameAdapter, IsSameAdapterAnswer}
use Rattle.program_plants.specs.SameJobs.{AreSameDrives, AreSameJobs, AreSamePasses, AreSameRuns, AreSameServes}

-- A text spells at most one value of each form.

abbrev IsOneSpelling : {V : Type 0} → (List ℕ → V → Type 0) → Type 0
IsOneSpelling {V} spells = (text : List ℕ) (a b : V) → spells text a → spells text b → a ≡ b

some_one : {V : Type 0} → (given : Option V) (a b : V) → given ≡ Some a → given ≡ Some b → a ≡ b
some_one given a b p q = cc (p, q)

decimal_one : IsOneSpelling SpellsDecimal
decimal_one text a b p q = some_one (number_in 10 64 text) a b p q

vlan_one : IsOneSpelling SpellsVlan
vlan_one text a b p q = decimal_one text a b p.0 q.0

count_one : IsOneSpelling SpellsCount
count_one text a b p q = decimal_one text a b p.0 q.0

ring_one : IsOneSpelling SpellsRingSize
ring_one text a b p q = decimal_one text a b p.0 q.0

kilobytes_one : IsOneSpelling SpellsKilobytes
kilobytes_one text a b p q = decimal_one text a b p.0 q.0

word_one : IsOneSpelling SpellsWord
word_one text a b p q = some_one (number_spelled text) a b p q

never_is_no_number : (n : ℕ) → SpellsDecimal (codes "never") n → ⊥
never_is_no_number n is = let none : number_in 10 64 (codes "never") ≡ None = refl in absurd (cc (none, is))

link_one : IsOneSpelling SpellsLink
link_one text (After a) (After b) p q = ap (λ (ticks : ℕ). After ticks) (decimal_one text a b p.0 q.0)
link_one text (After a) Never p q = absurd (never_is_no_number a (subst (λ (t : List ℕ). SpellsDecimal t a) q p.0))
link_one text Never (After b) p q = absurd (never_is_no_number b (subst (λ (t : List ℕ). SpellsDecimal t b) p q.0))
link_one text Never Never p q = refl

address_one : IsOneSpelling SpellsAddress
address_one text a b p q =
    ext_get_or 0 a b (p.bytes ∙ sym q.bytes) (λ k below.
    let inside : k < 6 = omega (arith, p.bytes, below) in (p.pairs k inside).value ∙ sym (q.pairs k inside).value)

group_one : IsOneSpelling SpellsGroup
group_one text a b p q = address_one text a b p.0 q.0

-- An option has at most one value.

value_one : {V : Type 0} (spells : List ℕ → V → Type 0) → IsOneSpelling spells → (text : Option (List ℕ)) (a b : Option V)
    → IsValueOf spells text a → IsValueOf spells text b → a ≡ b
value_one spells one None None None p q = refl
value_one spells one None None (Some y) p q = absurd q
value_one spells one None (Some x) b p q = absurd p
value_one spells one (Some text) None b p q = absurd p
value_one spells one (Some text) (Some x) None p q = absurd q
value_one {V} spells one (Some text) (Some x) (Some y) p q = ap (λ (v : V). Some v) (one text x y p q)

default_one : {V : Type 0} (spells : List ℕ → V → Type 0) (default : V) → IsOneSpelling spells → (text : Option (List ℕ)) (a b : V)
    → IsValueOr spells default text a → IsValueOr spells default text b → a ≡ b
default_one spells default one None a b p q = p ∙ sym q
default_one spells default one (Some text) a b p q = one text a b p q

flag_one : (P : Type 0) (a b : Bool) → IsTrue a ↔ P → IsTrue b ↔ P → a ≡ b
flag_one P true true p q = refl
flag_one P true false p q = absurd (cc (q.1 (p.0 refl)))
flag_one P false true p q = absurd (cc (p.1 (q.0 refl)))
flag_one P false false p q = refl

given_one : (text : Option (List ℕ)) (a b : List ℕ) → text ≡ Some a → text ≡ Some b → a ≡ b
given_one text a b p q = some_one text a b p q

pub not_both : (text : Option (List ℕ)) (given : List ℕ) → text ≡ Some given → IsNone text → ⊥
not_both None given some none = absurd (cc (some))
not_both (Some text) given some none = absurd (cc (none))

image_one : (rows : List Row) (a b : ServeImage) → IsImageOf rows a → IsImageOf rows b → AreSameImage a b
image_one rows (File path) (File other) p q = given_one _ path.now other.now p.0 q.0
image_one rows (File path) (Address address) p q = absurd (not_both _ path.now p.0 q.0)
image_one rows (Address address) (File path) p q = absurd (not_both _ path.now q.0 p.0)
image_one rows (Address address) (Address other) p q = default_one SpellsAddress _ address_one _ address other p.1 q.1

-- Two jobs of the same words are the same.

filter_one : (rows : List Row) (a b : PassFilter) → IsPassFilterOf rows a → IsPassFilterOf rows b → a ≡ b
filter_one rows a b p q =
    let address = value_one SpellsAddress address_one _ a.address b.address p.address q.address in
    let group = value_one SpellsGroup group_one _ a.group b.group p.group q.group in
    let vlan = value_one SpellsVlan vlan_one _ a.vlan b.vlan p.vlan q.vlan in
    ap (λ (x : Option (List ℕ)). record a { address = x }) address
    ∙ ap (λ (x : Option (List ℕ)). record a { address = b.address; group = x }) group
    ∙ ap (λ (x : Option ℕ). record a { address = b.address; group = b.group; vlan = x }) vlan

pass_one : (rows : List Row) (a b : PassJob) → IsPassJobOf rows a → IsPassJobOf rows b → AreSamePasses a b
pass_one rows a b p q = record {
  filter = filter_one rows a.filter b.filter p.filter q.filter;
  input = given_one _ a.input.now b.input.now p.input q.input;
  output = given_one _ a.output.now b.output.now p.output q.output;
  nanos = flag_one _ a.nanos b.nanos p.nanos q.nanos;
}

run_one : (rows : List Row) (a b : RunJob) → IsRunJobOf rows a → IsRunJobOf rows b → AreSameRuns a b
run_one rows a b p q = record {
  scenario = given_one _ a.scenario.now b.scenario.now p.scenario q.scenario;
  directory = given_one _ a.directory.now b.directory.now p.directory q.directory;
  wires = flag_one _ a.wires b.wires p.wires q.wires;
  nanos = flag_one _ a.nanos b.nanos p.nanos q.nanos;
  events = sym p.events ∙ q.events;
}

serve_one : (rows : List Row) (a b : ServeJob) → IsServeJobOf rows a → IsServeJobOf rows b → AreSameServes a b
serve_one rows a b p q = record {
  adapter = record {
    memory = default_one SpellsWord _ word_one _ a.memory b.memory p.memory q.memory;
    registers = default_one SpellsWord _ word_one _ a.registers b.registers p.registers q.registers;
    image = image_one rows a.image b.image p.image q.image;
    link = default_one SpellsLink _ link_one _ a.link b.link p.link q.link;
    kilobytes = default_one SpellsKilobytes _ kilobytes_one _ a.receive_kilobytes b.receive_kilobytes p.kilobytes q.kilobytes;
    missed = default_one SpellsCount _ count_one _ a.missed b.missed p.missed q.missed;
  };
  seed = default_one SpellsDecimal _ decimal_one _ a.seed b.seed p.seed q.seed;
  schedule = sym p.schedule ∙ q.schedule;
  «record» = sym p.«record» ∙ q.«record»;
}

drive_one : (rows : List Row) (a b : DriveJob) → IsDriveJobOf rows a → IsDriveJobOf rows b → AreSameDrives a b
drive_one rows a b p q = record {
  registers = default_one SpellsWord _ word_one _ a.registers b.registers p.registers q.registers;
  memory = default_one SpellsWord _ word_one _ a.memory b.memory p.memory q.memory;
  rx = default_one SpellsRingSize _ ring_one _ a.rx b.rx p.rx q.rx;
  tx = default_one SpellsRingSize _ ring_one _ a.tx b.tx p.tx q.tx;
  buffers = default_one SpellsRingSize _ ring_one _ a.buffers b.buffers p.buffers q.buffers;
  expect = value_one SpellsDecimal decimal_one _ a.expect b.expect p.expect q.expect;
  idle = value_one SpellsDecimal decimal_one _ a.idle b.idle p.idle q.idle;
  send = given_one _ a.send.now b.send.now p.send q.send;
  receive = given_one _ a.receive.now b.receive.now p.receive q.receive;
}

-- a name isn't that of two subcommands
apart : {name own other : Text} → name ≡ own → name ≡ other → bytes_eq own own ≡ true → bytes_eq other own ≡ false → ⊥
apart {name} {own} {other} is also same differs =
    let one : bytes_eq own own ≡ bytes_eq other own = ap (λ (t : Text). bytes_eq t own) (sym is ∙ also) in
    cc

job_one : (found : Text × List Row) (a b : Job) → IsJobOf found a → IsJobOf found b → AreSameJobs a b
job_one found (Pass a) (Pass b) p q = pass_one found.1 a b p.1 q.1
job_one found (Pass a) _ p q = absurd (apart p.0 q.0 refl refl)
job_one found (Run a) (Run b) p q = run_one found.1 a b p.1 q.1
job_one found (Run a) _ p q = absurd (apart p.0 q.0 refl refl)
job_one found (Show a) (Show b) p q = given_one _ a.trace.now b.trace.now p.1 q.1
job_one found (Show a) _ p q = absurd (apart p.0 q.0 refl refl)
job_one found (Serve a) (Serve b) p q = serve_one found.1 a b p.1 q.1
job_one found (Serve a) _ p q = absurd (apart p.0 q.0 refl refl)
job_one found (Drive a) (Drive b) p q = drive_one found.1 a b p.1 q.1
job_one found (Drive a) _ p q = absurd (apart p.0 q.0 refl refl)

found_one : (found : Option (Text × List Row)) (a b : Job) → IsSomeAnd found (λ it. IsJobOf it a) → IsSomeAnd found (λ it. IsJobOf it b)
    → AreSameJobs a b
found_one None a b p q = absurd p
found_one (Some found) a b p q = job_one found a b p q

pub asked_one : (words : List Text) (a b : Job) → IsAskedBy words a → IsAskedBy words b → AreSameJobs a b
asked_one words a b p q = found_one (found_in words) a b p.1 q.1

pub asked_not_refused : (words : List Text) (job : Job) (error : Error) → IsAskedBy words job → IsRefusalOf words error → ⊥
asked_not_refused words job error asked refused = subst (λ (kinds : Kinds). IsAmong (kind_of error) kinds) asked.0 refused

pub image_moved : (a b c : ServeImage) → AreSameImage a b → AreSameImage a c → AreSameImage b c
image_moved (Address a) (Address b) (Address c) p q = sym p ∙ q
image_moved (Address a) (Address b) (File c) p q = absurd q
image_moved (Address a) (File b) c p q = absurd p
image_moved (File a) (File b) (File c) p q = sym p ∙ q
image_moved (File a) (File b) (Address c) p q = absurd q
image_moved (File a) (Address b) c p q = absurd p

same_adapter_one : (a b : Job) (job other : ServeJob) → AreSameJobs a b → HasAdapterOf job a → HasAdapterOf other b
    → HaveSameAdapter job other
same_adapter_one (Serve a) (Serve b) job other same p q = record {
  memory = sym p.memory ∙ same.adapter.memory ∙ q.memory;
  registers = sym p.registers ∙ same.adapter.registers ∙ q.registers;
  image = image_moved b.image job.image other.image (image_moved a.image b.image job.image same.adapter.image p.image) q.image;
  link = sym p.link ∙ same.adapter.link ∙ q.link;
  kilobytes = sym p.kilobytes ∙ same.adapter.kilobytes ∙ q.kilobytes;
  missed = sym p.missed ∙ same.adapter.missed ∙ q.missed;
}
same_adapter_one (Serve a) _ job other same p q = absurd same
same_adapter_one _ b job other same p q = absurd p

pub adapter_one : (words : List Text) (job other : ServeJob) → IsSameAdapterAnswer words job true → IsSameAdapterAnswer words other true
    → HaveSameAdapter job other
adapter_one words job other p q = same_adapter_one p.0 q.0 job other (asked_one words p.0 q.0 p.1 q.1) p.2 q.2

pub is_for_one : {E : Type 0} (words : List Text) (job other : ServeJob) (one two : Result Bool E)
    → IfOk one (IsSameAdapterAnswer words job)
    → IfOk two (IsSameAdapterAnswer words other) → IfOk one (λ is. IfOk two (λ also. IsTrue is → IsTrue also → HaveSameAdapter job other))
is_for_one words job other (Ok is) (Ok also) p q = λ yes both.
    adapter_one words job other (subst (λ (b : Bool). IsSameAdapterAnswer words job b) yes p)
    (subst (λ (b : Bool). IsSameAdapterAnswer words other b) both q)
is_for_one words job other (Ok is) (Err error) p q = tt
is_for_one words job other (Err error) two p q = tt
