-- What the calls of C do with the server of a handle (our choice).
use Rattle.std.specs.Prelude.{◌≡◌, ◌==◌, [], ℕ, Bool, List, None, Option, Some, false, if◌then◌else◌, true}
use Rattle.std.specs.Option.{option_map}
use Rattle.adapter_server.specs.Comings.{ComesNext, ComingValue, coming_value}
use Rattle.adapter_server.specs.LineServers.{Deviated, IsNewLines, LineAnswered, LineState, told_text}
use Rattle.adapter_server.specs.declared.coming.Coming.{Coming}
use Rattle.adapter_server.specs.declared.options.ServeOptions.{ServeOptions}
use Rattle.mdic_phy.specs.declared.phy.Link.{Link}
use Rattle.played_adapter.specs.declared.choices.Choice.{Choice}
use Rattle.played_adapter.specs.declared.choices.Choice.TheVariants.{Arrival, Step}
use Rattle.server_output.specs.Texts.{Text}
use Rattle.nic82540em.specs.Calls.{image_of}
use Rattle.nic82540em.specs.Digests.{state_digest_of}
use Rattle.nic82540em.specs.Numbers.{is_receive_share, kind_with, link_with}
use Rattle.nic82540em.specs.declared.lines.ComingLine.{ComingLine}
use Rattle.nic82540em.specs.declared.lines.ServerHandle.{ServerHandle}
use Rattle.nic82540em.specs.declared.numbers.AdapterOptions.{AdapterOptions}
pub use Rattle.nic82540em.specs.Copies.{CopiesFront}

-- The owner in a handle is full if and only if the handle states that it holds a server.
abbrev pub IsSoundServer : ServerHandle → Type 0
IsSoundServer server = server.owner.full ≡ server.held

-- If the handle holds a server, `Does` relates the server before and after, and the handle still holds the server. If not, `Refused` holds,
-- and the handle doesn't change.
pub record OnServer (Does : LineState → LineState → Type 0) (Refused : Type 0) (old new : ServerHandle) : Type 0 where
  -- the handle is sound afterwards, and holds a server if and only if it did before
  pub sound : IsSoundServer new
  pub held : new.held ≡ old.held
  pub done : old.held ≡ true → Does old.owner.value new.owner.value
  pub none : old.held ≡ false → Refused × (new ≡ old)

-- `Holds` holds for the server, which doesn't change.
abbrev pub OnlyReads : (Holds : LineState → Type 0) → LineState → LineState → Type 0
OnlyReads Holds a b = Holds a × (b ≡ a)

-- the options of the served adapter
abbrev pub serve_options : AdapterOptions → Link → (share registers seed : ℕ) → ServeOptions
serve_options options link share registers seed = record {
  memory = options.memory;
  registers = registers;
  image = image_of options;
  link = link;
  receive_kilobytes = share;
  seed = seed;
  missed = options.missed;
}

-- a new server of an adapter of these options, with this link and this receive part of the packet buffer
abbrev pub IsMadeServer : AdapterOptions → Link → (share registers seed : ℕ) → LineState → Type 0
IsMadeServer options link share registers seed a = IsNewLines (serve_options options link share registers seed) a

-- The options are in range, and the server is new.
pub record IsNewServer (options : AdapterOptions) (registers seed : ℕ) (a : LineState) : Type 0 where
  -- the setting of the link
  pub link : Link
  -- the number in the options stands for this setting
  pub link_is : link_with options.link ≡ Some link
  -- PBA.RXA may have the value of the options
  pub share : is_receive_share options.receive_kilobytes ≡ true
  -- the server is new
  pub new : IsMadeServer options link options.receive_kilobytes registers seed a

-- A line is answered, and the text is copied to an area, as far as there is room.
abbrev pub AnswersInto : (line : Text) → (old new : List ℕ) → (answer : ℕ) → LineState → LineState → Type 0
AnswersInto line old new answer a b = LineAnswered line a b × CopiesFront (told_text b) old new answer

-- what a line is in a schedule, as numbers; zeros if it is no place of a schedule
abbrev pub coming_line : Option ComingValue → ComingLine
coming_line (Some coming) = record {
  kind = coming.kind;
  round = coming.place.round;
  access = coming.place.access;
  address = coming.address;
  limit = coming.limit;
}
coming_line None = record { kind = 0; round = 0; access = 0; address = 0; limit = 0 }

-- the name of a line in a schedule; empty if it is no place of a schedule
abbrev pub coming_name : Option ComingValue → Text
coming_name (Some coming) = coming.name
coming_name None = []

-- The server returns what a line is in a schedule, as numbers and a name. The name is copied to an area, as far as there is room.
pub record ComesInto (line : Text) (numbers : ComingLine) (old new : List ℕ) (answer : ℕ) (a b : LineState) : Type 0 where
  -- what the line is, if memory wasn't refused
  pub coming : Option Coming
  pub comes : ComesNext line coming a b
  -- the numbers and the name
  pub numbers_are : numbers ≡ coming_line (option_map coming_value coming)
  pub name : CopiesFront (coming_name (option_map coming_value coming)) old new answer

-- the choice with this number: a step of the kind with this number, or an arrival for 6
abbrev pub choice_with : ℕ → Option Choice
choice_with number = if number == 6 then Some Arrival else option_map Step (kind_with number)

-- A choice is played, if there is one. Otherwise nothing happens, and the answer is `false`.
abbrev pub DeviatesBy : Option Choice → (answer : Bool) → LineState → LineState → Type 0
DeviatesBy (Some choice) answer a b = Deviated choice answer a b
DeviatesBy None answer a b = (answer ≡ false) × (b ≡ a)

-- The answer is the digest of the served adapter; 0 if memory was refused.
pub record DigestTold (seed answer : ℕ) (a : LineState) : Type 0 where
  pub dead : a.dead ≡ true → answer ≡ 0
  pub digest : a.dead ≡ false → answer ≡ state_digest_of seed a.server.session.device.machine.world.adapter
