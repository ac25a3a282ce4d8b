-- The answers of a server to all of its input (our choice).
use denote.RawPtr.{Ptr}
use Rattle.std.specs.Prelude.{◌≡◌, ◌++◌, ℕ, List, [], ◌∷◌, MatchBool, None, Option, Some, length, nat_lt}
use Rattle.adapter_server.specs.Answers.{AnswersLine, Reaches, Refuses}
use Rattle.server_requests.specs.Lines.{lines_of, most_line_bytes}
use Rattle.server_output.specs.Order.{IsBeginning, WritesText}
use Rattle.played_adapter.specs.Order.{InOrder}
use Rattle.played_adapter.specs.declared.player.PlayedAdapter.{PlayedAdapter}
use Rattle.adapter_server.specs.NewSessions.{new_session}
use Rattle.server_output.specs.Texts.{Text}
use Rattle.server_requests.specs.declared.line_reader.NextLine.{NextLine}
use Rattle.server_requests.specs.declared.line_reader.NextLine.TheVariants.{End, Whole, Long}
use Rattle.step_schedules.specs.Agendas.{AgendaState}
use Rattle.step_schedules.specs.Players.{RecorderState}
use Rattle.step_schedules.specs.declared.player.Player.{Player}
use Rattle.adapter_server.specs.declared.options.ServeOptions.{ServeOptions}
use Rattle.server_requests.specs.declared.refusal.Refusal.TheVariants as refusals
use Rattle.adapter_server.specs.declared.snapshot.Server.{Server}

-- a server before the first request: a new session, and no saved copy
abbrev pub new_server : ServeOptions → Option Player → (address : Option Ptr) → Server
new_server options player address = record { session = new_session options player address; saved = None }

-- a server before the first request, with this adapter
abbrev pub server_with : PlayedAdapter → ServeOptions → Option Player → Server
server_with device options player = record {
  session = record (new_session options player device.address) { device = device };
  saved = None;
}

-- `Holds` is true for a new server with these options and this player, for some address of its memory.
abbrev pub FromNew : ServeOptions → Option Player → (Holds : Server → Type 0) → Type 0
FromNew options player Holds = (address : Option Ptr) × Holds (new_server options player address)

-- A line is answered, or refused if it is too long. At the end of the input nothing happens.
abbrev pub AnswersNext : NextLine → Text → Server → Server → Text → Type 0
AnswersNext End line a b text = (b ≡ a) × (text ≡ [])
AnswersNext Whole line a b text = AnswersLine line a b text
AnswersNext Long line a b text = Refuses refusals.Long a b text

-- A line is answered, or refused if it is too long.
abbrev pub Turns : Text → Server → Server → Text → Type 0
Turns line a b text = MatchBool (nat_lt most_line_bytes (length line)) (Refuses refusals.Long a b text) (AnswersLine line a b text)

-- Lines are answered in order, each in the state after the lines before it.
abbrev pub Serves : List Text → Server → Server → Text → Type 0
Serves lines a b text = InOrder Turns lines a b text

-- All lines of these bytes are answered, in order.
abbrev pub ServesWhole : (bytes : List ℕ) → (begin last : Server) → Text → Type 0
ServesWhole bytes begin last text = Serves (lines_of bytes) begin last text

-- The first n lines of these bytes are answered, each in full, in order, for some n, and nothing else is written.
pub record ServesFront (bytes : List ℕ) (begin : Server) (text : Text) : Type 0 where
  -- the lines that are answered
  pub answered : List Text
  -- the other lines
  pub left : List Text
  -- both together are all lines
  pub lines : lines_of bytes ≡ answered ++ left
  -- the server after the answered lines
  pub last : Server
  -- the text consists of the answers, one after the other
  pub serves : Serves answered begin last text

-- a beginning of the answer to the first of these lines, or no text
abbrev pub BeginsNext : List Text → Server → Text → Type 0
BeginsNext [] a text = text ≡ []
BeginsNext (line ∷ later) a text = IsBeginning (Reaches (Turns line a)) text

-- The first n lines of these bytes are answered, each in full, in order, for some n. Then a beginning of the next answer is written, or
-- nothing.
pub record ServesBegun (bytes : List ℕ) (begin : Server) (text : Text) : Type 0 where
  -- the lines that are answered in full
  pub answered : List Text
  -- the other lines
  pub left : List Text
  -- both together are all lines
  pub lines : lines_of bytes ≡ answered ++ left
  -- the server after the full answers
  pub last : Server
  -- the full answers
  pub front : Text
  -- what was written of the next answer
  pub part : Text
  -- the full answers follow each other
  pub serves : Serves answered begin last front
  -- the part is a beginning of the next answer
  pub begun : BeginsNext left last part
  -- nothing else was written
  pub text_is : text ≡ front ++ part

-- the player with this agenda and this recorder, if there are both
abbrev pub player_of : Option AgendaState → Option RecorderState → Option Player
player_of (Some agenda) (Some recorder) = Some (record { agenda = agenda; recorder = recorder })
player_of _ _ = None

-- All lines are answered, in order, and `left` is the player after them.
pub record ServesTo (bytes : List ℕ) (begin : Server) (left : Option Player) (text : Text) : Type 0 where
  -- the server after all lines
  pub last : Server
  -- the text consists of the answers, one after the other
  pub serves : ServesWhole bytes begin last text
  -- the player of this server is the result
  pub player : left ≡ player_of last.session.agenda last.session.kept.recorder

-- A new server with this player answers all lines, and `left` is the player after them.
unfoldable pub ServesAll : ServeOptions → Option Player → (bytes : List ℕ) → (left : Option Player)
    → (before after : Option (List ℕ)) → Type 0
ServesAll options player bytes left before after =
    FromNew options player (λ begin. WritesText before after (ServesTo bytes begin left))

-- A new server with this player answers the first n lines, for some n.
unfoldable pub ServesSome : ServeOptions → Option Player → (bytes : List ℕ) → (before after : Option (List ℕ)) → Type 0
ServesSome options player bytes before after = FromNew options player (λ begin. WritesText before after (ServesFront bytes begin))

-- A new server with this player answers the first n lines, for some n. Then a beginning of the next answer is written, or nothing.
unfoldable pub ServesPart : ServeOptions → Option Player → (bytes : List ℕ) → (before after : Option (List ℕ)) → Type 0
ServesPart options player bytes before after = FromNew options player (λ begin. WritesText before after (ServesBegun bytes begin))
