-- The answer to each request, and the state after it (our choice; the words of answers are QEMU's, docs/devel/testing/qtest).
use denote.RawPtr.{Ptr}
use Rattle.std.specs.Prelude.{◌≡◌, ◌+◌, ◌^◌, ◌++◌, ◌∷◌, ◌⊎◌, ℕ, List, [], Option, Some, None, Result, Ok, Err, codes}
use Rattle.std.specs.Prelude.{◌&&◌, Bool, if◌then◌else◌, length, max, nat_lt, IsUtf8}
use Rattle.std.specs.Int.{to_le_bytes, w32}
use Rattle.std.specs.List.{concat}
use Rattle.adapter.specs.model_types.outcome.Outcome.{Outcome}
use Rattle.access_names.specs.Names.{target_text}
use Rattle.adapter.specs.Steps.{TellsWork}
use Rattle.adapter.specs.model_types.step.StepKind.{StepKind}
use Rattle.adapter.specs.model_types.step.StepKind.TheVariants as kinds
use Rattle.adapter.specs.Digests.{digest_of}
use Rattle.adapter.specs.Machines.{is_asserted}
use Rattle.adapter.specs.bus_types.event.Access.{Access}
use Rattle.adapter.specs.bus_types.event.Access.TheVariants.{Loads, Reads}
use Rattle.access_names.specs.Rings.{ring_from, ring_of_engine}
use Rattle.access_names.specs.declared.engine_fault.Engine.TheVariants.{Receive, Transmit}
use Rattle.access_names.specs.declared.ring_words.RingWords.{RingWords}
use Rattle.registers.specs.Ports.{after_port_write, port_answer}
use Rattle.registers.specs.declared.port_width.PortWidth.{PortWidth}
use Rattle.played_adapter.specs.Moves.{AfterMoves}
use Rattle.played_adapter.specs.Playing.{Steps}
use Rattle.played_adapter.specs.Requests.{ServesAccess, ServesArrival, ServesChoice, ServesLoad, ServesSettle}
use Rattle.played_adapter.specs.Told.{Told}
use Rattle.played_adapter.specs.declared.player.PlayedAdapter.{PlayedAdapter}
use Rattle.rx_engine.specs.declared.arrival.Fate.{Fate}
use Rattle.server_output.specs.Order.{WritesText, TellsPart}
use Rattle.server_output.specs.Answers.{answer_line}
use Rattle.server_output.specs.Telling.{kept_after, text_of}
use Rattle.server_output.specs.Texts.{
  Text,
  decimal_line,
  enabled_line,
  rings_line,
  fate_word,
  faults_line,
  frames_line,
  line_moved,
  number_line,
  ok_line,
}
use Rattle.server_output.specs.Texts.{outcome_word, word_line}
use Rattle.server_output.specs.declared.looking.EnabledSteps.{EnabledSteps}
use Rattle.server_requests.specs.Reading.{request_in}
use Rattle.server_requests.specs.Refusals.{refusal_line}
use Rattle.server_requests.specs.Widths.{wanted_size}
use Rattle.server_requests.specs.Words.{words_of}
use Rattle.server_requests.specs.declared.refusal.Refusal.{Refusal}
use Rattle.server_requests.specs.declared.refusal.Refusal.TheVariants as refusals
use Rattle.server_requests.specs.declared.request.Look.{Look}
use Rattle.server_requests.specs.declared.request.Look.TheVariants as looks
use Rattle.server_requests.specs.declared.request.Request.{Request}
use Rattle.server_requests.specs.declared.request.Request.TheVariants as requests
use Rattle.server_requests.specs.declared.request.Wanted.{Wanted}
use Rattle.step_schedules.specs.declared.deviation.Before.TheVariants.{Choice, Request as AnyRequest}
use Rattle.adapter_server.specs.Sessions.{
  copied,
  meeting,
  met_before,
  moves_before,
  moves_at,
  place_in,
  target_at_place,
  wanted_number,
  with_setting,
}
use Rattle.adapter_server.specs.Sessions.{writing_access}
use Rattle.adapter_server.specs.declared.session.AccessPlace.{AccessPlace}
use Rattle.adapter_server.specs.declared.session.AccessPlace.TheVariants.{Register, Memory}
use Rattle.adapter_server.specs.declared.session.Session.{Session}
use Rattle.adapter_server.specs.declared.snapshot.Server.{Server}

-- Answers of any kind.

-- The text consists of what is told about something that happens, and then the line of the answer.
pub record Answered (Happens : Text → Type 0) (line : Text) (text : Text) : Type 0 where
  -- the text about what happened
  pub told : Text
  -- something happened, about which this text is told
  pub happens : Happens told
  -- the line of the answer comes last
  pub text_is : text ≡ told ++ line

-- The answer is only this line, and the state afterwards is `b'`.
pub record Replies {S : Type 0} (line : Text) (b' b : S) (text : Text) : Type 0 where
  -- the state afterwards is `b'`
  pub after : b ≡ b'
  -- only the line was written
  pub text_is : text ≡ line

-- A request is refused, and changes nothing.
abbrev pub Refuses : {S : Type 0} → Refusal → S → S → Text → Type 0
Refuses refusal a b text = Replies (refusal_line refusal) a b text

-- no text, or a complete answer
abbrev pub Reaches : {S : Type 0} → (Answers : S → Text → Type 0) → Text → Type 0
Reaches {S} Answers text = (text ≡ []) ⊎ ((b : S) × Answers b text)

-- If the result is Ok, a complete answer was written. If the result is an error, a beginning of a complete answer was written, or nothing.
abbrev pub TellsAnswer : {T E S : Type 0} → Result T E → (before after : Option (List ℕ)) → (Answers : S → Text → Type 0) → S → Type 0
TellsAnswer (Ok value) before after Answers b = WritesText before after (Answers b)
TellsAnswer (Err error) before after Answers b = TellsPart before after (Reaches Answers)

-- Answers about the adapter and its memory.

-- Something happens to the played adapter, and the observer `Lines` is told about it. `said` is what the log prints for the request.
pub record Played (Happens : PlayedAdapter → PlayedAdapter → List Told → Type 0) (said : Text) (a b : Session) (text : Text) : Type 0 where
  -- what the observer is told
  pub told : List Told
  -- something happens, about which the observer is told this
  pub happens : Happens a.device b.device told
  -- only the played adapter and what the server keeps have changed
  pub after : b ≡ record a { device = b.device; kept = kept_after told a.kept }
  -- the text about what was told is written
  pub text_is : text ≡ text_of a.kept said told

-- The player, if there is one, meets an access, and its moves are played. Then random steps are played, the access happens, and cycles
-- follow.
abbrev pub AccessServed : Access → (said : Text) → Session → Session → Text → Type 0
AccessServed access said a b text = Played (AfterMoves (moves_before access a) (ServesAccess access)) said (met_before access a) b text

-- As `AccessServed`, for an access that loads these bytes from memory.
abbrev pub Loaded : (address size : ℕ) → (bytes : List ℕ) → (said : Text) → Session → Session → Text → Type 0
Loaded address size bytes said a b text =
    let access = Loads address size in
    Played (AfterMoves (moves_before access a) (ServesLoad address size bytes)) said (met_before access a) b text

-- A register is read, and the bytes of its value are the answer, the lowest byte first.
abbrev pub ReadsRegister : (offset : ℕ) → Wanted → (said : Text) → Session → Session → Text → Type 0
ReadsRegister offset wanted said a b text =
    (value : ℕ) × Answered (AccessServed (Reads offset value) said a b) (answer_line wanted (to_le_bytes w32 value)) text

-- Bytes in memory are read, and these bytes are the answer.
abbrev pub ReadsMemory : (address : ℕ) → Wanted → (said : Text) → Session → Session → Text → Type 0
ReadsMemory address wanted said a b text =
    (bytes : List ℕ) × Answered (Loaded address (wanted_size wanted) bytes said a b) (answer_line wanted bytes) text

-- A register or bytes in memory are read, by the place of the access. Without a place, the request is refused.
abbrev pub ReadsAt : Result AccessPlace Refusal → Wanted → (address : ℕ) → (said : Text) → Session → Session → Text → Type 0
ReadsAt (Ok (Register offset)) wanted address said a b text = ReadsRegister offset wanted said a b text
ReadsAt (Ok Memory) wanted address said a b text = ReadsMemory address wanted said a b text
ReadsAt (Err refusal) wanted address said a b text = Refuses refusal a b text

-- Bytes are written at this place, and the answer is `OK`. Without a place, the request is refused.
abbrev pub WritesAt : Result AccessPlace Refusal → (address : ℕ) → List ℕ → (said : Text) → Session → Session → Text → Type 0
WritesAt (Ok place) address bytes said a b text = Answered (AccessServed (writing_access place address bytes) said a b) ok_line text
WritesAt (Err refusal) address bytes said a b text = Refuses refusal a b text

-- The player, if there is one, meets a request with this first word, which begins a round. Its moves are played, and then something
-- happens.
abbrev pub BeginsRound : (word : Text) → (Happens : PlayedAdapter → PlayedAdapter → List Told → Type 0) → (said : Text)
    → Session → Session → Text → Type 0
BeginsRound word Happens said a b text =
    Played (AfterMoves (moves_at AnyRequest word a) Happens) said (meeting AnyRequest word a) b text

-- A round is played. `Plays` relates the line of the answer to what the round does after the moves.
abbrev pub AnswersRound : (word : Text) → (Plays : (line : Text) → PlayedAdapter → PlayedAdapter → List Told → Type 0) → (said : Text)
    → Session → Session → Text → Type 0
AnswersRound word Plays said a b text = (line : Text) × Answered (BeginsRound word (Plays line) said a b) line text

-- A step is played, and its outcome is the answer.
abbrev pub PlaysStep : StepKind → (line : Text) → PlayedAdapter → PlayedAdapter → List Told → Type 0
PlaysStep kind line a b told =
    (outcome : Outcome (Unit {0})) × (line ≡ word_line (outcome_word outcome)) × Steps kind outcome a b told

-- A frame arrives, and its fate is the answer. Cycles follow the arrival.
abbrev pub PlaysArrival : (frame : List ℕ) → (line : Text) → PlayedAdapter → PlayedAdapter → List Told → Type 0
PlaysArrival frame line a b told = (fate : Fate) × (line ≡ word_line (fate_word fate)) × ServesArrival frame fate a b told

-- A settle is played, and the number of its cycles' steps that did something is the answer.
abbrev pub PlaysSettle : (line : Text) → PlayedAdapter → PlayedAdapter → List Told → Type 0
PlaysSettle line a b told = (moved : ℕ) × (line ≡ number_line moved) × ServesSettle moved a b told

-- One more frame waits for its arrival, and the answer is `OK`.
abbrev pub PlaysOffer : (frame : List ℕ) → (line : Text) → PlayedAdapter → PlayedAdapter → List Told → Type 0
PlaysOffer frame line a b told = (line ≡ ok_line) × (b ≡ record a { offered = a.offered ++ frame ∷ [] }) × (told ≡ [])

-- The player, if there is one, meets a request for a number below a limit. The number is the answer.
abbrev pub AnswersChoice : (limit : ℕ) → (said : Text) → Session → Session → Text → Type 0
AnswersChoice limit said a b text = (number : ℕ)
    × Answered (Played (ServesChoice limit (wanted_number a) number) said (meeting Choice (codes "choose") a) b) (number_line number) text

-- 1 if the interrupt line is asserted, else 0
abbrev pub line_number : PlayedAdapter → ℕ
line_number device = if is_asserted device.machine.world.adapter then 1 else 0

-- The session becomes `change` of the session, and the answer is `OK`.
abbrev pub Changes : (change : Session → Session) → Session → Session → Text → Type 0
Changes change a b text = Replies ok_line (change a) b text

-- the session after a write of a port of the PCI function
abbrev pub with_port_written : PortWidth → (port value : ℕ) → Session → Session
with_port_written width port value session = record session { function = after_port_write port width value session.function }

-- The level of the interrupt line is the answer.
abbrev pub AnswersLevel : Session → Session → Text → Type 0
AnswersLevel a b text = Replies (number_line (line_number a.device)) a b text

-- The value at an I/O port is the answer.
abbrev pub AnswersPort : PortWidth → (port : ℕ) → Session → Session → Text → Type 0
AnswersPort width port a b text =
    Replies (number_line (port_answer port width (is_asserted a.device.machine.world.adapter) a.function)) a b text

-- the kinds of steps that `enabled` reports: those for which `works` is true, but `txput` only if the wire is free
abbrev pub enabled_with : (works : StepKind → Bool) → (wire_free : Bool) → EnabledSteps
enabled_with works wire_free = record {
  tx_take = works kinds.TxTake;
  tx_put = works kinds.TxPut && wire_free;
  rx_data = works kinds.RxData;
  rx_done = works kinds.RxDone;
  eeprom = works kinds.EepromTick;
  phy = works kinds.PhyTick;
}

-- whether a step of this kind is enabled: `works`, but `TxPut` only if the wire is free
abbrev pub enabled_if : StepKind → (works wire_free : Bool) → Bool
enabled_if kinds.TxTake works wire_free = works
enabled_if kinds.TxPut works wire_free = works && wire_free
enabled_if kinds.RxData works wire_free = works
enabled_if kinds.RxDone works wire_free = works
enabled_if kinds.EepromTick works wire_free = works
enabled_if kinds.PhyTick works wire_free = works

-- The answer is whether the outcome of a step of this kind would now be neither `Nothing` nor `WireFull`.
pub record CanDo (kind : StepKind) (answer : Bool) (device : PlayedAdapter) : Type 0 where
  -- whether the step has another outcome than `Nothing`, whatever is in memory and on the wire
  pub works : Bool
  -- `TellsWork` holds of `works` for this kind
  pub tells : TellsWork kind works device.machine.world.adapter
  -- `works`, but `TxPut` only if the wire is free
  pub answer_is : answer ≡ enabled_if kind works device.wire_free

-- These are the kinds of steps whose outcome now would be neither `Nothing` nor `WireFull`.
pub record CanStep (device : PlayedAdapter) (enabled : EnabledSteps) : Type 0 where
  -- whether a step of this kind has another outcome than `Nothing`, whatever is in memory and on the wire
  pub works : StepKind → Bool
  -- `TellsWork` holds of `works` for each kind
  pub each : (kind : StepKind) → TellsWork kind (works kind) device.machine.world.adapter
  -- the kinds for which `works` is true, but `txput` only if the wire is free
  pub same : enabled ≡ enabled_with works device.wire_free

-- The kinds of steps whose outcome now would be neither `Nothing` nor `WireFull` are the answer.
pub record AnswersEnabled (a b : Session) (text : Text) : Type 0 where
  -- the kinds of steps that the answer contains
  pub enabled : EnabledSteps
  -- these are the kinds whose outcome would be neither `Nothing` nor `WireFull`
  pub steps : CanStep a.device enabled
  -- the line of these kinds is the answer
  pub replies : Replies (enabled_line enabled) a b text

-- The name of the target at this place is the answer. Without a place, the request is refused.
abbrev pub AnswersTarget : Result AccessPlace Refusal → (address : ℕ) → Session → Session → Text → Type 0
AnswersTarget (Ok place) address a b text = Replies (word_line (target_text (target_at_place place address a))) a b text
AnswersTarget (Err refusal) address a b text = Refuses refusal a b text

-- The registers of both rings are the answer.
pub record AnswersRings (a b : Session) (text : Text) : Type 0 where
  -- the registers of the receive ring
  pub receive : RingWords
  -- the registers of the transmit ring
  pub transmit : RingWords
  -- the receive ring with these registers is the adapter's receive ring
  pub receive_is : ring_from receive ≡ ring_of_engine Receive a.device.machine.world
  -- the transmit ring with these registers is the adapter's transmit ring
  pub transmit_is : ring_from transmit ≡ ring_of_engine Transmit a.device.machine.world
  -- the line of both rings is the answer
  pub replies : Replies (rings_line receive transmit) a b text

-- The frames that the server keeps are the answer. Afterwards the server keeps no frame.
abbrev pub AnswersFrames : Session → Session → Text → Type 0
AnswersFrames a b text = Replies (frames_line a.kept.put) (record a { kept = record a.kept { put = [] } }) b text

-- The faults that the server keeps are the answer. Afterwards the server keeps no fault.
abbrev pub AnswersFaults : Session → Session → Text → Type 0
AnswersFaults a b text = Replies (faults_line a.kept.faults) (record a { kept = record a.kept { faults = [] } }) b text

-- The clock (QEMU, docs/devel/testing/qtest: clock_step, clock_set; to settle before the clock is set is our choice).

-- The adapter settles: all offered frames arrive, and cycles are played. Then the clock is set to this time.
pub record SettlesUntil (time : ℕ) (said : Text) (a b : Session) (text : Text) : Type 0 where
  -- the number of steps that did something
  pub moved : ℕ
  -- the session before the clock is set
  pub settled : Session
  -- the adapter settles, without moves of the player
  pub settles : Played (ServesSettle moved) said a settled text
  -- after that, only the clock changes
  pub after : b ≡ record settled { clock = time }

-- The adapter settles, the clock is set to this time, and the time is the answer. If there is no time, the request is refused.
abbrev pub MovesClock : (time : Option ℕ) → (said : Text) → Session → Session → Text → Type 0
MovesClock (Some time) said a b text = Answered (SettlesUntil time said a b) (decimal_line time) text
MovesClock None said a b text = Refuses refusals.Value a b text

-- the clock's value plus this number of nanoseconds, or `None` if the sum is 2^64 or more
abbrev pub time_after : (clock nanoseconds : ℕ) → Option ℕ
time_after clock nanoseconds = if nat_lt (clock + nanoseconds) (2 ^ 64) then Some (clock + nanoseconds) else None

-- Answers of a server.

-- The session answers, and the copy that was saved doesn't change.
pub record OnSession (Answers : Session → Session → Text → Type 0) (a b : Server) (text : Text) : Type 0 where
  -- the answer
  pub answers : Answers a.session b.session text
  -- nothing changes but the session
  pub after : b ≡ record a { session = b.session }

-- the line that reports a change of the interrupt line from one session to another, or no text if both sessions have the same level
abbrev pub line_between : Session → Session → Text
line_between was is = line_moved (is_asserted was.device.machine.world.adapter) (is_asserted is.device.machine.world.adapter)

-- A copy of the session is saved, and the answer is `OK`.
abbrev pub Saves : Server → Server → Text → Type 0
Saves a b text = (address : Option Ptr) × Replies ok_line (record a { saved = Some (copied address a.session) }) b text

-- A copy of the saved session becomes the session. A change of the interrupt line is reported before `OK`. Without a saved session, the
-- request is refused.
abbrev pub Restores : (saved : Option Session) → Server → Server → Text → Type 0
Restores (Some session) a b text = (address : Option Ptr)
    × Replies (line_between a.session session ++ ok_line) (record a { session = copied address session }) b text
Restores None a b text = Refuses refusals.Saved a b text

-- The report that a request `Look` asks for is the answer.
abbrev pub Looks : Look → Session → Session → Text → Type 0
Looks (looks.Port width port) a b text = AnswersPort width port a b text
Looks looks.Endianness a b text = Replies (word_line (codes "little")) a b text
Looks looks.Line a b text = AnswersLevel a b text
Looks looks.Digest a b text = Replies (number_line (digest_of a.device.machine.world)) a b text
Looks looks.Frames a b text = AnswersFrames a b text
Looks looks.Faults a b text = AnswersFaults a b text
Looks looks.Intercept a b text = Replies ok_line a b text
Looks looks.Enabled a b text = AnswersEnabled a b text
Looks (looks.Target address count) a b text = AnswersTarget (place_in a address count) address a b text
Looks looks.Rings a b text = AnswersRings a b text

-- A session answers a request. At `save` and `restore`, which the server answers, nothing happens.
abbrev pub SessionDoes : Request → (said : Text) → Session → Session → Text → Type 0
SessionDoes (requests.Read wanted address) said a b text = ReadsAt (place_in a address (wanted_size wanted)) wanted address said a b text
SessionDoes (requests.Write address bytes) said a b text = WritesAt (place_in a address (length bytes)) address bytes said a b text
SessionDoes (requests.Look look) said a b text = Looks look a b text
SessionDoes (requests.WritePort width port value) said a b text = Changes (with_port_written width port value) a b text
SessionDoes (requests.Step kind) said a b text = AnswersRound (codes "step") (PlaysStep kind) said a b text
SessionDoes (requests.Arrive frame) said a b text = AnswersRound (codes "arrive") (PlaysArrival frame) said a b text
SessionDoes requests.Settle said a b text = AnswersRound (codes "settle") PlaysSettle said a b text
SessionDoes (requests.Set setting) said a b text = Changes (with_setting setting) a b text
SessionDoes (requests.ClockStep nanoseconds) said a b text = MovesClock (time_after a.clock nanoseconds) said a b text
SessionDoes (requests.ClockSet time) said a b text = MovesClock (Some (max a.clock time)) said a b text
SessionDoes (requests.Offer frame) said a b text = AnswersRound (codes "offer") (PlaysOffer frame) said a b text
SessionDoes (requests.Choose limit) said a b text = AnswersChoice limit said a b text
SessionDoes requests.Save said a b text = (b ≡ a) × (text ≡ [])
SessionDoes requests.Restore said a b text = (b ≡ a) × (text ≡ [])

-- a line, and after it the name of the target at this place; without a place, only the line
abbrev pub said_at : Result AccessPlace Refusal → (address : ℕ) → (said : Text) → Session → Text
said_at (Ok place) address said session = concat (said ∷ codes " -> " ∷ target_text (target_at_place place address session) ∷ [])
said_at (Err refusal) address said session = said

-- what the log prints for an access: its line, and after `log targets`, if the access has a place, also the name of the access's target
abbrev pub access_said : Result AccessPlace Refusal → (address : ℕ) → (said : Text) → Session → Text
access_said place address said session = if session.targets then said_at place address said session else said

-- what the log prints for a request: its line, and for an access with a place, after `log targets`, also the name of the access's target
abbrev pub request_said : Request → (said : Text) → Session → Text
request_said (requests.Read wanted address) said session = access_said (place_in session address (wanted_size wanted)) address said session
request_said (requests.Write address bytes) said session = access_said (place_in session address (length bytes)) address said session
request_said request said session = said

-- The server answers a request. `said` is the line of the request.
abbrev pub Does : Request → (said : Text) → Server → Server → Text → Type 0
Does requests.Save said a b text = Saves a b text
Does requests.Restore said a b text = Restores a.saved a b text
Does request said a b text = OnSession (SessionDoes request (request_said request said a.session)) a b text

-- The server answers the request of the line `said`, or refuses this line.
abbrev pub AnswersTo : Result Request Refusal → (said : Text) → Server → Server → Text → Type 0
AnswersTo (Ok request) said a b text = Does request said a b text
AnswersTo (Err refusal) said a b text = Refuses refusal a b text

-- The request of a line in UTF-8 is answered, or the line is refused. A line that isn't UTF-8 is refused.
pub record AnswersLine (line : Text) (a b : Server) (text : Text) : Type 0 where
  -- a line in UTF-8 is read as a request, which is answered; or the line is refused
  pub asked : IsUtf8 line → AnswersTo (request_in (words_of line)) line a b text
  -- a line that isn't UTF-8 is refused
  pub other : (¬ (IsUtf8 line)) → Refuses refusals.Text a b text
