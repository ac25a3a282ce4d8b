-- The parts of the line of an event or a drain in the log of a run (our choice). Hosts are numbered from 0.
use Rattle.std.specs.Prelude.{◌++◌, [], ℕ, List, Result, Ok, Err, codes, decimal, length, slice_get, unwrap_or}
use Rattle.adapter.specs.Outcomes.{FrameOutcome}
use Rattle.adapter.specs.model_types.outcome.Outcome.TheVariants as outcome
use Rattle.adapter.specs.model_types.step.StepKind.{StepKind}
use Rattle.adapter.specs.model_types.step.StepKind.TheVariants as step
use Rattle.driver.specs.declared.interrupt.Handled.TheVariants as handled
use Rattle.driver.specs.ErrorTexts.{send_error_text}
use Rattle.driver.specs.declared.transmit.SendError.{SendError}
use Rattle.bring_up.specs.ErrorTexts.{group_error_text}
use Rattle.bring_up.specs.declared.groups.GroupError.{GroupError}
use Rattle.network_plan.specs.Answers.{FrameAnswer}
use Rattle.network_plan.specs.declared.event.Event.{Event}
use Rattle.network_plan.specs.declared.event.Event.TheVariants as event
use Rattle.network_plan.specs.declared.reply.Answer.TheVariants as answer
use Rattle.packet_socket.specs.ErrorTexts.{recv_error_text}
use Rattle.rx_engine.specs.declared.arrival.Fate.{Fate}
use Rattle.rx_engine.specs.declared.arrival.Fate.TheVariants as fate
use Rattle.stations.specs.declared.tick.Tick.{Tick}
use Rattle.stations.specs.declared.tick.Tick.TheVariants as tick

-- a label, and a number in decimal
abbrev pub numbered : (label : List ℕ) → ℕ → List ℕ
numbered label number = label ++ decimal number

-- the name of a host in a list of names, or an empty name if the host isn't in the list
abbrev pub name_at : List (List ℕ) → ℕ → List ℕ
name_at names host = unwrap_or (slice_get names host) []

-- Ticks and their outcomes.

-- a blank, the word for a step of an adapter, and a colon
abbrev pub step_word : StepKind → List ℕ
step_word step.TxTake = codes " txtake:"
step_word step.TxPut = codes " txput:"
step_word step.RxData = codes " rxdata:"
step_word step.RxDone = codes " rxdone:"
step_word step.EepromTick = codes " eeprom:"
step_word step.PhyTick = codes " phy:"

-- a blank, the word for a tick, and the name of the tick's host; `go` has no host
abbrev pub tick_text : (names : List (List ℕ)) → Tick → List ℕ
tick_text names tick.Go = codes " go"
tick_text names (tick.Step host kind) = step_word kind ++ name_at names host
tick_text names (tick.Deliver host) = codes " deliver:" ++ name_at names host

-- a blank and the word for a fate
abbrev pub fate_field : Fate → List ℕ
fate_field fate.Off = codes " off"
fate_field fate.Illegal = codes " illegal"
fate_field fate.Filtered = codes " filtered"
fate_field fate.Missed = codes " missed"
fate_field fate.Stored = codes " stored"

-- a blank and the word for an outcome; a delivery has the word for the fate of its frame
abbrev pub outcome_field : FrameOutcome → List ℕ
outcome_field outcome.Took = codes " took"
outcome_field (outcome.Put frame) = codes " put"
outcome_field outcome.WireFull = codes " wirefull"
outcome_field outcome.Part = codes " part"
outcome_field outcome.Moved = codes " moved"
outcome_field outcome.Done = codes " done"
outcome_field (outcome.Delivered frame one) = fate_field one
outcome_field outcome.Ticked = codes " ticked"
outcome_field outcome.Nothing = codes " nothing"
outcome_field outcome.Fault = codes " fault"

-- a blank and the size of an outcome's frame in bytes, if the outcome has a frame
abbrev pub outcome_size : FrameOutcome → List ℕ
outcome_size (outcome.Put frame) = numbered (codes " ") (length frame)
outcome_size (outcome.Delivered frame one) = numbered (codes " ") (length frame)
outcome_size one = []

-- an outcome, with the size of its frame in bytes if it has a frame
abbrev pub outcome_text : FrameOutcome → List ℕ
outcome_text one = outcome_field one ++ outcome_size one

-- ` @N TICK OUTCOME`: a tick that was played after N accesses of its call; N is 0 outside a call
abbrev pub tick_line_text : (names : List (List ℕ)) → Tick → (accesses : ℕ) → FrameOutcome → List ℕ
tick_line_text names tick accesses one = numbered (codes " @") accesses ++ tick_text names tick ++ outcome_text one

-- Events and their answers.

-- A blank, the word for an event, and the name of its host. The frame's size in bytes follows for a send, the socket's number for a recv.
-- An event that is a tick has only the word `tick`.
abbrev pub event_text : (names : List (List ℕ)) → Event → List ℕ
event_text names (event.Send host frame ticks) = (codes " send " ++ name_at names host) ++ numbered (codes " ") (length frame.now)
event_text names (event.Recv host socket ticks) = (codes " recv " ++ name_at names host) ++ numbered (codes " ") socket
event_text names (event.Interrupt host ticks) = codes " interrupt " ++ name_at names host
event_text names (event.Reset host ticks) = codes " reset " ++ name_at names host
event_text names (event.Join host group ticks) = codes " join " ++ name_at names host
event_text names (event.Leave host group ticks) = codes " leave " ++ name_at names host
event_text names (event.Tick tick) = codes " tick"

-- the words for the result of a send: `ok`, or the error's code and name
abbrev pub sent_word : Result (Unit {0}) SendError → List ℕ
sent_word (Ok u) = codes "ok"
sent_word (Err error) = send_error_text error

-- the words for the result of a join or a leave: `ok`, or the error's code and name
abbrev pub group_word : Result (Unit {0}) GroupError → List ℕ
group_word (Ok u) = codes "ok"
group_word (Err error) = group_error_text error

-- a blank and the words for an answer, without numbers; nothing for `Ticked`, the answer to an event that is a tick
abbrev pub answer_word : FrameAnswer → List ℕ
answer_word (answer.Sent sent) = codes " " ++ sent_word sent
answer_word (answer.Received (Ok frame)) = codes " ok"
answer_word (answer.Received (Err error)) = codes " " ++ recv_error_text error
answer_word (answer.Interrupted handled.NotMine) = codes " notmine"
answer_word (answer.Interrupted (handled.Handled taken)) = codes " handled"
answer_word (answer.Joined joined) = codes " " ++ group_word joined
answer_word (answer.Left left) = codes " " ++ group_word left
answer_word (answer.Reset sending holding on_after) = codes " givenup"
answer_word answer.Ticked = []
answer_word answer.NoHost = codes " nohost"

-- ` SENDING HOLDING on N`: a reset gave up `sending` frames to be sent and `holding` held frames. Its N-th access enabled
-- the receiver again.
abbrev pub given_up_numbers : (sending holding on_after : ℕ) → List ℕ
given_up_numbers sending holding on_after =
    numbered (codes " ") sending ++ numbered (codes " ") holding ++ numbered (codes " on ") on_after

-- The numbers of an answer: for a recv, the size of the returned frame in bytes; for an interrupt, the number of frames taken; for a reset,
-- `given_up_numbers`. Else none.
abbrev pub answer_numbers : FrameAnswer → List ℕ
answer_numbers (answer.Received (Ok frame)) = numbered (codes " ") (length frame)
answer_numbers (answer.Interrupted (handled.Handled taken)) = numbered (codes " ") taken
answer_numbers (answer.Reset sending holding on_after) = given_up_numbers (length sending.items) (length holding.items) on_after
answer_numbers one = []

-- the answer to an event, with its numbers; nothing for `Ticked`
abbrev pub answer_text : FrameAnswer → List ℕ
answer_text one = answer_word one ++ answer_numbers one
