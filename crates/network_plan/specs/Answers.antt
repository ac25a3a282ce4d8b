-- The answers to events, with the bytes of a returned frame, and the ticks of events (our choice).
use Rattle.std.specs.Prelude.{◌∷◌, [], Err, List, Ok, ℕ}
use Rattle.stations.specs.declared.tick.Tick.{Tick}
use Rattle.packet_socket.specs.declared.call.HostAnswer.{HostAnswer}
use Rattle.packet_socket.specs.declared.call.HostAnswer.TheVariants.{Interrupted as InterruptedBy, Joined as JoinedBy, Left as LeftBy}
use Rattle.packet_socket.specs.declared.call.HostAnswer.TheVariants.{Received as ReceivedBy, Sent as SentBy}
use Rattle.network_plan.specs.EventCalls.{Alone, ByCall, ByReset, EventKind, in_event}
use Rattle.network_plan.specs.declared.event.Event.{Event}
use Rattle.network_plan.specs.declared.reply.Answer.{Answer}
use Rattle.network_plan.specs.declared.reply.Answer.TheVariants.{Interrupted, Joined, Left, NoHost, Received, Reset, Sent, Ticked}

-- an answer with the bytes of its frame
abbrev pub FrameAnswer : Type 0
FrameAnswer = Answer (List ℕ)

-- this answer, with `frame` in place of the answer's frame, if the answer has a frame
abbrev pub answer_with : {F G : Type 0} → G → Answer F → Answer G
answer_with frame (Sent sent) = Sent sent
answer_with frame (Received (Ok old)) = Received (Ok frame)
answer_with frame (Received (Err error)) = Received (Err error)
answer_with frame (Interrupted handled) = Interrupted handled
answer_with frame (Joined joined) = Joined joined
answer_with frame (Left left) = Left left
answer_with frame (Reset sending holding on_after) = Reset sending holding on_after
answer_with frame Ticked = Ticked
answer_with frame NoHost = NoHost

-- the answer to an event, by the answer of its call
abbrev pub event_answer : HostAnswer (List ℕ) → FrameAnswer
event_answer (SentBy result) = Sent result
event_answer (ReceivedBy result) = Received result
event_answer (InterruptedBy result) = Interrupted result
event_answer (JoinedBy result) = Joined result
event_answer (LeftBy result) = Left result

-- the ticks of an event of this kind, including each `Go`
abbrev pub ticks_by : EventKind → List Tick
ticks_by (ByCall call) = call.ticks
ticks_by (ByReset host ticks) = ticks
ticks_by (Alone tick) = tick ∷ []

-- the ticks of an event, including each `Go`
abbrev pub ticks_of : Event → List Tick
ticks_of event = ticks_by (in_event event)
