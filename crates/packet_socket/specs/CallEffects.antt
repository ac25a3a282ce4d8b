-- Calls of a host as plain data, their answers, and their effects (our choice).
use Rattle.std.specs.Prelude.{⊤, ◌≡◌, [], ℕ, List, None, Ok, Option, Result, Some, drop}
use Rattle.adapter.specs.bus_types.bus.Bus.{Ghosts}
use Rattle.driver.specs.Parts.{IsFrameSize}
use Rattle.driver.specs.SendSteps.{SendAnswer, accepted_by}
use Rattle.driver.specs.declared.interrupt.Handled.{Handled}
use Rattle.packet_socket.specs.HostActs.{CallsUp, Effect}
use Rattle.packet_socket.specs.HostCalls.{Given, HostMoment}
use Rattle.packet_socket.specs.HostEffects.{GroupAnswer, InterruptEffect, JoinEffect, LeaveEffect, RecvEffect, SendEffect}
use Rattle.packet_socket.specs.HostEffects.{frame_answer, given_by}
use Rattle.packet_socket.specs.declared.receive.RecvError.{RecvError}
use Rattle.packet_socket.specs.declared.call.HostAnswer.{HostAnswer}
use Rattle.packet_socket.specs.declared.call.HostAnswer.TheVariants.{Interrupted, Joined, Left, Received, Sent}
use Rattle.packet_socket.specs.declared.call.HostCall.{HostCall}
use Rattle.packet_socket.specs.declared.call.HostCall.TheVariants.{Interrupt, Join, Leave, Recv, Send}

-- A call of a host as plain data.
pub data Request : Type 0 where
  Sending : (frame : List ℕ) → Request
  Receiving : (socket : ℕ) → Request
  Interrupting : Request
  Joining : (group : List ℕ) → Request
  Leaving : (group : List ℕ) → Request

-- the call as plain data: the bytes of a frame to send instead of a slice
abbrev pub call_request : HostCall → Request
call_request (Send frame) = Sending frame.now
call_request (Recv socket) = Receiving socket
call_request Interrupt = Interrupting
call_request (Join group) = Joining group
call_request (Leave group) = Leaving group

-- the answer, in which the size of a returned frame is replaced by the frame: the first bytes of `into`, up to this size
abbrev pub answer_in : (into : List ℕ) → HostAnswer ℕ → HostAnswer (List ℕ)
answer_in into (Sent result) = Sent result
answer_in into (Received result) = Received (frame_answer into result)
answer_in into (Interrupted result) = Interrupted result
answer_in into (Joined result) = Joined result
answer_in into (Left result) = Left result

-- A frame that is returned has 60 to 1,518 bytes.
abbrev pub IsLegalAnswer : HostAnswer ℕ → Type 0
IsLegalAnswer (Received (Ok size)) = IsFrameSize size
IsLegalAnswer _ = ⊤

-- The caller's bytes are `before` before the call, and `after` after it. The bytes after a returned frame don't change. If no frame is
-- returned, no byte changes.
abbrev pub KeepsRest : HostAnswer ℕ → (before after : List ℕ) → Type 0
KeepsRest (Received (Ok size)) before after = drop size after ≡ drop size before
KeepsRest _ before after = after ≡ before

-- the frame that a socket returned in this call, if any
abbrev pub given_in : Request → HostAnswer (List ℕ) → List Given
given_in (Receiving socket) (Received result) = given_by socket result
given_in request answer = []

-- the padded frame that the call accepted for sending, if any
abbrev pub accepted_in : Request → HostAnswer (List ℕ) → List (List ℕ)
accepted_in (Sending frame) (Sent result) = accepted_by result frame
accepted_in request answer = []

-- The result in an answer, if the answer is that of this kind of call

-- the result of a send
abbrev pub sent_in : HostAnswer (List ℕ) → Option SendAnswer
sent_in (Sent result) = Some result
sent_in answer = None

-- the result of a recv
abbrev pub received_in : HostAnswer (List ℕ) → Option (Result (List ℕ) RecvError)
received_in (Received result) = Some result
received_in answer = None

-- the result of an interrupt handler
abbrev pub interrupted_in : HostAnswer (List ℕ) → Option Handled
interrupted_in (Interrupted result) = Some result
interrupted_in answer = None

-- the result of a join
abbrev pub joined_in : HostAnswer (List ℕ) → Option GroupAnswer
joined_in (Joined result) = Some result
joined_in answer = None

-- the result of a leave
abbrev pub left_in : HostAnswer (List ℕ) → Option GroupAnswer
left_in (Left result) = Some result
left_in answer = None

-- The effect of a result; an answer of another kind of call is impossible.
abbrev pub OfAnswer : {R : Type 0} → Option R → (R → Effect) → Effect
OfAnswer (Some result) Does = Does result
OfAnswer None Does = λ h h' Runs world. ⊥

-- The effect of a call, by its request and its answer.
abbrev pub EffectOf : Request → HostAnswer (List ℕ) → Effect
EffectOf (Sending frame) answer = OfAnswer (sent_in answer) (SendEffect frame)
EffectOf (Receiving socket) answer = OfAnswer (received_in answer) (RecvEffect socket)
EffectOf Interrupting answer = OfAnswer (interrupted_in answer) InterruptEffect
EffectOf (Joining group) answer = OfAnswer (joined_in answer) (JoinEffect group)
EffectOf (Leaving group) answer = OfAnswer (left_in answer) (LeaveEffect group)

-- If the bus obeys the law, and the host is ready with its transmit side set up, a call has the effect of its answer.
abbrev pub CallsBy : {B : Type 0} → Ghosts B → Request → HostAnswer (List ℕ) → (old new : HostMoment B) → Type 0
CallsBy bus request answer old new =
    CallsUp bus (given_in request answer) (accepted_in request answer) old new (EffectOf request answer)
