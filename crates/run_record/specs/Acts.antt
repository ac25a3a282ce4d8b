-- What a run does: events with their replies, and drains of hosts (our choice).
use Rattle.std.specs.Prelude.{◌∷◌, [], ℕ, List}
use Rattle.std.specs.List.{flat_map}
use Rattle.packet_socket.specs.HostCalls.{Given as GivenFrame}
use Rattle.host_calls.specs.Happenings.{Happening}
use Rattle.network_plan.specs.declared.event.Event.{Event}
use Rattle.network_plan.specs.declared.reply.Reply.{Reply}
use Rattle.wire.specs.DrainedNetworks.{said_of_drain}
use Rattle.wire.specs.Runs.{said}

-- An event with its reply, or the drain of a host. `buffered` is the number of frames in the host's receive packet buffer before the drain,
-- and `given` are the frames that the drain returned.
pub data Act : Type 0 where
  Ran : (event : Event) (reply : Reply) → Act
  Drained : (host buffered : ℕ) (given : List GivenFrame) → Act

-- the happenings of an act, in order
abbrev pub said_in : Act → List Happening
said_in (Ran event reply) = said event reply
said_in (Drained host buffered given) = said_of_drain host buffered given

-- the acts of events, each with the reply at the same index; the list ends with the shorter of the two lists
abbrev pub ran : List Event → List Reply → List Act
ran [] replies = []
ran (event ∷ events) [] = []
ran (event ∷ events) (reply ∷ replies) = Ran event reply ∷ ran events replies

-- the happenings of several acts, in order
abbrev pub history : List Act → List Happening
history acts = flat_map said_in acts
