-- The frames that a host and an adapter exchange (our choice).
use Rattle.std.specs.Prelude.{◌≡◌, ◌++◌, ◌∷◌, ◌-◌, ◌^◌, [], ℕ, Bool, List, Option, count_by, map, min, not, true, if◌then◌else◌}
use Rattle.std.specs.Io.KnownBytes.{Appends, append_known}
use Rattle.descriptors.specs.Frames.{is_sendable, padded}
use Rattle.adapter.specs.bus_types.bus.Bus.{Ghosts}
use Rattle.adapter.specs.Keeping.{Keeps}
use Rattle.adapter.specs.Pasts.{Past}
use Rattle.packet_socket.specs.HostCalls.{Given, HostFlowsTo, HostMoment, IsReadyHost, host_did, in_world}
use Rattle.packet_socket.specs.HostState.{HostState}
use Rattle.drive.specs.Numbering.{number_after, packets_of}
use Rattle.drive.specs.declared.exchange.Exchange.{Exchange}

-- Frames to be sent.

-- what a driver accepts if this frame is passed to it: the padded frame if it has 14 to 1,518 bytes, else no frame
abbrev pub accepted_of : List ℕ → List (List ℕ)
accepted_of frame = if is_sendable frame then padded frame ∷ [] else []

-- the frames that a driver accepts if these frames are passed to it, in order
abbrev pub accepted_of_all : List (List ℕ) → List (List ℕ)
accepted_of_all [] = []
accepted_of_all (frame ∷ later) = accepted_of frame ++ accepted_of_all later

-- whether a frame has fewer than 14 or more than 1,518 bytes
abbrev pub is_illegal : List ℕ → Bool
is_illegal frame = not (is_sendable frame)

-- a count that saturates at the greatest `u64`
abbrev pub saturated : ℕ → ℕ
saturated n = min n (2 ^ 64 - 1)

-- Frames that were received.

-- a frame that the only socket returned
abbrev pub given_of : List ℕ → Given
given_of frame = record { socket = 0; frame = frame }

-- An interval of a host's run over a bus that obeys the bus law. The host's transmit side is set up (`true`). The driver accepted the
-- frames `accepted`, and the socket returned the frames `received`. `flows` relates both lists to the frames that the adapter put on the
-- wire and stored.
pub record HostFlows {B : Type 0} (bus : Ghosts B) (accepted received : List (List ℕ)) (old new : HostMoment B) : Type 0 where
  pub honest : bus.honest new.bus
  -- the frames that the driver took off the receive ring
  pub taken : List (List ℕ)
  -- what happened in the interval
  pub past : Past
  pub reports : bus.happened old.bus new.bus past
  pub flows : HostFlowsTo true (in_world old.host (bus.world old.bus)) (in_world new.host (bus.world new.bus))
      (host_did taken (map given_of received) accepted) past

-- A moment of an exchange: the host on its bus, the bytes written to the sink or waiting for it, and the next received frame's number.
pub record ExchangeMoment (B : Type 0) : Type 0 where
  pub bus : B
  pub host : HostState
  pub text : Option (List ℕ)
  pub number : ℕ

-- the moment of an exchange with these parts
abbrev pub exchange_at : {B : Type 0} → B → HostState → Option (List ℕ) → ℕ → ExchangeMoment B
exchange_at bus host text number = record { bus = bus; host = host; text = text; number = number }

-- the moment of an exchange on this bus, with a sink that has taken these bytes, if it knows its bytes
abbrev pub moment_of : {B : Type 0} → B → Exchange → Option (List ℕ) → ExchangeMoment B
moment_of bus exchange taken = exchange_at bus exchange.host (append_known taken exchange.writer) exchange.received

-- the host on its bus, at a moment of an exchange
abbrev pub host_moment : {B : Type 0} → ExchangeMoment B → HostMoment B
host_moment now = record { bus = now.bus; host = now.host }

-- An interval of an exchange, over any bus: exactly the frames `received` were written, in order, each with its number. If the host is
-- ready at the beginning, on a bus that obeys the bus law, the socket returned the frames `received`, and the driver accepted the frames
-- `accepted`.
pub record Exchanges {B : Type 0} (bus : Ghosts B) (accepted : List (List ℕ)) (old new : ExchangeMoment B) : Type 0 where
  pub keeps : Keeps bus old.bus new.bus
  pub layout : new.host.driver.layout ≡ old.host.driver.layout
  pub received : List (List ℕ)
  pub written : Appends old.text new.text (packets_of old.number received)
  pub count : new.number ≡ number_after old.number received
  pub flows : IsReadyHost bus true (host_moment old) → HostFlows bus accepted received (host_moment old) (host_moment new)

-- The first frames of a list, `handed`, were passed to the driver, in order; the frames `left` weren't passed. `sent` counts the frames of
-- `handed` that have 14 to 1,518 bytes, and `illegal` the others. A count saturates. Frames may also have been received (`Exchanges`).
pub record SendsUpTo {B : Type 0} (bus : Ghosts B) (frames left : List (List ℕ)) (sent illegal : ℕ) (old new : ExchangeMoment B) : Type 0
  where
    pub handed : List (List ℕ)
    pub parts : frames ≡ handed ++ left
    pub sent_is : sent ≡ saturated (count_by is_sendable handed)
    pub illegal_is : illegal ≡ saturated (count_by is_illegal handed)
    pub exchanges : Exchanges bus (accepted_of_all handed) old new

-- The first frames of a list were passed to the driver, as in `SendsUpTo`, whatever frames are left.
abbrev pub SendsFront : {B : Type 0} → Ghosts B → (frames : List (List ℕ)) → (sent illegal : ℕ) → (old new : ExchangeMoment B) → Type 0
SendsFront bus frames sent illegal old new = (left : List (List ℕ)) × SendsUpTo bus frames left sent illegal old new
