-- The kinds of events (our choice): a call of a host with ticks, a reset of a host's adapter with ticks, or a tick
-- outside a call. So a definition about calls doesn't need a case for each kind of call.
use Rattle.std.specs.Prelude.{List, ℕ}
use Rattle.packet_socket.specs.CallEffects.{Interrupting, Joining, Leaving, Receiving, Request, Sending}
use Rattle.stations.specs.declared.tick.Tick.{Tick}
use Rattle.network_plan.specs.declared.event.Event.{Event}
use Rattle.network_plan.specs.declared.event.Event.TheVariants.{Interrupt, Join, Leave, Recv, Reset, Send, Tick as OfTick}

-- a call of a host, and the ticks that are played during the call
pub record EventCall : Type 0 where
  -- the number of the host
  pub host : ℕ
  -- the call that the host makes
  pub request : Request
  -- the ticks that are passed to the call, including each `Go`
  pub ticks : List Tick

-- an event, by its kind
pub data EventKind : Type 0 where
  -- a call of a host
  ByCall : (call : EventCall) → EventKind
  -- a reset of the adapter of this host, and the ticks that are played during the reset
  ByReset : (host : ℕ) (ticks : List Tick) → EventKind
  -- a tick outside a call
  Alone : (tick : Tick) → EventKind

-- the kind of an event: a call of a host, a reset, or a tick outside a call
abbrev pub in_event : Event → EventKind
in_event (Send host frame ticks) = ByCall (record { host = host; request = Sending frame.now; ticks = ticks.now })
in_event (Recv host socket ticks) = ByCall (record { host = host; request = Receiving socket; ticks = ticks.now })
in_event (Interrupt host ticks) = ByCall (record { host = host; request = Interrupting; ticks = ticks.now })
in_event (Join host group ticks) = ByCall (record { host = host; request = Joining group; ticks = ticks.now })
in_event (Leave host group ticks) = ByCall (record { host = host; request = Leaving group; ticks = ticks.now })
in_event (Reset host ticks) = ByReset host ticks.now
in_event (OfTick tick) = Alone tick
