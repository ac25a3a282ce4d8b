-- The events and drains of a scenario's commands, in order (our choice). Hosts are numbered from 0, as in the plan.
use Rattle.std.specs.Prelude.{◌==◌, ◌&&◌, ◌%◌, ◌/◌, ◌+◌, ◌++◌, ◌∷◌, []}
use Rattle.std.specs.Prelude.{ℕ, zero, suc, not, nat_le, max, List, if◌then◌else◌, length, map}
use Rattle.std.specs.Prelude.{slice_get, option_map, unwrap_or}
use Rattle.std.specs.List.{flat_map, range_with_len}
use Rattle.std.specs.Int.{div_ceil}
use Rattle.std.specs.Str.{bytes_eq}
use Rattle.rand_core.specs.Pcg32Seed.{pcg32_seed}
use Rattle.rand_pcg.specs.Lcg.{Lcg}
use Rattle.rand_pcg.specs.Pcg.{pcg32, pcg32_of_seed}
use Rattle.dma_memory.specs.Layout.{receive_buffer_bytes}
use Rattle.descriptors.specs.Frames.{longest_frame, shortest_frame}
use Rattle.eeprom.specs.Image.{address_bytes}
use Rattle.adapter.specs.model_types.step.StepKind.TheVariants.{RxData, RxDone, TxPut, TxTake}
use Rattle.stations.specs.declared.tick.Tick.{Tick}
use Rattle.stations.specs.declared.tick.Tick.TheVariants.{Deliver, Go, Step}
use Rattle.run_record.specs.Puts.{wire_name_of}
use Rattle.scenario.specs.SoFar.{Host, Said, Draws, Feeds, Interrupts, Receives, Sends, Ticks}

-- the number of receive buffers that a frame of this size needs after padding; 1 if the frame is too long for `send`
abbrev pub pieces_for : (size : ℕ) → ℕ
pieces_for size = if nat_le size longest_frame then div_ceil (max size shortest_frame) receive_buffer_bytes else 1

-- the steps by which a host's adapter moves this number of pieces of a frame to the host's memory: RxData and RxDone for each piece
abbrev pub moves_of_pieces : (host pieces : ℕ) → List Said
moves_of_pieces host zero = []
moves_of_pieces host (suc pieces) = Ticks (Step host RxData) ∷ Ticks (Step host RxDone) ∷ moves_of_pieces host pieces

-- A frame is delivered to a host, and moved to memory in this number of pieces. Then the host handles an interrupt, and
-- asks each of its sockets once for a frame, in order.
abbrev pub arrival_at : (pieces host sockets : ℕ) → List Said
arrival_at pieces host sockets =
    Ticks (Deliver host) ∷ moves_of_pieces host pieces
    ++ Interrupts host [] ∷ map (λ socket. Receives host socket []) (range_with_len 0 sockets)

-- The arrivals of a frame at each host of the list that is on this wire and isn't the sender. `number` is the number of
-- the first host in the list.
abbrev pub arrivals_from : (pieces number sender : ℕ) (wire : List ℕ) → List Host → List Said
arrivals_from pieces number sender wire [] = []
arrivals_from pieces number sender wire (host ∷ hosts) =
    (if not (number == sender) && bytes_eq host.wire wire then arrival_at pieces number (length host.sockets) else [])
    ++ arrivals_from pieces (number + 1) sender wire hosts

-- The events after a send: the frame is put onto the sender's wire, and arrives at each other host on this wire, in
-- order.
abbrev pub events_after_send : List Host → (sender pieces : ℕ) → List Said
events_after_send hosts sender pieces =
    Ticks (Step sender TxTake) ∷ Ticks (Step sender TxPut) ∷ arrivals_from pieces 0 sender (wire_name_of hosts sender) hosts

-- the events by which a frame is fed: the sender sends the frame, its adapter puts it, and the other hosts on the wire
-- receive it
abbrev pub fed : List Host → (sender : ℕ) (frame : List ℕ) → List Said
fed hosts sender frame = Sends sender frame [] ∷ events_after_send hosts sender (pieces_for (length frame))

-- the next `count` words of a PCG32 generator (XSH RR 64/32)
abbrev pub words_from : (count : ℕ) → Lcg → List ℕ
words_from zero generator = []
words_from (suc count) generator = (pcg32 generator).0 ∷ words_from count (pcg32 generator).1

-- the first `count` words of PCG32 with the seed `start`
abbrev pub words_drawn : (count start : ℕ) → List ℕ
words_drawn count start = words_from count (pcg32_of_seed (pcg32_seed 16 start))

-- a broadcast frame from this address, without data; its EtherType 0x88B5 is for experiments (IEEE 802)
abbrev pub broadcast_of : (address : List ℕ) → List ℕ
broadcast_of address = 0xFF ∷ 0xFF ∷ 0xFF ∷ 0xFF ∷ 0xFF ∷ 0xFF ∷ address ++ 0x88 ∷ 0xB5 ∷ []

-- the address of the host with this number; empty if there is no such host
abbrev pub host_address : List Host → ℕ → List ℕ
host_address hosts host = unwrap_or (option_map (λ (one : Host). address_bytes one.image) (slice_get hosts host)) []

-- the ticks of an interrupt in which RxData and RxDone are played after the handler's first access and before its second
abbrev pub late_frame : (host : ℕ) → List Tick
late_frame host = Go ∷ Step host RxData ∷ Step host RxDone ∷ []

-- the event of this kind at a host; each number from 7 on is the last kind. `ticks` are those of an interrupt, and
-- `frame` is that of a send.
abbrev pub event_of_kind : (kind host : ℕ) (frame : List ℕ) (ticks : List Tick) → Said
event_of_kind kind host frame ticks =
    if kind == 0 then Ticks (Step host TxTake)
    else if kind == 1 then Ticks (Step host TxPut)
    else if kind == 2 then Ticks (Step host RxData)
    else if kind == 3 then Ticks (Step host RxDone)
    else if kind == 4 then Ticks (Deliver host)
    else if kind == 5 then Interrupts host ticks
    else if kind == 6 then Receives host 0 []
    else Sends host frame []

-- The event that a random word draws. The word's low three bits choose the kind, and the other bits, modulo the number
-- of hosts, choose the host.
abbrev pub event_drawn : List Host → (word : ℕ) → Said
event_drawn hosts word =
    let host = word / 8 % length hosts in
    event_of_kind (word % 8) host (broadcast_of (host_address hosts host)) (late_frame host)

-- the events of a command, or its drain; `traces` are the traces of the scenario's `feed` lines, in order. A `feed`
-- without its trace has no events.
abbrev pub events_of : List Host → (traces : List (List (List ℕ))) → Said → List Said
events_of hosts traces (Feeds sender trace) = flat_map (fed hosts sender) (unwrap_or (slice_get traces trace) [])
events_of hosts traces (Draws count start) = map (event_drawn hosts) (words_drawn count start)
events_of hosts traces said = said ∷ []

-- the events and drains of all commands, in order
abbrev pub all_events : List Host → (traces : List (List (List ℕ))) → List Said → List Said
all_events hosts traces commands = flat_map (events_of hosts traces) commands
