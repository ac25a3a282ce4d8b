-- Which frames belong to each of several traces (our choice).
use Rattle.std.specs.Borrow.{Bor}
use Rattle.std.specs.Prelude.{ℕ, Bool, List, false, option_map, slice_get, unwrap_or}
use Rattle.pcap_trace.specs.Format.{Timed}
use Rattle.scenario.specs.SoFar.{hosts_of}
use Rattle.run_record.specs.Kept.{KeptFrame, is_of_socket, socket_texts}
use Rattle.run_record.specs.Puts.{is_on_wire, names_in, wire_texts}
use Rattle.run_record.specs.declared.kept.Traces.{Traces}
use Rattle.run_record.specs.declared.kept.Traces.TheVariants as traces

-- the frames of each trace, in order
abbrev pub texts_in : Traces → List KeptFrame → List (List Timed)
texts_in (traces.Sockets sockets) frames = socket_texts frames sockets.now
texts_in (traces.Wires plans names) frames = wire_texts (hosts_of plans.now) frames (names_in names.now)

-- whether a frame of this host and this socket belongs to the trace with this number; false if there is no such trace
abbrev pub is_in_trace : Traces → (trace host socket : ℕ) → Bool
is_in_trace (traces.Sockets sockets) trace host socket =
    unwrap_or (option_map (λ (place : ℕ × ℕ). is_of_socket place.0 place.1 host socket) (slice_get sockets.now trace)) false
is_in_trace (traces.Wires plans names) trace host socket =
    unwrap_or (option_map (λ (name : Bor (List ℕ)). is_on_wire (hosts_of plans.now) name.now host socket) (slice_get names.now trace)) false
