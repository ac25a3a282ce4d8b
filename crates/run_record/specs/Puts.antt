-- The frames that hosts put on their wires (our choice).
use Rattle.std.specs.Borrow.{Bor}
use Rattle.std.specs.Prelude.{[], ℕ, Bool, List, map, option_map, slice_get, unwrap_or}
use Rattle.std.specs.Str.{bytes_eq}
use Rattle.pcap_trace.specs.Format.{Timed}
use Rattle.run_record.specs.Kept.{KeptFrame, frames_where}
use Rattle.scenario.specs.SoFar.{Host}

-- the name of a host's wire, or an empty name if there is no such host
abbrev pub wire_name_of : List Host → ℕ → List ℕ
wire_name_of hosts host = unwrap_or (option_map (λ (one : Host). one.wire) (slice_get hosts host)) []

-- whether `wire` is the name of the wire of host `host`; for a host that doesn't exist, whether `wire` is empty. `socket` has no effect.
abbrev pub is_on_wire : List Host → (wire : List ℕ) → (host socket : ℕ) → Bool
is_on_wire hosts wire host socket = bytes_eq (wire_name_of hosts host) wire

-- the frames in `puts` that hosts on this wire put, in order
abbrev pub frames_on_wire : List Host → (wire : List ℕ) → List KeptFrame → List Timed
frames_on_wire hosts wire puts = frames_where (is_on_wire hosts wire) puts

-- for each of these wires, the frames in `puts` that hosts on the wire put, in order
abbrev pub wire_texts : List Host → List KeptFrame → (wires : List (List ℕ)) → List (List Timed)
wire_texts hosts puts wires = map (λ (wire : List ℕ). frames_on_wire hosts wire puts) wires

-- the names that these borrows refer to
abbrev pub names_in : List (Bor (List ℕ)) → List (List ℕ)
names_in names = map (λ (name : Bor (List ℕ)). name.now) names
