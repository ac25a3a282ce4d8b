-- Received frames as the packets of a trace (our choice).
use Rattle.std.specs.Prelude.{◌+◌, ◌-◌, ◌^◌, ◌∷◌, [], ℕ, List, min}
use Rattle.std.specs.List.{flat_map}
use Rattle.pcap_trace.specs.Format.{Timed, packet_of}
use Rattle.pcap_trace.specs.declared.unit.Unit.TheVariants.{Micros}

-- the number of the next frame; it saturates at the greatest `u64`
abbrev pub next_frame_number : ℕ → ℕ
next_frame_number n = min (n + 1) (2 ^ 64 - 1)

-- the number after these frames, if the first frame has number n
abbrev pub number_after : (n : ℕ) → (frames : List (List ℕ)) → ℕ
number_after n [] = n
number_after n (frame ∷ later) = number_after (next_frame_number n) later

-- frames with their numbers as times in microseconds, from n on; a number saturates
abbrev pub timed_by_number : (n : ℕ) → (frames : List (List ℕ)) → List Timed
timed_by_number n [] = []
timed_by_number n (frame ∷ later) = record { time = n; frame = frame } ∷ timed_by_number (next_frame_number n) later

-- the packets of these frames, numbered from n on, one after the other
abbrev pub packets_of : (n : ℕ) → (frames : List (List ℕ)) → List ℕ
packets_of n frames = flat_map (packet_of Micros) (timed_by_number n frames)
