-- The log of a wire: frames that were put on the wire, in order (our choice).
use Rattle.std.specs.Prelude.{◌-◌, ◌==◌, ◌++◌, not, Bool, ℕ, List, [], drop, filter, length, map, take, slice_index_or}

-- An entry: the number of the host that put the frame, and the frame.
abbrev pub LogEntry : Type 0
LogEntry = ℕ × List ℕ

-- The greatest number of entries of a log (our choice).
abbrev pub log_entries : ℕ
log_entries = 1024

-- The entry at this place; an empty frame of host 0 if there is no such entry.
abbrev pub entry_at : (place : ℕ) → List LogEntry → LogEntry
entry_at place entries = slice_index_or entries place (0, [])

-- The frame of the entry at this place.
abbrev pub entry_frame : (place : ℕ) → List LogEntry → List ℕ
entry_frame place entries = (entry_at place entries).1

-- Whether a host other than `reader` put the frame of this entry, so that the host `reader` reads the frame.
abbrev pub is_of_other : (reader : ℕ) → LogEntry → Bool
is_of_other reader entry = not (entry.0 == reader)

-- The frames of these entries that hosts other than `reader` put, in order.
abbrev pub frames_of_others : (reader : ℕ) → List LogEntry → List (List ℕ)
frames_of_others reader entries = map (λ (entry : LogEntry). entry.1) (filter (is_of_other reader) entries)

-- The last `count` of the frames of these entries that hosts other than `reader` put.
abbrev pub last_of_others : (reader count : ℕ) → List LogEntry → List (List ℕ)
last_of_others reader count entries = drop (length (frames_of_others reader entries) - count) (frames_of_others reader entries)

-- A log without the entries before `first`, and without the entries of the host `reader` before `second`. Let `first`
-- be the least cursor, at the end of the host `reader`, and `second` the least cursor of the other ends. Then each end
-- has read the removed entries of other senders.
abbrev pub closed_up : (reader first second : ℕ) → List LogEntry → List LogEntry
closed_up reader first second entries = filter (is_of_other reader) (take (second - first) (drop first entries)) ++ drop second entries
