-- How the wires store the frames that wait (our choice): a log for each wire, and for each end its cursor in the log.
use Rattle.std.specs.Prelude.{◌≡◌, ◌≤◌, ◌<◌, ◌↔◌, ℕ, suc, Some, List, [], ◌∷◌, drop, length, slice_get, slice_index_or, vec_capacity}
use Rattle.stations.specs.Ends.{EndState, end_frames}
use Rattle.stations.specs.WireLogs.{LogEntry, frames_of_others, log_entries}
use Rattle.stations.specs.declared.wire_log.WireLog.TheInside.{Inside as InsideLog}
use Rattle.stations.specs.declared.wires.End.{End}

-- The log has at most 1,024 entries (`log_entries`), and its memory has room for 1,024 entries.
pub record HasLogRoom (inside : InsideLog) : Type 0 where
  pub fits : length inside.entries.items ≤ log_entries
  pub room : log_entries ≤ vec_capacity inside.entries

-- The log that an end reads; an empty log if there is no such log.
abbrev pub log_of : List (List LogEntry) → End → List LogEntry
log_of logs end = slice_index_or logs end.log []

-- The frames that wait at the k-th end: the frames of other senders in the end's log, from its cursor on.
abbrev pub unread : List (List LogEntry) → (k : ℕ) → End → List (List ℕ)
unread logs k end = frames_of_others k (drop end.cursor (log_of logs end))

-- The state of the k-th end.
abbrev pub end_of : List (List LogEntry) → (k : ℕ) → End → EndState
end_of logs k end = record { wire = end.wire; backlog = unread logs k end }

-- The states of these ends, if the first of them has number k.
abbrev pub ends_from : List (List LogEntry) → (k : ℕ) → List End → List EndState
ends_from logs k [] = []
ends_from logs k (end ∷ ends) = end_of logs k end ∷ ends_from logs (suc k) ends

-- The k-th end has its cursor in this log, and counts the frames that wait, at most `end_frames`.
pub record ReadsLog (log : List LogEntry) (k : ℕ) (end : End) : Type 0 where
  pub cursor : end.cursor ≤ length log
  pub counts : end.waiting ≡ length (frames_of_others k (drop end.cursor log))
  pub most : end.waiting ≤ end_frames

-- Each end reads a log that exists (`ReadsLog`), and two ends are ends of one wire exactly if they read one log.
pub record HaveLogs (logs : List (List LogEntry)) (ends : List End) : Type 0 where
  pub there : (k : ℕ) (end : End) → slice_get ends k ≡ Some end → end.log < length logs
  pub reads : (k : ℕ) (end : End) → slice_get ends k ≡ Some end → ReadsLog (log_of logs end) k end
  pub one : (j k : ℕ) (d e : End) → slice_get ends j ≡ Some d → slice_get ends k ≡ Some e → d.wire ≡ e.wire ↔ (d.log ≡ e.log)
