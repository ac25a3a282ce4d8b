-- The ends that read a log: the log of a new end, and what a put does to a log and to the ends that read it (our choice).
use Rattle.std.specs.Prelude.{◌≡◌, ◌≢◌, ◌≤◌, ◌<◌, ◌-◌, ◌+◌, ◌⊎◌, ◌↔◌, ◌++◌, ◌==◌, ◌&&◌, not, ℕ, Some, List}
use Rattle.std.specs.Prelude.{[], ◌∷◌, drop, length, option_map, slice_get}
use Rattle.std.specs.Prelude.{slice_index_or, if◌then◌else◌}
use Rattle.stations.specs.Ends.{end_frames}
use Rattle.stations.specs.WireLogs.{LogEntry, frames_of_others, log_entries}
use Rattle.stations.specs.WiresView.{ReadsLog}
use Rattle.stations.specs.declared.wires.End.{End}

-- The k-th end; an end of wire 0 without waiting frames if there is no k-th end.
abbrev pub end_at : List End → (k : ℕ) → End
end_at ends k = slice_index_or ends k (record { wire = 0; log = 0; cursor = 0; waiting = 0 })

-- There is a k-th end, and this end reads the log.
pub record IsReader (log : ℕ) (ends : List End) (k : ℕ) : Type 0 where
  pub there : k < length ends
  pub reads : (end_at ends k).log ≡ log

-- Each of the first `number` ends that is an end of the wire, except the sender's, has room for one more frame.
abbrev pub OthersHaveRoom : (number sender wire : ℕ) → List End → Type 0
OthersHaveRoom number sender wire ends =
    (k : ℕ) → k < number → k ≢ sender → (end_at ends k).wire ≡ wire → (end_at ends k).waiting < end_frames

-- This is the log for the next end of a wire: exactly the ends of the wire read this log.
pub record IsLogFor (wire : ℕ) (ends : List End) (logs : List (List LogEntry)) (log : ℕ) : Type 0 where
  pub there : log < length logs
  pub one : (k : ℕ) → k < length ends → (end_at ends k).wire ≡ wire ↔ ((end_at ends k).log ≡ log)

-- Each log of the list `old` is unchanged, and further logs may follow.
pub record KeepsLogs (old new : List (List LogEntry)) : Type 0 where
  pub more : List (List LogEntry)
  pub is : new ≡ old ++ more

-- The end `reader` reads the log, and none of the first `number` ends that read the log has a smaller cursor.
pub record IsSlowest (number log : ℕ) (ends : List End) (reader : ℕ) : Type 0 where
  pub is : IsReader log ends reader
  pub least : (k : ℕ) → k < number → (end_at ends k).log ≡ log → (end_at ends reader).cursor ≤ (end_at ends k).cursor

-- An end other than the end `but` reads the log, and has the cursor `cursor`.
pub record HasCursor (log but cursor : ℕ) (ends : List End) : Type 0 where
  pub k : ℕ
  pub is : IsReader log ends k
  pub other : k ≢ but
  pub at : (end_at ends k).cursor ≡ cursor

-- `cursor` is the least of `limit` and the cursors of those of the first `number` ends that read the log, except the
-- end `but`.
pub record IsLeastCursor (number log but limit : ℕ) (ends : List End) (cursor : ℕ) : Type 0 where
  pub most : cursor ≤ limit
  pub least : (k : ℕ) → k < number → k ≢ but → (end_at ends k).log ≡ log → cursor ≤ (end_at ends k).cursor
  pub found : (cursor ≡ limit) ⊎ HasCursor log but cursor ends

-- The end after this number of entries were dropped from a log. If the end reads this log, its cursor is reduced by this number, to at
-- least 0.
abbrev pub moved_cursor : (log dropped : ℕ) → End → End
moved_cursor log dropped end = if end.log == log then record end { cursor = end.cursor - dropped } else end

-- The k-th end after the sender's frame was appended to the log. An end that reads this log, except the sender's,
-- counts one more waiting frame.
abbrev pub with_waiting : (log sender k : ℕ) → End → End
with_waiting log sender k end =
    if not (k == sender) && (end.log == log) then record end { waiting = end.waiting + 1 } else end

-- Each end that reads the log has a cursor in this log, and counts the frames that wait, at most `end_frames`
-- (`ReadsLog`).
abbrev pub ReadIn : (log : ℕ) → List LogEntry → List End → Type 0
ReadIn log entries ends = (k : ℕ) (end : End) → slice_get ends k ≡ Some end → end.log ≡ log → ReadsLog entries k end

-- The log `after` has room for one more entry. At each end that reads the log, the same frames wait as for the log
-- `before`. Of the ends, only the cursors of those that read the log change.
pub record MakesRoom (log : ℕ) (before after : List LogEntry) (old new : List End) : Type 0 where
  pub room : length after < log_entries
  -- the new cursor of each end
  pub cursors : (k : ℕ) → End → ℕ
  pub each : (k : ℕ) → slice_get new k ≡ option_map (λ (end : End). record end { cursor = cursors k end }) (slice_get old k)
  -- the cursor of an end that reads another log is the same
  pub others : (k : ℕ) (end : End) → end.log ≢ log → cursors k end ≡ end.cursor
  -- the new cursors are in the log: at most at its end
  pub below : (k : ℕ) (end : End) → slice_get old k ≡ Some end → end.log ≡ log → cursors k end ≤ length after
  -- the same frames wait
  pub same : (k : ℕ) (end : End) → slice_get old k ≡ Some end → end.log ≡ log
      → frames_of_others k (drop (cursors k end) after) ≡ frames_of_others k (drop end.cursor before)

-- A sender's frame is put into a log: room is made, and the frame is appended. Each end that reads the log, except the
-- sender's, counts one more waiting frame.
pub record PutsFrame (log sender : ℕ) (frame : List ℕ) (before longer : List LogEntry) (old new : List End) : Type 0 where
  pub after : List LogEntry
  pub made : List End
  pub makes : MakesRoom log before after old made
  pub appended : longer ≡ after ++ (sender, frame) ∷ []
  pub each : (k : ℕ) → slice_get new k ≡ option_map (with_waiting log sender k) (slice_get made k)
