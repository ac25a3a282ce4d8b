use Rattle.std.proofs.Common.{◌≡◌, ◌≤◌, ℕ, List, drop}
use Rattle.stations.specs.WireLogs.{LogEntry, frames_of_others}
use Rattle.stations.proofs.wire_log.WireLog.next.Given as goal

-- The entries between these two places are the reader's own.
pub record NoneBetween (reader from place : ℕ) (entries : List LogEntry) : Type 0 where
  pub start : from ≤ place
  pub none : frames_of_others reader (drop from entries) ≡ frames_of_others reader (drop place entries)

abbrev pub invariant-loop-place : goal.invariant-loop-place
invariant-loop-place l = NoneBetween l.reader l.from l.place l.self
