use Rattle.std.proofs.Common.{◌≡◌, ℕ, slice_get, nat_lt, option_map, if◌then◌else◌}
use Rattle.stations.specs.LogReaders.{moved_cursor}
use Rattle.stations.proofs.wires.move_cursors.Given as goal

-- the cursors of the ends before this place are moved
abbrev pub invariant-loop-number : goal.invariant-loop-number
invariant-loop-number l =
    (k : ℕ)
    → slice_get l.ends k
    ≡ (if nat_lt k l.number then option_map (moved_cursor l.log l.dropped) (slice_get l.fn.ends k)
    else slice_get l.fn.ends k)
