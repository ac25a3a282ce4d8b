use Rattle.std.proofs.Common.{◌≢◌, ◌-◌, ◌≤◌, All, length, take}
use Rattle.server_requests.proofs.line_reader.length_before_feed.Given as goal

abbrev pub invariant-loop-count : goal.invariant-loop-count
invariant-loop-count l = (l.count ≤ length l.bytes) × All (λ x. x ≢ 10) (take l.count l.bytes)

abbrev pub decreases-loop-count : goal.decreases-loop-count
decreases-loop-count l = length l.bytes - l.count
