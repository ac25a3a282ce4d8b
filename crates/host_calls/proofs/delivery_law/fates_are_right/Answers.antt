use Rattle.host_calls.proofs.OffFates.{fates-off}
use Rattle.host_calls.proofs.RightFates.{fates-right, filter-stays, tails-leave_reception}
use Rattle.host_calls.proofs.delivery_law.fates_are_right.Goals as goal

pub returns : goal.returns
returns c = record { fates = fates-right; tails = tails-leave_reception; off = fates-off; filter = filter-stays }
