use Rattle.host_calls.proofs.Joining.{fates-by_list}
use Rattle.host_calls.proofs.delivery_law.fates_are_judged_by_the_buffer.Goals as goal

pub returns : goal.returns
returns c = fates-by_list
