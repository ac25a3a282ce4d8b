use Rattle.host_calls.proofs.RightFates.{changes-alone, word-changes}
use Rattle.host_calls.proofs.delivery_law.groups_change.Goals as goal

pub returns : goal.returns
returns c = record { written = word-changes; alone = changes-alone }
