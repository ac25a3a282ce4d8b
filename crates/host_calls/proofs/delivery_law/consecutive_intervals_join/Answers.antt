use Rattle.host_calls.proofs.Joining.{fates-append, toward-same, waits-append}
use Rattle.host_calls.proofs.Laws.{lists-append}
use Rattle.host_calls.proofs.RightFates.{receives-append}
use Rattle.host_calls.proofs.delivery_law.consecutive_intervals_join.Goals as goal

pub returns : goal.returns
returns c = record {
  lists = lists-append;
  toward = toward-same;
  waits = waits-append;
  fates = fates-append;
  receptions = receives-append;
}
