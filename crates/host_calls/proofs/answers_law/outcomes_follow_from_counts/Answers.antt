use Rattle.host_calls.proofs.Ticks.{counts-go, fault-never-comes, faultless-around-reset, ticks-answered, waiting-goes}
use Rattle.host_calls.proofs.answers_law.outcomes_follow_from_counts.Goals as goal

pub returns : goal.returns
returns c = record {
  outcomes = ticks-answered;
  counts = counts-go;
  waiting = waiting-goes;
  faultless = fault-never-comes;
  around_reset = faultless-around-reset;
}
