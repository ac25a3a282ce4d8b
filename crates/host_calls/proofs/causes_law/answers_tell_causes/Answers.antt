use Rattle.host_calls.proofs.Answering.{answers-tell_causes, calls-tell_causes, first-reads_stay}
use Rattle.host_calls.proofs.EarlyOutcomes.{early-outcomes_bear_zero}
use Rattle.host_calls.proofs.causes_law.answers_tell_causes.Goals as goal

pub returns : goal.returns
returns g c = record {
  answers = answers-tell_causes;
  calls = calls-tell_causes;
  stay = first-reads_stay;
  zero = early-outcomes_bear_zero;
}
