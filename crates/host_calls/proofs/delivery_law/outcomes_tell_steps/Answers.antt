use Rattle.host_calls.proofs.Laws.{outcomes-tell}
use Rattle.host_calls.proofs.Telling.{leads-alone, said-alone}
use Rattle.host_calls.proofs.delivery_law.outcomes_tell_steps.Goals as goal

pub returns : goal.returns
returns c = record {
  call = λ call a m b plays. outcomes-tell call.caller call.ticks call.accesses call.first call.last a m b plays;
  alone = said-alone;
  leads = leads-alone;
}
