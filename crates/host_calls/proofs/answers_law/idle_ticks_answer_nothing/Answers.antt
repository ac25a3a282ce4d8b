use Rattle.host_calls.proofs.Ticks.{absent-nothing, go-nothing}
use Rattle.host_calls.proofs.answers_law.idle_ticks_answer_nothing.Goals as goal

pub returns : goal.returns
returns c = record { absent = absent-nothing; go = go-nothing }
