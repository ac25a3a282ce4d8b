use Rattle.std.proofs.Common.{◌∙◌}
use Rattle.access_names.proofs.RingValues.{answer-control}
use Rattle.access_names.proofs.faults.receive_control.Goals as goal

pub returns : goal.returns
returns c = c.value.ensures.answer ∙ answer-control c.args.machine.now.world
