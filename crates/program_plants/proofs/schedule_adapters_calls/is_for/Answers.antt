use Rattle.program_plants.proofs.OneJob.{is_for_one}
use Rattle.program_plants.proofs.schedule_adapters_calls.is_for.Goals as goal

pub returns : goal.returns
returns c = is_for_one _ c.args.job.now c.args.other.now c.is_for.result c.is_for-2.result c.is_for.ensures c.is_for-2.ensures
