use Rattle.adapter_model.specs.HistoryLaws.{plain_by_history}
use Rattle.adapter_model.proofs.laws.plain_by_history.Goals as goal

pub returns : goal.returns
returns c = plain_by_history
