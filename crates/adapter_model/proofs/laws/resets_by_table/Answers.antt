use Rattle.adapter_model.specs.RegisterLaws.{power_on_by_table, reset_by_table}
use Rattle.adapter_model.proofs.laws.resets_by_table.Goals as goal

pub returns : goal.returns
returns c = record { power_on = power_on_by_table; reset = reset_by_table }
