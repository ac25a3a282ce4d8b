use Rattle.eeprom.specs.EerdLaws.{by_history}
use Rattle.eeprom.proofs.laws.answers_by_history.Goals as goal

pub returns : goal.returns
returns c = by_history
