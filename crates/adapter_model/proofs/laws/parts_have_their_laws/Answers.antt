use Rattle.adapter_model.specs.PartsLaws.{parts_have_their_laws}
use Rattle.adapter_model.proofs.laws.parts_have_their_laws.Goals as goal

pub returns : goal.returns
returns c = parts_have_their_laws
