use Rattle.search.proofs.Inserting.{nothing_left_out}
use Rattle.search.proofs.options.nothing_is_left_out.Goals as goal

pub returns : goal.returns
returns c = nothing_left_out
