use Rattle.search.proofs.Laws.{all_are_tried}
use Rattle.search.proofs.all_are_tried.Goals as goal

pub returns : goal.returns
returns c = all_are_tried
