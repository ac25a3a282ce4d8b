use Rattle.host_calls.proofs.Laws.{frames-move}
use Rattle.host_calls.proofs.delivery_law.steps_move_frames.Goals as goal

pub returns : goal.returns
returns c = frames-move
