use Rattle.bus.proofs.Pieces.{large_buffers_take_frames}
use Rattle.bus.proofs.law.large_buffers_take_frames.Goals as goal

pub returns : goal.returns
returns c = large_buffers_take_frames
