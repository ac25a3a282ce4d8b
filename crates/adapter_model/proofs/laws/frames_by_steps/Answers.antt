use Rattle.adapter_model.specs.FrameLaws.{arrival_grows_frames, data_leaves_frames, done_finishes_piece, putting_takes_first}
use Rattle.adapter_model.specs.FrameLaws.{taking_leaves_frames}
use Rattle.adapter_model.proofs.laws.frames_by_steps.Goals as goal

pub returns : goal.returns
returns c = record {
  taking = taking_leaves_frames;
  putting = putting_takes_first;
  arrival = arrival_grows_frames;
  «data» = data_leaves_frames;
  done = done_finishes_piece;
}
