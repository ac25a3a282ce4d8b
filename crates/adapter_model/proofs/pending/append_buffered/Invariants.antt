use Rattle.std.proofs.Common.{◌≡◌, ◌≤◌, ◌++◌, take, vec_capacity}
use Rattle.adapter_model.proofs.pending.append_buffered.Given as goal

abbrev pub invariant-loop-index : goal.invariant-loop-index
invariant-loop-index l = record {
  frames : l.frames.items ≡ l.fn.frames.items ++ take l.index l.engine.buffer;
  capacity : vec_capacity l.fn.frames ≤ vec_capacity l.frames;
}
