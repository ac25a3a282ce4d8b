use Rattle.std.proofs.Common.{◌≡◌, ◌≤◌, ◌++◌, map, take, vec_capacity}
use Rattle.tx_engine.specs.Transmitter.{Queued}
use Rattle.adapter_model.proofs.pending.append_to_put.Given as goal

abbrev pub invariant-loop-index : goal.invariant-loop-index
invariant-loop-index l = record {
  frames : l.frames.items ≡ l.fn.frames.items ++ take l.index (map (λ (queued : Queued). queued.frame) l.engine.buffer);
  capacity : vec_capacity l.fn.frames ≤ vec_capacity l.frames;
}
