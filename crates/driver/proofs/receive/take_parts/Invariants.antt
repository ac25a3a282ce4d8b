use Rattle.std.proofs.Common.{◌≡◌, take, drop}
use Rattle.circular_buffer.specs.Buffer.{buffer}
use Rattle.driver.specs.Parts.{buffers_in, lengths_in}
use Rattle.driver.proofs.receive.take_parts.Given as goal

abbrev pub invariant-loop-length : goal.invariant-loop-length
invariant-loop-length l = record {
  queue : l.queue ≡ buffer (drop l.length-index l.initial.queue.items) l.initial.queue.capacity;
  buffers : buffers_in l.parts ≡ take l.length-index l.initial.queue.items;
  lengths : lengths_in l.parts ≡ take l.length-index l.lengths;
}
