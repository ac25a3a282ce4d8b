use Rattle.std.proofs.Common.{◌≡◌, ◌≤◌, ◌<◌, ◌++◌, All, vec_capacity}
use Rattle.descriptors.specs.Ring.{count_of}
use Rattle.rx_engine.specs.Pieces.{begun_from, frames_from}
use Rattle.rx_engine.specs.JoinedPieces.{AreShort}
use Rattle.rx_engine.specs.FinishedSlots.{NamesMemory, done_from, finished_in, pieces_from}
use Rattle.rx_engine.proofs.finished.append_finished.Given as goal

abbrev pub invariant-loop-left : goal.invariant-loop-left
invariant-loop-left l = record {
  place : l.place < count_of l.ring;
  lie : All (NamesMemory l.memory) (done_from l.memory l.ring l.place l.left);
  short : AreShort l.begun.items (pieces_from l.memory l.ring l.place l.left);
  begun : begun_from l.begun.items (pieces_from l.memory l.ring l.place l.left)
      ≡ begun_from l.fn.begun.items (finished_in l.memory l.ring l.oldest);
  frames : l.frames.items ++ frames_from l.begun.items (pieces_from l.memory l.ring l.place l.left)
      ≡ l.fn.frames.items ++ frames_from l.fn.begun.items (finished_in l.memory l.ring l.oldest);
  capacity : vec_capacity l.fn.frames ≤ vec_capacity l.frames;
}

abbrev pub decreases-loop-left : goal.decreases-loop-left
decreases-loop-left l = l.left
