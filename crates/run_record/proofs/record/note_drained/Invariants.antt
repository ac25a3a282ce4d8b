use Rattle.std.proofs.Common.{map, take}
use Rattle.wire.specs.DrainedNetworks.{said_of_drain}
use Rattle.run_record.specs.DrainedView.{drained_frame}
use Rattle.run_record.specs.Kept.{FramesGrow, returned_in}
use Rattle.run_record.specs.Tallies.{TalliesGrow}
use Rattle.run_record.proofs.record.note_drained.Given as goal

abbrev pub invariant-loop-one : goal.invariant-loop-one
invariant-loop-one l =
    TalliesGrow (said_of_drain l.host 0 (map drained_frame (take l.one-index l.given))) l.fn.hosts l.hosts
    × FramesGrow (returned_in l.number (said_of_drain l.host 0 (map drained_frame (take l.one-index l.given)))) l.fn.returned l.returned
