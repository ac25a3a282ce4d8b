use Rattle.solo_bus.proofs.SoundWorlds.{buffered_can, finished_can, frames_can, rings_can, work_can, written_can}
use Rattle.solo_bus.proofs.law.conditions_can_be_met.Goals as goal

pub returns : goal.returns
returns c = record {
  rings = rings_can;
  work = work_can;
  finished = finished_can;
  written = written_can;
  in_ring = frames_can;
  in_buffer =
      buffered_can;
}
