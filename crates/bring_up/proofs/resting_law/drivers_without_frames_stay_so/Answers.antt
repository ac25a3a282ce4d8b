use Rattle.bring_up.proofs.NoFrames.{clears-write_none, new_transmit_ring_stays, quiet_stays, stores-write_none}
use Rattle.bring_up.proofs.resting_law.drivers_without_frames_stay_so.Goals as goal

pub returns : goal.returns
returns c = record { quiet = quiet_stays; transmit_ring = new_transmit_ring_stays; staged = stores-write_none; cleared = clears-write_none }
