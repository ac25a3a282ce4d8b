-- Each clause is a lemma.
use Rattle.bus.proofs.WaitingStates.{no_frame_comes, nothing_is_held, rings_that_are_off_stay}
use Rattle.bus.proofs.beginning_law.rings_stay.Goals as goal

pub returns : goal.returns
returns c = record { frames = no_frame_comes; empty = nothing_is_held; transmit_ring = rings_that_are_off_stay }
