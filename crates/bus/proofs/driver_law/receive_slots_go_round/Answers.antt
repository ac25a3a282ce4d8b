use Rattle.bus.proofs.Stores.{slots_can_be_staged}
use Rattle.bus.proofs.TakenSlots.{buffers_can_come_back, run_can_be_taken, run_is_of_frame}
use Rattle.bus.proofs.driver_law.receive_slots_go_round.Goals as goal

pub returns-clause-staged : goal.returns-clause-staged
returns-clause-staged c = slots_can_be_staged

pub returns-clause-taken : goal.returns-clause-taken
returns-clause-taken c = run_can_be_taken

pub returns-clause-legal : goal.returns-clause-legal
returns-clause-legal c = run_is_of_frame

pub returns-clause-comes_back : goal.returns-clause-comes_back
returns-clause-comes_back c = buffers_can_come_back
