use Rattle.bus.proofs.Steps.{goes-happens}
use Rattle.bus.proofs.Intervals.{work_kept}
use Rattle.bus.proofs.driver_law.drivers_go_on.Goals as goal

pub returns : goal.returns
returns c = record {
  goes = λ up. goes-happens;
  work = λ up. work_kept;
  handed_out = λ up d a b past ready happens. (goes-happens d a b past ready happens).flows.ready.stand;
}
