use Rattle.bus.proofs.Intervals.{flows_join, goes_join}
use Rattle.bus.proofs.driver_law.intervals_join.Goals as goal

pub returns : goal.returns
returns c = record {
  flows = λ first_up up. flows_join;
  goes = λ first_up up. goes_join;
}
