use Rattle.host_calls.proofs.ToldAround.{around_ticks, told-around_nothing, told-at_access, told-at_end}
use Rattle.host_calls.proofs.ToldByNumber.{told-by_number}
use Rattle.host_calls.proofs.delivery_law.calls_say_at_their_access.Goals as goal

pub returns : goal.returns
returns c = record {
  between = around_ticks;
  nothing = told-around_nothing;
  access = told-at_access;
  none = told-at_end;
  numbers = told-by_number;
}
