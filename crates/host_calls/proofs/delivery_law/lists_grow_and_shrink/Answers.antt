use Rattle.host_calls.proofs.Lists.{accepted-padded, goes-behind, goes-join, goes-to_one_end, goes-without_drops}
use Rattle.host_calls.proofs.delivery_law.lists_grow_and_shrink.Goals as goal

pub returns : goal.returns
returns c = record {
  join = goes-join;
  behind = goes-behind;
  one_end = goes-to_one_end;
  without = goes-without_drops;
  padded = accepted-padded;
}
