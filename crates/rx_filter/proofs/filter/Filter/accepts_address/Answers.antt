use Rattle.std.proofs.Common.{rules}
use Rattle.rx_filter.specs.Passing.{AcceptsAddress, AcceptsGroup}
use Rattle.rx_filter.specs.Registers.{filter_of}
use Rattle.rx_filter.proofs.filter.Filter.accepts_address.Goals as goal

pub returns-then-accepted : goal.returns-then-accepted
unfolding filter_of AcceptsAddress AcceptsGroup
returns-then-accepted c = search rules

pub returns-else-accepted : goal.returns-else-accepted
unfolding filter_of AcceptsAddress AcceptsGroup
returns-else-accepted c = search rules
