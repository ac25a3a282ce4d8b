use Rattle.rx_filter.specs.Laws.{HasEntry-zeros, HasEntry-added, HasTableBit-zeros, HasTableBit-with_number}
use Rattle.rx_filter.proofs.laws.sets_of_registers.Goals as goal

pub returns : goal.returns
returns c = record {
  no_address = HasEntry-zeros;
  address = HasEntry-added;
  no_number = HasTableBit-zeros;
  number = HasTableBit-with_number;
}
