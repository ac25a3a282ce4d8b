use Rattle.descriptors.specs.Laws.{rx_desc_of-rx_desc_bytes, rx_desc_bytes-rx_desc_of}
use Rattle.descriptors.proofs.laws.descriptors_come_back.Goals as goal

pub returns : goal.returns
returns c = record { descriptors = rx_desc_of-rx_desc_bytes; bytes = rx_desc_bytes-rx_desc_of }
