use Rattle.descriptors.specs.Laws.{tx_desc_of-tx_desc_bytes, tx_desc_bytes-tx_desc_of}
use Rattle.descriptors.proofs.laws.transmit_descriptors_come_back.Goals as goal

pub returns : goal.returns
returns c = record { descriptors = tx_desc_of-tx_desc_bytes; bytes = tx_desc_bytes-tx_desc_of }
