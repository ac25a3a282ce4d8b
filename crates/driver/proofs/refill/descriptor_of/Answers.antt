use Rattle.std.proofs.Common.{ℕ, ap}
use Rattle.descriptors.specs.RxDesc.{rx_desc_bytes}
use Rattle.descriptors.specs.RxStatus.{status_of}
use Rattle.driver.proofs.refill.descriptor_of.Goals as goal

pub returns : goal.returns
returns c = ap (λ (bits : ℕ). rx_desc_bytes
    (record { address = c.args.buffer; length = 0; checksum = 0; status = status_of bits; errors = 0; special = 0 })) (c.empty.ensures tt)
