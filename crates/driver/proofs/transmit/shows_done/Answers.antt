-- The status is byte 12 of the descriptor, and DD its bit 0.
use Rattle.std.proofs.Common.{ℕ, ap, ◌∙◌}
use Rattle.registers.specs.Bits.{is_set}
use Rattle.registers.specs.Laws.{contains_is_set}
use Rattle.descriptors.specs.TxFields.{sent_bits}
use Rattle.descriptors.specs.declared.tx_desc.TxDesc.{TxDesc}
use Rattle.adapter.proofs.OfferedAndFreedSlots.{status-byte}
use Rattle.driver.proofs.transmit.shows_done.Goals as goal

pub returns : goal.returns
returns c =
    c.contains.ensures tt
    ∙ contains_is_set c.from_bytes.result.status.0 0
    ∙ ap (λ (desc : TxDesc). is_set (sent_bits desc.status) 0) c.from_bytes.ensures
    ∙ ap (λ (byte : ℕ). is_set byte 0) (status-byte c.args.bytes.now)
