-- The command and status bytes of a transmit descriptor as numbers ("3.3.3.1 Transmit Descriptor Command Field Format"
-- and "3.3.3.2 Transmit Descriptor Status Field Format" of Intel's manual).
use Rattle.std.specs.Prelude.{ℕ}
use Rattle.descriptors.specs.declared.flags.TxCommand.{TxCommand}
use Rattle.descriptors.specs.declared.flags.TxStatus.{TxStatus}

-- The command byte as a number.
abbrev pub command_bits : TxCommand → ℕ
command_bits command = command.0

-- The place of the bit EOP, end of packet (3.3.3.1).
abbrev pub tx_eop : ℕ
tx_eop = 0

-- The place of the bit IFCS, insert the check sequence (3.3.3.1).
abbrev pub tx_ifcs : ℕ
tx_ifcs = 1

-- The place of the bit RS, report status (3.3.3.1).
abbrev pub tx_rs : ℕ
tx_rs = 3

-- The place of the bit DEXT, descriptor extension (3.3.3.1).
abbrev pub tx_dext : ℕ
tx_dext = 5

-- The command with these bits; bits without a name are kept.
abbrev pub command_of : ℕ → TxCommand
command_of bits = record { 0 = bits }

-- The status byte as a number.
abbrev pub sent_bits : TxStatus → ℕ
sent_bits status = status.0

-- The place of the bit DD, descriptor done (3.3.3.2).
abbrev pub tx_dd : ℕ
tx_dd = 0

-- The status byte with these bits; bits without a name are kept.
abbrev pub sent_of : ℕ → TxStatus
sent_of bits = record { 0 = bits }
