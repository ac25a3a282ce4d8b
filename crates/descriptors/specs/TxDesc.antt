-- A transmit descriptor as sixteen bytes ("3.3.3 Legacy Transmit Descriptor Format" of Intel's manual), and laws about the conversion.
use Rattle.std.specs.Prelude.{◌≡◌, ◌<◌, ◌^◌, ◌++◌, ℕ, List, [], ◌∷◌, length, drop, slice_index}
use Rattle.byteorder.specs.Endian.{little_number, little_bytes}
use Rattle.descriptors.specs.declared.tx_desc.TxDesc.{TxDesc}
use Rattle.descriptors.specs.RxDesc.{AreBytes}
use Rattle.descriptors.specs.TxFields.{command_bits, command_of, sent_bits, sent_of}

-- The bytes of a descriptor: its fields in order, each little-endian.
unfoldable pub tx_desc_bytes : TxDesc → List ℕ
tx_desc_bytes desc =
    little_bytes 8 desc.address ++ little_bytes 2 desc.length ++ (desc.cso ∷ command_bits desc.command ∷ [])
    ++ (sent_bits desc.status ∷ desc.css ∷ [])
    ++ little_bytes 2 desc.special

-- The descriptor that sixteen bytes encode.
unfoldable pub tx_desc_of : List ℕ → TxDesc
tx_desc_of bytes = record {
  address = little_number 8 bytes;
  length = little_number 2 (drop 8 bytes);
  cso = slice_index bytes 10;
  command = command_of (slice_index bytes 11);
  status = sent_of (slice_index bytes 12);
  css = slice_index bytes 13;
  special = little_number 2 (drop 14 bytes);
}

-- Each field fits into its width.
pub record TxFits (desc : TxDesc) : Type 0 where
  pub address : desc.address < 2 ^ 64
  pub length : desc.length < 2 ^ 16
  pub cso : desc.cso < 2 ^ 8
  pub command : command_bits desc.command < 2 ^ 8
  pub status : sent_bits desc.status < 2 ^ 8
  pub css : desc.css < 2 ^ 8
  pub special : desc.special < 2 ^ 16

-- A descriptor whose fields fit, converted to bytes and back, is the same descriptor.
abbrev pub TxDescriptorsComeBack : Type 0
TxDescriptorsComeBack = (desc : TxDesc) → TxFits desc → tx_desc_of (tx_desc_bytes desc) ≡ desc

-- Sixteen bytes that are converted to a descriptor and back are the same bytes.
abbrev pub TxBytesComeBack : Type 0
TxBytesComeBack = (bytes : List ℕ) → AreBytes bytes → length bytes ≡ 16 → tx_desc_bytes (tx_desc_of bytes) ≡ bytes
