-- A receive descriptor as sixteen bytes ("3.2.3 Receive Descriptor Format" of Intel's manual), and laws about the conversion.
use Rattle.std.specs.Prelude.{◌≡◌, ◌<◌, ◌^◌, ◌++◌, ℕ, List, [], ◌∷◌, length, drop, slice_index}
use Rattle.byteorder.specs.Endian.{little_number, little_bytes}
use Rattle.descriptors.specs.declared.rx_desc.RxDesc.{RxDesc}
use Rattle.descriptors.specs.RxStatus.{status_bits, status_of}

-- The bytes of a descriptor: its fields in order, each little-endian.
unfoldable pub rx_desc_bytes : RxDesc → List ℕ
rx_desc_bytes desc =
    little_bytes 8 desc.address ++ little_bytes 2 desc.length ++ little_bytes 2 desc.checksum
    ++ (status_bits desc.status ∷ desc.errors ∷ [])
    ++ little_bytes 2 desc.special

-- The descriptor that sixteen bytes encode.
unfoldable pub rx_desc_of : List ℕ → RxDesc
rx_desc_of bytes = record {
  address = little_number 8 bytes;
  length = little_number 2 (drop 8 bytes);
  checksum = little_number 2 (drop 10 bytes);
  status = status_of (slice_index bytes 12);
  errors = slice_index bytes 13;
  special = little_number 2 (drop 14 bytes);
}

-- Each field fits into its width.
pub record Fits (desc : RxDesc) : Type 0 where
  pub address : desc.address < 2 ^ 64
  pub length : desc.length < 2 ^ 16
  pub checksum : desc.checksum < 2 ^ 16
  pub status : status_bits desc.status < 2 ^ 8
  pub errors : desc.errors < 2 ^ 8
  pub special : desc.special < 2 ^ 16

-- Each number of the list is below 256.
abbrev pub AreBytes : List ℕ → Type 0
AreBytes bytes = (i : ℕ) → slice_index bytes i < 256

-- A descriptor whose fields fit, converted to bytes and back, is the same descriptor.
abbrev pub DescriptorsComeBack : Type 0
DescriptorsComeBack = (desc : RxDesc) → Fits desc → rx_desc_of (rx_desc_bytes desc) ≡ desc

-- Sixteen bytes that are converted to a descriptor and back are the same bytes.
abbrev pub BytesComeBack : Type 0
BytesComeBack = (bytes : List ℕ) → AreBytes bytes → length bytes ≡ 16 → rx_desc_bytes (rx_desc_of bytes) ≡ bytes
