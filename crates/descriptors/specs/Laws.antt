-- Lemmas about the conversion of descriptors to bytes and back, and about frames that can be sent and their padding.
use Rattle.std.proofs.Common.{◌≡◌, ◌≤◌, ◌<◌, ◌+◌, ◌-◌, ◌*◌, ◌/◌, ◌%◌, ◌^◌, ◌++◌, ◌∷◌, [], IsTrue, ℕ, zero, suc, List, length, take, drop}
use Rattle.std.proofs.Common.{replicate, slice_index, refl, sym, ap, ◌∙◌, rules, arith}
use Rattle.std.proofs.lemmas.List.{append-nil, length-append, length-replicate, take_all, take_at, length-drop, get_or-drop}
use Rattle.std.proofs.Math.Seq.{take-add, drop-cons}
use Rattle.std.proofs.Math.Nat.{pow-succ', div-one, div-div-eq-div-mul}
use Rattle.std.specs.Int.{byte_at, bytes_low_first}
use Rattle.byteorder.specs.Endian.{little_number, little_bytes, little_from}
use Rattle.byteorder.specs.Numbers.{little_from-cons, little_number-reads_back}
use Rattle.descriptors.specs.declared.rx_desc.RxDesc.{RxDesc}
use Rattle.descriptors.specs.RxDesc.{rx_desc_bytes, rx_desc_of, AreBytes, DescriptorsComeBack, BytesComeBack}
use Rattle.descriptors.specs.declared.tx_desc.TxDesc.{TxDesc}
use Rattle.descriptors.specs.TxDesc.{tx_desc_bytes, tx_desc_of, TxDescriptorsComeBack, TxBytesComeBack}
use Rattle.descriptors.specs.Frames.{IsLegal, is_sendable, padded}

-- A descriptor has sixteen bytes.
pub length-rx_desc_bytes : (desc : RxDesc) → length (rx_desc_bytes desc) ≡ 16
unfolding rx_desc_bytes
length-rx_desc_bytes desc = refl

pub length-tx_desc_bytes : (desc : TxDesc) → length (tx_desc_bytes desc) ≡ 16
unfolding tx_desc_bytes
length-tx_desc_bytes desc = refl

pub rx_desc_of-rx_desc_bytes : DescriptorsComeBack
unfolding rx_desc_bytes rx_desc_of
rx_desc_of-rx_desc_bytes desc fits = rw (
  little_number-reads_back 8 desc.address [] fits.address,
  little_number-reads_back 2 desc.length [] fits.length,
  little_number-reads_back 2 desc.checksum [] fits.checksum,
  little_number-reads_back 2 desc.special [] fits.special,
) refl

div-above : (j b x : ℕ) → b < 256 → (b + 256 * x) / 256 ^ suc j ≡ x / 256 ^ j
div-above j b x below =
    let low : (b + 256 * x) / 256 ≡ x = omega arith in
    ap (λ (p : ℕ). (b + 256 * x) / p) (pow-succ' 256 j) ∙ sym (div-div-eq-div-mul (b + 256 * x) 256 (256 ^ j))
    ∙ ap (λ (y : ℕ). y / 256 ^ j) low

byte_at-above : (j b x : ℕ) → b < 256 → byte_at (suc j) (b + 256 * x) ≡ byte_at j x
byte_at-above zero b x below = ap (λ (y : ℕ). y % 256) (div-above 0 b x below ∙ div-one x)
byte_at-above (suc j) b x below = ap (λ (y : ℕ). y % 256) (div-above (suc j) b x below)

bytes_low_first-above : (n j b x : ℕ) → b < 256 → bytes_low_first (suc j) n (b + 256 * x) ≡ bytes_low_first j n x
bytes_low_first-above zero j b x below = refl
bytes_low_first-above (suc n) j b x below = rw (byte_at-above j b x below, bytes_low_first-above n (suc j) b x below) refl

-- The number in the first n bytes, converted to n bytes, is these bytes.
pub little_bytes-little_number : (n : ℕ) (bytes : List ℕ) → AreBytes bytes → n ≤ length bytes
    → little_bytes n (little_number n bytes) ≡ take n bytes
little_bytes-little_number zero bytes are fits = refl
little_bytes-little_number (suc n) [] are fits = absurd (omega arith)
little_bytes-little_number (suc n) (b ∷ bytes) are fits =
    let below : b < 256 = are 0 in
    let moved : little_from 1 n (b ∷ bytes) ≡ little_number n bytes = little_from-cons 0 n b bytes in
    let first : (b + 256 * little_number n bytes) % 256 ≡ b = omega arith in
    let others = bytes_low_first-above n 0 b (little_number n bytes) below
    ∙ little_bytes-little_number n bytes (λ i. are (suc i)) (omega arith) in
    rw (moved, first, others) refl

AreBytes-drop : (i : ℕ) (bytes : List ℕ) → AreBytes bytes → AreBytes (drop i bytes)
AreBytes-drop i bytes are k = rw (get_or-drop i bytes k 0) (are (i + k))

take-two : (i : ℕ) (bytes : List ℕ) → suc i < length bytes → take 2 (drop i bytes) ≡ slice_index bytes i ∷ slice_index bytes (suc i) ∷ []
take-two i bytes fits = ap (take 2) (drop-cons bytes i 0 (omega arith))
    ∙ ap (λ (rest : List ℕ). slice_index bytes i ∷ take 1 rest) (drop-cons bytes (suc i) 0 fits)

little_bytes-drop : (n i : ℕ) (bytes : List ℕ) → AreBytes bytes → i + n ≤ length bytes
    → little_bytes n (little_number n (drop i bytes)) ≡ take n (drop i bytes)
little_bytes-drop n i bytes are fits = little_bytes-little_number n (drop i bytes) (AreBytes-drop i bytes are)
    (omega (arith, length-drop i bytes))

in_pieces : (bytes : List ℕ) → length bytes ≡ 16
    → take 8 bytes ++ take 2 (drop 8 bytes) ++ take 2 (drop 10 bytes) ++ take 2 (drop 12 bytes) ++ take 2 (drop 14 bytes) ≡ bytes
in_pieces bytes size =
    ap (λ (front : List ℕ). front ++ take 2 (drop 10 bytes) ++ take 2 (drop 12 bytes) ++ take 2 (drop 14 bytes)) (sym (take-add 8 2 bytes))
    ∙ ap (λ (front : List ℕ). front ++ take 2 (drop 12 bytes) ++ take 2 (drop 14 bytes)) (sym (take-add 10 2 bytes))
    ∙ ap (λ (front : List ℕ). front ++ take 2 (drop 14 bytes)) (sym (take-add 12 2 bytes))
    ∙ sym (take-add 14 2 bytes)
    ∙ take_all 16 bytes (omega arith)

join-same : (a a' b b' c c' d d' e e' : List ℕ) → a ≡ a' → b ≡ b' → c ≡ c' → d ≡ d' → e ≡ e'
    → a ++ b ++ c ++ d ++ e ≡ a' ++ b' ++ c' ++ d' ++ e'
join-same a a' b b' c c' d d' e e' same_a same_b same_c same_d same_e = rw (same_a, same_b, same_c, same_d, same_e) refl

pub rx_desc_bytes-rx_desc_of : BytesComeBack
unfolding rx_desc_bytes rx_desc_of
rx_desc_bytes-rx_desc_of bytes are size =
    let address = little_bytes-little_number 8 bytes are (omega arith) in
    let length = little_bytes-drop 2 8 bytes are (omega arith) in
    let checksum = little_bytes-drop 2 10 bytes are (omega arith) in
    let flags = sym (take-two 12 bytes (omega arith)) in
    let special = little_bytes-drop 2 14 bytes are (omega arith) in
    join-same _ _ _ _ _ _ _ _ _ _ address length checksum flags special ∙ in_pieces bytes size

pub tx_desc_of-tx_desc_bytes : TxDescriptorsComeBack
unfolding tx_desc_bytes tx_desc_of
tx_desc_of-tx_desc_bytes desc fits = rw (
  little_number-reads_back 8 desc.address [] fits.address,
  little_number-reads_back 2 desc.length [] fits.length,
  little_number-reads_back 2 desc.special [] fits.special,
) refl

pub tx_desc_bytes-tx_desc_of : TxBytesComeBack
unfolding tx_desc_bytes tx_desc_of
tx_desc_bytes-tx_desc_of bytes are size =
    let address = little_bytes-little_number 8 bytes are (omega arith) in
    let length = little_bytes-drop 2 8 bytes are (omega arith) in
    let command = sym (take-two 10 bytes (omega arith)) in
    let status = sym (take-two 12 bytes (omega arith)) in
    let special = little_bytes-drop 2 14 bytes are (omega arith) in
    join-same _ _ _ _ _ _ _ _ _ _ address length command status special ∙ in_pieces bytes size

-- A sendable frame has 14 to 1,518 bytes.
pub is_sendable-bounds : (frame : List ℕ) → IsTrue (is_sendable frame) → (14 ≤ length frame) × (length frame ≤ 1518)
is_sendable-bounds frame sendable = search rules

pub is_sendable-from_bounds : (frame : List ℕ) → 14 ≤ length frame → length frame ≤ 1518 → IsTrue (is_sendable frame)
is_sendable-from_bounds frame least most = search rules

-- After padding, a frame of at most 60 bytes has 60 bytes.
pub length-padded-short : (frame : List ℕ) → length frame ≤ 60 → length (padded frame) ≡ 60
length-padded-short frame short = omega
    (arith, length-append frame (replicate (60 - length frame) 0), length-replicate {A = ℕ} (60 - length frame) 0)

-- Padding doesn't change a frame of 60 bytes or more.
pub padded-long : (frame : List ℕ) → 60 ≤ length frame → padded frame ≡ frame
padded-long frame long =
    let none : 60 - length frame ≡ 0 = omega arith in
    ap (λ (n : ℕ). frame ++ replicate n 0) none ∙ append-nil frame

-- A padded frame has at least 60 bytes.
pub length-padded-least : (frame : List ℕ) → 60 ≤ length (padded frame)
length-padded-least frame = omega
    (arith, length-append frame (replicate (60 - length frame) 0), length-replicate {A = ℕ} (60 - length frame) 0)

-- A padded frame begins with the frame.
pub take-padded : (frame : List ℕ) → take (length frame) (padded frame) ≡ frame
take-padded frame = take_at frame (replicate (60 - length frame) 0) (length frame) refl

-- A sendable frame is legal after it is padded.
pub padded-legal : (frame : List ℕ) → IsTrue (is_sendable frame) → IsLegal (padded frame)
padded-legal frame sendable =
    let bounds = is_sendable-bounds frame sendable in
    let most = bounds.1 in
    record {
      least = length-padded-least frame;
      most = omega (arith, most, length-append frame (replicate (60 - length frame) 0), length-replicate {A = ℕ} (60 - length frame) 0);
    }
