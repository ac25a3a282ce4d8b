-- The settings after the writes of a ring's registers.
use Rattle.std.proofs.Common.{◌≡◌, ◌∷◌, ◌+◌, ◌*◌, ◌/◌, ◌%◌, ◌<◌, ◌^◌, [], ℕ, bit_and, refl, ap, ◌∙◌, arith}
use Rattle.std.proofs.lemmas.Grind.{and_high_numeral}
use Rattle.std.proofs.lemmas.Nat.{and_mask, div-add-mod'}
use Rattle.descriptors.specs.Ring.{count_of}
use Rattle.dma_memory.specs.Layout.{IsRingSize}
use Rattle.adapter.specs.model_types.ring.RingRegisters.{RingRegisters}
use Rattle.adapter.specs.Rings.{ring_of}
use Rattle.adapter.specs.State.{AdapterState}
use Rattle.adapter.specs.Table.{array_register_at, register_at}
use Rattle.adapter.specs.Settings.{settings_of}
use Rattle.bring_up.specs.RingRegisters.{ring_setup_writes}
use Rattle.bring_up.specs.WrittenRegisters.{write_at}
use Rattle.bring_up.proofs.SingleSettings.{SetTo}
use Rattle.bring_up.proofs.TableSettings.{word-kept}

-- a ring's registers with this base and this length in bytes, and with head and tail 0
abbrev pub ring_at : (base bytes : ℕ) → RingRegisters
ring_at base bytes = record { base_low = base % 2 ^ 32; base_high = base / 2 ^ 32; length_bytes = bytes; head = 0; tail = 0 }

-- the registers after the writes, each with the bits that it implements
abbrev ring_written : (base bytes : ℕ) → RingRegisters
ring_written base bytes = record {
  base_low = bit_and (base % 2 ^ 32) 0xFFFFFFF0;
  base_high = bit_and (base / 2 ^ 32) 0xFFFFFFFF;
  length_bytes = bit_and bytes 0x000FFF80;
  head = 0;
  tail = 0;
}

-- The base fits into its two registers, and the length into its register.
pub record FitsRegisters (base bytes : ℕ) : Type 0 where
  pub aligned : base % 16 ≡ 0
  pub base_below : base < 2 ^ 64
  pub pieces : bytes % 128 ≡ 0
  pub bytes_below : bytes < 2 ^ 20

-- The registers store the values that are written

low-kept : (base : ℕ) → base % 16 ≡ 0 → bit_and (base % 2 ^ 32) 0xFFFFFFF0 ≡ base % 2 ^ 32
low-kept base aligned =
    let below : base % 2 ^ 32 < 2 ^ 32 = omega arith in
    let none : base % 2 ^ 32 % 16 ≡ 0 = omega arith in
    let parts : bit_and (base % 2 ^ 32) 0xFFFFFFF0 + base % 2 ^ 32 % 16 ≡ base % 2 ^ 32 =
    and_high_numeral (base % 2 ^ 32) 0xFFFFFFEF refl below in
    omega arith

high-kept : (base : ℕ) → base < 2 ^ 64 → bit_and (base / 2 ^ 32) 0xFFFFFFFF ≡ base / 2 ^ 32
high-kept base below = let fits : base / 2 ^ 32 < 2 ^ 32 = omega arith in word-kept (base / 2 ^ 32) fits

bytes-kept : (bytes : ℕ) → bytes % 128 ≡ 0 → bytes < 2 ^ 20 → bit_and bytes 0x000FFF80 ≡ bytes
bytes-kept bytes pieces below =
    let parts : bit_and bytes 0x000FFF80 + bytes % 128 ≡ bytes = and_high_numeral bytes 0x000FFF7F refl below in
    omega arith

slot-kept : (slot : ℕ) → slot < 65536 → bit_and slot 0x0000FFFF ≡ slot
slot-kept slot below = let whole : slot % 2 ^ 16 ≡ slot = omega arith in and_mask slot 16 ∙ whole

ring-kept : (base bytes : ℕ) → FitsRegisters base bytes → ring_written base bytes ≡ ring_at base bytes
ring-kept base bytes fits =
    let low = low-kept base fits.aligned in
    let high = high-kept base fits.base_below in
    let length = bytes-kept bytes fits.pieces fits.bytes_below in
    rw (low, high, length) refl

pub receive-ring-sets : (base bytes : ℕ) (adapter : AdapterState) → FitsRegisters base bytes
    → SetTo (ring_setup_writes 0x2800 base bytes) adapter (record adapter { receive_ring = ring_at base bytes })
unfolding register_at array_register_at
receive-ring-sets base bytes adapter fits =
    ap (λ (ring : RingRegisters). settings_of (record adapter { receive_ring = ring })) (ring-kept base bytes fits)

pub transmit-ring-sets : (base bytes : ℕ) (adapter : AdapterState) → FitsRegisters base bytes
    → SetTo (ring_setup_writes 0x3800 base bytes) adapter (record adapter { transmit_ring = ring_at base bytes })
unfolding register_at array_register_at
transmit-ring-sets base bytes adapter fits =
    ap (λ (ring : RingRegisters). settings_of (record adapter { transmit_ring = ring })) (ring-kept base bytes fits)

pub receive-tail-sets : (slot : ℕ) (adapter : AdapterState) → slot < 65536
    → SetTo (write_at 0x2818 slot ∷ []) adapter (record adapter { receive_ring = record adapter.receive_ring { tail = slot } })
unfolding register_at array_register_at
receive-tail-sets slot adapter below =
    ap (λ (kept : ℕ). settings_of (record adapter { receive_ring = record adapter.receive_ring { tail = kept } })) (slot-kept slot below)

pub base-told : (base bytes : ℕ) → (ring_of (ring_at base bytes)).base ≡ base
base-told base bytes = div-add-mod' base (2 ^ 32)

pub count-told : (base n : ℕ) → IsRingSize n → count_of (ring_of (ring_at base (16 * n))) ≡ n
count-told base n size = let most = size.most in omega arith

pub ring-fits : (before n : ℕ) → before < 2 ^ 32 → IsRingSize n → FitsRegisters (16 * before) (16 * n)
ring-fits before n near size =
    let most = size.most in
    let eights = size.eights in
    record { aligned = omega arith; base_below = omega arith; pieces = omega arith; bytes_below = omega arith }
