-- A ring's registers after the five writes that set up the ring.
use Rattle.std.proofs.Common.{◌≡◌, ◌<◌, ◌*◌, ◌/◌, ◌%◌, ◌^◌, ℕ, bit_and, refl, sym, ap, ◌∙◌, arith}
use Rattle.std.proofs.lemmas.Nat.Bits.{and_high_mask}
use Rattle.dma_memory.specs.Layout.{IsRingSize}
use Rattle.adapter.specs.KnownRing.{KnowsRing}
use Rattle.adapter.specs.Rings.{new_ring, ring_of, ring_written}
use Rattle.adapter.specs.World.{World}
use Rattle.adapter.specs.model_types.register.RingRegister.TheVariants.{BaseHigh, BaseLow, Length}
use Rattle.adapter.specs.model_types.ring.RingRegisters.{RingRegisters}

-- the world with these registers of the receive ring
abbrev pub with_receive_ring : RingRegisters → World → World
with_receive_ring ring world = record world { adapter = record world.adapter { receive_ring = ring } }

pub still-ring : (a b : RingRegisters) → b ≡ record a { head = b.head } → a.head ≡ a.tail → b.head ≡ b.tail → b ≡ a
still-ring a b same before behind =
    let tail : b.tail ≡ a.tail = ap (λ (ring : RingRegisters). ring.tail) same in
    same ∙ ap (λ (index : ℕ). let ring : RingRegisters = record a { head = index } in ring) (behind ∙ tail ∙ sym before)

-- A ring at an address, with no slot offered

abbrev pub ring_at : (base bytes : ℕ) → RingRegisters
ring_at base bytes = record { base_low = base; base_high = 0; length_bytes = bytes; head = 0; tail = 0 }

-- The base and the size of the ring fit into its registers.
pub record IsRingPlace (base count : ℕ) : Type 0 where
  pub sixteens : base % 16 ≡ 0
  pub below : base < 2 ^ 32
  pub size : IsRingSize count

pub low-written : (base count : ℕ) → IsRingPlace base count → ring_written BaseLow (base % 2 ^ 32) new_ring ≡ ring_at base 0
low-written base count place =
    let masked : bit_and (base % 2 ^ 32) 4294967280
    ≡ (base % 2 ^ 32) / 2 ^ 4 * 2 ^ 4 = and_high_mask 32 4 (omega arith) (base % 2 ^ 32) (omega arith) in
    let whole : bit_and (base % 2 ^ 32) 4294967280 ≡ base = omega (arith, masked, place.sixteens, place.below) in
    ap (λ (number : ℕ). ring_at number 0) whole

pub high-written : (base count : ℕ) → IsRingPlace base count → ring_written BaseHigh (base / 2 ^ 32) (ring_at base 0) ≡ ring_at base 0
high-written base count place =
    let none : base / 2 ^ 32 ≡ 0 = omega (arith, place.below) in
    ap (λ (number : ℕ). let ring : RingRegisters = record (ring_at base 0) { base_high = bit_and number 0xFFFFFFFF } in ring) none

pub length-written : (base count bytes : ℕ) → IsRingPlace base count → bytes ≡ 16 * count
    → ring_written Length bytes (ring_at base 0) ≡ ring_at base bytes
length-written base count bytes place long =
    let eights = place.size.eights in
    let most = place.size.most in
    let masked : bit_and bytes 1048448 ≡ bytes / 2 ^ 7 * 2 ^ 7 = and_high_mask 20 7 (omega arith) bytes (omega (arith, long, most)) in
    let whole : bit_and bytes 1048448 ≡ bytes = omega (arith, masked, long, eights) in
    ap (ring_at base) whole

pub ring-known : (base count bytes : ℕ) → IsRingPlace base count → bytes ≡ 16 * count
    → KnowsRing (ring_of (ring_at base bytes)) base count 0
ring-known base count bytes place long =
    let least = place.size.least in
    let most = place.size.most in
    record { begins = omega arith; slots = omega (arith, long, most); last = refl; head_slot = omega (arith, least) }
