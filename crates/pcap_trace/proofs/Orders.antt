-- The two byte orders.
use Rattle.std.proofs.Common.{◌≡◌, ◌+◌, ◌*◌, ◌⊎◌, inl, inr, ℕ, List, Bool, true, false, ◌||◌, slice_index, refl, arith}
use Rattle.std.specs.Prelude.{◌==◌, IsTrue}
use Rattle.std.proofs.lemmas.Bool.{eqb-true}
use Rattle.byteorder.specs.Endian.{big_number, little_number}
use Rattle.byteorder.specs.Numbers.{big_from-append, little_from-append}
use Rattle.pcap_trace.specs.declared.header.Endianness.{Endianness}
use Rattle.pcap_trace.specs.declared.header.Endianness.TheVariants.{Big, Little}
use Rattle.pcap_trace.specs.Format.{number_order, microseconds_magic, nanoseconds_magic, is_magic}
use Rattle.pcap_trace.proofs.Bodies.{ReadsFirst}

pub number_first : (order : Endianness) → ReadsFirst (number_order order)
number_first Big n xs ys long = big_from-append n xs ys long
number_first Little n xs ys long = little_from-append n xs ys long

-- ---- a first word is a magic number in at most one order

either : (x y : Bool) → IsTrue (x || y) → (IsTrue x) ⊎ (IsTrue y)
either true y h = inl refl
either false y h = inr h

magic_cases : (n : ℕ) → IsTrue (is_magic n) → (n ≡ microseconds_magic) ⊎ (n ≡ nanoseconds_magic)
magic_cases n h =
    elim (either (n == microseconds_magic) (n == nanoseconds_magic) h) [ inl is ↦ inl (eqb-true _ _ is) | inr is ↦ inr (eqb-true _ _ is) ]

never_both : (a b c d : ℕ) → (m n : ℕ) → a + 256 * (b + 256 * (c + 256 * d)) ≡ m → a * 16777216 + (b * 65536 + (c * 256 + d)) ≡ n
    → (m ≡ microseconds_magic) ⊎ (m ≡ nanoseconds_magic) → (n ≡ microseconds_magic) ⊎ (n ≡ nanoseconds_magic) → ⊥
never_both a b c d m n little big is_little is_big =
    elim is_little [
      | inl x ↦ elim is_big [ inl y ↦ omega arith | inr y ↦ omega arith ]
      | inr x ↦ elim is_big [ inl y ↦ omega arith | inr y ↦ omega arith ]
    ]

pub both_orders : (bytes : List ℕ) → IsTrue (is_magic (little_number 4 bytes)) → IsTrue (is_magic (big_number 4 bytes)) → ⊥
both_orders bytes little big =
    never_both (slice_index bytes 0) (slice_index bytes 1) (slice_index bytes 2) (slice_index bytes 3) (little_number 4 bytes)
    (big_number 4 bytes) (omega arith) (omega arith)
    (magic_cases (little_number 4 bytes) little) (magic_cases (big_number 4 bytes) big)

pub one_order : (bytes : List ℕ) (o p : Endianness) → IsTrue (is_magic (number_order o 4 bytes))
    → IsTrue (is_magic (number_order p 4 bytes))
    → o ≡ p
one_order bytes Big Big m n = refl
one_order bytes Little Little m n = refl
one_order bytes Big Little m n = absurd (both_orders bytes n m)
one_order bytes Little Big m n = absurd (both_orders bytes m n)
