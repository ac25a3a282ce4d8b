-- An adapter after single writes of registers.
use Rattle.std.proofs.Common.{◌≡◌, ◌<◌, ◌≤◌, ◌+◌, ◌-◌, ◌*◌, ◌/◌, ◌%◌, ◌^◌, ℕ, List, Bool, true, false, Option, Some, None, refl, ap, subst}
use Rattle.std.proofs.Common.{◌∙◌, arith}
use Rattle.std.specs.Prelude.{bit_and, if◌then◌else◌}
use Rattle.std.specs.Int.{bit_at}
use Rattle.std.proofs.Math.Pow.{pow-lt}
use Rattle.std.proofs.lemmas.Nat.{and_mask, or_disjoint}
use Rattle.std.proofs.lemmas.Nat.Bits.{and_pow}
use Rattle.registers.specs.Bits.{union, IsSubset}
use Rattle.registers.specs.Laws.{IsSubset-union, IsSubset-places}
use Rattle.rx_filter.specs.Addresses.{IsAddress, low_word, high_word}
use Rattle.rx_filter.specs.Registers.{address_high_mask}
use Rattle.adapter.specs.model_types.register.Register.{Register}
use Rattle.adapter.specs.model_types.register.Register.TheVariants.{Vet, Rctl, Receive, Mta, Ral, Rah, Vfta}
use Rattle.adapter.specs.model_types.register.RingRegister.TheVariants.{BaseLow, BaseHigh, Length, Head, Tail}
use Rattle.adapter.specs.Registers.{after_reset, after_write, by_row, is_reset, left_by_write, with_register}
use Rattle.adapter.specs.State.{AdapterState}
use Rattle.adapter.specs.Table.{IsInTable, row_of}
use Rattle.adapter.specs.TableLaws.{register_at-there}
use Rattle.receive_lane.specs.Choosing.{mode_bits, with_address, with_bit}
use Rattle.receive_lane.specs.Lane.{ring_at}

written : (register : Register) (value kept : ℕ) (state : AdapterState) → IsInTable register → (row_of register).kept ≡ Some kept
    → is_reset register value ≡ false
    → after_write (row_of register).offset value state ≡ with_register register (bit_and value kept) state
written register value kept state within plain none =
    ap (λ (found : Option Register). left_by_write found value state) (register_at-there register within)
    ∙ ap (λ (resets : Bool). if resets then after_reset state else by_row (row_of register).kept register value state) none
    ∙ ap (λ (row : Option ℕ). by_row row register value state) plain

-- ---- words of which all bits are kept

pub kept_word : (value : ℕ) → value < 2 ^ 32 → bit_and value 0xFFFFFFFF ≡ value
kept_word value small = and_mask value 32 ∙ omega arith

-- a write of a register that keeps all bits
wrote-word : (register : Register) (value : ℕ) (state : AdapterState) → IsInTable register → (row_of register).kept ≡ Some 0xFFFFFFFF
    → is_reset register value ≡ false → value < 2 ^ 32
    → after_write (row_of register).offset value state ≡ with_register register value state
wrote-word register value state within plain none small =
    written register value 0xFFFFFFFF state within plain none
    ∙ ap (λ (n : ℕ). with_register register n state) (kept_word value small)

kept_half : (value : ℕ) → value < 2 ^ 16 → bit_and value 0xFFFF ≡ value
kept_half value small = and_mask value 16 ∙ omega arith

IsSubset-further : (a b d : ℕ) → IsSubset a b → IsSubset b d → IsSubset a d
IsSubset-further a b d in_b in_d = (IsSubset-places a d).1
    (λ place set. (IsSubset-places b d).0 in_d place ((IsSubset-places a b).0 in_b place set))

kept_high : (h : ℕ) → h < 2 ^ 16 → bit_and (h + 2 ^ 31) address_high_mask ≡ h + 2 ^ 31
kept_high h small =
    let clear : bit_at h 31 ≡ 0 = omega arith in
    let none : bit_and h (2 ^ 31) ≡ 0 = and_pow h 31 ∙ omega arith in
    let sum : union h (2 ^ 31) ≡ h + 2 ^ 31 = or_disjoint h (2 ^ 31) none in
    let low : IsSubset h (2 ^ 16 - 1) = and_mask h 16 ∙ omega arith in
    let within : IsSubset h address_high_mask = IsSubset-further h (2 ^ 16 - 1) address_high_mask low refl in
    let both : IsSubset (union h (2 ^ 31)) address_high_mask = IsSubset-union h (2 ^ 31) address_high_mask within refl in
    subst (λ (n : ℕ). bit_and n address_high_mask ≡ n) sum both

kept_mode : (every tagged : Bool) → bit_and (mode_bits every tagged) 0x0607B33A ≡ mode_bits every tagged
kept_mode true true = refl
kept_mode true false = refl
kept_mode false true = refl
kept_mode false false = refl

-- ---- the exact filter

wrote-ral : (low : ℕ) (state : AdapterState) → low < 2 ^ 32 → after_write 0x5400 low state ≡ with_register (Ral 0) low state
wrote-ral low state small = wrote-word (Ral 0) low state (omega arith) refl refl small

wrote-rah : (high : ℕ) (state : AdapterState) → bit_and high address_high_mask ≡ high
    → after_write 0x5404 high state ≡ with_register (Rah 0) high state
wrote-rah high state kept = written (Rah 0) high address_high_mask state (omega arith) refl refl
    ∙ ap (λ (n : ℕ). with_register (Rah 0) n state) kept

pub wrote-address : (address : List ℕ) (state : AdapterState) → IsAddress address
    → after_write 0x5404 (high_word address + 2 ^ 31) (after_write 0x5400 (low_word address) state)
    ≡ record state { filter = with_address (Some address) state.filter }
wrote-address address state is =
    let b0 = is.bytes 0 in
    let b1 = is.bytes 1 in
    let b2 = is.bytes 2 in
    let b3 = is.bytes 3 in
    let b4 = is.bytes 4 in
    let b5 = is.bytes 5 in
    let small : high_word address < 2 ^ 16 = omega arith in
    ap (after_write 0x5404 (high_word address + 2 ^ 31)) (wrote-ral (low_word address) state (omega arith))
    ∙ wrote-rah (high_word address + 2 ^ 31) (with_register (Ral 0) (low_word address) state) (kept_high (high_word address) small)

pub wrote-no_address : (state : AdapterState)
    → after_write 0x5404 0 (after_write 0x5400 0 state) ≡ record state { filter = with_address None state.filter }
wrote-no_address state = ap (after_write 0x5404 0) (wrote-ral 0 state (omega arith)) ∙ wrote-rah 0 (with_register (Ral 0) 0 state) refl

-- ---- the tables

one_bit : (number : ℕ) → 2 ^ (number % 32) < 2 ^ 32
one_bit number = pow-lt {i = number % 32} {j = 32} (omega arith)

pub wrote-group : (number : ℕ) (state : AdapterState) → number ≤ 4095
    → after_write (0x5200 + 4 * (number / 32)) (2 ^ (number % 32)) state
    ≡ record state { filter = record state.filter { mta = with_bit state.filter.mta number } }
wrote-group number state below =
    wrote-word (Mta (number / 32)) (2 ^ (number % 32)) state (omega arith) refl refl (one_bit number)

pub wrote-vlan : (number : ℕ) (state : AdapterState) → number ≤ 4095
    → after_write (0x5600 + 4 * (number / 32)) (2 ^ (number % 32)) state
    ≡ record state { filter = record state.filter { vfta = with_bit state.filter.vfta number } }
wrote-vlan number state below =
    wrote-word (Vfta (number / 32)) (2 ^ (number % 32)) state (omega arith) refl refl (one_bit number)

pub wrote-vet : (state : AdapterState) → after_write 0x38 0x8100 state ≡ record state { filter = record state.filter { vet = 0x8100 } }
wrote-vet state = written Vet 0x8100 0xFFFF state tt refl refl

pub wrote-mode : (every tagged : Bool) (state : AdapterState)
    → after_write 0x100 (mode_bits every tagged) state ≡ record state { filter = record state.filter { rctl = mode_bits every tagged } }
wrote-mode every tagged state =
    written Rctl (mode_bits every tagged) 0x0607B33A state tt refl refl
    ∙ ap (λ (n : ℕ). with_register Rctl n state) (kept_mode every tagged)

-- ---- the ring

pub wrote-ring : (state : AdapterState)
    → after_write 0x2818 7 (after_write 0x2810 0 (after_write 0x2808 128 (after_write 0x2804 0 (after_write 0x2800 0 state))))
    ≡ record state { receive_ring = ring_at 0 0 }
wrote-ring state =
    let s1 = with_register (Receive BaseLow) 0 state in
    let s2 = with_register (Receive BaseHigh) 0 s1 in
    let s3 = with_register (Receive Length) 128 s2 in
    let s4 = with_register (Receive Head) 0 s3 in
    ap (λ (s : AdapterState). after_write 0x2818 7 (after_write 0x2810 0 (after_write 0x2808 128 (after_write 0x2804 0 s))))
    (written (Receive BaseLow) 0 0xFFFFFFF0 state tt refl refl)
    ∙ ap (λ (s : AdapterState). after_write 0x2818 7 (after_write 0x2810 0 (after_write 0x2808 128 s)))
    (written (Receive BaseHigh) 0 0xFFFFFFFF s1 tt refl refl)
    ∙ ap (λ (s : AdapterState). after_write 0x2818 7 (after_write 0x2810 0 s)) (written (Receive Length) 128 0x000FFF80 s2 tt refl refl)
    ∙ ap (λ (s : AdapterState). after_write 0x2818 7 s) (written (Receive Head) 0 0xFFFF s3 tt refl refl)
    ∙ written (Receive Tail) 7 0xFFFF s4 tt refl refl

pub wrote-tail : (tail : ℕ) (state : AdapterState) → tail < 2 ^ 16
    → after_write 0x2818 tail state ≡ record state { receive_ring = record state.receive_ring { tail = tail } }
wrote-tail tail state small =
    written (Receive Tail) tail 0xFFFF state tt refl refl ∙ ap (λ (n : ℕ). with_register (Receive Tail) n state) (kept_half tail small)
