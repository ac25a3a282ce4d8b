-- Proofs of the laws of offsets: `OffsetsByTable`, `AccessesByOffset` and `OutsideIsIgnored`.
use Rattle.std.proofs.Common.{◌≡◌, ◌+◌, ◌-◌, ◌*◌, ◌/◌, ◌%◌, ◌<◌, ◌≤◌, ◌==◌, ◌&&◌, ℕ, Bool, true, false, List, [], ◌∷◌, Option, Some, None}
use Rattle.std.proofs.Common.{cond, refl, ap, subst, find, inl, inr, ◌⊎◌, arith, rules, ltb, leb}
use Rattle.std.proofs.lemmas.Bool.{and_parts, eqb-true, leb-true, ltb-true}
use Rattle.std.proofs.lemmas.Bool.Decides.{nat_tests}
use Rattle.adapter_model.specs.declared.register.RingRegister.TheVariants.{BaseLow, BaseHigh, Length, Head, Tail}
use Rattle.adapter_model.specs.declared.register.Register.{Register}
use Rattle.adapter_model.specs.declared.register.Register.TheVariants.{Receive, Transmit, Mta, Ral, Rah, Vfta}
use Rattle.adapter_model.specs.AccessLaws.{AccessesByOffset, OffsetsByTable, OutsideIsIgnored}
use Rattle.adapter_model.specs.Registers.{answer_of, left_by_read, left_by_write}
use Rattle.adapter_model.specs.Table.{IsInTable, StandsAt, array_register, array_register_at, or_else, register_at, row_of, single_registers}

pub register_at-mta : (word : ℕ) → word < 128 → register_at (0x5200 + 4 * word) ≡ Some (Mta word)
unfolding register_at array_register_at
register_at-mta word within = grind (arith, nat_tests)

pub register_at-ral : (entry : ℕ) → entry < 16 → register_at (0x5400 + 8 * entry) ≡ Some (Ral entry)
unfolding register_at array_register_at
register_at-ral entry within = grind (arith, nat_tests)

pub register_at-rah : (entry : ℕ) → entry < 16 → register_at (0x5404 + 8 * entry) ≡ Some (Rah entry)
unfolding register_at array_register_at
register_at-rah entry within = grind (arith, nat_tests)

pub register_at-vfta : (word : ℕ) → word < 128 → register_at (0x5600 + 4 * word) ≡ Some (Vfta word)
unfolding register_at array_register_at
register_at-vfta word within = grind (arith, nat_tests)

pub register_at-there : (register : Register) → IsInTable register → register_at (row_of register).offset ≡ Some register
unfolding register_at array_register_at
register_at-there (Receive BaseLow) within = refl
register_at-there (Receive BaseHigh) within = refl
register_at-there (Receive Length) within = refl
register_at-there (Receive Head) within = refl
register_at-there (Receive Tail) within = refl
register_at-there (Transmit BaseLow) within = refl
register_at-there (Transmit BaseHigh) within = refl
register_at-there (Transmit Length) within = refl
register_at-there (Transmit Head) within = refl
register_at-there (Transmit Tail) within = refl
register_at-there (Mta word) within = register_at-mta word within
register_at-there (Ral entry) within = register_at-ral entry within
register_at-there (Rah entry) within = register_at-rah entry within
register_at-there (Vfta word) within = register_at-vfta word within
register_at-there _ within = refl

pub offset-multiple : (register : Register) → (row_of register).offset % 4 ≡ 0
offset-multiple (Receive BaseLow) = refl
offset-multiple (Receive BaseHigh) = refl
offset-multiple (Receive Length) = refl
offset-multiple (Receive Head) = refl
offset-multiple (Receive Tail) = refl
offset-multiple (Transmit BaseLow) = refl
offset-multiple (Transmit BaseHigh) = refl
offset-multiple (Transmit Length) = refl
offset-multiple (Transmit Head) = refl
offset-multiple (Transmit Tail) = refl
offset-multiple (Mta word) = omega arith
offset-multiple (Ral entry) = omega arith
offset-multiple (Rah entry) = omega arith
offset-multiple (Vfta word) = omega arith
offset-multiple _ = refl

pub offset-below : (register : Register) → IsInTable register → (row_of register).offset < 0x5800
offset-below (Receive BaseLow) within = omega arith
offset-below (Receive BaseHigh) within = omega arith
offset-below (Receive Length) within = omega arith
offset-below (Receive Head) within = omega arith
offset-below (Receive Tail) within = omega arith
offset-below (Transmit BaseLow) within = omega arith
offset-below (Transmit BaseHigh) within = omega arith
offset-below (Transmit Length) within = omega arith
offset-below (Transmit Head) within = omega arith
offset-below (Transmit Tail) within = omega arith
offset-below (Mta word) within = omega arith
offset-below (Ral entry) within = omega arith
offset-below (Rah entry) within = omega arith
offset-below (Vfta word) within = omega arith
offset-below _ within = omega arith

or_else-cases : (first second : Option Register) (register : Register) → or_else first second ≡ Some register
    → (first ≡ Some register) ⊎ (second ≡ Some register)
or_else-cases (Some register') second register found = inl found
or_else-cases None second register found = inr found

-- Each of these registers is in the table.
abbrev AllInTable : List Register → Type 0
AllInTable [] = Unit {0}
AllInTable (register ∷ others) = IsInTable register × AllInTable others

found_stands : (offset : ℕ) (registers : List Register) (register : Register)
    → AllInTable registers → find (λ r. (row_of r).offset == offset) registers ≡ Some register → StandsAt offset register
found_stands offset [] register all found = cc
found_stands offset (first ∷ others) register all found =
    by_test ((row_of first).offset == offset) (eqb-true (row_of first).offset offset) (found_stands offset others register all.1) found
  where
    by_test : (test : Bool) → (test ≡ true → (row_of first).offset ≡ offset)
        → (find (λ r. (row_of r).offset == offset) others ≡ Some register → StandsAt offset register)
        → cond test (Some first) (find (λ r. (row_of r).offset == offset) others) ≡ Some register → StandsAt offset register
    by_test true equal later is =
        let same : first ≡ register = cc in
        subst (λ (r : Register). StandsAt offset r) same (record { in_table = all.0; there = equal refl })
    by_test false equal later is = later is

-- If each register of an array is at its offset, and the array has a register at `offset`, this register is at `offset`.
array_stands : (first count step : ℕ) (word : ℕ → Register) (offset : ℕ) (register : Register)
    → ((n : ℕ) → n < count → StandsAt (first + step * n) (word n))
    → ((distance : ℕ) → distance % step ≡ 0 → step * (distance / step) ≡ distance)
    → array_register first count step word offset ≡ Some register → StandsAt offset register
array_stands first count step word offset register each exact found =
    by_test _ (λ test. test) found
  where
    place : ℕ
    place = (offset - first) / step

    by_test : (test : Bool) → (test ≡ true → (leb first offset && ((offset - first) % step == 0 && ltb place count)) ≡ true)
        → cond test (Some (word place)) None ≡ Some register → StandsAt offset register
    by_test true passes is =
        let behind = and_parts _ _ (passes refl) in
        let within = and_parts _ _ behind.1 in
        let start : first ≤ offset = leb-true first offset behind.0 in
        let whole : step * place ≡ offset - first = exact (offset - first) (eqb-true _ _ within.0) in
        let there : first + step * place ≡ offset = omega arith in
        let same : word place ≡ register = cc in
        let stands = each place (ltb-true place count within.1) in
        subst (λ (r : Register). StandsAt offset r) same (subst (λ (o : ℕ). StandsAt o (word place)) there stands)
    by_test false passes is = cc

pub register_at-only : (offset : ℕ) (register : Register) → register_at offset ≡ Some register → StandsAt offset register
unfolding register_at array_register_at
register_at-only offset register found =
    elim (or_else-cases _ _ register found) [
      | inl single ↦ found_stands offset single_registers register (search rules) single
      | inr array ↦ elim (or_else-cases _ _ register array) [
        | inl mta ↦ array_stands 0x5200 128 4 Mta offset register (λ n fits. record { in_table = fits; there = refl })
            (λ d even. omega arith) mta
        | inr behind ↦ elim (or_else-cases _ _ register behind) [
          | inl ral ↦ array_stands 0x5400 16 8 Ral offset register (λ n fits. record { in_table = fits; there = refl })
              (λ d even. omega arith) ral
          | inr other ↦ elim (or_else-cases _ _ register other) [
            | inl rah ↦ array_stands 0x5404 16 8 Rah offset register (λ n fits. record { in_table = fits; there = refl })
                (λ d even. omega arith) rah
            | inr vfta ↦ array_stands 0x5600 128 4 Vfta offset register (λ n fits. record { in_table = fits; there = refl })
                (λ d even. omega arith) vfta
          ]
        ]
      ]
    ]

pub offsets_by_table : OffsetsByTable
offsets_by_table = record { there = register_at-there; only = register_at-only; multiple_of_four = offset-multiple; below = offset-below }

-- An access at the offset of a register is an access of this register.
pub accesses_by_offset : AccessesByOffset
accesses_by_offset offset register state stands =
    let found : register_at offset
    ≡ Some register = subst (λ (o : ℕ). register_at o ≡ Some register) stands.there (register_at-there register stands.in_table) in
    record {
      answered = ap (λ (found : Option Register). answer_of found state) found;
      read = ap (λ (found : Option Register). left_by_read found state) found;
      written = λ value. ap (λ (found : Option Register). left_by_write found value state) found;
    }

none_found : (offset : ℕ) → ((register : Register) → ¬ (StandsAt offset register)) → register_at offset ≡ None
none_found offset none = by_case (register_at offset) (λ register found. none register (register_at-only offset register found))
  where
    by_case : (found : Option Register) → ((register : Register) → found ≡ Some register → ⊥) → found ≡ None
    by_case (Some register) impossible = absurd (impossible register refl)
    by_case None impossible = refl

pub outside_is_ignored : OutsideIsIgnored
outside_is_ignored offset state none =
    let nothing = none_found offset none in
    record {
      answered = ap (λ (found : Option Register). answer_of found state) nothing;
      read = ap (λ (found : Option Register). left_by_read found state) nothing;
      written = λ value. ap (λ (found : Option Register). left_by_write found value state) nothing;
    }
