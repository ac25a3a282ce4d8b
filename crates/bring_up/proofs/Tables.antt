-- The tables of the filter, and the writes that set them.
use Rattle.std.proofs.Common.{◌≡◌, ◌<◌, ◌+◌, ◌*◌, ◌/◌, ◌++◌, ◌∷◌, [], ℕ, zero, suc, List, length, replicate, sym, ap, ◌∙◌, inl, inr, arith}
use Rattle.std.proofs.Common.{add-one, append_assoc, get_or, subst, take}
use Rattle.std.proofs.Math.Seq.{take-length, take-suc}
use Rattle.std.proofs.lemmas.List.{length-replicate, length-set}
use Rattle.std.specs.List.{Contains}
use Rattle.std.proofs.lemmas.List.Elements.{Contains-append_cases, Contains-append_left, Contains-push}
use Rattle.rx_filter.specs.Laws.{HasTableBit-with_number, HasTableBit-zeros}
use Rattle.rx_filter.specs.NumberTables.{HasNumbers}
use Rattle.rx_filter.specs.Writing.{with_number}
use Rattle.adapter.specs.Settings.{Write}
use Rattle.bring_up.specs.FilterTables.{empty_entries, entry_writes, table_writes}
use Rattle.bring_up.specs.WrittenRegisters.{write_at}

none-there : (n : ℕ) → ¬ (Contains {X = ℕ} [] n)
none-there n has = absurd (omega (arith, has.1))

one-there : (x n : ℕ) → Contains (x ∷ []) n → n ≡ x
one-there x n (zero, below, same) = sym same
one-there x n (suc k, below, same) = absurd (omega (arith, below))

pub no-numbers : {table : List ℕ} → table ≡ replicate 128 0 → HasNumbers table []
no-numbers is = subst (λ (table : List ℕ). HasNumbers table []) (sym is) (record {
  words = length-replicate {A = ℕ} 128 0;
  bits = λ number below. (λ has. absurd (HasTableBit-zeros 128 number has), λ has. absurd (none-there number has));
})

pub one-number-more : {table new numbers more : List ℕ} {added : ℕ} → new ≡ with_number table added → added < 4096
    → numbers ++ added ∷ [] ≡ more → HasNumbers table numbers → HasNumbers new more
one-number-more {table} {new} {numbers} {more} {added} is fits are holds =
    subst (HasNumbers new) are (subst (λ (table : List ℕ). HasNumbers table (numbers ++ added ∷ [])) (sym is) (record {
      words = length-set table (added / 32) _ ∙ holds.words;
      bits = λ number below.
          let bits = HasTableBit-with_number table added number (omega (arith, holds.words, fits)) in (
            λ has. elim (bits.0 has) [
              | inl same ↦ subst (Contains (numbers ++ added ∷ [])) (sym same) (Contains-push numbers added)
              | inr before ↦ Contains-append_left numbers (added ∷ []) number ((holds.bits number below).0 before)
            ],
            λ has. bits.1 (elim (Contains-append_cases numbers (added ∷ []) number has) [
              | inl before ↦ inr ((holds.bits number below).1 before)
              | inr here ↦ inl (one-there added number here)
            ]),
          );
    }))

-- The first items of a list, while an index runs through it

pub take-more : {X : Type 0} (xs : List X) (i : ℕ) (d : X) → i < length xs → take i xs ++ get_or xs i d ∷ [] ≡ take (i + 1) xs
take-more {X} xs i d below = sym (take-suc xs i d below) ∙ ap (λ (n : ℕ). take n xs) (sym (add-one i))

pub take-all : {X : Type 0} {i : ℕ} (xs : List X) → i ≡ length xs → take i xs ≡ xs
take-all {X} {i} xs last = ap (λ (n : ℕ). take n xs) last ∙ take-length xs

pub table-push : (offset word : ℕ) (words : List ℕ)
    → table_writes offset (words ++ word ∷ []) ≡ table_writes offset words ++ write_at (offset + 4 * length words) word ∷ []
table-push offset word [] = let here : offset ≡ offset + 4 * 0 = omega arith in ap (λ (n : ℕ). write_at n word ∷ []) here
table-push offset word (first ∷ words) =
    let there : offset + 4 + 4 * length words ≡ offset + 4 * length (first ∷ words) = omega arith in
    ap (λ (list : List Write). write_at offset first ∷ list) (table-push (offset + 4) word words
    ∙ ap (λ (n : ℕ). table_writes (offset + 4) words ++ write_at n word ∷ []) there)

pub entries-push : (entry count : ℕ) → empty_entries entry (suc count) ≡ empty_entries entry count ++ entry_writes (entry + count) 0 0
entries-push entry zero = let here : entry ≡ entry + 0 = omega arith in ap (λ (n : ℕ). entry_writes n 0 0) here
entries-push entry (suc count) =
    let there : entry + 1 + count ≡ entry + suc count = omega arith in
    ap (λ (list : List Write). entry_writes entry 0 0 ++ list) (entries-push (entry + 1) count)
    ∙ ap (λ (n : ℕ). entry_writes entry 0 0 ++ (empty_entries (entry + 1) count ++ entry_writes n 0 0)) there
    ∙ sym (append_assoc (entry_writes entry 0 0) (empty_entries (entry + 1) count) (entry_writes (entry + suc count) 0 0))
