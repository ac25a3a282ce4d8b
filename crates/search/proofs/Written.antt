-- A list that a loop writes into a slice, as far as there is room.
use Rattle.std.proofs.Common.{◌≡◌, ◌∙◌, ◌+◌, ◌<◌, ◌≤◌, ◌++◌, ◌∷◌, [], ◌⊎◌, ℕ, Bool, List, true, false}
use Rattle.std.proofs.Common.{add-one, ap, arith, cond, drop, get_or, inl, inr, length, set, suc, sym, take, zero}
use Rattle.std.proofs.lemmas.Bool.{cases_lt}
use Rattle.std.proofs.lemmas.List.{append-nil, append_assoc, drop_all, length-append, length-drop, length-take-le, set_past, take-append-le, take_all}
use Rattle.std.proofs.lemmas.List.Elements.{filter-append}
use Rattle.std.proofs.Math.Seq.{drop-cons, set-append_seam}
use Rattle.std.specs.List.{filter, range_with_len}

next_of : (from count : ℕ) → from + 1 + count ≡ from + suc count
next_of from count = omega arith

pub range-more : (from count : ℕ) → range_with_len from (suc count) ≡ range_with_len from count ++ (from + count) ∷ []
range-more from zero = ap (λ n. n ∷ []) (omega arith)
range-more from (suc count) =
    ap (λ later. from ∷ later)
    (range-more (from + 1) count ∙ ap (λ n. range_with_len (from + 1) count ++ n ∷ []) (next_of from count))

pub filter-range_more : (test : ℕ → Bool) (count : ℕ)
    → filter test (range_with_len 0 (count + 1)) ≡ filter test (range_with_len 0 count) ++ filter test (count ∷ [])
filter-range_more test count =
    ap (λ n. filter test (range_with_len 0 n)) (add-one count)
    ∙ ap (filter test) (range-more 0 count)
    ∙ filter-append test (range_with_len 0 count) ((0 + count) ∷ [])
    ∙ ap (λ n. filter test (range_with_len 0 count) ++ filter test (n ∷ [])) (omega arith)

-- what the slice has after `written` was written over `old`
abbrev pub over : List ℕ → List ℕ → List ℕ
over written old = take (length old) written ++ drop (length written) old

over-room : (written old : List ℕ) (next : ℕ) → length written < length old
    → set (over written old) (length written) next ≡ over (written ++ next ∷ []) old
over-room written old next room =
    let one : length (written ++ next ∷ []) ≡ suc (length written) = omega (arith, length-append written (next ∷ [])) in
    let less : length written ≤ length old = omega (arith, room) in
    let most : length (written ++ next ∷ []) ≤ length old = omega (arith, room, one) in
    ap (λ front. set (front ++ drop (length written) old) (length written) next)
    (take_all (length old) written less)
    ∙ ap (λ back. set (written ++ back) (length written) next) (drop-cons old (length written) 0 room)
    ∙ set-append_seam written (get_or old (length written) 0) (drop (suc (length written)) old) next
    ∙ sym (append_assoc written (next ∷ []) (drop (suc (length written)) old))
    ∙ ap (λ front. front ++ drop (suc (length written)) old) (sym (take_all (length old) (written ++ next ∷ []) most))
    ∙ ap (λ n. take (length old) (written ++ next ∷ []) ++ drop n old) (sym one)

over-full : (written old : List ℕ) (next : ℕ) → length old ≤ length written
    → set (over written old) (length written) next ≡ over (written ++ next ∷ []) old
over-full written old next full =
    let front : length (take (length old) written) ≡ length old = length-take-le (length old) written full in
    let back : length (drop (length written) old) ≡ 0 = omega (arith, length-drop (length written) old, full) in
    let all : length (over written old) ≤ length written =
    omega (arith, length-append (take (length old) written) (drop (length written) old), front, back, full) in
    let more : length old ≤ length (written ++ next ∷ []) = omega (arith, length-append written (next ∷ []), full) in
    set_past (over written old) (length written) next all
    ∙ ap (λ part. take (length old) written ++ part) (drop_all (length written) old full)
    ∙ ap (λ part. part ++ []) (sym (take-append-le (length old) written (next ∷ []) full))
    ∙ ap (λ part. take (length old) (written ++ next ∷ []) ++ part)
    (sym (drop_all (length (written ++ next ∷ [])) old more))

over_by : (written old : List ℕ) (next : ℕ) → (length written < length old) ⊎ (length old ≤ length written)
    → set (over written old) (length written) next ≡ over (written ++ next ∷ []) old
over_by written old next (inl room) = over-room written old next room
over_by written old next (inr full) = over-full written old next full

pub over-more : (written old : List ℕ) (next : ℕ)
    → set (over written old) (length written) next ≡ over (written ++ next ∷ []) old
over-more written old next = over_by written old next (cases_lt (length written) (length old))

-- one more number of a range: it passes a test, or not
pub record Written (test : ℕ → Bool) (number count : ℕ) (now old : List ℕ) : Type 0 where
  pub is_count : count ≡ length (filter test (range_with_len 0 number))
  pub is_written : now ≡ over (filter test (range_with_len 0 number)) old
  pub most : count ≤ number

pub written-yes : (test : ℕ → Bool) (number count : ℕ) (now old : List ℕ) → Written test number count now old
    → test number ≡ true → Written test (number + 1) (count + 1) (set now count number) old
written-yes test number count now old so_far is =
    let xs : List ℕ = filter test (range_with_len 0 number) in
    let one : filter test (number ∷ []) ≡ number ∷ [] = ap (λ b. cond b (number ∷ []) []) is in
    let more : filter test (range_with_len 0 (number + 1)) ≡ xs ++ number ∷ [] =
    filter-range_more test number ∙ ap (λ part. xs ++ part) one in
    record {
      is_count = omega (arith, so_far.is_count, ap length more, length-append xs (number ∷ []));
      is_written =
          ap (λ here. set here count number) so_far.is_written ∙ ap (λ n. set (over xs old) n number) so_far.is_count
          ∙ over-more xs old number ∙ ap (λ all. over all old) (sym more);
      most = omega (arith, so_far.most);
    }

pub written-no : (test : ℕ → Bool) (number count : ℕ) (now old : List ℕ) → Written test number count now old
    → test number ≡ false → Written test (number + 1) count now old
written-no test number count now old so_far is =
    let xs : List ℕ = filter test (range_with_len 0 number) in
    let none : filter test (number ∷ []) ≡ [] = ap (λ b. cond b (number ∷ []) []) is in
    let more : filter test (range_with_len 0 (number + 1)) ≡ xs =
    filter-range_more test number ∙ ap (λ part. xs ++ part) none ∙ append-nil xs in
    record {
      is_count = so_far.is_count ∙ ap length (sym more);
      is_written = so_far.is_written ∙ ap (λ all. over all old) (sym more);
      most = omega (arith, so_far.most);
    }

-- the end of the loop, after `number` numbers
pub all-count : (test : ℕ → Bool) (number all count : ℕ) (now old : List ℕ) → Written test number count now old
    → number ≡ all → count ≡ length (filter test (range_with_len 0 all))
all-count test number all count now old so_far is =
    so_far.is_count ∙ ap (λ n. length (filter test (range_with_len 0 n))) is

pub all-written : (test : ℕ → Bool) (number all count : ℕ) (now old : List ℕ) → Written test number count now old
    → number ≡ all → now ≡ take (length old) (filter test (range_with_len 0 all)) ++ drop count old
all-written test number all count now old so_far is =
    so_far.is_written
    ∙ ap (λ n. take (length old) (filter test (range_with_len 0 number)) ++ drop n old) (sym so_far.is_count)
    ∙ ap (λ n. take (length old) (filter test (range_with_len 0 n)) ++ drop count old) is
