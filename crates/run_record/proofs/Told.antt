-- The counts in a record after a run are the lengths of the lists of the run's happenings, each at most the greatest number.
use Rattle.std.proofs.Common.{◌≡◌, ◌+◌, ◌==◌, ◌++◌, ◌||◌, ◌∷◌, [], ℕ, Bool, true, false, List, length, if◌then◌else◌}
use Rattle.std.proofs.Common.{refl, ap, ◌∙◌, arith, append-nil}
use Rattle.std.proofs.Math.Nat.{add-zero, zero-add}
use Rattle.std.proofs.lemmas.List.{length-append}
use Rattle.std.proofs.lemmas.List.Sums.{sum_by-cons}
use Rattle.std.specs.List.{flat_map, fold, list_any}
use Rattle.rx_engine.specs.declared.arrival.Fate.TheVariants as fate
use Rattle.host_calls.specs.Happenings.{Accepted, Given, GivenUp, Happening, Put, Reached, accepted, accepted_in_one, put, put_in_one}
use Rattle.host_calls.specs.Happenings.{reached, reached_by, stored, stored_by}
use Rattle.host_calls.specs.Lists.{holding_in_one, sending_in_one}
use Rattle.run_record.specs.Acts.{Act}
use Rattle.run_record.specs.Numbers.{next_number}
use Rattle.run_record.specs.Tallies.{all_given, count_given, off_by, is_given_up_at}
use Rattle.run_record.specs.Numbers.{as_told}
use Rattle.run_record.specs.Tallies.{grown_by, no_tally, number_behind, tallied_by, tally_given_up}
use Rattle.run_record.specs.declared.tally.Tally.{Tally}

-- these counts, each at most the greatest number
abbrev pub clipped : Tally → Tally
clipped t = record {
  accepted = as_told t.accepted;
  put = as_told t.put;
  reached = as_told t.reached;
  stored = as_told t.stored;
  given = as_told t.given;
  sending = as_told t.sending;
  holding = as_told t.holding;
  off = as_told t.off;
  is_reset = t.is_reset;
}

-- these counts, grown by the lengths of the lists of the k-th host
abbrev pub grown : ℕ → List Happening → Tally → Tally
grown k happened t = record {
  accepted = length (accepted k happened) + t.accepted;
  put = length (put k happened) + t.put;
  reached = length (reached k happened) + t.reached;
  stored = length (stored k happened) + t.stored;
  given = all_given k happened + t.given;
  sending = length (flat_map (sending_in_one k) happened) + t.sending;
  holding = length (flat_map (holding_in_one k) happened) + t.holding;
  off = length (flat_map (off_by k) happened) + t.off;
  is_reset = list_any (is_given_up_at k) happened || t.is_reset;
}

-- the counts of the k-th host, as the lengths of its lists
abbrev pub tally_of : ℕ → List Happening → Tally
tally_of k happened = clipped (record {
  accepted = length (accepted k happened);
  put = length (put k happened);
  reached = length (reached k happened);
  stored = length (stored k happened);
  given = all_given k happened;
  sending = length (flat_map (sending_in_one k) happened);
  holding = length (flat_map (holding_in_one k) happened);
  off = length (flat_map (off_by k) happened);
  is_reset = list_any (is_given_up_at k) happened;
})

-- Numbers that grow by one or more.

more : (a : ℕ) → next_number (as_told a) ≡ as_told (1 + a)
more a = omega arith

more-by : (n a : ℕ) → grown_by n (as_told a) ≡ as_told (n + a)
more-by n a = omega arith

pub number_told : (before : ℕ) (acts : List Act) → number_behind (as_told before) acts ≡ as_told (before + length acts)
number_told before [] = ap as_told (omega arith)
number_told before (act ∷ acts) =
    ap (λ (n : ℕ). number_behind n acts) (more before) ∙ number_told (1 + before) acts ∙ ap as_told (omega arith)

-- One happening, at this host if `here`.

-- one frame if `here`, else no frame
abbrev frame-if : List ℕ → Bool → List (List ℕ)
frame-if frame here = (if here then frame ∷ [] else []) ++ []

no-frames : (here : Bool) → (let none : List (List ℕ) = [] in length ((if here then none else none) ++ []) ≡ 0)
no-frames true = refl
no-frames false = refl

-- A count grows by 1 if `here`.
one-if : (set : ℕ → Tally) (count : Bool → ℕ) (here : Bool) (n : ℕ) → count true ≡ 1 → count false ≡ 0
    → (if here then set (next_number (as_told n)) else set (as_told n)) ≡ set (as_told (count here + n))
one-if set count true n one none = ap set (omega (arith, one))
one-if set count false n one none = ap set (omega (arith, none))

-- Two counts grow by 1 if `here`.
two-if : (set : ℕ → ℕ → Tally) (count : Bool → ℕ) (here : Bool) (m n : ℕ) → count true ≡ 1 → count false ≡ 0
    → (if here then set (next_number (as_told m)) (next_number (as_told n)) else set (as_told m) (as_told n))
    ≡ set (as_told (count here + m)) (as_told (count here + n))
two-if set count true m n one none =
    ap (λ (k : ℕ). set k (next_number (as_told n))) (omega (arith, one)) ∙ ap (set (as_told (count true + m))) (omega (arith, one))
two-if set count false m n one none =
    ap (λ (k : ℕ). set k (as_told n)) (omega (arith, none)) ∙ ap (set (as_told (count false + m))) (omega (arith, none))

reset-if : (here : Bool) (sending holding : List (List ℕ)) (t : Tally)
    → (if here then tally_given_up (length sending) (length holding) (clipped t) else clipped t)
    ≡ clipped (record t {
      sending = length ((if here then sending else []) ++ []) + t.sending;
      holding = length ((if here then holding else []) ++ []) + t.holding;
      is_reset = (here || false) || t.is_reset;
    })
reset-if true sending holding t =
    rw (append-nil sending, append-nil holding) (
    ap (λ (n : ℕ). record (clipped t) { sending = n; holding = grown_by (length holding) (as_told t.holding); is_reset = true })
    (more-by (length sending) t.sending)
    ∙ ap (λ (n : ℕ). record (clipped t) { sending = as_told (length sending + t.sending); holding = n; is_reset = true })
    (more-by (length holding) t.holding)
    )
reset-if false sending holding t = simp zero-add

one-counted : (k : ℕ) (t : Tally) (one : Happening) → tallied_by k (clipped t) one ≡ clipped (grown k (one ∷ []) t)
one-counted k t (Accepted host frame) =
    simp zero-add (one-if (λ (n : ℕ). record (clipped t) { accepted = n }) (λ here. length (frame-if frame here)) (k == host) t.accepted
    refl refl)
one-counted k t (Put host frame) =
    simp zero-add (one-if (λ (n : ℕ). record (clipped t) { put = n }) (λ here. length (frame-if frame here)) (k == host) t.put refl refl)
one-counted k t (Reached host frame fate.Stored) =
    simp zero-add (two-if (λ (m n : ℕ). record (clipped t) { reached = m; stored = n }) (λ here. length (frame-if frame here)) (k == host)
    t.reached t.stored refl refl)
one-counted k t (Reached host frame fate.Off) =
    simp (no-frames, zero-add) (two-if (λ (m n : ℕ). record (clipped t) { reached = m; off = n })
    (λ here. length (frame-if frame here)) (k == host) t.reached t.off refl refl)
one-counted k t (Reached host frame _) =
    simp (no-frames, zero-add) (one-if (λ (n : ℕ). record (clipped t) { reached = n }) (λ here. length (frame-if frame here)) (k == host)
    t.reached refl refl)
one-counted k t (Given host socket frame) =
    simp zero-add (one-if (λ (n : ℕ). record (clipped t) { given = n }) (λ here. if here then 1 else 0) (k == host) t.given refl refl)
one-counted k t (GivenUp host sending holding) = simp zero-add (reset-if (k == host) sending holding t)
one-counted k t _ = simp zero-add

-- All happenings, one after the other.

list-then : (of : Happening → List (List ℕ)) (one : Happening) (rest : List Happening) (n : ℕ)
    → length (flat_map of rest) + (length (flat_map of (one ∷ [])) + n) ≡ length (flat_map of (one ∷ rest)) + n
list-then of one rest n = omega (arith, length-append (of one) (flat_map of rest), length-append (of one) [])

any-then : (a b c : Bool) → b || ((a || false) || c) ≡ (a || b) || c
any-then true true c = refl
any-then true false c = refl
any-then false b c = refl

grown-then : (k : ℕ) (one : Happening) (rest : List Happening) (t : Tally) → grown k rest (grown k (one ∷ []) t) ≡ grown k (one ∷ rest) t
grown-then k one rest t =
    let accepts = list-then (accepted_in_one k) one rest t.accepted in
    let puts = list-then (put_in_one k) one rest t.put in
    let reaches = list-then (reached_by k) one rest t.reached in
    let stores = list-then (stored_by k) one rest t.stored in
    let sends = list-then (sending_in_one k) one rest t.sending in
    let holds = list-then (holding_in_one k) one rest t.holding in
    let offs = list-then (off_by k) one rest t.off in
    let gives : all_given k rest + (all_given k (one ∷ []) + t.given) ≡ all_given k (one ∷ rest) + t.given =
    omega (arith, sum_by-cons (count_given k) one rest) in
    let any = any-then (is_given_up_at k one) (list_any (is_given_up_at k) rest) t.is_reset in
    cc

or-false : (b : Bool) → b || false ≡ b
or-false true = refl
or-false false = refl

counted-all : (k : ℕ) (t : Tally) (happened : List Happening) → fold (tallied_by k) (clipped t) happened ≡ clipped (grown k happened t)
counted-all k t [] = simp zero-add
counted-all k t (one ∷ rest) =
    ap (λ (u : Tally). fold (tallied_by k) u rest) (one-counted k t one) ∙ counted-all k (grown k (one ∷ []) t) rest
    ∙ ap clipped (grown-then k one rest t)

pub noted-lists : (k : ℕ) (happened : List Happening) → fold (tallied_by k) no_tally happened ≡ tally_of k happened
noted-lists k happened = simp (add-zero, or-false) at (counted-all k no_tally happened)
