-- Notes of two consecutive intervals are notes of both together.
use Rattle.std.proofs.Common.{◌≡◌, ◌≤◌, ◌++◌, [], ◌∷◌, ℕ, List, length, take, refl, sym, ap, ◌∙◌, arith, append_assoc, suc, zero}
use Rattle.std.specs.List.{flat_map}
use Rattle.std.proofs.lemmas.List.{append-nil, length-append}
use Rattle.std.proofs.lemmas.Grind.{flat_map-append}
use Rattle.stations.specs.ToldTicks.{TickTold}
use Rattle.host_calls.specs.Notes.{Notes, NotesTicks, early_put, first_stored, noted_after}

notes-same : (host most put put' : ℕ) (holding holding' : List (List ℕ)) → put ≡ put' → holding ≡ holding'
    → (let n : Notes = record { host = host; most = most; put = put; holding = holding } in n)
    ≡ record { host = host; most = most; put = put'; holding = holding' }
notes-same host most put put' holding holding' same_put same_holding = rw (same_put, same_holding) refl

pub take-whole : {X : Type 0} (n : ℕ) (xs : List X) → length xs ≤ n → take n xs ≡ xs
take-whole zero [] few = refl
take-whole (suc n) [] few = refl
take-whole zero (x ∷ xs) few = absurd (omega (arith, few))
take-whole (suc n) (x ∷ xs) few = ap (λ (rest : List _). x ∷ rest) (take-whole n xs (omega (arith, few)))

take-take : {X : Type 0} (n : ℕ) (xs ys : List X) → take n (take n xs ++ ys) ≡ take n (xs ++ ys)
take-take zero xs ys = refl
take-take (suc n) [] ys = refl
take-take (suc n) (x ∷ xs) ys = ap (λ (rest : List _). x ∷ rest) (take-take n xs ys)

pub notes_stay : (a : Notes) → NotesTicks a a []
notes_stay a within = record {
  notes = sym (notes-same a.host a.most _ a.put _ a.holding (omega (arith, within.put))
      (ap (take a.most) (append-nil a.holding) ∙ take-whole a.most a.holding within.holding));
  within = within;
}

pub reset_notes_join : (a b c : Notes) (first later : List TickTold) → NotesTicks a b first → NotesTicks b c later
    → NotesTicks a c (first ++ later)
reset_notes_join a b c first later one two within =
    let here = one within in
    let there = two here.within in
    let puts = flat_map-append (early_put a.host) first later in
    let stores = flat_map-append (first_stored a.host) first later in
    let sum = length-append (flat_map (early_put a.host) first) (flat_map (early_put a.host) later) in
    let count = ap length puts in
    record {
      notes = there.notes ∙ ap (noted_after later) here.notes
          ∙ notes-same a.host a.most _ _ _ _ (omega (arith, sum, count))
          (take-take a.most (a.holding ++ flat_map (first_stored a.host) first) (flat_map (first_stored a.host) later)
          ∙ ap (take a.most) (append_assoc a.holding (flat_map (first_stored a.host) first) (flat_map (first_stored a.host) later)
          ∙ ap (λ (list : List (List ℕ)). a.holding ++ list) (sym stores)));
      within = there.within;
    }
