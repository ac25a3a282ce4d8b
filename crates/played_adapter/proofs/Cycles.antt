-- Cycles of steps.
use Rattle.std.proofs.Common.{◌≡◌, ◌+◌, ◌<◌, ◌≤◌, ◌++◌, [], ◌∷◌}
use Rattle.std.proofs.Common.{ℕ, Bool, true, false, List, ap, arith, length, length-append, nat_lt}
use Rattle.std.proofs.Common.{cond, refl, subst, sym}
use Rattle.std.specs.Prelude.{All, sum}
use Rattle.std.proofs.lemmas.Bool.Decides.{nat_tests}
use Rattle.std.proofs.lemmas.List.Elements.{All-append, All-cons, All-nil}
use Rattle.std.proofs.lemmas.List.Sums.{sum_by-append}
use Rattle.adapter.specs.model_types.outcome.Outcome.{Outcome}
use Rattle.adapter.specs.model_types.outcome.Outcome.TheVariants.{Took, Put, WireFull, Part, Moved, Done, Delivered, Ticked, Nothing, Fault}
use Rattle.played_adapter.specs.Playing.{Cycle, Settles, with_last}
use Rattle.played_adapter.specs.Order.{ComposesHeard, InOrder, Tells}
use Rattle.std.specs.Int.{from_bool}
use Rattle.played_adapter.specs.Outcomes.{did, moved_by}
use Rattle.played_adapter.specs.Told.{Told}
use Rattle.played_adapter.specs.declared.player.PlayedAdapter.{PlayedAdapter}
use Rattle.played_adapter.proofs.Telling.{tells_more, tells_none, tells_so}

pub moved_little : (outcome : Outcome (Unit {0})) → moved_by outcome ≤ 1
moved_little Took = omega arith
moved_little (Put unit) = omega arith
moved_little WireFull = omega arith
moved_little Part = omega arith
moved_little Moved = omega arith
moved_little Done = omega arith
moved_little (Delivered unit fate) = omega arith
moved_little Ticked = omega arith
moved_little Nothing = omega arith
moved_little Fault = omega arith

-- A step that did something counts 1.
pub counts : (outcome : Outcome (Unit {0})) → from_bool (did outcome) ≡ moved_by outcome
counts Took = refl
counts (Put unit) = refl
counts WireFull = refl
counts Part = refl
counts Moved = refl
counts Done = refl
counts (Delivered unit fate) = refl
counts Ticked = refl
counts Nothing = refl
counts Fault = refl

is_below : (n most : ℕ) → n < most → nat_lt n most ≡ true
is_below n most below = grind (arith, nat_tests)

not_below : (n most : ℕ) → n ≡ most → nat_lt n most ≡ false
not_below n most same = grind (arith, nat_tests)

module _ {O : Type 0} (heard : O → O → List Told → Type 0) (laws : ComposesHeard heard) where
  -- `count` cycles that each did something were played, and `moved` of their steps did something.
  pub record BusyCycles (count moved : ℕ) (a b : PlayedAdapter) (before now : O) : Type 0 where
    pub busy : List ℕ
    pub each : All (λ here. 0 < here) busy
    pub count_is : length busy ≡ count
    pub moved_is : moved ≡ sum busy
    pub plays : Tells heard before now (InOrder Cycle busy a b)

  pub no_cycles : (a : PlayedAdapter) (before : O) → BusyCycles 0 0 a a before before
  no_cycles a before = record {
    busy = [];
    each = All-nil (λ (n : ℕ). 0 < n);
    count_is = refl;
    moved_is = refl;
    plays = tells_none Cycle heard laws a before;
  }

  pub one_cycle : (count moved here : ℕ) (a b c : PlayedAdapter) (before now after : O) → BusyCycles count moved a b before now
      → Tells heard now after (Cycle here b c) → 0 < here → BusyCycles (count + 1) (moved + here) a c before after
  one_cycle count moved here a b c before now after so_far plays some = record {
    busy = so_far.busy ++ here ∷ [];
    each = All-append (λ (n : ℕ). 0 < n) so_far.busy (here ∷ []) so_far.each
        (All-cons (λ (n : ℕ). 0 < n) here [] some (All-nil (λ (n : ℕ). 0 < n)));
    count_is = omega (arith, so_far.count_is, length-append so_far.busy (here ∷ []));
    moved_is = omega (arith, so_far.moved_is, sum_by-append (λ (n : ℕ). n) so_far.busy (here ∷ []));
    plays = tells_more Cycle heard laws so_far.busy here a b c before now after so_far.plays plays;
  }

  settled_as : (most count moved : ℕ) (a b c : PlayedAdapter) (before now after : O) (so_far : BusyCycles count moved a b before now)
      (cycles : List ℕ) → cycles ≡ with_last most so_far.busy → count ≤ most → Tells heard before after (InOrder Cycle cycles a c)
      → Tells heard before after (Settles most moved a c)
  settled_as most count moved a b c before now after so_far cycles last fits plays =
      tells_so heard (InOrder Cycle cycles a c) (Settles most moved a c) before after (λ told all. record {
        busy = so_far.busy;
        each = so_far.each;
        few = omega (arith, so_far.count_is, fits);
        plays = subst (λ (cycles : List ℕ). InOrder Cycle cycles a c told) last all;
        moved_is = so_far.moved_is;
      }) plays

  pub settled : (most count moved : ℕ) (a b c : PlayedAdapter) (before now after : O) → count < most
      → BusyCycles count moved a b before now → Tells heard now after (Cycle 0 b c) → Tells heard before after (Settles most moved a c)
  settled most count moved a b c before now after below so_far idle =
      let last : so_far.busy ++ 0 ∷ [] ≡ with_last most so_far.busy =
      sym (ap (λ (is : Bool). cond is (so_far.busy ++ 0 ∷ []) so_far.busy)
      (is_below (length so_far.busy) most (omega (arith, so_far.count_is)))) in
      let plays = tells_more Cycle heard laws so_far.busy 0 a b c before now after so_far.plays idle in
      settled_as most count moved a b c before now after so_far _ last (omega (arith, below)) plays

  pub settled_late : (most moved : ℕ) (a b : PlayedAdapter) (before now : O) → BusyCycles most moved a b before now
      → Tells heard before now (Settles most moved a b)
  settled_late most moved a b before now so_far =
      let last : so_far.busy ≡ with_last most so_far.busy =
      sym (ap (λ (is : Bool). cond is (so_far.busy ++ 0 ∷ []) so_far.busy) (not_below (length so_far.busy) most so_far.count_is)) in
      settled_as most most moved a b b before now now so_far so_far.busy last (omega arith) so_far.plays
