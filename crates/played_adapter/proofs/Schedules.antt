-- Scheduled steps that are played before an access.
use Rattle.std.proofs.Common.{◌≡◌, ◌∙◌, ◌<◌, ◌≤◌, ◌++◌, [], ◌∷◌, ℕ, Bool, true, false, List, Some, None, ap, append_assoc, arith, cond}
use Rattle.std.proofs.Common.{drop, nat_le}
use Rattle.std.proofs.Common.{refl, slice_get, subst, sym}
use Rattle.std.proofs.lemmas.Bool.Decides.{nat_tests}
use Rattle.std.proofs.lemmas.List.{append-nil}
use Rattle.adapter.specs.model_types.outcome.Outcome.{Outcome}
use Rattle.played_adapter.specs.Order.{ComposesHeard, InOrder, Tells}
use Rattle.played_adapter.specs.Playing.{PlaysScheduled, Steps, due, due_in, without_next}
use Rattle.played_adapter.specs.Told.{Told}
use Rattle.played_adapter.specs.declared.player.PlayedAdapter.{PlayedAdapter}
use Rattle.played_adapter.specs.declared.scheduling.ScheduledStep.{ScheduledStep}
use Rattle.played_adapter.proofs.Telling.{tells_more, tells_none, tells_so}

front : (is : Bool) (x step : ScheduledStep) (later : List ScheduledStep) → Some step ≡ slice_get (cond is (x ∷ later) []) 0
    → cond is (x ∷ later) [] ≡ step ∷ later
front true x step later is = cc
front false x step later is = absurd (cc)

next_due : (access : ℕ) (items : List ScheduledStep) (step : ScheduledStep) → Some step ≡ slice_get (due access items) 0
    → due access items ≡ step ∷ due access (drop 1 items)
next_due access [] step is = absurd (cc)
next_due access (x ∷ later) step is = front (nat_le x.access access) x step (due access later) is

pub none_waits : (access : ℕ) (items : List ScheduledStep) → slice_get items 0 ≡ None → None ≡ slice_get (due access items) 0
none_waits access [] is = refl
none_waits access (x ∷ later) is = absurd (cc)

late : (is : Bool) (x : ScheduledStep) (later : List ScheduledStep) → is ≡ false → None ≡ slice_get (cond is (x ∷ later) []) 0
late true x later is = absurd (cc)
late false x later is = refl

pub first_is_late : (access : ℕ) (items : List ScheduledStep) (step : ScheduledStep) → slice_get items 0 ≡ Some step → access < step.access
    → None ≡ slice_get (due access items) 0
first_is_late access [] step is later = absurd (cc)
first_is_late access (x ∷ rest) step is later =
    let same : x ≡ step = cc in
    let below : access < x.access = subst (λ (s : ScheduledStep). access < s.access) (sym same) later in
    late (nat_le x.access access) x (due access rest) (grind (arith, nat_tests))

early : (is : Bool) (x step : ScheduledStep) (later : List ScheduledStep) → is ≡ true → x ≡ step
    → Some step ≡ slice_get (cond is (x ∷ later) []) 0
early true x step later is same = cc
early false x step later is same = absurd (cc)

pub first_is_due : (access : ℕ) (items : List ScheduledStep) (step : ScheduledStep) → slice_get items 0 ≡ Some step → step.access ≤ access
    → Some step ≡ slice_get (due access items) 0
first_is_due access [] step is now = absurd (cc)
first_is_due access (x ∷ rest) step is now =
    let same : x ≡ step = cc in
    let within : x.access ≤ access = subst (λ (s : ScheduledStep). s.access ≤ access) (sym same) now in
    early (nat_le x.access access) x step (due access rest) (grind (arith, nat_tests)) same

nothing_left : (steps : List ScheduledStep) → None ≡ slice_get steps 0 → steps ≡ []
nothing_left [] is = refl
nothing_left (x ∷ later) is = absurd (cc)

module _ {O : Type 0} (heard : O → O → List Told → Type 0) (laws : ComposesHeard heard) where
  -- The steps `done`, the first of those that are due at `a`, were played; those that are left are due at `now`.
  pub record Scheduled (a now : PlayedAdapter) (before after : O) : Type 0 where
    pub done : List ScheduledStep
    pub plays : Tells heard before after (InOrder PlaysScheduled done a now)
    pub rest : due_in a ≡ done ++ due_in now

  pub none_scheduled : (a : PlayedAdapter) (before : O) → Scheduled a a before before
  none_scheduled a before = record { done = []; plays = tells_none PlaysScheduled heard laws a before; rest = refl }

  pub one_scheduled : (a b taken c : PlayedAdapter) (step : ScheduledStep) (outcome : Outcome (Unit {0})) (before now after : O)
      → Scheduled a b before now → Some step ≡ slice_get (due_in b) 0 → taken ≡ without_next b
      → Tells heard now after (Steps step.kind outcome taken c) → Scheduled a c before after
  one_scheduled a b taken c step outcome before now after so_far is taken_is plays =
      let played : Tells heard now after (PlaysScheduled step b c) = tells_so heard (Steps step.kind outcome taken c)
      (PlaysScheduled step b c) now after
      (λ told steps. (outcome, subst (λ (s : PlayedAdapter). Steps step.kind outcome s c told) taken_is steps)) plays in
      let left : due_in c ≡ due b.accesses (drop 1 b.scheduled.items) = ap due_in plays.holds.after ∙ ap due_in taken_is in
      record {
        done = so_far.done ++ step ∷ [];
        plays = tells_more PlaysScheduled heard laws so_far.done step a b c before now after so_far.plays played;
        rest = so_far.rest ∙ ap (λ (steps : List ScheduledStep). so_far.done ++ steps)
            (next_due b.accesses b.scheduled.items step is ∙ ap (λ (steps : List ScheduledStep). step ∷ steps) (sym left))
            ∙ sym (append_assoc so_far.done (step ∷ []) (due_in c));
      }

  pub all_scheduled : (a b c : PlayedAdapter) (before after : O) → Scheduled a b before after → None ≡ slice_get (due_in b) 0 → c ≡ b
      → Tells heard before after (InOrder PlaysScheduled (due_in a) a c)
  all_scheduled a b c before after so_far none same =
      subst (λ (s : PlayedAdapter). Tells heard before after (InOrder PlaysScheduled (due_in a) a s)) (sym same)
      (subst (λ (steps : List ScheduledStep). Tells heard before after (InOrder PlaysScheduled steps a b))
      (sym (so_far.rest ∙ ap (λ (steps : List ScheduledStep). so_far.done ++ steps) (nothing_left (due_in b) none)
      ∙ append-nil so_far.done)) so_far.plays)
