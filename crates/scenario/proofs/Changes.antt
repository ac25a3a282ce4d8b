-- The change of the first host with a name.
use Rattle.std.proofs.Common.{◌≡◌, ◌∙◌, ◌+◌, ◌<◌, ◌≤◌, ℕ, Bool, true, false, cond, suc, zero, List, [], ◌∷◌}
use Rattle.std.proofs.Common.{Option, Some, None, Result, Ok, Err, length, get_or, set, not, ap, sym, subst, refl, arith}
use Rattle.std.proofs.lemmas.List.{get_or-map, length-map, map-set}
use Rattle.std.proofs.lemmas.List.Quantifiers.{position-Some}
use Rattle.std.proofs.Math.Seq.{map-set_same}
use Rattle.std.specs.List.{find, position_or_len}
use Rattle.std.specs.Option.{IsSomeAnd}
use Rattle.network_plan.specs.declared.plan.HostPlan.{HostPlan}
use Rattle.scenario.specs.Answers.{IsChange, IsGrowth}
use Rattle.scenario.specs.Meanings.{IsRoomAt, changed_first}
use Rattle.scenario.specs.SoFar.{Host, has_name, host_of_plan, hosts_of, host_place}
use Rattle.scenario.specs.Words.{Text}
use Rattle.scenario.specs.declared.refusal.Fault.{Fault}
use Rattle.scenario.proofs.Places.{place-missing}

found-find : (p : Host → Bool) (xs : List Host) (k : ℕ) (d : Host) → k < length xs → p (get_or xs k d) ≡ true
    → ((j : ℕ) → j < k → p (get_or xs j d) ≡ false) → find p xs ≡ Some (get_or xs k d)
found-find p [] k d below passes none = absurd (omega arith)
found-find p (a ∷ xs) zero d below passes none = ap (λ b. cond b (Some a) (find p xs)) passes
found-find p (a ∷ xs) (suc k) d below passes none =
    ap (λ b. cond b (Some a) (find p xs)) (none 0 (omega arith))
    ∙ found-find p xs k d (omega arith) passes (λ j h. none (suc j) (omega arith))

found-set : (p : Host → Bool) (f : Host → Host) (xs : List Host) (k : ℕ) (d : Host) → k < length xs → p (get_or xs k d) ≡ true
    → ((j : ℕ) → j < k → p (get_or xs j d) ≡ false) → set xs k (f (get_or xs k d)) ≡ changed_first p f xs
found-set p f [] k d below passes none = absurd (omega arith)
found-set p f (a ∷ xs) zero d below passes none = sym (ap (λ b. cond b (f a ∷ xs) (a ∷ changed_first p f xs)) passes)
found-set p f (a ∷ xs) (suc k) d below passes none =
    ap (λ (hosts : List Host). a ∷ hosts) (found-set p f xs k d (omega arith) passes (λ j h. none (suc j) (omega arith)))
    ∙ sym (ap (λ b. cond b (f a ∷ xs) (a ∷ changed_first p f xs)) (none 0 (omega arith)))

-- the first host of this name is that of the plan at `place`
record IsFirst (name : Text) (plans : List HostPlan) (place : ℕ) (plan : HostPlan) : Type 0 where
  below : place < length (hosts_of plans)
  named : has_name name (get_or (hosts_of plans) place (host_of_plan plan)) ≡ true
  others : (j : ℕ) → j < place → has_name name (get_or (hosts_of plans) j (host_of_plan plan)) ≡ false
  here : get_or (hosts_of plans) place (host_of_plan plan) ≡ host_of_plan (get_or plans place plan)
  found : find (has_name name) (hosts_of plans) ≡ Some (host_of_plan (get_or plans place plan))

is-first : (name : Text) (plans : List HostPlan) (place : ℕ) (plan : HostPlan) → host_place name (hosts_of plans) ≡ Some place
    → IsFirst name plans place plan
is-first name plans place plan found =
    let first = position-Some (has_name name) (hosts_of plans) place (host_of_plan plan) found in
    let count = length-map plans host_of_plan in
    let here : get_or (hosts_of plans) place (host_of_plan plan) ≡ host_of_plan (get_or plans place plan) =
    get_or-map host_of_plan plans place plan (host_of_plan plan) (omega (arith, first.0, count)) in
    record {
      below = first.0;
      named = first.1;
      others = first.2;
      here = here;
      found = found-find (has_name name) (hosts_of plans) place (host_of_plan plan) first.0 first.1 first.2 ∙ ap Some here;
    }

pub change-host : (name : Text) (held : Host → ℕ) (most : ℕ) (change : Host → Host) (plans : List HostPlan) (place : ℕ)
    (plan new : HostPlan) (result : Result (Unit {0}) Fault) → host_place name (hosts_of plans) ≡ Some place
    → IsGrowth held most change (host_of_plan (get_or plans place plan)) result (host_of_plan new)
    → IsChange name held most change (hosts_of plans) result (hosts_of (set plans place new))
change-host name held most change plans place plan new (Ok u) found growth =
    let is = is-first name plans place plan found in (
      subst (λ (o : Option Host). IsSomeAnd o (λ host. held host < most)) (sym is.found) growth.0,
      map-set host_of_plan plans place new ∙ ap (λ (h : Host). set (hosts_of plans) place h) (growth.1 ∙ ap change (sym is.here))
          ∙ found-set (has_name name) change (hosts_of plans) place (host_of_plan plan) is.below is.named is.others,
    )
change-host name held most change plans place plan new (Err stopped) found growth =
    let is = is-first name plans place plan found in (
      growth.0,
      λ room. growth.1 (subst (λ (o : Option Host). IsSomeAnd o (λ host. held host < most)) is.found room),
      map-set_same host_of_plan plans place new plan growth.2,
    )

find-none : (p : Host → Bool) (xs : List Host) → length xs ≤ position_or_len p xs → find p xs ≡ None
find-none p [] long = refl
find-none p (x ∷ xs) long =
    let step : (b : Bool) → p x ≡ b → length (x ∷ xs) ≤ cond (not b) (1 + position_or_len p xs) 0 → find p (x ∷ xs) ≡ None =
    λ b. elim b as (λ (b : Bool). p x ≡ b → length (x ∷ xs) ≤ cond (not b) (1 + position_or_len p xs) 0 → find p (x ∷ xs) ≡ None) [
      | true ↦ λ e far. absurd (omega (arith, far))
      | false ↦ λ e far. ap (λ b. cond b (Some x) (find p xs)) e ∙ find-none p xs (omega (arith, far))
    ] in
    step (p x) refl long

pub no_room : (name : Text) (held : Host → ℕ) (most : ℕ) (hosts : List Host) → None ≡ host_place name hosts
    → ¬ IsRoomAt name held most hosts
no_room name held most hosts none room =
    let p = has_name name in
    let place = place-missing p hosts none in
    subst (λ (o : Option Host). IsSomeAnd o (λ host. held host < most)) (find-none p hosts (omega (arith, place))) room
