-- How a count at one host, and the outcome of a tick, change the counts of the hosts.
use Rattle.std.proofs.Common.{◌≡◌, ◌<◌, ◌≤◌, ◌==◌, ◌∷◌, [], ℕ, Bool, true, false, List, Option, Some, None, length}
use Rattle.std.proofs.Common.{slice_get, slice_set, get_or, option_map, if◌then◌else◌, inl, inr, refl, sym, ap, subst, ◌∙◌, arith}
use Rattle.std.proofs.lemmas.Bool.Decides.{eqb_tells}
use Rattle.std.proofs.lemmas.Option.{slice_get-get_or, slice_get_within}
use Rattle.circular_buffer.proofs.Places.{slice_get-set_other, slice_get-set_same}
use Rattle.host_calls.specs.Happenings.{Moved, outcome_happenings}
use Rattle.adapter.specs.Outcomes.{FrameOutcome}
use Rattle.adapter.specs.model_types.outcome.Outcome.TheVariants as outcome
use Rattle.run_record.specs.RecordingLaws.{stays}
use Rattle.run_record.specs.Tallies.{IsPassage, TalliesGrow, TallyCounts, TallyGivesUp, counted_at, counted_once, passage_by}
use Rattle.run_record.specs.Tallies.{tally_behind, tally_given_up}
use Rattle.run_record.specs.declared.tally.Passage.{Passage}
use Rattle.run_record.specs.declared.tally.Passage.TheVariants as passage
use Rattle.run_record.specs.declared.tally.Tally.{Tally}

-- Changes of one item of a list.

abbrev pub changed_at : {X : Type 0} → (k place : ℕ) → (X → X) → X → X
changed_at k place change one = if k == place then change one else one

is-self : (n : ℕ) → (n == n) ≡ true
is-self n = elim (eqb_tells n n) [
  | inl same ↦ same.0
  | inr other ↦ absurd (other.1 refl)
]

chosen : {X : Type 0} → (b : Bool) (change : X → X) (one : X) → b ≡ true → (if b then change one else one) ≡ change one
chosen true change one is = refl
chosen false change one is = cc

passed : {X : Type 0} → (b : Bool) (change : X → X) (found : Option X) → b ≡ false
    → found ≡ option_map (λ one. if b then change one else one) found
passed true change found is = cc
passed false change None is = refl
passed false change (Some one) is = refl

pub set-there : {X : Type 0} → (xs : List X) (place : ℕ) (one new : X) (change : X → X) → slice_get xs place ≡ Some one → new ≡ change one
    → (k : ℕ) → slice_get (slice_set xs place new) k ≡ option_map (changed_at k place change) (slice_get xs k)
set-there {X} xs place one new change there is k = elim (eqb_tells k place) [
  | inl same ↦
      let here : slice_get (slice_set xs place new) place ≡ option_map (changed_at place place change) (slice_get xs place) =
      slice_get-set_same xs place new (slice_get_within xs place one there) ∙ ap (λ (x : X). Some x) (is
      ∙ sym (chosen (place == place) change one (is-self place)))
      ∙ sym (ap (option_map (changed_at place place change)) there) in
      subst (λ (n : ℕ). slice_get (slice_set xs place new) n ≡ option_map (changed_at n place change) (slice_get xs n)) (sym same.1) here
  | inr other ↦ slice_get-set_other xs place k new other.1 ∙ passed (k == place) change (slice_get xs k) other.0
]

beyond : {X : Type 0} → (xs : List X) (place k : ℕ) (change : X → X) (found : Option X) → length xs ≤ place → slice_get xs k ≡ found
    → found ≡ option_map (changed_at k place change) found
beyond xs place k change None below is = refl
beyond xs place k change (Some one) below is = elim (eqb_tells k place) [
  | inl same ↦ let within : k < length xs = slice_get_within xs k one is in absurd (omega (arith, same.1, within, below))
  | inr other ↦ passed (k == place) change (Some one) other.0
]

pub set-nowhere : {X : Type 0} → (xs : List X) (place : ℕ) (change : X → X) → length xs ≤ place
    → (k : ℕ) → slice_get xs k ≡ option_map (changed_at k place change) (slice_get xs k)
set-nowhere xs place change below k = beyond xs place k change (slice_get xs k) below refl

-- Counts of hosts.

pub counts_there : (hosts : List Tally) (host : ℕ) (one : Passage) (tally new : Tally) → slice_get hosts host ≡ Some tally
    → new ≡ counted_once one tally → TallyCounts host one hosts (slice_set hosts host new)
counts_there hosts host one tally new there is = set-there hosts host tally new (counted_once one) there is

-- the same, with the counts that the function read
pub counted_there : (hosts : List Tally) (host : ℕ) (one : Passage) (default new : Tally) → host < length hosts
    → new ≡ counted_once one (get_or hosts host default) → TallyCounts host one hosts (slice_set hosts host new)
counted_there hosts host one default new below is =
    counts_there hosts host one (get_or hosts host default) new (slice_get-get_or hosts host default below) is

pub counts_nowhere : (hosts : List Tally) (host : ℕ) (one : Passage) → length hosts ≤ host → TallyCounts host one hosts hosts
counts_nowhere hosts host one below = set-nowhere hosts host (counted_once one) below

pub given_up_there : (hosts : List Tally) (host sending holding : ℕ) (tally new : Tally) → slice_get hosts host ≡ Some tally
    → new ≡ tally_given_up sending holding tally → TallyGivesUp host sending holding hosts (slice_set hosts host new)
given_up_there hosts host sending holding tally new there is = set-there hosts host tally new (tally_given_up sending holding) there is

-- the same, with the counts that the function read and the lengths that it computed
pub reset_there : (hosts : List Tally) (host sending holding n m : ℕ) (default new : Tally) → host < length hosts → n ≡ sending
    → m ≡ holding → new ≡ tally_given_up n m (get_or hosts host default)
    → TallyGivesUp host sending holding hosts (slice_set hosts host new)
reset_there hosts host sending holding n m default new below first second is =
    let tally = get_or hosts host default in
    given_up_there hosts host sending holding tally new (slice_get-get_or hosts host default below)
    (is ∙ ap (λ (k : ℕ). tally_given_up k m tally) first ∙ ap (λ (k : ℕ). tally_given_up sending k tally) second)

pub given_up_nowhere : (hosts : List Tally) (host sending holding : ℕ) → length hosts ≤ host
    → TallyGivesUp host sending holding hosts hosts
given_up_nowhere hosts host sending holding below = set-nowhere hosts host (tally_given_up sending holding) below

-- Passages in outcomes.

some-is : {X : Type 0} → (a b : X) → Some a ≡ Some b → a ≡ b
some-is a b is = cc

pub told_passage : (host : ℕ) (one : FrameOutcome) (found : Passage) (old new : List Tally) → IsPassage one (Some found)
    → TallyCounts host found old new → TalliesGrow (outcome_happenings host one) old new
told_passage host (outcome.Put frame) found old new is counts k = counts k
    ∙ ap (λ (p : Passage). option_map (counted_at k host p) (slice_get old k)) (some-is found passage.Put is)
told_passage host (outcome.Delivered frame fate) found old new is counts k = counts k
    ∙ ap (λ (p : Passage). option_map (counted_at k host p) (slice_get old k)) (some-is found (passage_by fate) is)
told_passage host _ found old new is counts k = cc

stays-moved : (host k : ℕ) (found : Option Tally) → found ≡ option_map (tally_behind (Moved host ∷ []) k) found
stays-moved host k None = refl
stays-moved host k (Some tally) = refl

pub told_nothing : (host : ℕ) (one : FrameOutcome) (old : List Tally) → IsPassage one None
    → TalliesGrow (outcome_happenings host one) old old
told_nothing host (outcome.Put frame) old is k = cc
told_nothing host (outcome.Delivered frame fate) old is k = cc
told_nothing host outcome.Moved old is k = stays-moved host k (slice_get old k)
told_nothing host _ old is k = stays k (slice_get old k)
