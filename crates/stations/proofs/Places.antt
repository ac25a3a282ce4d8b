-- The list of all stations after an event at one host, by the station at each place.
use Rattle.std.proofs.Common.{◌≡◌, ◌<◌, ◌+◌, ◌==◌, ◌&&◌, not, zero, suc, ℕ, Bool, true, false, List, [], ◌∷◌, ◌++◌, Option, Some, None}
use Rattle.std.proofs.Common.{length, slice_get, slice_set, option_map, if◌then◌else◌, inl, inr, refl, sym, ap, ◌∙◌, arith}
use Rattle.std.proofs.lemmas.Bool.Decides.{eqb_tells}
use Rattle.std.proofs.lemmas.List.{append-nil}
use Rattle.circular_buffer.proofs.Places.{slice_get-set_other, slice_get-set_same}
use Rattle.adapter.specs.Trails.{past_of_event}
use Rattle.adapter.specs.bus_types.event.Event.{Event}
use Rattle.stations.specs.Stations.{StationState, all_after, at_each, each_after, station_after, stations_after, with_frames}

pub same-places : {X : Type 0} (xs ys : List X) → ((k : ℕ) → slice_get xs k ≡ slice_get ys k) → xs ≡ ys
same-places [] [] same = refl
same-places [] (y ∷ ys) same = let first = same 0 in cc
same-places (x ∷ xs) [] same = let first = same 0 in cc
same-places (x ∷ xs) (y ∷ ys) same =
    let first = same 0 in
    let later : xs ≡ ys = same-places xs ys (λ k. same (suc k)) in
    cc

get-from : (change : ℕ → StationState → StationState) (from : ℕ) (ss : List StationState) (k : ℕ)
    → slice_get (at_each change from ss) k ≡ option_map (change (from + k)) (slice_get ss k)
get-from change from [] k = refl
get-from change from (s ∷ ss) zero = let same : from ≡ from + 0 = omega arith in ap (λ (n : ℕ). Some (change n s)) same
get-from change from (s ∷ ss) (suc k) =
    let same : suc from + k ≡ from + suc k = omega arith in
    get-from change (suc from) ss k ∙ ap (λ (n : ℕ). option_map (change n) (slice_get ss k)) same

pub get-at_each : (change : ℕ → StationState → StationState) (ss : List StationState) (k : ℕ)
    → slice_get (at_each change 0 ss) k ≡ option_map (change k) (slice_get ss k)
get-at_each change ss k =
    let same : 0 + k ≡ k = omega arith in
    get-from change 0 ss k ∙ ap (λ (n : ℕ). option_map (change n) (slice_get ss k)) same

pub no-frames : (sender wire k : ℕ) (s : StationState) → with_frames sender wire [] k s ≡ s
no-frames sender wire k s = by_case (not (k == sender) && (s.wire == wire))
  where
    by_case : (b : Bool) → (if b then record s { backlog = s.backlog ++ [] } else s) ≡ s
    by_case true = ap (λ (frames : List (List ℕ)). record s { backlog = frames }) (append-nil s.backlog)
    by_case false = refl

pub none-anywhere : (sender wire k : ℕ) (o : Option StationState) → option_map (with_frames sender wire [] k) o ≡ o
none-anywhere sender wire k None = refl
none-anywhere sender wire k (Some s) = ap Some (no-frames sender wire k s)

pub after-is : (host : ℕ) (event : Event) (ss : List StationState) (s : StationState) → slice_get ss host ≡ Some s
    → stations_after host event ss ≡ at_each (each_after host s.wire event) 0 ss
after-is host event ss s there = ap (λ (o : Option StationState). all_after o host event ss) there

at-place : (host : ℕ) (event : Event) (ss : List StationState) (s new : StationState) (k : ℕ) → host < length ss → slice_get ss host
    ≡ Some s
    → new ≡ station_after event s
    → option_map (with_frames host s.wire (past_of_event event).put k) (slice_get (slice_set ss host new) k)
    ≡ option_map (each_after host s.wire event k) (slice_get ss k)
at-place host event ss s new k below there is = elim (eqb_tells k host) [
  | inl same ↦ rw (same.1, slice_get-set_same ss host new below, there, is, ap (λ (n : ℕ). n == host) (sym same.1) ∙ same.0) refl
  | inr other ↦ ap (option_map (with_frames host s.wire (past_of_event event).put k)) (slice_get-set_other ss host k new other.1)
      ∙ elsewhere (slice_get ss k) other.0
]
  where
    elsewhere : (o : Option StationState) → (k == host) ≡ false
        → option_map (with_frames host s.wire (past_of_event event).put k) o ≡ option_map (each_after host s.wire event k) o
    elsewhere None other = refl
    elsewhere (Some x) other = rw other refl

pub spread-after : (host : ℕ) (event : Event) (ss final : List StationState) (s new : StationState) → host < length ss
    → slice_get ss host ≡ Some s → new ≡ station_after event s
    → ((k : ℕ) → slice_get final k ≡ option_map (with_frames host s.wire (past_of_event event).put k) (slice_get (slice_set ss host new) k))
    → final ≡ stations_after host event ss
spread-after host event ss final s new below there is each =
    same-places final (at_each (each_after host s.wire event) 0 ss)
    (λ k. each k ∙ (at-place host event ss s new k below there is ∙ sym (get-at_each (each_after host s.wire event) ss k)))
    ∙ sym (after-is host event ss s there)

pub set-after : (host : ℕ) (event : Event) (ss : List StationState) (s new : StationState) → host < length ss → slice_get ss host ≡ Some s
    → new ≡ station_after event s → (past_of_event event).put ≡ [] → slice_set ss host new ≡ stations_after host event ss
set-after host event ss s new below there is none =
    spread-after host event ss (slice_set ss host new) s new below there is
    (λ k. sym (ap (λ (put : List (List ℕ)). option_map (with_frames host s.wire put k) (slice_get (slice_set ss host new) k)) none
    ∙ none-anywhere host s.wire k (slice_get (slice_set ss host new) k)))

pub set-same : (ss : List StationState) (host : ℕ) (s : StationState) → host < length ss → slice_get ss host ≡ Some s → slice_set ss host s
    ≡ ss
set-same ss host s below there = same-places (slice_set ss host s) ss (λ k. elim (eqb_tells k host) [
  | inl same ↦ rw (same.1, there) (slice_get-set_same ss host s below)
  | inr other ↦ slice_get-set_other ss host k s other.1
])
