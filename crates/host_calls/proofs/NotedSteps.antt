-- What is noted of the steps of a call: the frames of those outcomes whose number of earlier accesses is at most a
-- limit.
use Rattle.std.proofs.Common.{◌≡◌, ◌<◌, ◌≤◌, ◌+◌, ◌&&◌, ◌==◌, ◌++◌, ◌∷◌, [], ℕ, Bool, false, true, List, if◌then◌else◌, inl, inr}
use Rattle.std.proofs.Common.{arith, refl, sym, ap, ◌∙◌, length, min}
use Rattle.std.specs.Prelude.{nat_le}
use Rattle.std.specs.List.{flat_map}
use Rattle.std.proofs.lemmas.Bool.{eq-eqb, le-leb, lt-leb, ne_eqb}
use Rattle.std.proofs.lemmas.Bool.Decides.{eqb_tells}
use Rattle.std.proofs.lemmas.Grind.{flat_map-append}
use Rattle.rx_engine.specs.declared.arrival.Fate.TheVariants.{Filtered, Illegal, Missed, Off, Stored}
use Rattle.adapter.specs.Outcomes.{FrameOutcome}
use Rattle.adapter.specs.model_types.outcome.Outcome.TheVariants.{Delivered, Nothing}
use Rattle.adapter.specs.model_types.outcome.Outcome.TheVariants as outcome
use Rattle.adapter.specs.LivelyBuses.{most_accesses}
use Rattle.adapter.specs.bus_types.event.Event.TheVariants.{Accesses, Arrives, Steps}
use Rattle.stations.specs.AtomicRuns.{LeadsTo, past_at, steps_told}
use Rattle.stations.specs.AtomicSteps.{At, AtomicStep, Idles, after_atomic}
use Rattle.stations.specs.Stations.{StationState}
use Rattle.stations.specs.ToldTicks.{TickTold, tick_told}
use Rattle.host_calls.specs.Happenings.{Happening, happened_in, put, put_in_one, stored, stored_by, outcome_happenings}
use Rattle.host_calls.specs.Notes.{early_put, first_stored, frames_put, frames_stored, is_of_host}
use Rattle.host_calls.proofs.FirstAccess.{tick-accesses}
use Rattle.host_calls.proofs.SplitSteps.{own-accesses}

-- what is noted of a tick: its frames if the tick is of host k and its number of accesses passes the test, else no
-- frame
abbrev pub picked : (test : ℕ → Bool) → (frames : FrameOutcome → List (List ℕ)) → (k : ℕ) → TickTold → List (List ℕ)
picked test frames k told = if is_of_host k told.tick && test told.accesses then frames told.outcome else []

-- For host k, `by` finds the frames `frames` in the happenings of an outcome at host k, and no frame at another host.
pub record AreTold (frames : FrameOutcome → List (List ℕ)) (by : ℕ → Happening → List (List ℕ)) : Type 0 where
  pub at : (k host : ℕ) (outcome : FrameOutcome)
      → flat_map (by k) (outcome_happenings host outcome) ≡ (if k == host then frames outcome else [])
  pub none : frames Nothing ≡ []

chosen-none : (b : Bool) → [] ≡ (let nothing : List (List ℕ) = [] in if b then nothing else nothing)
chosen-none true = refl
chosen-none false = refl

chosen-one : (b : Bool) (frames : List (List ℕ)) → (if b then frames else []) ++ [] ≡ (if b then frames else [])
chosen-one true [] = refl
chosen-one true (frame ∷ frames) = ap (λ (list : List (List ℕ)). frame ∷ list) (chosen-one true frames)
chosen-one false frames = refl

put-at : (k host : ℕ) (one : FrameOutcome) → flat_map (put_in_one k) (outcome_happenings host one)
    ≡ (if k == host then frames_put one else [])
put-at k host (outcome.Put frame) = chosen-one (k == host) (frame ∷ [])
put-at k host _ = chosen-none (k == host)

stored-at : (k host : ℕ) (one : FrameOutcome) → flat_map (stored_by k) (outcome_happenings host one)
    ≡ (if k == host then frames_stored one else [])
stored-at k host (outcome.Delivered frame Stored) = chosen-one (k == host) (frame ∷ [])
stored-at k host (outcome.Delivered frame Off) = chosen-one (k == host) []
stored-at k host (outcome.Delivered frame Illegal) = chosen-one (k == host) []
stored-at k host (outcome.Delivered frame Filtered) = chosen-one (k == host) []
stored-at k host (outcome.Delivered frame Missed) = chosen-one (k == host) []
stored-at k host _ = chosen-none (k == host)

put-told : AreTold frames_put put_in_one
put-told = record { at = put-at; none = refl }

stored-told : AreTold frames_stored stored_by
stored-told = record { at = stored-at; none = refl }

same-either_way : (a b : ℕ) → (a == b) ≡ (b == a)
same-either_way a b = elim (eqb_tells a b) [
  | inl same ↦ same.0 ∙ sym (eq-eqb b a (sym same.1))
  | inr differ ↦ differ.0 ∙ sym (ne_eqb b a (λ same. differ.1 (sym same)))
]

passes : (here passed : Bool) (frames : List (List ℕ)) → passed ≡ true
    → (if here && passed then frames else []) ≡ (if here then frames else [])
passes true passed frames is = ap (λ (b : Bool). if b then frames else []) is
passes false passed frames is = refl

fails : (here passed : Bool) (frames : List (List ℕ)) → passed ≡ false → (if here && passed then frames else []) ≡ []
fails true passed frames is = ap (λ (b : Bool). if b then frames else []) is
fails false passed frames is = refl

-- While the number of accesses is at most the limit, each tick of the host is noted.

one-picked : (test : ℕ → Bool) (frames : FrameOutcome → List (List ℕ)) (by : ℕ → Happening → List (List ℕ)) → AreTold frames by
    → (k host n : ℕ) (one : FrameOutcome) → test n ≡ true
    → (if (host == k) && test n then frames one else []) ≡ flat_map (by k) (outcome_happenings host one)
one-picked test frames by are k host n one is =
    passes (host == k) (test n) (frames one) is
    ∙ ap (λ (b : Bool). if b then frames one else []) (same-either_way host k)
    ∙ sym (are.at k host one)

all-picked : (test : ℕ → Bool) (frames : FrameOutcome → List (List ℕ)) (by : ℕ → Happening → List (List ℕ)) → AreTold frames by
    → (k limit n : ℕ) (steps : List AtomicStep) (a b : List StationState) → LeadsTo k steps a b → ((m : ℕ) → m ≤ limit → test m ≡ true)
    → n + length (past_at k steps).accesses ≤ limit
    → flat_map (picked test frames k) (steps_told n steps) ≡ flat_map (by k) (happened_in steps)
all-picked test frames by are k limit n [] a b leads passing few = refl
all-picked test frames by are k limit n (At host (Steps kind wire_free answer) ∷ steps) a b leads passing few =
    let step = At host (Steps kind wire_free answer) in
    let count = ap length (tick-accesses k step steps tt) in
    let one = one-picked test frames by are k host n answer (passing n (omega arith)) in
    let rest = all-picked test frames by are k limit n steps (after_atomic step a) b leads.2 passing (omega (arith, count)) in
    let append = flat_map-append (by k) (outcome_happenings host answer) (happened_in steps) in
    cc
all-picked test frames by are k limit n (At host (Arrives frame fate) ∷ steps) a b leads passing few =
    let step = At host (Arrives frame fate) in
    let count = ap length (tick-accesses k step steps tt) in
    let one = one-picked test frames by are k host n (Delivered frame fate) (passing n (omega arith)) in
    let rest = all-picked test frames by are k limit n steps (after_atomic step a) b leads.2 passing (omega (arith, count)) in
    let append = flat_map-append (by k) (outcome_happenings host (Delivered frame fate)) (happened_in steps) in
    cc
all-picked test frames by are k limit n (At host (Accesses access) ∷ steps) a b leads passing few =
    let count = ap length (own-accesses k host access steps leads.1) in
    all-picked test frames by are k limit (min (n + 1) most_accesses) steps (after_atomic (At host (Accesses access)) a) b leads.2 passing
    (omega (arith, count))
all-picked test frames by are k limit n (Idles tick ∷ steps) a b leads passing few =
    let none : picked test frames k (tick_told tick n Nothing) ≡ [] =
    ap (λ (list : List (List ℕ)). if is_of_host k tick && test n then list else []) are.none
    ∙ sym (chosen-none (is_of_host k tick && test n)) in
    ap (λ (list : List (List ℕ)). list ++ flat_map (picked test frames k) (steps_told n steps)) none
    ∙ all-picked test frames by are k limit n steps a b leads.2 passing few

none-picked : (test : ℕ → Bool) (frames : FrameOutcome → List (List ℕ)) (k limit n : ℕ) (steps : List AtomicStep)
    → ((m : ℕ) → limit < m → test m ≡ false) → limit < n → limit < most_accesses
    → flat_map (picked test frames k) (steps_told n steps) ≡ []
none-picked test frames k limit n [] failing above small = refl
none-picked test frames k limit n (At host (Steps kind wire_free answer) ∷ steps) failing above small =
    ap (λ (list : List (List ℕ)). list ++ flat_map (picked test frames k) (steps_told n steps))
    (fails (host == k) (test n) (frames answer) (failing n above))
    ∙ none-picked test frames k limit n steps failing above small
none-picked test frames k limit n (At host (Arrives frame fate) ∷ steps) failing above small =
    ap (λ (list : List (List ℕ)). list ++ flat_map (picked test frames k) (steps_told n steps))
    (fails (host == k) (test n) (frames (Delivered frame fate)) (failing n above))
    ∙ none-picked test frames k limit n steps failing above small
none-picked test frames k limit n (At host (Accesses access) ∷ steps) failing above small =
    none-picked test frames k limit (min (n + 1) most_accesses) steps failing (omega arith) small
none-picked test frames k limit n (Idles tick ∷ steps) failing above small =
    ap (λ (list : List (List ℕ)). list ++ flat_map (picked test frames k) (steps_told n steps))
    (fails (is_of_host k tick) (test n) (frames Nothing) (failing n above))
    ∙ none-picked test frames k limit n steps failing above small

-- The two tests: at most 2 accesses, and no access

up-to : (m : ℕ) → m ≤ 2 → nat_le m 2 ≡ true
up-to m few = le-leb m 2 few

beyond : (m : ℕ) → 2 < m → nat_le m 2 ≡ false
beyond m many = lt-leb m 2 many

pub early-puts : (k n : ℕ) (steps : List AtomicStep) (a b : List StationState) → LeadsTo k steps a b
    → n + length (past_at k steps).accesses ≤ 2 → flat_map (early_put k) (steps_told n steps) ≡ put k (happened_in steps)
early-puts k n steps a b leads few = all-picked (λ m. nat_le m 2) frames_put put_in_one put-told k 2 n steps a b leads up-to few

pub no-late_puts : (k n : ℕ) (steps : List AtomicStep) → 2 < n → flat_map (early_put k) (steps_told n steps) ≡ []
no-late_puts k n steps late = none-picked (λ m. nat_le m 2) frames_put k 2 n steps beyond late (omega arith)

pub first-stores : (k : ℕ) (steps : List AtomicStep) (a b : List StationState) → LeadsTo k steps a b
    → (past_at k steps).accesses ≡ [] → flat_map (first_stored k) (steps_told 0 steps) ≡ stored k (happened_in steps)
first-stores k steps a b leads none =
    all-picked (λ m. m == 0) frames_stored stored_by stored-told k 0 0 steps a b leads
    (λ m zero. eq-eqb m 0 (omega (arith, zero))) (omega (arith, ap length none))

pub no-later_stores : (k n : ℕ) (steps : List AtomicStep) → 0 < n → flat_map (first_stored k) (steps_told n steps) ≡ []
no-later_stores k n steps late =
    none-picked (λ m. m == 0) frames_stored k 0 n steps (λ m some. ne_eqb m 0 (λ zero. omega (arith, some, zero))) late (omega arith)
