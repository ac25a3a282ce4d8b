-- The traces of several sinks are written one after the other: the invariant of the loop in `KeptFrames::write`.
use Rattle.std.proofs.Common.{◌≡◌, ◌<◌, ◌+◌, ◌∷◌, [], zero, suc, ℕ, List, Option, Some, None, length, map, slice_get, slice_set}
use Rattle.std.proofs.Common.{get_or, option_map}
use Rattle.std.specs.List.{All}
use Rattle.std.proofs.Common.{inl, inr, refl, sym, ap, subst, ◌∙◌, arith}
use Rattle.std.proofs.lemmas.Bool.Decides.{eqb_tells}
use Rattle.std.proofs.lemmas.Option.{get_or_from_slice_get, slice_get-get_or, slice_get-map, slice_get_within}
use Rattle.circular_buffer.proofs.Places.{slice_get-set_other, slice_get-set_same}
use Rattle.pcap_trace.specs.Format.{Timed}
use Rattle.pcap_trace.specs.declared.unit.Unit.{Unit}
use Rattle.run_record.specs.Kept.{KeptFrame, frames_where}
use Rattle.run_record.specs.Traces.{is_in_trace, texts_in}
use Rattle.run_record.specs.declared.kept.Traces.{Traces}
use Rattle.run_record.proofs.Puts.{text_at}
use Rattle.run_record.specs.WrittenTraces.{AreWritten, AreWrittenUpTo, FailsAmong, SinkState, TakesText}

pub length-set : {X : Type 0} → (xs : List X) (i : ℕ) (x : X) → length (slice_set xs i x) ≡ length xs
length-set [] i x = refl
length-set (y ∷ xs) zero x = refl
length-set (y ∷ xs) (suc i) x = ap (λ (n : ℕ). suc n) (length-set xs i x)

pub map-set : {X Y : Type 0} → (f : X → Y) (xs : List X) (i : ℕ) (x : X) → map f (slice_set xs i x) ≡ slice_set (map f xs) i (f x)
map-set f [] i x = refl
map-set f (y ∷ xs) zero x = refl
map-set {X} {Y} f (y ∷ xs) (suc i) x = ap (λ (ys : List Y). f y ∷ ys) (map-set f xs i x)

one-of : {X : Type 0} → (a b : X) (found : Option X) → found ≡ Some a → found ≡ Some b → a ≡ b
one-of a b found is are = inside (sym is ∙ are)
  where
    inside : Some a ≡ Some b → a ≡ b
    inside e = cc

pub none_written : (unit : Unit) (texts : List (List Timed)) (old : List SinkState) → AreWritten unit 0 texts old old
none_written unit texts old = record {
  sinks = refl;
  whole = λ k text before after below. absurd (omega (arith, below));
  others = λ k past. refl;
}

pub as_before : (unit : Unit) (place : ℕ) (texts : List (List Timed)) (old new : List SinkState) (now : SinkState)
    → AreWritten unit place texts old new
    → slice_get new place ≡ Some now → slice_get old place ≡ Some now
as_before unit place texts old new now has there = sym (has.others place (omega arith)) ∙ there

pub one_written : (unit : Unit) (place : ℕ) (texts : List (List Timed)) (old new : List SinkState) (text : List Timed)
    (now later : SinkState)
    → AreWritten unit place texts old new → slice_get texts place ≡ Some text → slice_get new place ≡ Some now
    → TakesText unit text now later → AreWritten unit (place + 1) texts old (slice_set new place later)
one_written unit place texts old new text now later has text_is there takes = record {
  sinks = length-set new place later ∙ has.sinks;
  whole = λ k other before after below is was is_now. elim (eqb_tells k place) [
    | inl same ↦
        let text_same : text ≡ other = one-of text other (slice_get texts k) (ap (slice_get texts) same.1 ∙ text_is) is in
        let before_same : now ≡ before = one-of now before (slice_get old k)
        (ap (slice_get old) same.1 ∙ as_before unit place texts old new now has there) was in
        let after_same : later ≡ after = one-of later after (slice_get (slice_set new place later) k)
        (ap (slice_get (slice_set new place later)) same.1
        ∙ slice_get-set_same new place later (slice_get_within new place now there)) is_now in
        subst (λ (t : List Timed). TakesText unit t before after) text_same
        (subst (λ (b : SinkState). TakesText unit text b after) before_same
        (subst (λ (a : SinkState). TakesText unit text now a) after_same takes))
    | inr differ ↦ has.whole k other before after (omega (arith, below, differ.1)) is was
        (sym (slice_get-set_other new place k later differ.1) ∙ is_now)
  ];
  others = λ k past. slice_get-set_other new place k later (λ same. absurd (omega (arith, same, past)))
      ∙ has.others k (omega (arith, past));
}

pub one_failed : (unit : Unit) (place : ℕ) (texts : List (List Timed)) (old new : List SinkState) (text : List Timed)
    (now later : SinkState)
    → AreWritten unit place texts old new → slice_get texts place ≡ Some text → slice_get new place ≡ Some now
    → FailsAmong unit text now later → AreWrittenUpTo unit place texts old (slice_set new place later)
one_failed unit place texts old new text now later has text_is there fails = record {
  sinks = length-set new place later ∙ has.sinks;
  sink = slice_get_within old place now (as_before unit place texts old new now has there);
  there = slice_get_within texts place text text_is;
  whole = λ k other before after below is was is_now. has.whole k other before after below is was
      (sym (slice_get-set_other new place k later (λ same. absurd (omega (arith, same, below)))) ∙ is_now);
  fails = λ other before after is was is_now.
      let text_same : text ≡ other = one-of text other (slice_get texts place) text_is is in
      let before_same : now ≡ before = one-of now before (slice_get old place) (as_before unit place texts old new now has there) was in
      let after_same : later ≡ after = one-of later after (slice_get (slice_set new place later) place)
      (slice_get-set_same new place later (slice_get_within new place now there)) is_now in
      subst (λ (t : List Timed). FailsAmong unit t before after) text_same
      (subst (λ (b : SinkState). FailsAmong unit text b after) before_same
      (subst (λ (a : SinkState). FailsAmong unit text now a) after_same fails));
  others = λ k past. slice_get-set_other new place k later (λ same. absurd (omega (arith, same, past)))
      ∙ has.others k (omega (arith, past));
}

-- The states of sinks.

module _ {S : Type 0} (taken : S → Option (List ℕ)) (failures : S → ℕ) where
  abbrev pub state_of : S → SinkState
  state_of sink = record { taken = taken sink; failures = failures sink }

  at_place : (sinks : List S) (place : ℕ) (now : S) → slice_get sinks place ≡ Some now
      → slice_get (map state_of sinks) place ≡ Some (state_of now)
  at_place sinks place now there = slice_get-map state_of sinks place ∙ ap (option_map state_of) there

  found_as : (most : ℕ) (found : Option S) (now : S) → ((sink : S) → found ≡ Some sink → failures sink < most)
      → option_map state_of found ≡ Some (state_of now) → failures now < most
  found_as most None now countable is = cc
  found_as most (Some sink) now countable is =
      let same : state_of sink ≡ state_of now = inside (state_of sink) (state_of now) is in
      subst (λ (n : ℕ). n < most) (ap (λ (s : SinkState). s.failures) same) (countable sink refl)
    where
      inside : (a b : SinkState) → Some a ≡ Some b → a ≡ b
      inside a b e = cc

  -- The sinks before this place are written. At this place, the trace has the frames `text`, and the sink is `now`.
  pub record AtSink (unit : Unit) (place : ℕ) (texts : List (List Timed)) (old new : List S) (text : List Timed) (now : S) : Type 0 where
    pub written : AreWritten unit place texts (map state_of old) (map state_of new)
    pub text_is : slice_get texts place ≡ Some text
    pub there : slice_get new place ≡ Some now

  pub still_countable : {unit : Unit} {place : ℕ} {texts : List (List Timed)} {old new : List S} {text : List Timed} {now : S} (most : ℕ)
      → AtSink unit place texts old new text now → All (λ (sink : S). failures sink < most) old → failures now < most
  still_countable {unit} {place} {texts} {old} {new} {text} {now} most at countable =
      found_as most (slice_get old place) now (λ sink is. subst (λ (s : S). failures s < most)
      (get_or_from_slice_get old place sink sink is) (countable place sink (slice_get_within old place sink is)))
      (sym (slice_get-map state_of old place)
      ∙ as_before unit place texts (map state_of old) (map state_of new) (state_of now) at.written (at_place new place now at.there))

  pub sink_written : {unit : Unit} {place : ℕ} {texts : List (List Timed)} {old new : List S} {text : List Timed} {now : S} (later : S)
      → AtSink unit place texts old new text now → TakesText unit text (state_of now) (state_of later)
      → AreWritten unit (place + 1) texts (map state_of old) (map state_of (slice_set new place later))
  sink_written {unit} {place} {texts} {old} {new} {text} {now} later at takes =
      subst (AreWritten unit (place + 1) texts (map state_of old)) (sym (map-set state_of new place later))
      (one_written unit place texts (map state_of old) (map state_of new) text (state_of now) (state_of later) at.written at.text_is
      (at_place new place now at.there) takes)

  pub sink_failed : {unit : Unit} {place : ℕ} {texts : List (List Timed)} {old new : List S} {text : List Timed} {now : S} (later : S)
      → AtSink unit place texts old new text now → FailsAmong unit text (state_of now) (state_of later)
      → AreWrittenUpTo unit place texts (map state_of old) (map state_of (slice_set new place later))
  sink_failed {unit} {place} {texts} {old} {new} {text} {now} later at fails =
      subst (AreWrittenUpTo unit place texts (map state_of old)) (sym (map-set state_of new place later))
      (one_failed unit place texts (map state_of old) (map state_of new) text (state_of now) (state_of later) at.written at.text_is
      (at_place new place now at.there) fails)

  pub at-sink : (unit : Unit) (traces : Traces) (frames : List KeptFrame) (place : ℕ) (old new : List S) (default : S)
      → place < length new → place < length (texts_in traces frames)
      → AreWritten unit place (texts_in traces frames) (map state_of old) (map state_of new)
      → AtSink unit place (texts_in traces frames) old new (frames_where (is_in_trace traces place) frames) (get_or new place default)
  at-sink unit traces frames place old new default there below written =
      record { written = written; text_is = text_at traces frames place below; there = slice_get-get_or new place default there }
