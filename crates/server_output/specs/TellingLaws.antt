-- What the observer wrote and kept in two consecutive intervals is what it wrote and kept in the whole interval.
use Rattle.std.proofs.Common.{◌≡◌, ◌++◌, ◌∙◌, ℕ, Bool, List, [], ◌∷◌, Option, Some, None, append_assoc, ap, refl, subst, sym}
use Rattle.std.proofs.lemmas.Grind.{flat_map-append}
use Rattle.std.specs.List.{flat_map}
use Rattle.std.specs.Io.KnownBytes.{Keeps}
use Rattle.played_adapter.specs.Told.{Accessed, Arrived, Line, Noted, OfferedArrived, Stepped, Told}
use Rattle.server_output.specs.Order.{WritesPart}
use Rattle.server_output.specs.Telling.{Heard, WroteText, kept_after, kept_one, text_of, told_text}
use Rattle.server_output.specs.Texts.{Text}
use Rattle.server_output.specs.declared.answer_error.AnswerError.{AnswerError}
use Rattle.server_output.specs.declared.kept.Kept.{Kept}
use Rattle.server_output.specs.WritingLaws.{appends_kept, appends_none, appends_then, keeps_same, part_then}

-- The name of a loan doesn't change: in an interval without events, and in two consecutive intervals.
pub lent_stays : {N : Type 0} (a : N) → a ≡ a
lent_stays a = refl

pub lent_joins : {N : Type 0} (a b c : N) → b ≡ a → c ≡ b → c ≡ a
lent_joins a b c one two = two ∙ one

text_stays : (stop : Option AnswerError) (now : Option (List ℕ)) → WroteText stop stop now now []
text_stays None now = appends_none now
text_stays (Some error) now = (refl, keeps_same now)

keeps_then : (a b c : Option (List ℕ)) → Keeps a b → Keeps b c → Keeps a c
keeps_then None b c one two = tt
keeps_then (Some a) None c one two = absurd one
keeps_then (Some a) (Some b) None one two = absurd two
keeps_then (Some a) (Some b) (Some c) one two = two ∙ one

pub part_kept : (a b c : Option (List ℕ)) (first later : Text) → WritesPart a b first → Keeps b c → WritesPart a c (first ++ later)
part_kept a b c first later part kept = record {
  text = part.text;
  holds = record {
    text = first ++ later;
    rest = part.holds.rest ++ later;
    holds = refl;
    text_is = ap (λ (t : Text). t ++ later) (sym part.holds.holds ∙ part.holds.text_is) ∙ append_assoc part.text part.holds.rest later;
  };
  written = appends_kept a b c part.text part.written kept;
}

pub texts_join : (s s' s'' : Option AnswerError) (a b c : Option (List ℕ)) (first later : Text) → WroteText s s' a b first
    → WroteText s' s'' b c later → WroteText s s'' a c (first ++ later)
texts_join (Some e) None s'' a b c first later one two = absurd (cc)
texts_join (Some e) (Some f) s'' a b c first later one two = (two.0 ∙ one.0, keeps_then a b c one.1 two.1)
texts_join None None None a b c first later one two = appends_then a b c first later one two
texts_join None None (Some e) a b c first later one two =
    part_then (λ (t : Text). t ≡ first) (λ (t : Text). t ≡ later) (λ (t : Text). t ≡ first ++ later) a b c
    (λ f l same other. ap (λ (t : Text). t ++ l) same ∙ ap (λ (t : Text). first ++ t) other)
    (record { text = first; holds = refl; written = one }) two
texts_join None (Some e) None a b c first later one two = absurd (cc)
texts_join None (Some e) (Some f) a b c first later one two = part_kept a b c first later one two.1

same_settings : (told : List Told) (kept : Kept) → ((kept_after told kept).log ≡ kept.log) × ((kept_after told kept).events ≡ kept.events)
same_settings [] kept = (refl, refl)
same_settings (Stepped kind outcome fault ∷ later) kept = same_settings later (kept_one (Stepped kind outcome fault) kept)
same_settings (Arrived frame fate ∷ later) kept = same_settings later kept
same_settings (OfferedArrived frame fate ∷ later) kept = same_settings later kept
same_settings (Accessed access ∷ later) kept = same_settings later kept
same_settings (Line level ∷ later) kept = same_settings later kept
same_settings (Noted action ∷ later) kept = same_settings later (kept_one (Noted action) kept)

kept_then : (first later : List Told) (kept : Kept) → kept_after later (kept_after first kept) ≡ kept_after (first ++ later) kept
kept_then [] later kept = refl
kept_then (one ∷ first) later kept = kept_then first later (kept_one one kept)

-- What was told first doesn't change `log` and `events`, so the later text is the same as with the settings at the start.
later_text : (first later : List Told) (said : Text) (kept kept' : Kept) → kept' ≡ kept_after first kept
    → text_of kept' said later ≡ text_of kept said later
later_text first later said kept kept' is =
    let same = same_settings first kept in
    ap (λ (k : Kept). text_of k said later) is
    ∙ ap (λ (log : Bool). flat_map (told_text log (kept_after first kept).events said) later) same.0
    ∙ ap (λ (events : Bool). flat_map (told_text kept.log events said) later) same.1

wrote_joins : (said said' : Text) (kept kept' : Kept) (s s' s'' : Option AnswerError) (a b c : Option (List ℕ)) (first later : List Told)
    → said' ≡ said → WroteText s s' a b (text_of kept said first) → (s' ≡ None → kept' ≡ kept_after first kept)
    → WroteText s' s'' b c (text_of kept' said' later) → WroteText s s'' a c (text_of kept said (first ++ later))
wrote_joins said said' kept kept' s None s'' a b c first later same one is two =
    let text = ap (λ (t : Text). text_of kept' t later) same ∙ later_text first later said kept kept' (is refl) in
    subst (λ (t : Text). WroteText s s'' a c t) (sym (flat_map-append (told_text kept.log kept.events said) first later))
    (texts_join s None s'' a b c (text_of kept said first) (text_of kept said later) one
    (subst (λ (t : Text). WroteText None s'' b c t) text two))
wrote_joins said said' kept kept' s (Some error) s'' a b c first later same one is two =
    subst (λ (t : Text). WroteText s s'' a c t) (sym (flat_map-append (told_text kept.log kept.events said) first later))
    (texts_join s (Some error) s'' a b c (text_of kept said first) (text_of kept said later) one two)

-- If writing hasn't stopped at the end, it hadn't stopped before.
went_on : (s s' : Option AnswerError) (b c : Option (List ℕ)) (text : Text) → WroteText s s' b c text → s' ≡ None → s ≡ None
went_on None s' b c text wrote none = refl
went_on (Some error) s' b c text wrote none = absurd (cc)

-- In an interval without events, nothing was written, and what is kept is the same.
pub heard_stays : (said : Text) (kept : Kept) (stop : Option AnswerError) (now : Option (List ℕ))
    → Heard said said kept kept stop stop now now []
heard_stays said kept stop now = record { said_is = refl; wrote = text_stays stop now; kept_is = λ none. refl }

-- The lists that were told in two consecutive intervals, joined, were told in the whole interval.
pub written_joins : (said said' said'' : Text) (k k' k'' : Kept) (s s' s'' : Option AnswerError) (a b c : Option (List ℕ))
    (first later : List Told) → Heard said said' k k' s s' a b first → Heard said' said'' k' k'' s' s'' b c later
    → Heard said said'' k k'' s s'' a c (first ++ later)
written_joins said said' said'' k k' k'' s s' s'' a b c first later one two = record {
  said_is = two.said_is ∙ one.said_is;
  wrote = wrote_joins said said' k k' s s' s'' a b c first later one.said_is one.wrote one.kept_is two.wrote;
  kept_is = λ none. two.kept_is none ∙ ap (kept_after later) (one.kept_is (went_on s' s'' b c _ two.wrote none)) ∙ kept_then first later k;
}
