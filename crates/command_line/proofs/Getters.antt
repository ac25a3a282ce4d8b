-- The results of clap's getters, and the texts in its matches.
use Rattle.std.specs.Borrow.{Bor}
use Rattle.std.specs.Prelude.{Option, Some, None, option_map, IsSome, codes, Result, Ok, Err, IfErr, IsErrAnd, List}
use Rattle.std.proofs.Common.{◌≡◌, ◌∙◌, Bool, ap, refl, subst, sym, true, true≢false}
use Rattle.std.specs.Option.{option_eq}
use Rattle.std.specs.Str.{bytes_eq}
use Rattle.std.proofs.lemmas.Slice.Eq.{bytes_eq-Decides}
use Rattle.std.proofs.lemmas.Option.{same_Some}
use Rattle.clap.proofs.WalkLemmas.{first_value-rows}
use Rattle.clap.specs.Words.{Row, Text, first_of, first_value, rows_of}
use Rattle.clap.specs.declared.parser.matches.Found.{Found}
use Rattle.command_line.specs.Jobs.{IsFlagOf, IsMisspelled, IsMisspelledAs, IsMisspelledOf, IsValueOr, has_option}
use Rattle.command_line.specs.declared.job.ValueOption.{ValueOption}

pub text_of : (found : Found) (id : Text) (got : Option (Bor Text)) → option_map (λ s. s.now) got ≡ first_value found id
    → first_of id (rows_of found) ≡ option_map (λ s. s.now) got
text_of found id got e = sym (first_value-rows found id) ∙ sym e

pub text_is : (first : Option Text) (got : Option (Bor Text)) → first ≡ option_map (λ s. s.now) got → {text : Bor Text} → got ≡ Some text
    → first ≡ Some text.now
text_is first got e is = e ∙ ap (λ (o : Option (Bor Text)). option_map (λ s. s.now) o) is

is_some_mapped : (got : Option (Bor Text)) → IsSome (option_map (λ s. s.now) got) → IsSome got
is_some_mapped None h = h
is_some_mapped (Some x) h = h

pub got_some : (first : Option Text) (got : Option (Bor Text)) → first ≡ option_map (λ s. s.now) got → IsSome first → IsSome got
got_some first got e has = is_some_mapped got (subst (λ (o : Option Text). IsSome o) e has)

pub of_given_or_default : {V : Type 0} (spells : Text → V → Type 0) (default : V) (P : V → Type 0) → P default
    → ((text : Text) (value : V) → spells text value → P value)
    → (first : Option Text) (value : V) → IsValueOr spells default first value → P value
of_given_or_default spells default P base each None value h = subst P (sym h) base
of_given_or_default spells default P base each (Some text) value h = each text value h

pub flag_value : (first : Option Text) (got : Option (Bor Text)) (word : Bor Text) (flag : Bool) → word.now ≡ codes "true"
    → first ≡ option_map (λ s. s.now) got → flag ≡ option_eq (λ x y. bytes_eq x.now y.now) got (Some word) → IsFlagOf first flag
flag_value first None word flag word_is is set = (
  λ true_is. absurd (true≢false (sym true_is ∙ set)),
  λ same. absurd (none≢some (codes "true") (sym is ∙ same)),
)
  where
    none≢some : (text : Text) → None ≡ Some text → ⊥
    none≢some text same = cc
flag_value first (Some text) word flag word_is is set =
    let decides = bytes_eq-Decides text.now word.now in (
      λ true_is. is ∙ ap (λ (t : Text). Some t) (decides.0 (sym set ∙ true_is) ∙ word_is),
      λ same. set ∙ decides.1 (same_Some text.now (codes "true") (sym is ∙ same) ∙ sym word_is),
    )

pub is_there : (first : Option Text) (got : Option (Bor Text)) (text : Text) → first ≡ option_map (λ s. s.now) got → first ≡ Some text
    → IsSome got
is_there first (Some one) text e is = refl
is_there first None text e is = absurd cc

pub unspelled_here : (P : Text → Type 0) (first : Option Text) (text here : Text) → ¬ P text → first ≡ Some text → first ≡ Some here
    → ¬ P here
unspelled_here P first text here unspelled e f =
    subst (λ (t : Text). ¬ P t) (same_Some text here (sym e ∙ f)) unspelled

-- an option that was misspelled is returned as the error of a subcommand that has the option
pub refused_of : {T : Type 0} (name : Text) (rows : List Row) (wanted refused : ValueOption) (r : Result T ValueOption)
    → has_option name wanted ≡ true → IsMisspelledAs wanted rows refused → IsErrAnd r (λ made. made ≡ refused)
    → IfErr r (IsMisspelledOf name rows)
refused_of name rows wanted refused (Ok x) has wrong same = tt
refused_of name rows wanted refused (Err made) has wrong same = (
  ap (has_option name) (same ∙ wrong.0) ∙ has,
  subst (λ (option : ValueOption). IsMisspelled rows option) (sym same) wrong.1,
)
