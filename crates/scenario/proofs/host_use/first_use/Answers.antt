use Rattle.std.proofs.Common.{◌≡◌, ◌∙◌, List, [], ◌∷◌, true, false, Bor, Option, Some, None, ap, drop, refl, slice_get, sym}
use Rattle.scenario.specs.HostOptions.{follows, option_named, use_with, use_without, uses_in}
use Rattle.scenario.specs.Words.{Text, texts}
use Rattle.scenario.specs.declared.host_use.HostUse.{HostUse}
use Rattle.scenario.specs.declared.host_use.OptionKind.{OptionKind}
use Rattle.scenario.proofs.host_use.first_use.Goals as goal

lone : (word : Text) (behind : List (Bor Text)) (option : Option OptionKind) → option_named word ≡ option → follows option ≡ false
    → uses_in (word ∷ texts behind) ≡ use_without option ∷ uses_in (texts behind)
lone word [] option named none = rw named refl
lone word (value ∷ behind) option named none = rw (named, none) refl

last : (word : Text) (behind : List (Bor Text)) (option : Option OptionKind) → option_named word ≡ option → None ≡ slice_get behind 0
    → uses_in (word ∷ texts behind) ≡ use_without option ∷ uses_in (texts behind)
last word [] option named end = rw named refl
last word (value ∷ behind) option named end = absurd cc

valued : (word : Text) (behind : List (Bor Text)) (option : Option OptionKind) (value : Bor Text) → option_named word ≡ option
    → follows option ≡ true → Some value ≡ slice_get behind 0
    → uses_in (word ∷ texts behind) ≡ use_with option value.now ∷ uses_in (texts (drop 1 behind))
valued word [] option value named takes first = absurd cc
valued word (one ∷ behind) option value named takes first =
    let same : one ≡ value = cc in
    rw (named, takes) (ap (λ (w : Bor Text). use_with option w.now ∷ uses_in (texts behind)) same)

pub returns-in_default-clause-first : goal.returns-in_default-clause-first
returns-in_default-clause-first c = lone c.args.word.now c.args.behind.now None (sym c.in_default.ensures) refl

pub returns-then-not-takes_value-clause-first : goal.returns-then-not-takes_value-clause-first
returns-then-not-takes_value-clause-first c =
    lone c.args.word.now c.args.behind.now (Some c.in-Some.kind) (sym c.in-Some.ensures)
    (sym c.takes_value.ensures ∙ c.if-not-takes_value.true)
    ∙ ap (λ (one : HostUse). one ∷ uses_in (texts c.args.behind.now)) (sym c.without_value.ensures)

pub returns-in-Some-first-clause-first : goal.returns-in-Some-first-clause-first
returns-in-Some-first-clause-first c =
    valued c.args.word.now c.args.behind.now (Some c.in-Some.kind) c.in-Some-first.value.now (sym c.in-Some.ensures)
    (sym c.takes_value.ensures ∙ c.if-not-takes_value.false) c.in-Some-first.ensures.value
    ∙ ap (λ (one : HostUse). one ∷ uses_in (texts (drop 1 c.args.behind.now))) (sym c.with_value.ensures)

pub returns-in-None-clause-first : goal.returns-in-None-clause-first
returns-in-None-clause-first c =
    last c.args.word.now c.args.behind.now (Some c.in-Some.kind) (sym c.in-Some.ensures) c.in-None.ensures.value
    ∙ ap (λ (one : HostUse). one ∷ uses_in (texts c.args.behind.now)) (sym c.without_value-in-None.ensures)
