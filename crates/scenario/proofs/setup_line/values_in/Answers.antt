use Rattle.std.proofs.Common.{◌≡◌, ◌==◌, ◌∙◌, true, is_some, ap, refl, subst, sym}
use Rattle.std.proofs.lemmas.Bool.{false≢true}
use Rattle.scenario.specs.HostOptions.{HaveValuesOnce, HaveRightForms, options_asked}
use Rattle.scenario.specs.Spellings.{IsAddressText, address_in}
use Rattle.scenario.proofs.LineFacts.{host-counted, host-valued, no-place, none-before, some-before}
use Rattle.scenario.proofs.setup_line.values_in.Goals as goal

pub returns-then-not-have_values_once-clause-err : goal.returns-then-not-have_values_once-clause-err
returns-then-not-have_values_once-clause-err c = λ has.
    let counted : c.have_values_once.result ≡ true =
    c.have_values_once.ensures.1 (subst HaveValuesOnce (sym c.requires.uses) has.options) in cc

pub returns-then-not-have_right_forms-clause-err : goal.returns-then-not-have_right_forms-clause-err
returns-then-not-have_right_forms-clause-err c = (
  host-counted c.args.words.now c.args.uses.now c.have_values_once.result c.requires.least c.requires.uses c.have_values_once.ensures
      c.if-not-have_values_once.false,
  λ values. let read : c.have_right_forms.result ≡ true =
      c.have_right_forms.ensures.1 (subst HaveRightForms (sym c.requires.uses) values.1) in cc,
)

pub returns-in_default-clause-err : goal.returns-in_default-clause-err
returns-in_default-clause-err c = (
  host-counted c.args.words.now c.args.uses.now c.have_values_once.result c.requires.least c.requires.uses c.have_values_once.ensures
      c.if-not-have_values_once.false,
  λ values. c.in_default.ensures (subst IsAddressText (sym c.word_at.ensures) values.0),
)

pub returns-then-is_some-clause-err : goal.returns-then-is_some-clause-err
returns-then-is_some-clause-err c =
    let place = rw c.word_at-2.ensures at c.host_named.ensures in (
      host-counted c.args.words.now c.args.uses.now c.have_values_once.result c.requires.least c.requires.uses c.have_values_once.ensures
          c.if-not-have_values_once.false,
      host-valued c.args.words.now c.args.uses.now c.word_at.result.now c.have_right_forms.result c.word_at.ensures
          c.in-Some.ensures.0 c.requires.uses c.have_right_forms.ensures c.if-not-have_right_forms.false,
      λ free. false≢true (ap is_some (sym (place ∙ free)) ∙ sym c.is_some.ensures ∙ c.if-is_some.true),
    )

pub returns-then-not-is_empty-clause-err : goal.returns-then-not-is_empty-clause-err
returns-then-not-is_empty-clause-err c =
    let free = no-place c.host_named.result c.is_some.result c.is_some.ensures c.if-is_some.false in
    let place = rw c.word_at-2.ensures at c.host_named.ensures in (
      host-counted c.args.words.now c.args.uses.now c.have_values_once.result c.requires.least c.requires.uses c.have_values_once.ensures
          c.if-not-have_values_once.false,
      host-valued c.args.words.now c.args.uses.now c.word_at.result.now c.have_right_forms.result c.word_at.ensures
          c.in-Some.ensures.0 c.requires.uses c.have_right_forms.ensures c.if-not-have_right_forms.false,
      sym place ∙ free,
      λ order. some-before c.args.scenario.now.commands.items c.is_empty.result
          (c.is_empty.ensures ∙ ap (λ n. n == 0) c.args.scenario.now.commands.ok.0) c.if-not-is_empty.true (order refl),
    )

pub returns-clause-ok : goal.returns-clause-ok
returns-clause-ok c =
    let free = no-place c.host_named.result c.is_some.result c.is_some.ensures c.if-is_some.false in
    let place = rw c.word_at-2.ensures at c.host_named.ensures in
    record {
      good = record {
        count = host-counted c.args.words.now c.args.uses.now c.have_values_once.result c.requires.least c.requires.uses
            c.have_values_once.ensures
            c.if-not-have_values_once.false;
        values = host-valued c.args.words.now c.args.uses.now c.word_at.result.now c.have_right_forms.result c.word_at.ensures
            c.in-Some.ensures.0 c.requires.uses c.have_right_forms.ensures c.if-not-have_right_forms.false;
        names = sym place ∙ free;
        order = λ _. none-before c.args.scenario.now.commands.items c.is_empty.result
            (c.is_empty.ensures ∙ ap (λ n. n == 0) c.args.scenario.now.commands.ok.0) c.if-not-is_empty.false;
      };
      address = c.in-Some.ensures.1 ∙ ap address_in c.word_at.ensures;
      options = c.options_of.ensures ∙ ap options_asked c.requires.uses;
    }
