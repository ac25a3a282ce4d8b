use Rattle.std.proofs.Common.{◌≡◌, ◌==◌, ◌∙◌, List, ap, refl, subst, sym, arith, rules}
use Rattle.std.proofs.lemmas.Grind.{common_steps}
use Rattle.std.specs.Vec.{with_items}
use Rattle.scenario.specs.Answers.{IsFaulty}
use Rattle.scenario.specs.Meanings.{IsItem, item_in, with_hosts}
use Rattle.scenario.specs.SoFar.{Host, hosts_of, so_far}
use Rattle.scenario.specs.Words.{texts, word}
use Rattle.scenario.specs.declared.line_kind.LineKind.TheVariants as line
use Rattle.scenario.specs.declared.refusal.Fault.{Fault}
use Rattle.scenario.proofs.LineFacts.{change-read, none-before, room-read, some-before, text-count}
use Rattle.scenario.proofs.setup_line.read_item.Goals as goal

pub returns-then-words-ne-ITEM_WORDS : goal.returns-then-words-ne-ITEM_WORDS
returns-then-words-ne-ITEM_WORDS c = λ three. c.if-words-ne-ITEM_WORDS.true (sym (text-count c.args.words.now) ∙ three)

pub returns-in_default : goal.returns-in_default
returns-in_default c = (
  text-count c.args.words.now ∙ c.if-words-ne-ITEM_WORDS.false,
  λ form. c.in_default.ensures (subst (IsItem c.args.kind) (sym c.word_at.ensures) form),
)

pub returns-in-Err : goal.returns-in-Err
returns-in-Err c =
    let words = texts c.args.words.now in
    let plans = c.args.scenario.now.plan.hosts.items in
    let item = c.in-Some.ensures.1 ∙ ap (item_in c.args.kind) c.word_at.ensures in
    subst (λ (f : Fault). IsFaulty (line.Item c.args.kind) (so_far c.args.scenario.now) words f) (sym c.in-Err.ensures.0) (
      text-count c.args.words.now ∙ c.if-words-ne-ITEM_WORDS.false,
      subst (IsItem c.args.kind) c.word_at.ensures c.in-Some.ensures.0,
      λ room. c.in-Err.ensures.1
          (room-read (word 1 words) c.word_at-2.result.now (item_in c.args.kind (word 2 words)) c.in-Some.item plans
          c.as_mut_slice.result.now (sym c.word_at-2.ensures) (sym item) (sym c.as_mut_slice.ensures.value) room),
    )

pub returns-then-not-is_empty : goal.returns-then-not-is_empty
returns-then-not-is_empty c =
    let words = texts c.args.words.now in
    let item = c.in-Some.ensures.1 ∙ ap (item_in c.args.kind) c.word_at.ensures in (
      text-count c.args.words.now ∙ c.if-words-ne-ITEM_WORDS.false,
      subst (IsItem c.args.kind) c.word_at.ensures c.in-Some.ensures.0,
      room-read c.word_at-2.result.now (word 1 words) c.in-Some.item (item_in c.args.kind (word 2 words)) c.as_mut_slice.result.now
          c.args.scenario.now.plan.hosts.items c.word_at-2.ensures item c.as_mut_slice.ensures.value c.in_default-add_item.ensures.0,
      λ order. some-before c.args.scenario.now.commands.items c.is_empty.result
          (c.is_empty.ensures ∙ ap (λ n. n == 0) c.args.scenario.now.commands.ok.0) c.if-not-is_empty.true (order refl),
    )

pub returns : goal.returns
returns c =
    let words = texts c.args.words.now in
    let before = so_far c.args.scenario.now in
    let stored : (with_items c.args.scenario.now.plan.hosts c.add_item.new.hosts).items ≡ c.add_item.new.hosts =
    first_of (search rules, grind (arith, common_steps)) in
    let item = c.in-Some.ensures.1 ∙ ap (item_in c.args.kind) c.word_at.ensures in (
      record {
        count = text-count c.args.words.now ∙ c.if-words-ne-ITEM_WORDS.false;
        values = subst (IsItem c.args.kind) c.word_at.ensures c.in-Some.ensures.0;
        names = room-read c.word_at-2.result.now (word 1 words) c.in-Some.item (item_in c.args.kind (word 2 words))
            c.as_mut_slice.result.now c.args.scenario.now.plan.hosts.items c.word_at-2.ensures item c.as_mut_slice.ensures.value
            c.in_default-add_item.ensures.0;
        order = λ _. none-before c.args.scenario.now.commands.items c.is_empty.result
            (c.is_empty.ensures ∙ ap (λ n. n == 0) c.args.scenario.now.commands.ok.0) c.if-not-is_empty.false;
      },
      ap (λ (hosts : List Host). with_hosts hosts before) (ap hosts_of stored ∙ c.in_default-add_item.ensures.1
          ∙ change-read c.word_at-2.result.now (word 1 words) c.in-Some.item (item_in c.args.kind (word 2 words))
          c.as_mut_slice.result.now c.args.scenario.now.plan.hosts.items c.word_at-2.ensures item c.as_mut_slice.ensures.value),
    )
