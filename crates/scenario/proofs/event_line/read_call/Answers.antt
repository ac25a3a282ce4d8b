use Rattle.std.proofs.Common.{◌≡◌, ◌∙◌, ℕ, List, Bor, length, ap, subst, sym}
use Rattle.std.proofs.lemmas.Bool.{false≢true}
use Rattle.scenario.specs.Answers.{IsFaulty}
use Rattle.scenario.specs.Meanings.{AreKnown, CanAsk, are_ticks, call_words, with_command}
use Rattle.scenario.specs.SoFar.{hosts_of, said_of_call, so_far}
use Rattle.scenario.specs.Words.{Text, texts, word}
use Rattle.scenario.specs.declared.line_kind.LineKind.TheVariants as line
use Rattle.scenario.specs.declared.refusal.Fault.{Fault}
use Rattle.scenario.proofs.LineFacts.{answer-stopped, call-faulty, call-said, each-fault, line-said-by, text-count}
use Rattle.scenario.proofs.event_line.read_call.Goals as goal

pub returns-then-words-size_of_call : goal.returns-then-words-size_of_call
returns-then-words-size_of_call c = λ size. c.if-words-size_of_call.true
    (sym (text-count c.split_at_word.result.0.now) ∙ ap length c.split_at_word.ensures.before ∙ size ∙ sym c.size_of_call.ensures)

counted : (part : List (Bor Text)) (words : List Text) (size count : ℕ) → texts part ≡ call_words words → length part ≡ count
    → count ≡ size → length (call_words words) ≡ size
counted part words size count before passes is = sym (ap length before) ∙ text-count part ∙ passes ∙ is

pub returns-in_err-call : goal.returns-in_err-call
returns-in_err-call c =
    let before = so_far c.args.scenario.now in
    let words = texts c.args.words.now in
    let count = counted _ words _ _ c.split_at_word.ensures.before c.if-words-size_of_call.false c.size_of_call.ensures in
    answer-stopped (line.Call c.args.kind) before before words c.from_residual.result _ c.from_residual.ensures.1
    (each-fault c.in_err-call.field-0.0 _ (IsFaulty (line.Call c.args.kind) before words)
    (λ f told. subst (λ (one : Fault). IsFaulty (line.Call c.args.kind) before words one) (sym told.0) (
      count,
      λ values. told.1 (subst (CanAsk c.args.kind) (sym c.split_at_word.ensures.before) values.0),
    ))
    c.in_err-call.ensures.err)

pub returns-in_err-host : goal.returns-in_err-host
returns-in_err-host c =
    let before = so_far c.args.scenario.now in
    let words = texts c.args.words.now in
    let count = counted _ words _ _ c.split_at_word.ensures.before c.if-words-size_of_call.false c.size_of_call.ensures in
    answer-stopped (line.Call c.args.kind) before before words c.from_residual-in_err-host.result _ c.from_residual-in_err-host.ensures.1
    (each-fault c.in_err-host.field-0.0 _ (IsFaulty (line.Call c.args.kind) before words)
    (λ f told. call-faulty c.args.kind before words (texts c.split_at_word.result.0.now) (texts c.split_at_word.result.1.now)
    (hosts_of c.hosts.result.now) c.word_at.result.now f (ap hosts_of c.hosts.ensures) c.word_at.ensures
    c.split_at_word.ensures.before c.split_at_word.ensures.after count c.in_ok-call.ensures.ok.form told)
    c.in_err-host.ensures.err)

pub returns : goal.returns
returns c =
    let before = so_far c.args.scenario.now in
    let words = texts c.args.words.now in
    let count = counted _ words _ _ c.split_at_word.ensures.before c.if-words-size_of_call.false c.size_of_call.ensures in
    let call = c.in_ok-host.ensures.ok in
    let said = said_of_call c.in_ok-call.call c.in_ok-host.host c.in_ok-host.ticks.items in
    let hosts = ap hosts_of c.hosts.ensures in
    let name = c.word_at.ensures ∙ ap (word 1) c.split_at_word.ensures.before in
    line-said-by (line.Call c.args.kind) before (so_far c.push_command.new.scenario) (with_command said before) words
    c.push_command.result
    (record {
      count = count;
      values = (
        subst (CanAsk c.args.kind) c.split_at_word.ensures.before c.in_ok-call.ensures.ok.form,
        sym (ap are_ticks c.split_at_word.ensures.after) ∙ call.spelled,
      );
      names = subst (λ ticks. AreKnown before.hosts (word 1 (call_words words)) ticks) c.split_at_word.ensures.after
          (subst (λ one. AreKnown before.hosts one (texts c.split_at_word.result.1.now)) name
          (subst (λ all. AreKnown all c.word_at.result.now (texts c.split_at_word.result.1.now)) hosts call.known));
      order = λ late. absurd (false≢true late);
    })
    (call-said c.args.kind before words (texts c.split_at_word.result.0.now) (texts c.split_at_word.result.1.now)
    (hosts_of c.hosts.result.now) c.word_at.result.now said c.in_ok-host.host c.in_ok-host.ticks.items
    hosts c.word_at.ensures c.split_at_word.ensures.before c.split_at_word.ensures.after
    (c.in_ok-call.ensures.ok.said c.in_ok-host.host c.in_ok-host.ticks.items) call.host call.inside)
    c.push_command.ensures.said c.push_command.ensures.memory
