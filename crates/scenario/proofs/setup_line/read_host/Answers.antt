use Rattle.std.proofs.Common.{◌≡◌, ◌∙◌, ◌++◌, ℕ, List, [], ◌∷◌, ap, arith}
use Rattle.scenario.specs.Meanings.{host_described, host_of_words, with_hosts}
use Rattle.scenario.specs.SoFar.{Host, hosts_of, so_far}
use Rattle.scenario.specs.Spellings.{address_in}
use Rattle.scenario.specs.Words.{Text, texts, word}
use Rattle.scenario.specs.declared.line_kind.LineKind.TheVariants as line
use Rattle.scenario.proofs.LineFacts.{answer-stopped, text-count}
use Rattle.scenario.proofs.setup_line.read_host.Goals as goal

pub word_at-name-requires : goal.word_at-name-requires
word_at-name-requires c = omega (arith, text-count c.args.words.now, c.in_ok-address.ensures.ok.good.count.least)

pub word_at-wire-requires : goal.word_at-wire-requires
word_at-wire-requires c = omega (arith, text-count c.args.words.now, c.in_ok-address.ensures.ok.good.count.least)

pub returns : goal.returns
returns c =
    let words = texts c.args.words.now in
    let read = c.in_ok-address in
    let host : host_described c.word_at-name.result.now read.address c.word_at-wire.result.now read.options ≡ host_of_words words =
    ap (λ (name : Text). host_described name read.address c.word_at-wire.result.now read.options) c.word_at-name.ensures
    ∙ ap (λ (wire : Text). host_described (word 1 words) read.address wire read.options) c.word_at-wire.ensures
    ∙ ap (λ (address : List ℕ). host_described (word 1 words) address (word 3 words) read.options) read.ensures.ok.address
    ∙ ap (host_described (word 1 words) (address_in (word 2 words)) (word 3 words)) read.ensures.ok.options in (
      read.ensures.ok.good,
      ap (λ (hosts : List Host). with_hosts hosts (so_far c.args.scenario.now))
          (c.in_ok-add_host.ensures ∙ ap (λ (host : Host). hosts_of c.args.scenario.now.plan.hosts.items ++ host ∷ []) host),
    )

pub returns-in_err-address : goal.returns-in_err-address
returns-in_err-address c = answer-stopped line.Host (so_far c.args.scenario.now) _ (texts c.args.words.now) c.from_residual.result _
    c.from_residual.ensures.1 c.in_err-address.ensures.err

pub returns-in_err-add_host : goal.returns-in_err-add_host
returns-in_err-add_host c = answer-stopped line.Host (so_far c.args.scenario.now) _ (texts c.args.words.now)
    c.from_residual-in_err-add_host.result _ c.from_residual-in_err-add_host.ensures.1 tt
