use Rattle.std.proofs.Common.{◌∙◌, ◌+◌, List, [], take, refl, subst, sym}
use Rattle.stations.specs.declared.tick.Tick.{Tick}
use Rattle.scenario.specs.Answers.{AreTicks}
use Rattle.scenario.specs.SoFar.{hosts_of}
use Rattle.scenario.specs.Words.{texts}
use Rattle.scenario.proofs.CallTicks.{all_read, no_ticks, one_more, one_unknown}
use Rattle.scenario.proofs.event_line.ticks_of.Goals as goal

pub loop-word-init : goal.loop-word-init
loop-word-init c =
    subst (λ (read : List Tick). AreTicks (hosts_of c.args.hosts.now) [] read) (sym c.new-ticks.ensures.items)
    (no_ticks (hosts_of c.args.hosts.now))

pub loop-word-preserved : goal.loop-word-preserved
loop-word-preserved c =
    let hosts = hosts_of c.args.hosts.now in
    subst (λ (read : List Tick). AreTicks hosts (texts (take (c.loop-word.word-index + 1) c.args.words.now)) read)
    (sym c.in_ok-push.ensures.items)
    (one_more hosts c.args.words.now c.loop-word.word-index _ c.in-Some.tick c.loop-word.ticks.items c.loop-word-test.true
    (sym c.tick_of.ensures ∙ c.in-Some.is) c.loop-word.invariant)

pub returns-in_default-clause-err : goal.returns-in_default-clause-err
returns-in_default-clause-err c =
    let hosts = hosts_of c.args.hosts.now in (
      refl,
      one_unknown hosts c.args.words.now c.loop-word.word-index _ c.loop-word-test.true (sym c.tick_of.ensures ∙ c.in_default.is),
    )

pub returns-clause-ok : goal.returns-clause-ok
returns-clause-ok c =
    all_read (hosts_of c.args.hosts.now) c.args.words.now c.loop-word.word-index c.loop-word.ticks.items c.loop-word-test.false
    c.loop-word.invariant
