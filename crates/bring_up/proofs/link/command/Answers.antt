use Rattle.adapter.proofs.Keeping.{keeps-on}
use Rattle.bring_up.proofs.PhyCommands.{answered, gives, unanswered, waits-on}
use Rattle.bring_up.proofs.link.command.Goals as goal

pub loop-init : goal.loop-init
loop-init g c = record {
  keeps = c.write.ensures.keeps;
  waits = λ honest. gives g.B.Bus c.args.bus.now c.write.new.self c.args.word (c.write.ensures.acts honest);
}

pub loop-preserved : goal.loop-preserved
loop-preserved g c =
    let before = c.loop.invariant in
    record {
      keeps = keeps-on g.B.Bus g.met.B.Bus.composes.lent_stays_on _ _ _ before.keeps c.read-answer.ensures.keeps;
      waits = λ honest.
          waits-on g.B.Bus g.met.B.Bus.composes.joins c.args.bus.now c.loop.bus c.read-answer.new.self c.args.word c.loop.counter
          c.read-answer.result c.requires before.keeps.lively (before.waits honest)
          (c.read-answer.ensures.acts (before.keeps.honest honest)) c.if-answer-ne0.false;
    }

pub returns-then-answer-eq0-clause-commands : goal.returns-then-answer-eq0-clause-commands
returns-then-answer-eq0-clause-commands g c honest =
    (answered g.B.Bus g.met.B.Bus.composes.joins c.args.bus.now c.loop.bus c.read-answer.new.self c.args.word c.loop.counter
    c.read-answer.result c.requires (c.loop.invariant.waits honest)
    (c.read-answer.ensures.acts (c.loop.invariant.keeps.honest honest)) c.if-answer-ne0.true).commands

pub returns-else-answer-eq0-clause-commands : goal.returns-else-answer-eq0-clause-commands
returns-else-answer-eq0-clause-commands g c honest =
    absurd (c.if-answer-eq0.false
    (answered g.B.Bus g.met.B.Bus.composes.joins c.args.bus.now c.loop.bus c.read-answer.new.self c.args.word c.loop.counter
    c.read-answer.result c.requires (c.loop.invariant.waits honest)
    (c.read-answer.ensures.acts (c.loop.invariant.keeps.honest honest)) c.if-answer-ne0.true).right)

pub returns-clause-commands : goal.returns-clause-commands
returns-clause-commands g c honest =
    unanswered g.B.Bus c.args.bus.now c.loop.bus c.args.word c.loop.counter c.loop-test.false
    (c.loop.invariant.waits honest)
