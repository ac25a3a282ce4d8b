use Rattle.std.proofs.Common.{arith, subst, sym}
use Rattle.scenario.specs.Answers.{IsRefused}
use Rattle.scenario.specs.SoFar.{so_far}
use Rattle.scenario.specs.declared.refusal.Refusal.{Refusal}
use Rattle.scenario.proofs.ReadLines.{read_all, read_more, read_stop}
use Rattle.scenario.proofs.command.Scenario.read.Goals as goal

pub loop-start-preserved : goal.loop-start-preserved
loop-start-preserved c =
    read_more c.args.text.now c.loop-start.start c.loop-start.line c.first_line-taken.result.1 (so_far c.loop-start.scenario)
    (so_far c.read_numbered.new.scenario) c.first_line-taken.result.0.now c.split_at.result.1.now c.loop-start.invariant
    c.split_at.ensures.back c.first_line-taken.ensures.first c.first_line-taken.ensures.taken c.first_line-taken.ensures.within
    c.in-Ok.ensures.0 c.in-Ok.ensures.1

pub returns-in-Err-clause-refused : goal.returns-in-Err-clause-refused
returns-in-Err-clause-refused c =
    let stopped = read_stop c.args.text.now c.loop-start.start c.loop-start.line c.first_line-taken.result.1 (so_far c.loop-start.scenario)
    c.first_line-taken.result.0.now c.split_at.result.1.now c.in-Err.stop c.loop-start.invariant c.split_at.ensures.back
    c.first_line-taken.ensures.first c.in-Err.ensures in
    subst (λ (refused : Refusal). IsRefused c.args.text.now refused) (sym c.at.ensures) stopped

pub returns-clause-read : goal.returns-clause-read
returns-clause-read c =
    read_all c.args.text.now c.loop-start.start c.loop-start.line (so_far c.loop-start.scenario) c.loop-start.invariant (omega arith)
