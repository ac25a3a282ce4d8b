use Rattle.std.proofs.Common.{◌+◌, ◌∙◌, arith, subst, sym}
use Rattle.search.proofs.Going.{Best, best-no, best-none, best-yes, waiting_within}
use Rattle.search.proofs.priorities.first_ready.Goals as goal
use Rattle.search.proofs.priorities.first_ready.Goals.{then-takes_over, else-takes_over}

pub loop-number-init : goal.loop-number-init
loop-number-init c = best-none c.args.priorities.now c.args.actions.now c.args.possible c.args.count

pub loop-number-preserved : goal.loop-number-preserved
loop-number-preserved c =
    elim c.if-takes_over.branch [
      | then-takes_over w ↦
          subst (Best c.args.priorities.now c.args.actions.now c.args.possible c.args.count (c.loop-number.number + 1))
          (sym w.first-is)
          (best-yes c.args.priorities.now c.args.actions.now c.args.possible c.args.count c.loop-number.number
          c.loop-number.first c.loop-number.invariant (omega arith) (sym c.takes_over.ensures ∙ w.if-takes_over.true))
      | else-takes_over w ↦
          subst (Best c.args.priorities.now c.args.actions.now c.args.possible c.args.count (c.loop-number.number + 1))
          (sym w.first-is)
          (best-no c.args.priorities.now c.args.actions.now c.args.possible c.args.count c.loop-number.number
          c.loop-number.first c.loop-number.invariant (sym c.takes_over.ensures ∙ w.if-takes_over.false))
    ]

pub returns-clause-found : goal.returns-clause-found
returns-clause-found c = λ some. (c.loop-number.invariant.found some).0

pub returns-clause-highest : goal.returns-clause-highest
returns-clause-highest c =
    λ other is.
    c.loop-number.invariant.highest other
    (omega (arith, waiting_within c.args.actions.now c.args.possible c.args.count other is)) is
