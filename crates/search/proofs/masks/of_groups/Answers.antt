use Rattle.std.proofs.Common.{◌∙◌, ap, sym}
use Rattle.search.specs.Actions.{is_possible}
use Rattle.search.specs.declared.actions.Action.{Action}
use Rattle.search.proofs.Bits.{grouped-more}
use Rattle.search.proofs.masks.of_groups.Goals as goal
use Rattle.search.proofs.masks.of_groups.Goals.{then-is_in+then-is_in-2, else-is_in}

pub loop-number-preserved : goal.loop-number-preserved
loop-number-preserved c =
    elim c.if-is_in.branch [
      | then-is_in+then-is_in-2 w ↦ λ other is.
          grouped-more c.args.actions.now c.args.mask c.args.groups c.loop-number.found c.if-is_in.found
          c.loop-number.number other c.loop-number.invariant (sym c.is_in.ensures ∙ w.if-is_in.true)
          (ap (λ (found : Action). is_possible c.args.groups found.group) (sym w.action_at.ensures)
          ∙ sym w.is_in-then-is_in.ensures ∙ w.if-is_in-2.true)
          (ap (λ mask. is_possible mask other) w.found-is ∙ w.with-found.ensures other) is
      | else-is_in w ↦ λ other is.
          c.loop-number.invariant other (ap (λ mask. is_possible mask other) (sym w.found-is) ∙ is)
    ]
