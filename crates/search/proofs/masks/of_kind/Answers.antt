use Rattle.std.proofs.Common.{◌∙◌, ap, sym}
use Rattle.search.specs.Actions.{is_possible}
use Rattle.search.proofs.Bits.{kept-no, kept-yes}
use Rattle.search.proofs.masks.of_kind.Goals as goal
use Rattle.search.proofs.masks.of_kind.Goals.{then-is_one, else-is_one}

pub loop-number-preserved : goal.loop-number-preserved
loop-number-preserved c =
    elim c.if-is_one.branch [
      | then-is_one w ↦
          kept-yes c.args.actions.now c.args.mask c.args.kind c.loop-number.found c.if-is_one.found c.loop-number.number
          c.loop-number.invariant
          (λ other. ap (λ mask. is_possible mask other) w.found-is ∙ w.with-found.ensures other)
          (sym c.is_one.ensures ∙ w.if-is_one.true)
      | else-is_one w ↦ λ other.
          ap (λ mask. is_possible mask other) w.found-is
          ∙ kept-no c.args.actions.now c.args.mask c.args.kind c.loop-number.found c.loop-number.number
          c.loop-number.invariant (sym c.is_one.ensures ∙ w.if-is_one.false) other
    ]
