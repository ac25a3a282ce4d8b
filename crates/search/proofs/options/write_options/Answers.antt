use Rattle.std.proofs.Common.{◌≡◌, ◌+◌, ◌∙◌, ℕ, Bool, List, arith, set, subst, sym}
use Rattle.search.specs.Options.{is_option}
use Rattle.search.proofs.Written.{Written, all-count, all-written, written-no, written-yes}
use Rattle.search.proofs.options.write_options.Goals as goal
use Rattle.search.proofs.options.write_options.Goals.{then-is_tried, else-is_tried}

same-written : (test : ℕ → Bool) (number count count' : ℕ) (now now' old : List ℕ) → count' ≡ count → now' ≡ now
    → Written test number count now old → Written test number count' now' old
same-written test number count count' now now' old is is' so_far =
    subst (λ n. Written test number n now' old) (sym is) (subst (λ here. Written test number count here old) (sym is') so_far)

pub loop-number-preserved : goal.loop-number-preserved
loop-number-preserved c =
    elim c.if-is_tried.branch [
      | then-is_tried w ↦
          same-written (is_option c.args.actions.now c.args.possible c.args.last c.args.is_every) (c.loop-number.number + 1)
          (c.loop-number.count + 1) c.if-is_tried.count (set c.loop-number.into c.loop-number.count c.loop-number.number)
          c.if-is_tried.into c.args.into.now w.count-is (w.into-is ∙ w.put.ensures)
          (written-yes (is_option c.args.actions.now c.args.possible c.args.last c.args.is_every) c.loop-number.number
          c.loop-number.count c.loop-number.into c.args.into.now c.loop-number.invariant
          (sym c.is_tried.ensures ∙ w.if-is_tried.true))
      | else-is_tried w ↦
          same-written (is_option c.args.actions.now c.args.possible c.args.last c.args.is_every) (c.loop-number.number + 1)
          c.loop-number.count c.if-is_tried.count c.loop-number.into c.if-is_tried.into c.args.into.now w.count-is w.into-is
          (written-no (is_option c.args.actions.now c.args.possible c.args.last c.args.is_every) c.loop-number.number
          c.loop-number.count c.loop-number.into c.args.into.now c.loop-number.invariant
          (sym c.is_tried.ensures ∙ w.if-is_tried.false))
    ]

pub returns-clause-count : goal.returns-clause-count
returns-clause-count c =
    all-count (is_option c.args.actions.now c.args.possible c.args.last c.args.is_every) c.loop-number.number _
    c.loop-number.count c.loop-number.into c.args.into.now c.loop-number.invariant (omega arith)

pub returns-clause-written : goal.returns-clause-written
returns-clause-written c =
    all-written (is_option c.args.actions.now c.args.possible c.args.last c.args.is_every) c.loop-number.number _
    c.loop-number.count c.loop-number.into c.args.into.now c.loop-number.invariant (omega arith)
