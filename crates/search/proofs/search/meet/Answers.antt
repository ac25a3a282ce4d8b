use Rattle.std.proofs.Common.{get_or, subst}
use Rattle.std.proofs.lemmas.List.{get_or_default}
use Rattle.search.specs.Searches.{IsKnownBy}
use Rattle.search.proofs.Steps.{known, none_known}
use Rattle.search.proofs.search.meet.Goals as goal

pub returns-then-is_known-clause-passes : goal.returns-then-is_known-clause-passes
returns-then-is_known-clause-passes c =
    λ test holds here is.
    known test c.args.search.now c.args.path.now c.args.known.now c.args.place _ c.left-most.result
    (holds.known c.find-at.result _ c.if-at-known.true) (c.is_known.ensures c.if-is_known.true) c.left-most.ensures here

pub returns-then-is_known-clause-known : goal.returns-then-is_known-clause-known
returns-then-is_known-clause-known c =
    λ is. (
      c.find-at.result,
      get_or c.args.known.now c.find-at.result none_known,
      c.if-at-known.true,
      get_or_default c.args.known.now c.find-at.result (get_or c.args.known.now c.find-at.result none_known) none_known
          c.if-at-known.true,
      subst (IsKnownBy (get_or c.args.known.now c.find-at.result none_known) c.args.place.key) c.left-most.ensures
          (c.is_known.ensures c.if-is_known.true),
    )
