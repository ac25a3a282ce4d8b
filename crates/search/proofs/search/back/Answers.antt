use Rattle.std.proofs.Common.{◌-◌, arith, get_or}
use Rattle.search.proofs.Paths.{no_choice, split}
use Rattle.search.proofs.Steps.{another, removed, removed_below}
use Rattle.search.proofs.search.back.Goals as goal

pub returns-then-choice-clause-search : goal.returns-then-choice-clause-search
returns-then-choice-clause-search c =
    λ test holds equal all.
    another test c.args.search.now c.args.path.now c.args.known.now c.next.result c.if-search-eq0.false c.if-search-path.false
    (omega (arith, c.if-choice.true)) c.next.ensures holds all

pub returns-else-search-count-clause-search : goal.returns-else-search-count-clause-search
returns-else-search-count-clause-search c =
    λ test holds equal all.
    removed test c.args.search.now c.args.path.now c.args.known.now c.note.new.known c.if-search-eq0.false
    c.if-search-path.false (omega (arith, c.if-choice.false)) c.note.ensures holds equal all

pub returns-else-search-count-clause-removed : goal.returns-else-search-count-clause-removed
returns-else-search-count-clause-removed c =
    λ test holds equal all is.
    removed_below test c.args.search.now c.args.path.now c.args.known.now c.if-search-eq0.false c.if-search-path.false
    (omega (arith, c.if-choice.false)) holds all

pub returns-else-search-count-clause-shorter : goal.returns-else-search-count-clause-shorter
returns-else-search-count-clause-shorter c =
    λ fits is. (
      get_or c.args.path.now (c.args.search.now.count - 1) no_choice,
      split c.args.path.now c.args.search.now.count c.if-search-eq0.false c.if-search-path.false,
    )

pub returns-then-search-count-clause-shorter : goal.returns-then-search-count-clause-shorter
returns-then-search-count-clause-shorter c =
    λ fits is. (
      get_or c.args.path.now (c.args.search.now.count - 1) no_choice,
      split c.args.path.now c.args.search.now.count c.if-search-eq0.false c.if-search-path.false,
    )
