use Rattle.std.proofs.Common.{arith}
use Rattle.scenario.proofs.TextLines.{lines-first, lines-last}
use Rattle.scenario.proofs.scenario.first_line.Goals as goal

pub returns-then-end-text-clause-first : goal.returns-then-end-text-clause-first
returns-then-end-text-clause-first c =
    lines-last c.args.text.now c.line_end-end.result c.line_end-end.ensures.end (omega arith) (omega arith)

pub returns-clause-first : goal.returns-clause-first
returns-clause-first c =
    let first = lines-first c.args.text.now c.line_end-end.result c.line_end-end.ensures.end (omega arith) in
    cc
