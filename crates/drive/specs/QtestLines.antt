-- The lines of the program that answers: `IRQ` lines as QEMU writes them, the server's reports (docs/REQUESTS), and answers.
use Rattle.std.specs.Prelude.{nat_eq, ◌||◌, ℕ, Bool, List, codes, false, true, if◌then◌else◌}
use Rattle.std.specs.List.{starts_with}
use Rattle.drive.specs.declared.qtest_answers.Line.{Line}
use Rattle.drive.specs.declared.qtest_answers.Line.TheVariants.{Answer, Interrupt, Report}

-- whether the line begins with this text
abbrev pub begins : (line text : List ℕ) → Bool
begins line text = starts_with nat_eq line text

-- whether the line is a report of the server, or a line of its log
abbrev pub is_report : List ℕ → Bool
is_report line =
    begins line (codes "frame ") || begins line (codes "arrived ") || begins line (codes "fault ") || begins line (codes "#")

-- the kind of a line: an `IRQ` line with the level that it reports, a report (`is_report`), or else an answer
abbrev pub qtest_line_kind : List ℕ → Line
qtest_line_kind line =
    if begins line (codes "IRQ raise ") then Interrupt true
    else if begins line (codes "IRQ lower ") then Interrupt false
    else if is_report line then Report else Answer
