-- The line that the program prints after a pass (our choice).
use Rattle.std.specs.Prelude.{◌++◌, ℕ, List, Bool, true, false, codes}
use Rattle.text.specs.Fields.{labelled}
use Rattle.pcap_trace.specs.declared.trace.Trace.{Trace}
use Rattle.pcap_bench.specs.declared.counts.PassCounts.{PassCounts}

-- the end of a line: whether the trace is cut off, and LF
abbrev pub cut_word : Bool → List ℕ
cut_word true = codes " cut yes\n"
cut_word false = codes " cut no\n"

-- the line of a pass over this trace, with these counts
abbrev pub pass_line : Trace → PassCounts → List ℕ
pass_line trace counts =
    labelled (codes "read ") counts.read ++ labelled (codes " skipped ") trace.skipped
    ++ labelled (codes " illegal ") counts.illegal
    ++ labelled (codes " filtered ") counts.filtered
    ++ labelled (codes " written ") counts.written ++ cut_word trace.cut
