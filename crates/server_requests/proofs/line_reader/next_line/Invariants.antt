use Rattle.std.proofs.Common.{◌≤◌, length}
use Rattle.std.specs.Prelude.{vec_capacity}
use Rattle.server_requests.specs.Lines.{most_line_bytes}
use Rattle.server_requests.specs.LinesRead.{BothKnown}
use Rattle.server_requests.proofs.ReadingLines.{Reads}
use Rattle.server_requests.proofs.line_reader.next_line.Given as goal

abbrev pub invariant-loop-turn : goal.invariant-loop-turn
invariant-loop-turn g l = record {
  room : most_line_bytes ≤ vec_capacity l.line;
  fits : length l.line.items ≤ most_line_bytes;
  got : BothKnown (g.R.Read.remaining l.initial.reader) (g.R.Read.remaining l.reader) (Reads l.line.items l.is_long);
}
