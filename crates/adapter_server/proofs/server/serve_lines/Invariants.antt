use Rattle.std.proofs.Common.{◌≤◌}
use Rattle.std.specs.Prelude.{vec_capacity}
use Rattle.server_requests.specs.Lines.{most_line_bytes}
use Rattle.adapter_server.proofs.ServedLines.{ServesOn}
use Rattle.adapter_server.proofs.server.serve_lines.Given as goal

abbrev pub invariant-loop-count : goal.invariant-loop-count
invariant-loop-count g l = record {
  room : most_line_bytes ≤ vec_capacity l.line;
  so_far : ServesOn (g.R.Read.remaining l.initial.input) (g.R.Read.remaining l.input) l.initial.server l.server
      (g.W.Write.contents l.initial.output) (g.W.Write.contents l.output);
}
