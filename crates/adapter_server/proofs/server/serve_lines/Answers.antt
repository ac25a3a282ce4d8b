use Rattle.std.proofs.Common.{◌≡◌, arith, subst}
use Rattle.server_requests.specs.LinesRead.{IsNextLine}
use Rattle.server_requests.specs.declared.line_reader.NextLine.{NextLine}
use Rattle.adapter_server.specs.declared.serve_error.ServeError.TheVariants as errors
use Rattle.server_output.proofs.PartsWritten.{whatever_err}
use Rattle.server_output.specs.declared.answer_error.AnswerError.TheVariants as causes
use Rattle.adapter_server.proofs.FromNew.{read_from}
use Rattle.adapter_server.proofs.ServedLines.{never_ok, never_read, serves_front, serves_lines, serves_next, serves_none, tells_sent}
use Rattle.adapter_server.proofs.ServedLines.{whatever_error}
use Rattle.adapter_server.specs.Serving.{AnswersNext}
use Rattle.adapter_server.proofs.ServedParts.{answer_sent, answering_stopped, serves_part, serves_stopped}
use Rattle.adapter_server.proofs.server.serve_lines.Goals as goal

pub loop-count-init : goal.loop-count-init
loop-count-init g c = record {
  room = omega (arith, c.in_ok-line.ensures.capacity);
  so_far = serves_none (g.R.Read.remaining c.args.input.now) c.args.server.now (g.W.Write.contents c.args.output.now);
}

pub loop-count-preserved : goal.loop-count-preserved
loop-count-preserved g c =
    let left = g.R.Read.remaining in
    let contents = g.W.Write.contents in
    record {
      room = c.in_ok-next.ensures.room;
      so_far = serves_next c.in_ok-next.next (left c.args.input.now) (left c.loop-count.input) (left c.next_line.new.reader)
          c.args.server.now c.loop-count.server c.answer_next.new.self c.next_line.new.line.items (contents c.args.output.now)
          (contents c.loop-count.output) (contents c.send.new.out) c.loop-count.invariant.so_far c.in_ok-next.ensures.next
          (tells_sent (contents c.loop-count.output) (contents c.answer_next.new.out) (contents c.send.new.out) _
          (rw c.as_slice.ensures.value at c.in_ok-answer_next.ensures) c.send.ensures);
    }

pub returns-in-End-clause-ok : goal.returns-in-End-clause-ok
returns-in-End-clause-ok g c =
    let left = g.R.Read.remaining in
    let contents = g.W.Write.contents in
    serves_lines (left c.args.input.now) (left c.loop-count.input) (left c.next_line.new.reader) c.args.server.now
    c.loop-count.server (contents c.args.output.now) (contents c.loop-count.output) c.loop-count.invariant.so_far
    (subst (λ (next : NextLine). IsNextLine next c.next_line.new.line.items (left c.loop-count.input) (left c.next_line.new.reader))
    c.in-End.is c.in_ok-next.ensures.next)

pub returns-in_err-line-clause-ok : goal.returns-in_err-line-clause-ok
returns-in_err-line-clause-ok g c = never_ok c.from_residual.result _ c.from_residual.ensures.0

pub returns-in_err-next-clause-ok : goal.returns-in_err-next-clause-ok
returns-in_err-next-clause-ok g c = never_ok c.from_residual-in_err-next.result _ c.from_residual-in_err-next.ensures.0

pub returns-in_err-line-clause-read : goal.returns-in_err-line-clause-read
returns-in_err-line-clause-read g c =
    read_from c.from_residual.result errors.Memory _ c.from_residual.ensures.1 (λ read. absurd (never_read causes.Memory read))

pub returns-in_err-next-clause-read : goal.returns-in_err-next-clause-read
returns-in_err-next-clause-read g c =
    whatever_error c.from_residual-in_err-next.result (λ error. error ≡ errors.Read) _
    (serves_front (g.R.Read.remaining c.args.input.now) (g.R.Read.remaining c.loop-count.input) c.args.server.now
    c.loop-count.server (g.W.Write.contents c.args.output.now) (g.W.Write.contents c.loop-count.output)
    c.loop-count.invariant.so_far)

pub returns-clause-read : goal.returns-clause-read
returns-clause-read g c = λ same.
    serves_front (g.R.Read.remaining c.args.input.now) (g.R.Read.remaining c.loop-count.input) c.args.server.now
    c.loop-count.server (g.W.Write.contents c.args.output.now) (g.W.Write.contents c.loop-count.output)
    c.loop-count.invariant.so_far

pub returns-in_err-line-clause-begun : goal.returns-in_err-line-clause-begun
returns-in_err-line-clause-begun g c =
    let left = g.R.Read.remaining c.args.input.now in
    let written = g.W.Write.contents c.args.output.now in
    whatever_err c.from_residual.result _
    (serves_stopped left left c.args.server.now c.args.server.now written written (serves_none left c.args.server.now written))

pub returns-in_err-next-clause-begun : goal.returns-in_err-next-clause-begun
returns-in_err-next-clause-begun g c =
    whatever_err c.from_residual-in_err-next.result _
    (serves_stopped (g.R.Read.remaining c.args.input.now) (g.R.Read.remaining c.loop-count.input) c.args.server.now
    c.loop-count.server (g.W.Write.contents c.args.output.now) (g.W.Write.contents c.loop-count.output)
    c.loop-count.invariant.so_far)

pub returns-clause-begun : goal.returns-clause-begun
returns-clause-begun g c =
    serves_stopped (g.R.Read.remaining c.args.input.now) (g.R.Read.remaining c.loop-count.input) c.args.server.now
    c.loop-count.server (g.W.Write.contents c.args.output.now) (g.W.Write.contents c.loop-count.output)
    c.loop-count.invariant.so_far

pub returns-in_err-answer_next : goal.returns-in_err-answer_next
returns-in_err-answer_next g c =
    let left = g.R.Read.remaining in
    let contents = g.W.Write.contents in
    let result = c.from_residual-in_err-answer_next.result in
    let stopped = answering_stopped result c.in_err-answer_next.field-0.0 _ _ c.from_residual-in_err-answer_next.ensures.1 in
    record {
      ok = stopped.0;
      read = stopped.1;
      begun = whatever_err result _
          (serves_part c.in_ok-next.next (left c.args.input.now) (left c.loop-count.input) (left c.next_line.new.reader)
          c.args.server.now c.loop-count.server c.next_line.new.line.items (contents c.args.output.now) (contents c.loop-count.output)
          (contents c.answer_next.new.out) c.loop-count.invariant.so_far c.in_ok-next.ensures.next c.in_default.not-End
          (rw c.as_slice.ensures.value at c.in_err-answer_next.ensures));
    }

pub returns-in_err-send : goal.returns-in_err-send
returns-in_err-send g c =
    let left = g.R.Read.remaining in
    let contents = g.W.Write.contents in
    let result = c.from_residual-in_err-send.result in
    let stopped = answering_stopped result c.in_err-send.field-0.0 _ _ c.from_residual-in_err-send.ensures.1 in
    record {
      ok = stopped.0;
      read = stopped.1;
      begun = whatever_err result _
          (serves_part c.in_ok-next.next (left c.args.input.now) (left c.loop-count.input) (left c.next_line.new.reader)
          c.args.server.now c.loop-count.server c.next_line.new.line.items (contents c.args.output.now) (contents c.loop-count.output)
          (contents c.send.new.out) c.loop-count.invariant.so_far c.in_ok-next.ensures.next c.in_default.not-End
          (answer_sent (AnswersNext c.in_ok-next.next c.next_line.new.line.items c.loop-count.server) c.answer_next.new.self
          (contents c.loop-count.output) (contents c.answer_next.new.out) (contents c.send.new.out)
          (rw c.as_slice.ensures.value at c.in_ok-answer_next.ensures) c.send.ensures));
    }
