use Rattle.std.proofs.Common.{◌∙◌}
use Rattle.std.proofs.lemmas.Result.{err_from_is_err_and}
use Rattle.pcap_trace.proofs.Sent.{SentUpTo-more, SentUpTo-front}
use Rattle.pcap_trace.proofs.writing.write_all.Goals as goal

pub returns-in_err-count-clause-err : goal.returns-in_err-count-clause-err
returns-in_err-count-clause-err g c =
    let p = err_from_is_err_and c.from_residual.result c.from_residual.ensures.1 in
    rw p.1 (SentUpTo-front (g.W.Sink.taken c.args.sink.now) (g.W.Sink.taken c.loop-rest.sink)
    (g.W.Sink.taken c.write.new.self) c.args.bytes.now c.loop-rest.rest.now c.in_err-count.ensures.bytes c.loop-rest.invariant.sent)

pub loop-rest-preserved : goal.loop-rest-preserved
loop-rest-preserved g c = record {
  countable = c.in_ok-count.ensures.failures ∙ c.loop-rest.invariant.countable;
  sent = rw c.split_at.ensures.back
      (SentUpTo-more (g.W.Sink.taken c.args.sink.now) (g.W.Sink.taken c.loop-rest.sink)
      (g.W.Sink.taken c.write.new.self) c.args.bytes.now c.loop-rest.rest.now c.in_ok-count.count c.loop-rest.invariant.sent
      c.in_ok-count.ensures.bytes);
}
