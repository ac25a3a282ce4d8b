use Rattle.std.proofs.Common.{◌≡◌, ◌+◌, ◌++◌, ℕ, List, length, ap, arith, ◌∙◌}
use Rattle.std.proofs.lemmas.Result.{err_from_is_err_and, on_err_weaker}
use Rattle.pcap_trace.specs.Devices.{AppendsFront}
use Rattle.pcap_bench.specs.Showing.{end_line, shown_frame, shown_frames, shown_trace}
use Rattle.pcap_bench.proofs.Shown.{SentUpTo-frame, SentUpTo-line, SentUpTo-none, SentUpTo-stops, SentUpTo-stops_within}
use Rattle.pcap_bench.proofs.showing.show.Goals as goal

pub returns-in_err-write_frame-clause-err : goal.returns-in_err-write_frame-clause-err
returns-in_err-write_frame-clause-err g c =
    let p = err_from_is_err_and c.from_residual.result c.from_residual.ensures.1 in
    let a = g.W.Sink.taken c.args.sink.now in
    let b = g.W.Sink.taken c.loop-frame.sink in
    let rest = shown_frames (c.loop-frame.next + 1) c.next.new.self ++ end_line c.args.trace.now in
    let sent = SentUpTo-frame a b (shown_trace c.args.trace.now) (end_line c.args.trace.now) c.loop-frame.next c.loop-frame.frame-iterator
    c.next.new.self c.in-Some.frame.now c.in-Some.ensures.steps c.loop-frame.invariant.sent in
    rw p.1 (SentUpTo-stops_within a b (g.W.Sink.taken c.write_frame.new.sink) (shown_trace c.args.trace.now)
    (shown_frame c.loop-frame.next c.in-Some.frame.now) rest sent
    c.in_err-write_frame.ensures.err)

pub loop-frame-preserved : goal.loop-frame-preserved
loop-frame-preserved g c =
    let a = g.W.Sink.taken c.args.sink.now in
    let b = g.W.Sink.taken c.loop-frame.sink in
    let rest = shown_frames (c.loop-frame.next + 1) c.next.new.self ++ end_line c.args.trace.now in
    let sent = SentUpTo-frame a b (shown_trace c.args.trace.now) (end_line c.args.trace.now) c.loop-frame.next c.loop-frame.frame-iterator
    c.next.new.self c.in-Some.frame.now c.in-Some.ensures.steps c.loop-frame.invariant.sent in
    let fewer : length c.loop-frame.frame-iterator ≡ 1 + length c.next.new.self = omega
    (arith, ap (λ (fs : List (List ℕ)). length fs) c.in-Some.ensures.steps) in
    record {
      quiet = c.in_ok-write_frame.ensures.failures ∙ c.loop-frame.invariant.quiet;
      counted = omega (arith, fewer, c.loop-frame.invariant.counted);
      sent = SentUpTo-line a b (g.W.Sink.taken c.write_frame.new.sink) (shown_trace c.args.trace.now)
          (shown_frame c.loop-frame.next c.in-Some.frame.now) rest sent c.in_ok-write_frame.ensures.ok;
    }

pub returns-clause-err : goal.returns-clause-err
returns-clause-err g c =
    let a = g.W.Sink.taken c.args.sink.now in
    let b = g.W.Sink.taken c.loop-frame.sink in
    let d = g.W.Sink.taken c.write_end.new.sink in
    let end = end_line c.args.trace.now in
    let sent = SentUpTo-none a b (shown_trace c.args.trace.now) end c.loop-frame.next c.loop-frame.frame-iterator c.in-None.ensures.steps.0
    c.loop-frame.invariant.sent in
    on_err_weaker c.write_end.result
    (λ (part : AppendsFront b d end). SentUpTo-stops a b d (shown_trace c.args.trace.now) end sent part) c.write_end.ensures.err
