use Rattle.std.proofs.lemmas.Result.{err_from_is_err_and}
use Rattle.rx_filter.specs.Passing.{Passes}
use Rattle.rx_filter.specs.Registers.{filter_of}
use Rattle.receive_lane.specs.Options.{KeptBy}
use Rattle.receive_lane.proofs.Choices.{passes_kept}
use Rattle.pcap_bench.proofs.Passes.{StopsAmong-same, StopsAmong-start, WritesKept-same}
use Rattle.pcap_bench.proofs.passing.pass.Goals as goal

pub returns-in_err-lane-clause-err : goal.returns-in_err-lane-clause-err
returns-in_err-lane-clause-err g c =
    let p = err_from_is_err_and c.from_residual.result c.from_residual.ensures.1 in
    rw p.1 (StopsAmong-start c.args.unit (KeptBy c.args.filter.now) c.args.trace.now.frames (g.W.Sink.taken c.args.sink.now))

pub returns-in_err-writer-clause-err : goal.returns-in_err-writer-clause-err
returns-in_err-writer-clause-err g c =
    let p = err_from_is_err_and c.from_residual-in_err-writer.result c.from_residual-in_err-writer.ensures.1 in
    rw p.1 (StopsAmong-start c.args.unit (KeptBy c.args.filter.now) c.args.trace.now.frames (g.W.Sink.taken c.args.sink.now))

pub returns-in_err-counts-clause-err : goal.returns-in_err-counts-clause-err
returns-in_err-counts-clause-err g c =
    let p = err_from_is_err_and c.from_residual-in_err-counts.result c.from_residual-in_err-counts.ensures.1 in
    let regs = c.in_ok-lane.lane.adapter.filter in
    rw p.1 (StopsAmong-same c.args.unit (Passes (filter_of regs)) (KeptBy c.args.filter.now) c.args.trace.now.frames
    (g.W.Sink.taken c.args.sink.now) (g.W.Sink.taken c.pass_frames.new.sink)
    (passes_kept c.args.filter.now regs c.in_ok-lane.ensures.filter) c.in_err-counts.ensures.err)

pub returns-clause-ok : goal.returns-clause-ok
returns-clause-ok g c =
    let regs = c.in_ok-lane.lane.adapter.filter in
    WritesKept-same c.args.unit (Passes (filter_of regs)) (KeptBy c.args.filter.now) c.args.trace.now.frames c.in_ok-counts.counts
    (g.W.Sink.taken c.args.sink.now) (g.W.Sink.taken c.pass_frames.new.sink)
    (passes_kept c.args.filter.now regs c.in_ok-lane.ensures.filter) c.in_ok-counts.ensures.ok
