use Rattle.std.proofs.Common.{◌≡◌, ℕ, List, Bool, true, false, refl, sym, subst, ◌∙◌}
use Rattle.std.specs.Prelude.{◌↔◌, IsTrue}
use Rattle.std.specs.Io.KnownBytes.{Appends, append_known}
use Rattle.std.proofs.lemmas.Result.{err_from_is_err_and}
use Rattle.descriptors.specs.Frames.{padded}
use Rattle.pcap_trace.specs.Format.{packet_of}
use Rattle.rx_filter.specs.Passing.{Passes}
use Rattle.rx_filter.specs.Registers.{FilterRegisters, filter_of}
use Rattle.receive_lane.specs.Lane.{slot_bytes, IsWaiting}
use Rattle.pcap_bench.specs.Passing.{Filter}
use Rattle.pcap_bench.proofs.Passes.{SoFar-start, SoFar-illegal, SoFar-filtered, SoFar-kept, SoFar-stops}
use Rattle.pcap_trace.proofs.Flushed.{Grows-none, Grows-more, header_waits}
use Rattle.pcap_bench.proofs.passing.pass_frames.Goals as goal

-- the frames that a filter with these registers passes
abbrev keeps_by : FilterRegisters → Filter
keeps_by regs = Passes (filter_of regs)

passed : (regs first : FilterRegisters) (frame : List ℕ) (b : Bool) → regs ≡ first → IsTrue b ↔ keeps_by regs frame → b ≡ true
    → keeps_by first frame
passed regs first frame b same asked is = subst (λ (r : FilterRegisters). keeps_by r frame) same (asked.0 is)

turned_away : (regs first : FilterRegisters) (frame : List ℕ) (b : Bool) → regs ≡ first → IsTrue b ↔ keeps_by regs frame → b ≡ false
    → keeps_by first frame → ⊥
turned_away regs first frame b same asked is passes =
    let yes = asked.1 (subst (λ (r : FilterRegisters). keeps_by r frame) (sym same) passes) in
    cc

pub loop-frame-init : goal.loop-frame-init
loop-frame-init g c =
    let taken = g.W.Sink.taken c.args.sink.now in
    let counts = c.default.result in
    let zeros = c.default.ensures in
    record {
      quiet = refl;
      waiting = c.requires.waiting;
      filter = refl;
      read = c.len.ensures;
      grows = Grows-none taken;
      so_far = SoFar-start c.args.unit (keeps_by c.args.lane.now.adapter.filter) c.args.trace.now.frames c.into_iter-frame-iterator.result
          counts.illegal counts.filtered counts.written taken (append_known taken c.args.writer.now)
          (c.into_iter-frame-iterator.ensures.into_iter_gives ∙ c.iter-frame-items.ensures) zeros.1.0 zeros.1.1.0 zeros.1.1.1
          (header_waits c.args.unit taken c.args.writer.now c.requires.begun);
    }

pub loop-frame-preserved-then-not-is_sendable : goal.loop-frame-preserved-then-not-is_sendable
loop-frame-preserved-then-not-is_sendable g c =
    let now = c.loop-frame in
    let counts = c.loop-frame.counts in
    record {
      quiet = now.invariant.quiet;
      waiting = now.invariant.waiting;
      filter = now.invariant.filter;
      read = now.invariant.read;
      grows = now.invariant.grows;
      so_far = SoFar-illegal c.args.unit (keeps_by c.args.lane.now.adapter.filter) c.args.trace.now.frames now.frame-iterator
          c.next.new.self
          c.in-Some.frame.now now.next counts.illegal counts.filtered counts.written (g.W.Sink.taken c.args.sink.now)
          (append_known (g.W.Sink.taken now.sink) now.writer) c.in-Some.ensures.steps (sym c.if-not-is_sendable.ensures)
          now.invariant.so_far;
    }

pub loop-frame-preserved-then-not-receive : goal.loop-frame-preserved-then-not-receive
loop-frame-preserved-then-not-receive g c =
    let now = c.loop-frame in
    let counts = c.loop-frame.counts in
    let first = c.args.lane.now.adapter.filter in
    let f = c.in-Some.frame.now in
    let away = turned_away now.lane.adapter.filter first (padded f) c.receive.result now.invariant.filter c.receive.ensures.passes
    c.if-not-receive.true in
    let left : c.receive.new.self ≡ c.loop-frame.lane = c.receive.ensures.left (λ received. cc) in
    record {
      quiet = now.invariant.quiet;
      waiting = subst IsWaiting (sym left) now.invariant.waiting;
      filter = c.receive.ensures.filter ∙ now.invariant.filter;
      read = now.invariant.read;
      grows = now.invariant.grows;
      so_far = SoFar-filtered c.args.unit (keeps_by first) c.args.trace.now.frames now.frame-iterator c.next.new.self f now.next
          counts.illegal counts.filtered counts.written (g.W.Sink.taken c.args.sink.now)
          (append_known (g.W.Sink.taken now.sink) now.writer) c.in-Some.ensures.steps (sym c.if-not-is_sendable.ensures) away
          now.invariant.so_far;
    }

pub returns-in_err-write_received-clause-err : goal.returns-in_err-write_received-clause-err
returns-in_err-write_received-clause-err g c =
    let p = err_from_is_err_and c.from_residual.result c.from_residual.ensures.1 in
    let now = c.loop-frame in
    let counts = c.loop-frame.counts in
    rw p.1 (SoFar-stops c.args.unit (keeps_by c.args.lane.now.adapter.filter) c.args.trace.now.frames now.frame-iterator now.next
    counts.illegal counts.filtered counts.written (g.W.Sink.taken c.args.sink.now) (g.W.Sink.taken now.sink)
    (g.W.Sink.taken c.write_received.new.sink) now.writer now.invariant.grows now.invariant.so_far
    c.in_err-write_received.ensures.err)

pub loop-frame-preserved : goal.loop-frame-preserved
loop-frame-preserved g c =
    let now = c.loop-frame in
    let counts = c.loop-frame.counts in
    let first = c.args.lane.now.adapter.filter in
    let f = c.in-Some.frame.now in
    let taken = g.W.Sink.taken c.args.sink.now in
    let mid = g.W.Sink.taken c.loop-frame.sink in
    let next = g.W.Sink.taken c.write_received.new.sink in
    let waiting = append_known mid c.loop-frame.writer in
    let keep = passed now.lane.adapter.filter first (padded f) c.receive.result now.invariant.filter c.receive.ensures.passes
    c.if-not-receive.false in
    let bytes : slot_bytes c.receive.new.self ≡ padded f = (c.receive.ensures.finished c.if-not-receive.false).finished.bytes in
    let went = subst (λ (x : List ℕ). Appends waiting (append_known next c.write_received.new.writer)
    (packet_of c.args.unit (record { time = c.loop-frame.next; frame = x }))) bytes c.in_ok-write_received.ensures.ok in
    record {
      quiet = c.in_ok-write_received.ensures.failures ∙ now.invariant.quiet;
      waiting = c.in_ok-write_received.ensures.waiting;
      filter = c.in_ok-write_received.ensures.filter ∙ c.receive.ensures.filter ∙ now.invariant.filter;
      read = now.invariant.read;
      grows = Grows-more taken mid next now.invariant.grows c.in_ok-write_received.ensures.grows;
      so_far = SoFar-kept c.args.unit (keeps_by first) c.args.trace.now.frames now.frame-iterator c.next.new.self f now.next counts.illegal
          counts.filtered counts.written taken waiting (append_known next c.write_received.new.writer) c.in-Some.ensures.steps
          (sym c.if-not-is_sendable.ensures) keep now.invariant.so_far went;
    }

pub returns-in_err-flush-clause-err : goal.returns-in_err-flush-clause-err
returns-in_err-flush-clause-err g c =
    let p = err_from_is_err_and c.from_residual-in_err-flush.result c.from_residual-in_err-flush.ensures.1 in
    let now = c.loop-frame in
    let counts = c.loop-frame.counts in
    rw p.1 (SoFar-stops c.args.unit (keeps_by c.args.lane.now.adapter.filter) c.args.trace.now.frames now.frame-iterator now.next
    counts.illegal counts.filtered counts.written (g.W.Sink.taken c.args.sink.now) (g.W.Sink.taken now.sink)
    (g.W.Sink.taken c.flush.new.sink) now.writer now.invariant.grows now.invariant.so_far c.in_err-flush.ensures.err)
