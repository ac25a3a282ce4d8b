use Rattle.std.proofs.Common.{
  ◌≡◌,
  ◌+◌,
  ◌<◌,
  ◌∙◌,
  ◌∷◌,
  ℕ,
  List,
  add-one,
  ap,
  arith,
  drop,
  drop-cons,
  drop_of_length-le,
  get_or,
  length,
  refl,
  subst,
  sym,
}
use Rattle.std.proofs.lemmas.Result.{err_from_is_err_and, on_err_weaker, on_ok_weaker}
use Rattle.std.specs.Io.KnownBytes.{Appends}
use Rattle.pcap_trace.specs.Devices.{AppendsFront, CountsFailures}
use Rattle.run_record.specs.Traces.{is_in_trace}
use Rattle.run_record.specs.declared.kept.FrameInfo.{FrameInfo}
use Rattle.run_record.proofs.Puts.{puts-ends, puts-first, puts-fits, puts-passed, puts-short, puts-stops, puts-written}
use Rattle.run_record.proofs.kept.KeptFrames.write_trace.Goals as goal

abbrev no-info : FrameInfo
no-info = record { host = 0; socket = 0; number = 0; length = 0 }

-- the next frame, and those after it
next : (infos : List FrameInfo) (place : ℕ) → place < length infos
    → drop place infos ≡ get_or infos place no-info ∷ drop (place + 1) infos
next infos place below = rw add-one (drop-cons infos place no-info below)

pub loop-info-init : goal.loop-info-init
loop-info-init g c = record {
  quiet = refl;
  written = puts-first (is_in_trace c.args.traces.now c.args.trace) c.args.unit c.args.self.now c.self.inside.infos.items
      c.as_slice-info-items.result.now c.self.inside.bytes.items c.as_slice-bytes.result.now (g.W.Sink.taken c.args.sink.now)
      c.begin.new.self (sym c.self.view_is)
      c.as_slice-info-items.ensures.value c.as_slice-bytes.ensures.value c.self.invariant.bytes c.self.invariant.short c.begin.ensures;
}

pub loop-info-preserved : goal.loop-info-preserved
loop-info-preserved g c =
    let infos = c.as_slice-info-items.result.now in
    let place = c.loop-info.info-index in
    let info = get_or infos place no-info in
    record {
      quiet = c.in_ok-write.ensures.failures ∙ c.loop-info.invariant.quiet;
      written = puts-written (is_in_trace c.args.traces.now c.args.trace) c.args.unit c.args.self.now info (drop (place + 1) infos)
          (drop place infos) c.split_at.result.0.now c.loop-info.bytes.now c.split_at.result.1.now (g.W.Sink.taken c.args.sink.now)
          (g.W.Sink.taken c.loop-info.sink) (g.W.Sink.taken c.write.new.sink) c.loop-info.writer c.write.new.self
          (next infos place c.loop-info-test.true) c.split_at.ensures.front c.split_at.ensures.back
          (sym c.wants.ensures ∙ c.if-not-wants.false)
          c.loop-info.invariant.written c.in_ok-write.ensures.ok c.in_ok-write.ensures.grows;
    }

pub loop-info-preserved-then-not-wants : goal.loop-info-preserved-then-not-wants
loop-info-preserved-then-not-wants g c =
    let infos = c.as_slice-info-items.result.now in
    let place = c.loop-info.info-index in
    record {
      quiet = c.loop-info.invariant.quiet;
      written = puts-passed (is_in_trace c.args.traces.now c.args.trace) c.args.unit c.args.self.now
          (get_or infos place no-info) (drop (place + 1) infos) (drop place infos) c.loop-info.bytes.now c.split_at.result.1.now
          (g.W.Sink.taken c.args.sink.now)
          (g.W.Sink.taken c.loop-info.sink) c.loop-info.writer (next infos place c.loop-info-test.true) c.split_at.ensures.back
          (sym c.wants.ensures ∙ c.if-not-wants.true) c.loop-info.invariant.written;
    }

pub returns-in_err-write-clause-err : goal.returns-in_err-write-clause-err
returns-in_err-write-clause-err g c =
    let p = err_from_is_err_and c.from_residual.result c.from_residual.ensures.1 in
    rw p.1 (puts-stops (is_in_trace c.args.traces.now c.args.trace) c.args.unit c.args.self.now
    (drop c.loop-info.info-index c.as_slice-info-items.result.now) c.loop-info.bytes.now (g.W.Sink.taken c.args.sink.now)
    (g.W.Sink.taken c.loop-info.sink) (g.W.Sink.taken c.write.new.sink) c.loop-info.writer c.loop-info.invariant.written
    c.in_err-write.ensures.err)

pub returns-clause-ok : goal.returns-clause-ok
returns-clause-ok g c =
    let infos = c.as_slice-info-items.result.now in
    on_ok_weaker c.flush.result
    (λ (went : Appends (g.W.Sink.taken c.loop-info.sink) (g.W.Sink.taken c.flush.new.sink) c.loop-info.writer).
    puts-ends (is_in_trace c.args.traces.now c.args.trace) c.args.unit c.args.self.now (drop c.loop-info.info-index infos)
    c.loop-info.bytes.now (g.W.Sink.taken c.args.sink.now) (g.W.Sink.taken c.loop-info.sink) (g.W.Sink.taken c.flush.new.sink)
    c.loop-info.writer
    (drop_of_length-le infos (omega arith)) c.loop-info.invariant.written went)
    c.flush.ensures.ok

pub returns-clause-err : goal.returns-clause-err
returns-clause-err g c =
    on_err_weaker c.flush.result
    (λ (part : AppendsFront (g.W.Sink.taken c.loop-info.sink) (g.W.Sink.taken c.flush.new.sink) c.loop-info.writer).
    puts-stops (is_in_trace c.args.traces.now c.args.trace) c.args.unit c.args.self.now
    (drop c.loop-info.info-index c.as_slice-info-items.result.now) c.loop-info.bytes.now (g.W.Sink.taken c.args.sink.now)
    (g.W.Sink.taken c.loop-info.sink) (g.W.Sink.taken c.flush.new.sink) c.loop-info.writer c.loop-info.invariant.written part)
    c.flush.ensures.err

pub split_at-requires : goal.split_at-requires
split_at-requires g c =
    let infos = c.as_slice-info-items.result.now in
    let place = c.loop-info.info-index in
    puts-fits (is_in_trace c.args.traces.now c.args.trace) c.args.unit c.args.self.now (get_or infos place no-info)
    (drop (place + 1) infos) (drop place infos) c.loop-info.bytes.now (g.W.Sink.taken c.args.sink.now)
    (g.W.Sink.taken c.loop-info.sink) c.loop-info.writer (next infos place c.loop-info-test.true) c.loop-info.invariant.written

pub write-requires-clause-short : goal.write-requires-clause-short
write-requires-clause-short g c =
    let infos = c.as_slice-info-items.result.now in
    let place = c.loop-info.info-index in
    puts-short (is_in_trace c.args.traces.now c.args.trace) c.args.unit c.args.self.now (get_or infos place no-info)
    (drop (place + 1) infos) (drop place infos) c.split_at.result.0.now c.loop-info.bytes.now (g.W.Sink.taken c.args.sink.now)
    (g.W.Sink.taken c.loop-info.sink) c.loop-info.writer (next infos place c.loop-info-test.true) c.split_at.ensures.front
    c.loop-info.invariant.written

pub write-requires-clause-countable : goal.write-requires-clause-countable
write-requires-clause-countable g c =
    subst (λ (n : ℕ). n < 18446744073709551615) (sym c.loop-info.invariant.quiet) c.requires.countable

pub returns-in_err-write-clause-ok : goal.returns-in_err-write-clause-ok
returns-in_err-write-clause-ok g c = rw (err_from_is_err_and c.from_residual.result c.from_residual.ensures.1).1 tt

pub returns-in_err-write-clause-failures : goal.returns-in_err-write-clause-failures
returns-in_err-write-clause-failures g c =
    rw (err_from_is_err_and c.from_residual.result c.from_residual.ensures.1).1
    (c.in_err-write.ensures.failures ∙ ap (λ (n : ℕ). n + 1) c.loop-info.invariant.quiet)

pub returns-clause-failures : goal.returns-clause-failures
returns-clause-failures g c =
    subst (λ (n : ℕ). CountsFailures c.flush.result n (g.W.Sink.failures c.flush.new.sink)) c.loop-info.invariant.quiet
    c.flush.ensures.failures
