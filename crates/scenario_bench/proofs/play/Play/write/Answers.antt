use Rattle.std.proofs.Common.{◌∙◌, ◌≤◌, List, [], ℕ, length, refl, subst}
use Rattle.std.proofs.lemmas.Result.{err_from_is_err_and}
use Rattle.std.specs.Prelude.{unwrap_or}
use Rattle.pcap_trace.specs.Format.{Timed}
use Rattle.scenario_bench.specs.Benches.{AreAllWritten, IsFailedSink, sinks_of}
use Rattle.scenario_bench.proofs.Written.{count_of_sockets, count_of_wires, same_texts, texts_of_sockets, texts_of_wires}
use Rattle.scenario_bench.proofs.play.Play.write.Goals as goal

pub write_through-requires-clause-sinks : goal.write_through-requires-clause-sinks
write_through-requires-clause-sinks g c = c.requires.sinks
    ∙ count_of_sockets c.as_slice-plans.result.now c.args.plan.now.hosts.items c.as_slice-plans.ensures.value
    c.args.self.now.record.returned c.as_slice.result.now c.in_ok-sockets.sockets.items c.as_slice.ensures.value c.in_ok-sockets.ensures

pub write_through-requires-clause-wires : goal.write_through-requires-clause-wires
write_through-requires-clause-wires g c = subst (λ (count : ℕ). length c.args.wire_sinks.now ≤ count)
    (count_of_wires c.as_slice-plans.result.now c.args.plan.now.hosts.items c.as_slice-plans.ensures.value
    (unwrap_or c.args.self.now.record.puts []) c.as_slice-2.result.now c.in_ok-names.names.items c.as_slice-2.ensures.value
    c.in_ok-names.ensures.names) c.requires.wires

pub write_through-requires-clause-recorded : goal.write_through-requires-clause-recorded
write_through-requires-clause-recorded g c = c.requires.recorded

pub returns-in_err-sockets-clause-err : goal.returns-in_err-sockets-clause-err
returns-in_err-sockets-clause-err g c =
    let p = err_from_is_err_and c.from_residual.result c.from_residual.ensures.1 in
    rw (p.1, p.2) (refl, refl)

pub returns-in_err-names-clause-err : goal.returns-in_err-names-clause-err
returns-in_err-names-clause-err g c =
    let p = err_from_is_err_and c.from_residual-in_err-names.result c.from_residual-in_err-names.ensures.1 in
    rw (p.1, p.2) (refl, refl)

pub returns-in_err-writer-clause-err : goal.returns-in_err-writer-clause-err
returns-in_err-writer-clause-err g c =
    let p = err_from_is_err_and c.from_residual-in_err-writer.result c.from_residual-in_err-writer.ensures.1 in
    rw (p.1, p.2) (refl, refl)

pub returns-in_err-write_through-clause-err : goal.returns-in_err-write_through-clause-err
returns-in_err-write_through-clause-err g c =
    let p = err_from_is_err_and c.from_residual-in_err-write_through.result c.from_residual-in_err-write_through.ensures.1 in
    rw (p.1, p.2) (same_texts (λ (texts wires : List (List Timed)). IsFailedSink c.args.unit texts wires
    (sinks_of g.W.Sink.taken g.W.Sink.failures c.args.sinks.now c.write_through.new.sinks c.args.wire_sinks.now
    c.write_through.new.wire_sinks))
    (texts_of_sockets c.as_slice-plans.result.now c.args.plan.now.hosts.items c.as_slice-plans.ensures.value
    c.args.self.now.record.returned c.as_slice.result.now c.in_ok-sockets.sockets.items c.as_slice.ensures.value c.in_ok-sockets.ensures)
    (texts_of_wires c.as_slice-plans.result.now c.args.plan.now.hosts.items c.as_slice-plans.ensures.value
    (unwrap_or c.args.self.now.record.puts []) c.as_slice-2.result.now c.in_ok-names.names.items c.as_slice-2.ensures.value
    c.in_ok-names.ensures.names)
    c.in_err-write_through.ensures.err)

pub returns-clause-ok : goal.returns-clause-ok
returns-clause-ok g c = same_texts (λ (texts wires : List (List Timed)). AreAllWritten c.args.unit texts wires
    (sinks_of g.W.Sink.taken g.W.Sink.failures c.args.sinks.now c.write_through.new.sinks c.args.wire_sinks.now
    c.write_through.new.wire_sinks))
    (texts_of_sockets c.as_slice-plans.result.now c.args.plan.now.hosts.items c.as_slice-plans.ensures.value
    c.args.self.now.record.returned c.as_slice.result.now c.in_ok-sockets.sockets.items c.as_slice.ensures.value c.in_ok-sockets.ensures)
    (texts_of_wires c.as_slice-plans.result.now c.args.plan.now.hosts.items c.as_slice-plans.ensures.value
    (unwrap_or c.args.self.now.record.puts []) c.as_slice-2.result.now c.in_ok-names.names.items c.as_slice-2.ensures.value
    c.in_ok-names.ensures.names)
    c.in_ok-write_through.ensures.ok
