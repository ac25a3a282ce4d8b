use Rattle.std.proofs.Common.{◌≤◌, List, length, map, refl, subst, sym}
use Rattle.std.proofs.lemmas.List.{length-map}
use Rattle.std.proofs.lemmas.Result.{err_from_is_err_and}
use Rattle.network_plan.specs.declared.plan.HostPlan.{HostPlan}
use Rattle.scenario.specs.SoFar.{hosts_of, said_of}
use Rattle.scenario_bench.specs.Benches.{sinks_of}
use Rattle.scenario_bench.specs.EventLists.{all_events}
use Rattle.scenario_bench.specs.declared.bench_error.BenchError.TheVariants as errors
use Rattle.scenario_bench.specs.PlayedEvents.{trace_frames}
use Rattle.scenario_bench.proofs.Benching.{bench_failed, benched, played_scenario, recorded, same_events}
use Rattle.scenario_bench.proofs.Benching.{stops_as, tallies_enough, unplayed}
use Rattle.run_record.proofs.Writing.{state_of}
use Rattle.scenario_bench.proofs.play.Play.bench.Goals as goal

pub host_summaries-requires-clause-tallies : goal.host_summaries-requires-clause-tallies
host_summaries-requires-clause-tallies g c =
    subst (λ (plans : List HostPlan). length plans ≤ length c.commands.new.self.record.hosts.items) (sym c.as_slice-plans.ensures.value)
    (tallies_enough c.args.scenario.now.plan.hosts.items
    (all_events (hosts_of c.as_slice-plans.result.now) (map trace_frames c.args.traces.now) (map said_of c.as_slice-commands.result.now))
    c.args.self.now c.commands.new.self c.requires.begins c.in_ok-commands.ensures.ok)

pub returns-in_err-commands-clause-err : goal.returns-in_err-commands-clause-err
returns-in_err-commands-clause-err g c =
    let p = err_from_is_err_and c.from_residual.result c.from_residual.ensures.1 in
    rw (p.1, p.2) (unplayed c.args.unit c.args.scenario.now (map trace_frames c.args.traces.now) _ (refl, refl) c.args.self.now
    c.commands.new.self _ c.requires.begins (stops_as _ _ c.args.self.now c.commands.new.self _
    (same_events c.as_slice-plans.result.now c.as_slice-commands.result.now c.args.scenario.now (map trace_frames c.args.traces.now)
    c.as_slice-plans.ensures.value c.as_slice-commands.ensures.value) c.in_err-commands.ensures.err))

pub returns-in_err-hosts-clause-err : goal.returns-in_err-hosts-clause-err
returns-in_err-hosts-clause-err g c =
    let p = err_from_is_err_and c.from_residual-in_err-hosts.result c.from_residual-in_err-hosts.ensures.1 in
    rw (p.1, p.2) (unplayed c.args.unit c.args.scenario.now (map trace_frames c.args.traces.now) _ (refl, refl) c.args.self.now
    c.commands.new.self errors.Memory c.requires.begins tt)

pub write-requires-clause-sinks : goal.write-requires-clause-sinks
write-requires-clause-sinks g c = c.requires.sinks

pub write-requires-clause-recorded : goal.write-requires-clause-recorded
write-requires-clause-recorded g c = recorded c.args.scenario.now (map trace_frames c.args.traces.now) c.args.self.now
    c.commands.new.self c.in_ok-hosts.hosts.items c.requires.begins (played_scenario c.as_slice-plans.result.now
    c.as_slice-commands.result.now c.args.scenario.now (map trace_frames c.args.traces.now) c.args.self.now c.commands.new.self
    c.in_ok-hosts.hosts.items c.as_slice-plans.ensures.value c.as_slice-commands.ensures.value c.in_ok-commands.ensures.ok
    c.in_ok-hosts.ensures) (length c.args.wire_sinks.now)
    c.requires.puts

pub write-requires-clause-wires : goal.write-requires-clause-wires
write-requires-clause-wires g c = c.requires.wires

pub write-requires-clause-countable : goal.write-requires-clause-countable
write-requires-clause-countable g c = c.requires.countable

pub write-requires-clause-wires_countable : goal.write-requires-clause-wires_countable
write-requires-clause-wires_countable g c = c.requires.wires_countable

pub returns-in_err-write-clause-err : goal.returns-in_err-write-clause-err
returns-in_err-write-clause-err g c =
    let p = err_from_is_err_and c.from_residual-in_err-write.result c.from_residual-in_err-write.ensures.1 in
    rw (p.1, p.2) (bench_failed c.args.scenario.now (map trace_frames c.args.traces.now) c.args.self.now c.commands.new.self
    c.in_ok-hosts.hosts.items c.requires.begins (played_scenario c.as_slice-plans.result.now
    c.as_slice-commands.result.now c.args.scenario.now (map trace_frames c.args.traces.now) c.args.self.now c.commands.new.self
    c.in_ok-hosts.hosts.items c.as_slice-plans.ensures.value c.as_slice-commands.ensures.value c.in_ok-commands.ensures.ok
    c.in_ok-hosts.ensures) c.args.unit
    (sinks_of g.W.Sink.taken g.W.Sink.failures c.args.sinks.now c.write.new.sinks c.args.wire_sinks.now c.write.new.wire_sinks)
    (length c.args.wire_sinks.now) c.requires.puts
    (sym (length-map c.args.wire_sinks.now (state_of g.W.Sink.taken g.W.Sink.failures))) _ c.in_err-write.ensures.err)

pub returns-clause-ok : goal.returns-clause-ok
returns-clause-ok g c = λ events log. benched c.args.scenario.now (map trace_frames c.args.traces.now) c.args.self.now c.commands.new.self
    c.in_ok-hosts.hosts.items c.requires.begins (played_scenario c.as_slice-plans.result.now
    c.as_slice-commands.result.now c.args.scenario.now (map trace_frames c.args.traces.now) c.args.self.now c.commands.new.self
    c.in_ok-hosts.hosts.items c.as_slice-plans.ensures.value c.as_slice-commands.ensures.value c.in_ok-commands.ensures.ok
    c.in_ok-hosts.ensures) c.args.unit
    (sinks_of g.W.Sink.taken g.W.Sink.failures c.args.sinks.now c.write.new.sinks c.args.wire_sinks.now c.write.new.wire_sinks)
    (length c.args.wire_sinks.now) c.requires.puts
    (sym (length-map c.args.wire_sinks.now (state_of g.W.Sink.taken g.W.Sink.failures))) events log
    (record {
      hosts = refl;
      refusals = refl;
      events = c.take.ensures.value;
    })
    c.in_ok-write.ensures.ok
