use Rattle.std.proofs.Common.{◌≡◌, ◌∷◌, [], ◌∙◌, ℕ, Global, List, Some, Vec, ap, arith, length, map, rules, sym}
use Rattle.std.specs.List.{flat_map}
use Rattle.std.proofs.lemmas.Result.{IfErr-weaker, on_ok_weaker}
use Rattle.std.proofs.lemmas.Bool.{ltb-true}
use Rattle.std.proofs.lemmas.Option.{slice_get-get_or}
use Rattle.pcap_trace.specs.declared.trace.Trace.{Trace}
use Rattle.scenario.specs.SoFar.{Drains, Said, Ticks, command_of_event, hosts_of, said_of, said_of_call}
use Rattle.scenario_bench.specs.EventLists.{event_drawn, events_of, fed, words_drawn}
use Rattle.scenario_bench.specs.PlayedEvents.{HasPlayed, StopsWithin, trace_frames}
use Rattle.network_plan.specs.declared.event.Event.{Event}
use Rattle.scenario.specs.declared.call.Call.{Call}
use Rattle.scenario.specs.declared.command.Command.{Command}
use Rattle.scenario.specs.declared.command.Command.TheVariants as commands
use Rattle.stations.specs.declared.tick.Tick.{Tick}
use Rattle.scenario_bench.proofs.PlayedEvents.{of_event, of_feed, of_no_feed, of_same}
use Rattle.scenario_bench.proofs.play.Play.command.Goals as goal

call-said : (one : Command) (event : Event) (call : Call) (host : ℕ) (list : List Tick) (ticks : Vec Tick Global)
    → one ≡ commands.Call host call ticks → command_of_event event ≡ said_of_call call host list → list ≡ ticks.items
    → command_of_event event ≡ said_of one
call-said one event call host list ticks is said same = said ∙ ap (said_of_call call host) same ∙ sym (ap said_of is)

pub returns-in-Call-clause-ok : goal.returns-in-Call-clause-ok
returns-in-Call-clause-ok c =
    on_ok_weaker c.run_one.result (of_event (λ (said : List Said). HasPlayed said c.args.self.now c.run_one.new.self)
    (hosts_of c.args.plans.now) (map trace_frames c.args.traces.now) c.args.command.now c.event.result
    (call-said c.args.command.now c.event.result c.in-Call.call c.in-Call.host c.as_slice.result.now c.in-Call.ticks c.in-Call.is
    c.event.ensures c.as_slice.ensures.value)) c.run_one.ensures.ok

pub returns-in-Call-clause-err : goal.returns-in-Call-clause-err
returns-in-Call-clause-err c =
    IfErr-weaker c.run_one.result (StopsWithin (command_of_event c.event.result ∷ []) c.args.self.now c.run_one.new.self)
    (StopsWithin (events_of (hosts_of c.args.plans.now) (map trace_frames c.args.traces.now) (said_of c.args.command.now)) c.args.self.now
    c.run_one.new.self)
    (λ error. of_event (λ (said : List Said). StopsWithin said c.args.self.now c.run_one.new.self error)
    (hosts_of c.args.plans.now) (map trace_frames c.args.traces.now) c.args.command.now c.event.result
    (call-said c.args.command.now c.event.result c.in-Call.call c.in-Call.host c.as_slice.result.now c.in-Call.ticks c.in-Call.is
    c.event.ensures c.as_slice.ensures.value)) c.run_one.ensures.err

pub returns-in-Tick-clause-ok : goal.returns-in-Tick-clause-ok
returns-in-Tick-clause-ok c =
    on_ok_weaker c.run_one-in-Tick.result (of_same (λ (said : List Said). HasPlayed said c.args.self.now c.run_one-in-Tick.new.self)
    (hosts_of c.args.plans.now) (map trace_frames c.args.traces.now) c.args.command.now (commands.Tick c.in-Tick.tick)
    c.in-Tick.is) c.run_one-in-Tick.ensures.ok

pub returns-in-Tick-clause-err : goal.returns-in-Tick-clause-err
returns-in-Tick-clause-err c =
    IfErr-weaker c.run_one-in-Tick.result (StopsWithin (Ticks c.in-Tick.tick ∷ []) c.args.self.now c.run_one-in-Tick.new.self)
    (StopsWithin (events_of (hosts_of c.args.plans.now) (map trace_frames c.args.traces.now) (said_of c.args.command.now)) c.args.self.now
    c.run_one-in-Tick.new.self)
    (λ error. of_same (λ (said : List Said). StopsWithin said c.args.self.now c.run_one-in-Tick.new.self error)
    (hosts_of c.args.plans.now) (map trace_frames c.args.traces.now) c.args.command.now (commands.Tick c.in-Tick.tick)
    c.in-Tick.is) c.run_one-in-Tick.ensures.err

pub returns-in-None-clause-ok : goal.returns-in-None-clause-ok
returns-in-None-clause-ok c = of_no_feed (hosts_of c.args.plans.now) c.args.traces.now c.args.command.now c.in-Feed.host c.in-Feed.trace
    c.args.self.now c.in-Feed.is (search (rules, arith))

pub returns-in-Auto-clause-ok : goal.returns-in-Auto-clause-ok
returns-in-Auto-clause-ok c =
    on_ok_weaker c.draw.result (of_same (λ (said : List Said). HasPlayed said c.args.self.now c.draw.new.self)
    (hosts_of c.args.plans.now) (map trace_frames c.args.traces.now) c.args.command.now (commands.Auto c.in-Auto.count c.in-Auto.start)
    c.in-Auto.is) c.draw.ensures.ok

pub returns-in-Auto-clause-err : goal.returns-in-Auto-clause-err
returns-in-Auto-clause-err c =
    IfErr-weaker c.draw.result
    (StopsWithin (map (event_drawn (hosts_of c.args.plans.now)) (words_drawn c.in-Auto.count c.in-Auto.start)) c.args.self.now
    c.draw.new.self)
    (StopsWithin (events_of (hosts_of c.args.plans.now) (map trace_frames c.args.traces.now) (said_of c.args.command.now)) c.args.self.now
    c.draw.new.self)
    (λ error. of_same (λ (said : List Said). StopsWithin said c.args.self.now c.draw.new.self error) (hosts_of c.args.plans.now)
    (map trace_frames c.args.traces.now) c.args.command.now (commands.Auto c.in-Auto.count c.in-Auto.start) c.in-Auto.is)
    c.draw.ensures.err

pub returns-in-Drain-clause-ok : goal.returns-in-Drain-clause-ok
returns-in-Drain-clause-ok c =
    on_ok_weaker c.drain.result (of_same (λ (said : List Said). HasPlayed said c.args.self.now c.drain.new.self)
    (hosts_of c.args.plans.now) (map trace_frames c.args.traces.now) c.args.command.now (commands.Drain c.in-Drain.host)
    c.in-Drain.is) c.drain.ensures.ok

pub returns-in-Drain-clause-err : goal.returns-in-Drain-clause-err
returns-in-Drain-clause-err c =
    IfErr-weaker c.drain.result (StopsWithin (Drains c.in-Drain.host ∷ []) c.args.self.now c.drain.new.self)
    (StopsWithin (events_of (hosts_of c.args.plans.now) (map trace_frames c.args.traces.now) (said_of c.args.command.now)) c.args.self.now
    c.drain.new.self)
    (λ error. of_same (λ (said : List Said). StopsWithin said c.args.self.now c.drain.new.self error) (hosts_of c.args.plans.now)
    (map trace_frames c.args.traces.now) c.args.command.now (commands.Drain c.in-Drain.host) c.in-Drain.is)
    c.drain.ensures.err

pub returns-in-Some-clause-ok : goal.returns-in-Some-clause-ok
returns-in-Some-clause-ok c =
    let found = slice_get-get_or c.args.traces.now c.in-Feed.trace c.in-Some.trace.now
    (ltb-true c.in-Feed.trace (length c.args.traces.now) (sym c.in-Some.ensures.lookup.0))
    ∙ ap (λ (trace : Trace). Some trace) (sym c.in-Some.ensures.lookup.1) in
    on_ok_weaker c.feed.result (of_feed (λ (said : List Said). HasPlayed said c.args.self.now c.feed.new.self)
    (hosts_of c.args.plans.now) c.args.traces.now c.args.command.now c.in-Feed.host c.in-Feed.trace c.in-Some.trace.now c.in-Feed.is
    found) c.feed.ensures.ok

pub returns-in-Some-clause-err : goal.returns-in-Some-clause-err
returns-in-Some-clause-err c =
    let found = slice_get-get_or c.args.traces.now c.in-Feed.trace c.in-Some.trace.now
    (ltb-true c.in-Feed.trace (length c.args.traces.now) (sym c.in-Some.ensures.lookup.0))
    ∙ ap (λ (trace : Trace). Some trace) (sym c.in-Some.ensures.lookup.1) in
    IfErr-weaker c.feed.result
    (StopsWithin (flat_map (fed (hosts_of c.args.plans.now) c.in-Feed.host) c.in-Some.trace.now.frames) c.args.self.now c.feed.new.self)
    (StopsWithin (events_of (hosts_of c.args.plans.now) (map trace_frames c.args.traces.now) (said_of c.args.command.now)) c.args.self.now
    c.feed.new.self)
    (λ error. of_feed (λ (said : List Said). StopsWithin said c.args.self.now c.feed.new.self error) (hosts_of c.args.plans.now)
    c.args.traces.now c.args.command.now c.in-Feed.host c.in-Feed.trace c.in-Some.trace.now c.in-Feed.is found)
    c.feed.ensures.err
