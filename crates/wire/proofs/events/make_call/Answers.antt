use Rattle.std.proofs.Common.{ℕ, ◌<◌, ◌≤◌, ap, sym, subst}
use Rattle.stations.specs.AtomicRuns.{steps_told}
use Rattle.network_plan.specs.Answers.{FrameAnswer}
use Rattle.packet_socket.specs.CallEffects.{answer_in}
use Rattle.host_calls.specs.ConnectedHosts.{played_call}
use Rattle.host_calls.specs.Networks.{connected_at, nth_host}
use Rattle.host_calls.proofs.HostsOfNetworks.{host-there}
use Rattle.wire.specs.PlayedCalls.{call_in}
use Rattle.wire.specs.RunObservers.{TellsReply, ending, ticks_played}
use Rattle.wire.proofs.Playing.{absent-played, call-told, told-of_call}
use Rattle.wire.proofs.events.make_call.Goals as goal

pub no_host-requires : goal.no_host-requires
no_host-requires g c = record { ready = c.requires.ready; room = c.requires.room; ticks = sym (ap ticks_played c.requires.is) }

pub returns-then-call-len : goal.returns-then-call-len
returns-then-call-len g c =
    let call = call_in c.args.call.now in
    absent-played call c.args.event.now c.args.network.now c.no_host.new.network c.args.observer.now c.no_host.new.observer
    c.requires.stands (subst (λ (n : ℕ). n ≤ call.host) c.len.ensures c.if-call-len.true) c.no_host.ensures.hosts c.no_host.ensures.told

pub call-called-requires : goal.call-called-requires
call-called-requires g c =
    let k = c.args.call.now.host in
    let below = subst (λ (n : ℕ). k < n) c.len.ensures c.if-call-len.false in
    record {
      there = below;
      ready = (c.requires.stands.each k (nth_host c.args.network.now k) (host-there c.args.network.now k below)).ready;
      room = c.requires.room;
    }

pub ending_of-answer-requires : goal.ending_of-answer-requires
ending_of-answer-requires g c = record { legal = c.call-called.ensures.legal }

pub answer-requires-clause-room : goal.answer-requires-clause-room
answer-requires-clause-room g c =
    let runs = c.call-called.ensures.does.runs in
    g.met.O.RunObserver.composes_runs.keeps_room c.args.observer.now c.call-called.new.observer c.args.event.now
    (steps_told 0 runs.steps) runs.of_call.heard c.requires.ready

pub returns : goal.returns
returns g c =
    let called = c.call-called in
    let call = call_in c.args.call.now in
    let k = call.host in
    let below = subst (λ (n : ℕ). k < n) c.len.ensures c.if-call-len.false in
    let event = c.args.event.now in
    let old = c.args.network.now in
    let new = called.new.self in
    let heard = g.O.Observer.heard c.args.observer.now called.new.observer in
    let accesses = called.result.accesses in
    let calls = called.ensures.does in
    let steps = calls.runs.steps in
    call-told heard event call old new accesses (answer_in called.new.into called.result.answer) c.args.observer.now c.answer.new.self
    c.requires.stands below called.ensures.others calls
    (subst (λ (a : FrameAnswer). TellsReply g.O.RunObserver.ran event (ending accesses a (steps_told 0 steps)) c.args.observer.now
    c.answer.new.self)
    (c.ending_of-answer.ensures.ends called.new.into)
    (c.answer.ensures c.args.observer.now (steps_told 0 steps) calls.runs.of_call.heard
    (told-of_call event (played_call k call.ticks heard accesses) (connected_at old k) (connected_at new k)
    (sym (ap ticks_played c.requires.is)) calls.runs)))
