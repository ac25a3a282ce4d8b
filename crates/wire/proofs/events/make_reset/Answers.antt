use Rattle.std.proofs.Common.{ℕ, ◌<◌, ◌≤◌, ap, arith, refl, sym, subst}
use Rattle.std.proofs.lemmas.Result.{IfOk-from_err}
use Rattle.stations.specs.AtomicRuns.{steps_told}
use Rattle.network_plan.specs.Answers.{FrameAnswer}
use Rattle.network_plan.specs.declared.reply.Answer.TheVariants.{Reset}
use Rattle.host_calls.specs.Networks.{nth_host}
use Rattle.host_calls.proofs.HostsOfNetworks.{host-there}
use Rattle.wire.specs.RunObservers.{ticks_played}
use Rattle.wire.specs.Runs.{ResetAnswer}
use Rattle.wire.proofs.ResetPlays.{absent-reset, reset-told, told-of_reset}
use Rattle.wire.proofs.Telling.{whatever-err}
use Rattle.wire.proofs.events.make_reset.Goals as goal

pub no_host-requires : goal.no_host-requires
no_host-requires g c = record { ready = c.requires.ready; room = c.requires.room; ticks = sym (ap ticks_played c.requires.is) }

pub returns-then-reset-len-clause-ok : goal.returns-then-reset-len-clause-ok
returns-then-reset-len-clause-ok g c =
    let host = c.args.reset.now.host in
    absent-reset host c.args.reset.now.ticks.now c.args.event.now c.args.network.now c.no_host.new.network c.args.observer.now
    c.no_host.new.observer c.requires.stands (subst (λ (n : ℕ). n ≤ host) c.len.ensures c.if-reset-len.true) c.no_host.ensures.hosts
    c.no_host.ensures.told

pub returns-then-reset-len-clause-refused : goal.returns-then-reset-len-clause-refused
returns-then-reset-len-clause-refused g c = tt

pub before_reset-requires : goal.before_reset-requires
before_reset-requires g c =
    let k = c.args.reset.now.host in
    let below = subst (λ (n : ℕ). k < n) c.len.ensures c.if-reset-len.false in
    let there = host-there c.args.network.now k below in
    record {
      there = below;
      ready = (c.requires.stands.each k (nth_host c.args.network.now k) there).ready;
      adapter = c.requires.stands.adapters k (nth_host c.args.network.now k) there;
    }

pub returns-in_err-found : goal.returns-in_err-found
returns-in_err-found g c = record {
  ok = IfOk-from_err c.from_residual.result _ c.from_residual.ensures.0;
  refused =
      whatever-err c.from_residual.result _
      (subst (λ (n : ℕ). c.args.reset.now.host < n) c.len.ensures c.if-reset-len.false, refl, refl);
}

pub reset-done-requires : goal.reset-done-requires
reset-done-requires g c =
    let k = c.args.reset.now.host in
    let below = subst (λ (n : ℕ). k < n) c.len.ensures c.if-reset-len.false in
    let there = host-there c.args.network.now k below in
    record {
      there = below;
      ready = (c.requires.stands.each k (nth_host c.args.network.now k) there).ready;
      adapter = c.requires.stands.adapters k (nth_host c.args.network.now k) there;
      ticks = c.requires.room;
      found = c.in_ok-found.ensures.found;
    }

pub answer-requires : goal.answer-requires
answer-requires g c =
    let runs = c.reset-done.ensures.resets.runs in
    record {
      room =
          g.met.O.RunObserver.composes_runs.keeps_room c.args.observer.now c.reset-done.new.observer c.args.event.now
          (steps_told 0 runs.steps) runs.of_call.heard c.requires.ready;
      fits = omega arith;
    }

pub returns-clause-ok : goal.returns-clause-ok
returns-clause-ok g c =
    let k = c.args.reset.now.host in
    let ticks = c.args.reset.now.ticks.now in
    let event = c.args.event.now in
    let below = subst (λ (n : ℕ). k < n) c.len.ensures c.if-reset-len.false in
    let old = c.args.network.now in
    let done = c.reset-done in
    let new = done.new.self in
    let gave = done.result.given_up in
    let full : FrameAnswer = Reset gave.sending gave.holding done.result.on_after in
    let answer : ResetAnswer =
    record { sending = gave.sending.items; holding = gave.holding.items; on_after = done.result.on_after } in
    let makes = done.ensures.resets in
    let runs = makes.runs in
    reset-told (g.O.Observer.heard c.args.observer.now done.new.observer) event k ticks old new done.result.accesses full answer
    c.args.observer.now c.answer.new.self c.requires.stands below done.ensures.others refl (λ none. absurd (cc none)) makes
    done.ensures.on_after
    (c.answer.ensures c.args.observer.now (steps_told 0 runs.steps) runs.of_call.heard
    (told-of_reset event k ticks runs.steps old.stations new.stations runs.of_call.leads runs.of_call.played
    (sym (ap ticks_played c.requires.is))))

pub returns-clause-refused : goal.returns-clause-refused
returns-clause-refused g c = tt
