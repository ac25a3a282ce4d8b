use Rattle.std.proofs.Common.{◌≡◌, ℕ, List, Option, map, refl, rules, subst, sym}
use Rattle.std.specs.Prelude.{IfSome}
use Rattle.std.proofs.lemmas.Result.{err_from_is_err_and}
use Rattle.scenario.specs.SoFar.{command_of_event, hosts_of}
use Rattle.scenario_bench.specs.EventLists.{events_after_send, fed}
use Rattle.scenario_bench.proofs.PlayedEvents.{HasFed, fed_stops, none_fed, one_fed}
use Rattle.scenario_bench.proofs.play.Play.feed.Goals as goal

pub loop-frame-init : goal.loop-frame-init
loop-frame-init c =
    let events = fed (hosts_of c.args.plans.now) c.args.host in
    let play = c.args.self.now in
    let same : c.into_iter-frame-iterator.result ≡ c.args.trace.now.frames = search rules in (
      subst (λ (rest : List (List ℕ)). HasFed (List ℕ) events c.args.trace.now.frames rest play play) (sym same)
          (none_fed (List ℕ) events c.args.trace.now.frames play),
      subst (λ (pieces : Option ℕ). IfSome pieces (λ made. map command_of_event c.new-behind.result.list.items
          ≡ events_after_send (hosts_of c.args.plans.now) c.args.host made)) (sym c.new-behind.ensures) tt,
    )

pub loop-frame-preserved : goal.loop-frame-preserved
loop-frame-preserved c = (
  one_fed (List ℕ) (fed (hosts_of c.args.plans.now) c.args.host) c.args.trace.now.frames c.loop-frame.frame-iterator c.next.new.self
      c.in-Some.frame.now (fed (hosts_of c.args.plans.now) c.args.host c.in-Some.frame.now) c.args.self.now c.loop-frame.self
      c.feed_frame.new.self c.loop-frame.invariant.0 c.in-Some.ensures.steps refl c.in_ok-feed_frame.ensures.ok,
  c.feed_frame.ensures.kept,
)

pub returns-in_err-feed_frame-clause-err : goal.returns-in_err-feed_frame-clause-err
returns-in_err-feed_frame-clause-err c =
    let p = err_from_is_err_and c.from_residual.result c.from_residual.ensures.1 in
    rw (p.1, p.2) (fed_stops (List ℕ) (fed (hosts_of c.args.plans.now) c.args.host) c.args.trace.now.frames
    c.loop-frame.frame-iterator c.next.new.self c.in-Some.frame.now c.args.self.now c.loop-frame.self c.feed_frame.new.self _
    c.loop-frame.invariant.0 c.in-Some.ensures.steps c.in_err-feed_frame.ensures.err)
