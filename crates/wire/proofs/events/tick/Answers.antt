use Rattle.std.proofs.Common.{◌∷◌, [], ap, arith, subst, sym, ◌∙◌}
use Rattle.host_calls.specs.Networks.{NetworkState}
use Rattle.stations.specs.ToldTicks.{tick_told}
use Rattle.adapter.specs.Outcomes.{FrameOutcome}
use Rattle.adapter.specs.model_types.outcome.Outcome.TheVariants.{Nothing}
use Rattle.network_plan.specs.declared.reply.Answer.TheVariants.{Ticked}
use Rattle.network_plan.specs.declared.reply.Reply.{Reply}
use Rattle.wire.specs.PlayedCalls.{TickPlayed}
use Rattle.wire.specs.RunObservers.{StatesEnding, ending, ticks_played}
use Rattle.wire.proofs.Ticking.{event-told, go-played, not-go, tick-played}
use Rattle.wire.proofs.events.tick.Goals.{in-Go, in_default}
use Rattle.wire.proofs.events.tick.Goals as goal

pub note-requires : goal.note-requires
note-requires g c = record { room = c.requires.room; fits = omega arith }

pub answer-requires : goal.answer-requires
answer-requires g c =
    let tick = c.args.tick in
    let begin = c.args.observer.now in
    let event = c.args.event.now in
    let keeps = g.met.O.RunObserver.composes_runs.keeps_room begin in
    record {
      room = elim c.match-tick.branch [
        | in-Go w ↦
            subst (λ now. g.O.RunObserver.ready now event) (sym w.observer-is)
            (keeps w.note.new.self event (tick_told tick 0 Nothing ∷ []) w.note.ensures.heard c.requires.ready)
        | in_default w ↦
            let plays = w.play.ensures.plays in
            subst (λ now. g.O.RunObserver.ready now event) (sym w.observer-is)
            (keeps w.play.new.observer event (tick_told tick 0 plays.outcome ∷ []) plays.heard c.requires.ready)
      ];
      fits = omega arith;
    }

pub returns-clause-told : goal.returns-clause-told
returns-clause-told g c =
    let old = c.args.network.now.stations in
    let tick = c.args.tick in
    let begin = c.args.observer.now in
    let new = c.match-tick in
    let tells = λ (outcome : FrameOutcome) (heard : g.O.Observer.heard begin new.observer (tick_told tick 0 outcome ∷ []))
    (plays : (reply : Reply) → StatesEnding (ending 0 Ticked (tick_told tick 0 outcome ∷ [])) reply
    → TickPlayed tick reply old new.network.stations).
    event-told (c.answer.ensures begin (tick_told tick 0 outcome ∷ []) heard (sym (ap ticks_played c.requires.is))) plays in
    elim c.match-tick.branch [
      | in-Go w ↦
          tells Nothing
          (subst (λ now. g.O.Observer.heard begin now (tick_told tick 0 Nothing ∷ [])) (sym w.observer-is) w.note.ensures.heard)
          (λ reply states. subst (λ (n : NetworkState). TickPlayed tick reply old n.stations) (sym w.network-is)
          (go-played tick old reply w.in-Go.is states))
      | in_default w ↦
          let plays = w.play.ensures.plays in
          tells plays.outcome
          (subst (λ now. g.O.Observer.heard begin now (tick_told tick 0 plays.outcome ∷ [])) (sym w.observer-is) plays.heard)
          (λ reply states. subst (λ (n : NetworkState). TickPlayed tick reply old n.stations) (sym w.network-is)
          (tick-played tick old w.play.new.self.stations plays.outcome reply (not-go tick w.in_default.not-Go) plays.plays states))
    ]

pub returns-clause-hosts : goal.returns-clause-hosts
returns-clause-hosts g c = elim c.match-tick.branch [
  | in-Go w ↦ ap (λ (n : NetworkState). n.hosts) w.network-is
  | in_default w ↦ ap (λ (n : NetworkState). n.hosts) w.network-is ∙ w.play.ensures.hosts
]
