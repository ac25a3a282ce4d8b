use Rattle.std.proofs.Common.{◌∷◌, [], List, sym, subst}
use Rattle.adapter.specs.Outcomes.{FrameOutcome}
use Rattle.adapter_plants.specs.OneStep.{plays_one}
use Rattle.stations.specs.AtomicSteps.{PlaysTick}
use Rattle.stations.specs.Stations.{StationState}
use Rattle.stations.specs.ToldTicks.{tick_told}
use Rattle.adapter_plants.proofs.stations_calls.play_twice.Goals as goal

pub returns-clause-stations : goal.returns-clause-stations
returns-clause-stations g c =
    let again = subst (λ (s : List StationState). PlaysTick s c.args.tick c.play-2.ensures.outcome c.play-2.new.self)
    (sym c.requires.stations) c.play-2.ensures.plays in
    (plays_one c.args.one.now c.play.new.self c.play-2.new.self c.args.tick c.play.ensures.outcome c.play-2.ensures.outcome
    c.play.ensures.plays again).states

pub returns-clause-told : goal.returns-clause-told
returns-clause-told g c =
    let again = subst (λ (s : List StationState). PlaysTick s c.args.tick c.play-2.ensures.outcome c.play-2.new.self)
    (sym c.requires.stations) c.play-2.ensures.plays in
    let one = plays_one c.args.one.now c.play.new.self c.play-2.new.self c.args.tick c.play.ensures.outcome
    c.play-2.ensures.outcome c.play.ensures.plays again in (
      c.play.ensures.outcome,
      c.play.ensures.heard,
      subst (λ (x : FrameOutcome). g.O.Observer.heard c.args.another.now
          c.play-2.new.observer (tick_told c.args.tick c.args.accesses x ∷ [])) (sym one.outcomes) c.play-2.ensures.heard,
    )
