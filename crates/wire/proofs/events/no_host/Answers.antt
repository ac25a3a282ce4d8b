use Rattle.stations.specs.AtomicRuns.{steps_told}
use Rattle.wire.proofs.Playing.{told-of_ticks}
use Rattle.wire.proofs.events.no_host.Goals as goal

pub answer-requires-clause-room : goal.answer-requires-clause-room
answer-requires-clause-room g c =
    g.met.O.RunObserver.composes_runs.keeps_room c.args.observer.now c.play_without_go.new.observer c.args.event.now
    (steps_told 0 c.play_without_go.ensures.plays.steps) c.play_without_go.ensures.plays.heard c.requires.ready

pub returns-clause-told : goal.returns-clause-told
returns-clause-told g c =
    let plays = c.play_without_go.ensures.plays in
    record {
      ticked = c.play_without_go.new.observer;
      plays = plays;
      tells = c.answer.ensures c.args.observer.now (steps_told 0 plays.steps) plays.heard
          (told-of_ticks c.args.event.now c.args.ticks.now plays.steps c.args.network.now.stations
          c.play_without_go.new.self.stations
          c.requires.ticks plays.played plays.leads);
    }
