use Rattle.std.proofs.Common.{◌≡◌, ◌<◌, [], List, ap, arith, length, subst}
use Rattle.std.proofs.lemmas.Grind.{common_steps}
use Rattle.stations.specs.AtomicSteps.{watched}
use Rattle.stations.specs.declared.tick.Tick.{Tick}
use Rattle.stations.proofs.TickLoops.{AllPlayed, all-begins-played, all-end, all-more, behind-shorter}
use Rattle.stations.proofs.stations.Stations.play_without_go.Goals as goal

pub loop-rest-init : goal.loop-rest-init
loop-rest-init g c = all-begins-played g.met.O.Observer.composes c.requires.room

pub loop-rest-smaller : goal.loop-rest-smaller
loop-rest-smaller g c =
    let some : 0 < length c.loop-rest.rest.now = grind (arith, common_steps) in
    omega (arith, some, behind-shorter c.loop-rest.rest.now, ap length c.play_group-rest.ensures.rest)

pub loop-rest-preserved : goal.loop-rest-preserved
loop-rest-preserved g c = all-more g.met.O.Observer.composes c.loop-rest.invariant c.play_group-rest.ensures.plays
    c.play_group-rest.ensures.rest c.play_group-rest.ensures.room

pub returns : goal.returns
returns g c =
    let none : c.loop-rest.rest.now ≡ [] = grind (arith, common_steps) in
    all-end (subst (λ (rest : List Tick). AllPlayed g.O.Observer c.args.ticks.now c.args.accesses rest
    (watched c.args.self.now c.args.observer.now) (watched c.loop-rest.self c.loop-rest.observer)) none c.loop-rest.invariant)
