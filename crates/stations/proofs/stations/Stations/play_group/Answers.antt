use Rattle.std.proofs.Common.{◌≡◌, ◌∷◌, [], List, ap, arith, subst, sym, ◌∙◌}
use Rattle.adapter.specs.TickGroups.{behind_group, group_of}
use Rattle.stations.specs.AtomicRuns.{is_go}
use Rattle.stations.specs.AtomicSteps.{watched}
use Rattle.stations.specs.declared.tick.Tick.{Tick}
use Rattle.stations.specs.declared.tick.Tick.TheVariants.{Go}
use Rattle.stations.proofs.TickLoops.{GroupPlayed, group-begins-played, group-end, group-more, no-ticks}
use Rattle.stations.proofs.stations.Stations.play_group.Goals as goal

pub loop-tick-init : goal.loop-tick-init
loop-tick-init g c = group-begins-played g.met.O.Observer.composes c.requires.room

pub loop-tick-preserved : goal.loop-tick-preserved
loop-tick-preserved g c =
    let first = c.in-Some.tick.now in
    let later = c.in-Some.more.now in
    let old = watched c.args.self.now c.args.observer.now in
    let mid = watched c.loop-tick.self c.loop-tick.observer in
    group-more g.met.O.Observer.composes old mid (watched c.play.new.self c.play.new.observer) c.args.ticks.now later first c.args.accesses
    (subst (λ (rest : List Tick). GroupPlayed g.O.Observer c.args.ticks.now c.args.accesses rest old mid)
    c.in-Some.ensures.cases.0 c.loop-tick.invariant)
    c.in_default-tick.not-Go c.play.ensures

pub loop-tick-smaller : goal.loop-tick-smaller
loop-tick-smaller g c = omega (arith, c.in-Some.ensures.cases.1)

pub returns-in-Go : goal.returns-in-Go
returns-in-Go g c =
    let more = c.in-Some.more.now in
    let rest : c.loop-tick.rest.now ≡ Go ∷ more = c.in-Some.ensures.cases.0 ∙ ap (λ (tick : Tick). tick ∷ more) c.in-Go.is in
    record {
      plays = group-end c.loop-tick.invariant (ap (group_of is_go) rest);
      rest = sym (c.loop-tick.invariant.split.behind ∙ ap (behind_group is_go) rest);
      room = omega (arith, c.loop-tick.invariant.room, c.in-Some.ensures.cases.1);
    }

pub returns-in_default : goal.returns-in_default
returns-in_default g c =
    let none : c.loop-tick.rest.now ≡ [] = no-ticks c.loop-tick.rest.now c.in_default.ensures.cases in
    record {
      plays = group-end c.loop-tick.invariant (ap (group_of is_go) none);
      rest = none ∙ sym (c.loop-tick.invariant.split.behind ∙ ap (behind_group is_go) none);
      room = c.loop-tick.invariant.room;
    }
