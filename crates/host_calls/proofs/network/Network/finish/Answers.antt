use Rattle.std.proofs.Common.{List, subst, sym}
use Rattle.adapter.specs.State.{IsAdapter}
use Rattle.adapter.specs.model_types.step.StepKind.TheVariants.{RxDone}
use Rattle.stations.specs.Stations.{StationState, world_at}
use Rattle.host_calls.proofs.AdapterSteps.{finishes-done, finishes-free, finishes-none, has-stepped, same-stepped}
use Rattle.host_calls.proofs.HostsOfNetworks.{drained-here, found-steps, stations-are}
use Rattle.host_calls.proofs.network.Network.finish.Goals.{in-Done, in_default}
use Rattle.host_calls.proofs.network.Network.finish.Goals as goal

pub invariant_of-self : goal.invariant_of-self
invariant_of-self c =
    record {
      same = same-stepped c.self.invariant (has-stepped c.args.number RxDone c.step.result c.self.view_is c.self.invariant c.requires.there
          c.step.ensures.occurs c.step.ensures.state);
    }

pub returns-clause-adapter : goal.returns-clause-adapter
returns-clause-adapter c =
    subst (λ (stations : List StationState). IsAdapter (world_at stations c.args.number).adapter)
    (sym (stations-are c.self.view_is c.self.invariant)) c.step.ensures.occurs.0

pub returns-clause-free : goal.returns-clause-free
returns-clause-free c = finishes-free c.step.result
    (has-stepped c.args.number RxDone c.step.result c.self.view_is c.self.invariant c.requires.there
    c.step.ensures.occurs c.step.ensures.state)

pub returns-clause-steps : goal.returns-clause-steps
returns-clause-steps c =
    let it = has-stepped c.args.number RxDone c.step.result c.self.view_is c.self.invariant c.requires.there
    c.step.ensures.occurs c.step.ensures.state in
    let stands = drained-here c.args.number c.self.view_is c.self.invariant c.requires.stands in
    elim c.match-matches.branch [
      | in-Done w ↦ found-steps c.self.view_is c.self.invariant w.matches-is (finishes-done c.step.result it w.in-Done.is stands)
      | in_default w ↦
          found-steps c.self.view_is c.self.invariant w.matches-is (finishes-none c.step.result it w.in_default.not-Done stands)
    ]
