use Rattle.std.proofs.Common.{rules, refl}
use Rattle.host_calls.specs.ConnectedHosts.{played_call}
use Rattle.host_calls.specs.NotingObservers.{KeepsReferences, TellsAndNotes}
use Rattle.host_calls.specs.NotingLaws.{tells_compose}
use Rattle.host_calls.specs.ResetsInSteps.{RunsReset}
use Rattle.host_calls.proofs.HostsOfNetworks.{after-call, has-host, others-stay, ready-before, same-stations}
use Rattle.host_calls.proofs.ResetNetworks.{runs-reset, told-back}
use Rattle.host_calls.proofs.network.Network.reset_over.Goals as goal

pub invariant_of-self : goal.invariant_of-self
invariant_of-self g c =
    let ready = ready-before (has-host c.self.view_is c.self.invariant c.requires.there c.index_mut.ensures.value) c.requires.ready in
    record {
      same = same-stations c.args.number c.reset.new.self c.self.invariant
          (runs-reset (tells_compose g.O.Observer.heard g.met.O.Observer.composes) _ refl ready c.reset.ensures.others
          c.reset.ensures.setup c.reset.ensures.groups (c.reset.ensures.resets _ (record { honest = tt; ready = ready }))
          c.finish.ensures).of_call
          (search rules);
    }

pub returns-clause-keeps : goal.returns-clause-keeps
returns-clause-keeps g c =
    let ready = ready-before (has-host c.self.view_is c.self.invariant c.requires.there c.index_mut.ensures.value) c.requires.ready in
    told-back (KeepsReferences c.args.noting.now) c.finish.new.self.observer.now _ (search rules)
    (runs-reset (tells_compose g.O.Observer.heard g.met.O.Observer.composes) _ refl ready c.reset.ensures.others
    c.reset.ensures.setup c.reset.ensures.groups (c.reset.ensures.resets _ (record { honest = tt; ready = ready }))
    c.finish.ensures).of_call.heard.keeps

pub returns-clause-runs : goal.returns-clause-runs
returns-clause-runs g c = λ ready_now.
    let here = has-host c.self.view_is c.self.invariant c.requires.there c.index_mut.ensures.value in
    let ready = ready-before here c.requires.ready in
    after-call (λ told. RunsReset (played_call c.args.number c.args.ticks.now
    (TellsAndNotes g.O.Observer.heard c.args.noting.now told) c.finish.new.self.accesses))
    c.reset.new.self c.finish.new.self.stations.now c.finish.new.self.observer.now here (search rules) (search rules)
    (runs-reset (tells_compose g.O.Observer.heard g.met.O.Observer.composes) _ refl ready c.reset.ensures.others
    c.reset.ensures.setup c.reset.ensures.groups (c.reset.ensures.resets _ (record { honest = tt; ready = ready }))
    c.finish.ensures)

pub returns-clause-others : goal.returns-clause-others
returns-clause-others g c = others-stay c.reset.new.self c.finish.new.self.stations.now
    (has-host c.self.view_is c.self.invariant c.requires.there c.index_mut.ensures.value)
