use Rattle.std.proofs.Common.{rules, refl}
use Rattle.packet_socket.specs.CallEffects.{answer_in, call_request}
use Rattle.host_calls.specs.CallsInSteps.{MakesCall}
use Rattle.host_calls.specs.ConnectedHosts.{played_call}
use Rattle.host_calls.proofs.HostsOfNetworks.{after-call, has-host, others-stay, ready-before, same-stations}
use Rattle.host_calls.proofs.Lifting.{lift-call}
use Rattle.host_calls.proofs.network.Network.call.Goals as goal

pub invariant_of-self : goal.invariant_of-self
invariant_of-self g c =
    let ready = ready-before (has-host c.self.view_is c.self.invariant c.requires.there c.index_mut.ensures.value) c.requires.ready in
    record {
      same = same-stations c.args.number c.call-answer.new.self c.self.invariant
          (lift-call {h' = c.call-answer.new.self} g.met.O.Observer.composes _ (call_request c.args.call)
          (answer_in c.call-answer.new.into c.call-answer.result) refl ready c.finish.ensures
          (c.call-answer.ensures.does (record { honest = tt; ready = ready }))).runs.of_call (search rules);
    }

pub returns-clause-does : goal.returns-clause-does
returns-clause-does g c =
    let here = has-host c.self.view_is c.self.invariant c.requires.there c.index_mut.ensures.value in
    let ready = ready-before here c.requires.ready in
    after-call (λ told. MakesCall (played_call c.args.number c.args.ticks.now (g.O.Observer.heard c.args.observer.now told)
    c.finish.new.self.accesses) (call_request c.args.call) (answer_in c.call-answer.new.into c.call-answer.result))
    c.call-answer.new.self c.finish.new.self.stations.now c.finish.new.self.observer.now here (search rules) (search rules)
    (lift-call {h' = c.call-answer.new.self} g.met.O.Observer.composes _ (call_request c.args.call)
    (answer_in c.call-answer.new.into c.call-answer.result) refl ready c.finish.ensures
    (c.call-answer.ensures.does (record { honest = tt; ready = ready })))

pub returns-clause-others : goal.returns-clause-others
returns-clause-others g c = others-stay c.call-answer.new.self c.finish.new.self.stations.now
    (has-host c.self.view_is c.self.invariant c.requires.there c.index_mut.ensures.value)
