use Rattle.packet_socket.specs.CallEffects.{answer_in}
use Rattle.host_calls.specs.Networks.{connected_at, nth_host}
use Rattle.host_calls.proofs.CallSteps.{handled-steps, interrupted-call}
use Rattle.host_calls.proofs.network.Network.handle.Goals as goal

pub returns-clause-steps : goal.returns-clause-steps
returns-clause-steps c =
    let k = c.args.number in
    let made = interrupted-call (answer_in c.call.new.into c.call.result.answer) _ (connected_at c.args.self.now k)
    (connected_at c.call.new.self k) c.call.ensures.does in
    handled-steps made.0 k c.args.self.now.stations c.call.new.self.stations _ c.call.result.accesses
    (nth_host c.args.self.now k) (nth_host c.call.new.self k) c.requires.stands.ready made.1 c.requires.free c.requires.asserted
