use Rattle.std.proofs.Common.{◌<◌, length, ap, arith, rules}
use Rattle.packet_socket.specs.HostState.{SocketsState}
use Rattle.packet_socket.proofs.InsideQueues.{oldest-leaves}
use Rattle.packet_socket.proofs.sockets.Sockets.next.Goals as goal

pub returns-clause-oldest : goal.returns-clause-oldest
returns-clause-oldest c = rw (← c.self.view_is) (
    let there : c.args.socket < length c.self.inside.queues.items = omega
    (arith, c.requires.there, ap (λ (s : SocketsState). length s.kinds) c.self.view_is, c.self.invariant.queues) in
    oldest-leaves c.self.inside.queues.items c.args.socket c.index_mut.result.now _ _ there c.index_mut.ensures.value
    (search rules) (search rules))
