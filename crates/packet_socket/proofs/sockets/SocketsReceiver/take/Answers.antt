use Rattle.std.proofs.Common.{◌≡◌, ◌<◌, inl, Some, List, length, sym, ap, ◌∙◌, arith}
use Rattle.packet_socket.specs.SocketKinds.{socket_of}
use Rattle.packet_socket.specs.declared.socket_kind.SocketKind.{SocketKind}
use Rattle.packet_socket.proofs.InsideQueues.{newest-comes}
use Rattle.packet_socket.proofs.sockets.SocketsReceiver.take.Goals as goal

pub returns : goal.returns
returns c =
    let is : socket_of c.self.inside.kinds.items c.args.received.ether_type ≡ Some c.in-Some.socket =
    ap (λ (table : List SocketKind). socket_of table c.args.received.ether_type) (sym c.as_slice.ensures.value)
    ∙ sym c.in-Some.ensures.socket in
    let below : c.in-Some.socket < length c.self.inside.queues.items = omega
    (arith, c.in-Some.ensures.there, ap length c.as_slice.ensures.value, c.self.invariant.queues) in
    rw (← c.self.view_is)
    (inl (
      c.new.ensures,
      newest-comes c.self.inside.kinds.items c.self.inside.queues.items c.self.inside.room c.self.inside.unclaimed c.in-Some.socket
          c.args.received c.index_mut.result.now c.push_back.new.self
          is below c.index_mut.ensures.value c.self.invariant.rooms c.push_back.ensures.items,
    ))
