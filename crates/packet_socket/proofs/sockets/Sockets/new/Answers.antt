use Rattle.std.proofs.Common.{◌≡◌, [], ℕ, List, length, replicate, map, ap, ◌∙◌, arith}
use Rattle.driver.specs.declared.receiver.Received.{Received}
use Rattle.packet_socket.specs.InsideSockets.{items_of}
use Rattle.packet_socket.specs.HostState.{SocketsState}
use Rattle.packet_socket.proofs.InsideQueues.{all-empty}
use Rattle.packet_socket.proofs.sockets.Sockets.new.Goals as goal

pub returns : goal.returns
returns c =
    let count : c.loop.counter
    ≡ length c.args.kinds.items = omega (arith, c.loop-test.false, c.len-end.ensures.value, c.loop.auto.counter-end) in
    let empty = ap (map items_of) c.loop.invariant ∙ all-empty c.loop.counter c.args.room ∙ ap (λ (n : ℕ). replicate n []) count in
    record {
      new = ap (λ (list : List (List Received)). let s : SocketsState = record
          { kinds = c.args.kinds.items; queues = list; room = c.args.room; unclaimed = 0 } in s) empty;
    }
