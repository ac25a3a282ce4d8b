use Rattle.std.proofs.Common.{◌≤◌, length, arith}
use Rattle.host_calls.proofs.Endings.{all-wait_for_none}
use Rattle.host_calls.proofs.draining.first_waiting.Goals as goal

pub returns-clause-none : goal.returns-clause-none
returns-clause-none c =
    let all : length c.args.host.now.queues ≤ c.loop-socket.socket =
    omega (arith, c.socket_count-socket-end.ensures.count, c.socket_count-socket-end.ensures.queues, c.loop-socket-test.false) in
    all-wait_for_none c.args.host.now.queues c.loop-socket.socket all c.loop-socket.invariant
