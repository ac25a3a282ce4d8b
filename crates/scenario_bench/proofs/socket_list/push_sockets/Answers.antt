use Rattle.scenario_bench.proofs.EmptySockets.{no_pair, pair_more}
use Rattle.scenario_bench.proofs.socket_list.push_sockets.Goals as goal

pub loop-socket-init : goal.loop-socket-init
loop-socket-init c = no_pair c.args.host c.args.sockets.now.items

pub loop-socket-preserved : goal.loop-socket-preserved
loop-socket-preserved c = pair_more c.args.host c.loop-socket.socket c.args.sockets.now.items c.loop-socket.sockets.items
    c.push.new.self.items c.loop-socket.invariant c.in_ok-push.ensures.items
