use Rattle.std.proofs.Common.{◌≡◌, ◌++◌, ◌∙◌, ℕ, ap, arith}
use Rattle.std.specs.Prelude.{map}
use Rattle.scenario.specs.SoFar.{command_of_event}
use Rattle.scenario_bench.specs.EventLists.{arrival_at}
use Rattle.scenario_bench.proofs.EventsOfCommands.{arrives-more, arrives-none}
use Rattle.scenario_bench.proofs.events.push_arrival.Goals as goal

pub loop-socket-preserved : goal.loop-socket-preserved
loop-socket-preserved c = arrives-more (map command_of_event c.args.events.now.items) (map command_of_event c.loop-socket.events.items) _ _
    c.args.pieces
    c.args.host c.loop-socket.socket c.loop-socket.invariant c.in_ok-push_events-3.ensures c.recv_event.ensures

pub loop-socket-init : goal.loop-socket-init
loop-socket-init c = arrives-none (map command_of_event c.args.events.now.items) _ _ _ c.args.pieces c.args.host
    c.in_ok-push_events.ensures c.in_ok-push_moves.ensures c.in_ok-push_events-2.ensures

pub returns : goal.returns
returns c =
    let all : c.loop-socket.socket ≡ c.args.sockets = omega arith in
    c.loop-socket.invariant ∙ ap (λ (n : ℕ). map command_of_event c.args.events.now.items ++ arrival_at c.args.pieces c.args.host n) all
