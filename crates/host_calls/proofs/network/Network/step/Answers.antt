use Rattle.std.proofs.Common.{◌≡◌, ◌≢◌, [], List, rules, slice_get, subst, ◌∙◌}
use Rattle.packet_socket.specs.HostState.{HostState, all_of, queue_at}
use Rattle.stations.specs.Stations.{world_at}
use Rattle.host_calls.specs.Networks.{host_or_empty, nth_host}
use Rattle.host_calls.proofs.CallSteps.{room-left}
use Rattle.host_calls.proofs.HostsOfNetworks.{first-waits, has-host, only-same, still-has}
use Rattle.host_calls.proofs.JoinedSteps.{into-none, stands-on, steps-after}
use Rattle.host_calls.proofs.network.Network.step.Goals as goal

pub returns-then-finish-clause-others : goal.returns-then-finish-clause-others
returns-then-finish-clause-others g c = only-same c.args.self.now c.finish.new.self c.args.number c.requires.there c.finish.ensures.hosts

pub handle-requires-clause-stands : goal.handle-requires-clause-stands
handle-requires-clause-stands g c = stands-on c.finish.ensures.steps c.requires.stands

pub returns-then-line-clause-steps : goal.returns-then-line-clause-steps
returns-then-line-clause-steps g c = into-none (steps-after c.if-finish.false c.finish.ensures.steps c.handle.ensures.steps)

pub give-requires-clause-stands : goal.give-requires-clause-stands
give-requires-clause-stands g c = stands-on c.finish.ensures.steps c.requires.stands

pub give-requires-clause-known : goal.give-requires-clause-known
give-requires-clause-known g c = (first-waits c.in-Some.socket
    (has-host c.self.view_is c.self.invariant (still-has c.finish.ensures.hosts c.requires.there) c.index.ensures) c.in-Some.ensures.some).0

pub give-requires-clause-waits : goal.give-requires-clause-waits
give-requires-clause-waits g c = (first-waits c.in-Some.socket
    (has-host c.self.view_is c.self.invariant (still-has c.finish.ensures.hosts c.requires.there) c.index.ensures) c.in-Some.ensures.some).1

pub give-requires-clause-room : goal.give-requires-clause-room
give-requires-clause-room g c =
    room-left (nth_host c.args.self.now c.args.number) (world_at c.args.self.now.stations c.args.number) c.in-Some.socket
    (g.S.Outlet.room_left c.args.sink.now)
    (subst (λ (list : List HostState). queue_at (host_or_empty (slice_get list c.args.number)).queues c.in-Some.socket ≢ [])
    c.finish.ensures.hosts (first-waits c.in-Some.socket
    (has-host c.self.view_is c.self.invariant (still-has c.finish.ensures.hosts c.requires.there) c.index.ensures)
    c.in-Some.ensures.some).1)
    (c.requires.room c.finish.ensures.adapter)

pub returns-in-Some-clause-steps : goal.returns-in-Some-clause-steps
returns-in-Some-clause-steps g c =
    let gives = c.give.ensures.steps in
    record {
      given = gives.given;
      appended = gives.appended;
      room = gives.room;
      on = steps-after c.if-finish.false c.finish.ensures.steps gives.on;
    }

pub move_piece-requires-clause-stands : goal.move_piece-requires-clause-stands
move_piece-requires-clause-stands g c = stands-on c.finish.ensures.steps c.requires.stands

pub move_piece-requires-clause-given : goal.move_piece-requires-clause-given
move_piece-requires-clause-given g c =
    let empty : all_of c.index.result.now.queues ≡ [] = search rules in
    subst (λ (host : HostState). all_of host.queues ≡ [])
    (has-host c.self.view_is c.self.invariant (still-has c.finish.ensures.hosts c.requires.there) c.index.ensures).is empty

pub returns-clause-steps : goal.returns-clause-steps
returns-clause-steps g c = into-none (steps-after c.if-finish.false c.finish.ensures.steps c.move_piece.ensures.steps)

pub returns-clause-others : goal.returns-clause-others
returns-clause-others g c =
    only-same c.args.self.now c.move_piece.new.self c.args.number c.requires.there
    (c.move_piece.ensures.hosts ∙ c.finish.ensures.hosts)
