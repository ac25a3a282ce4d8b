use Rattle.std.proofs.Common.{arith, rules, take, ap, refl, sym, subst}
use Rattle.adapter.specs.DriverState.{DriverState}
use Rattle.driver.specs.Parts.{IsFrameSize}
use Rattle.packet_socket.specs.HostCalls.{driver_of, host_at}
use Rattle.packet_socket.specs.InsideHost.{host_inside, host_with}
use Rattle.packet_socket.specs.HostState.{SocketsState, queue_at}
use Rattle.packet_socket.proofs.QueueParts.{Splits}
use Rattle.packet_socket.proofs.GivenFrames.{front-long, gives-others, host-receives, if-none}
use Rattle.packet_socket.proofs.DriverActs.{makes-none}
use Rattle.packet_socket.proofs.ConsistentHosts.{CanComeBack, can-come-back, entry-splits, stays-host, stays-owners}
use Rattle.packet_socket.proofs.host.Host.recv.Given.{Over}
use Rattle.packet_socket.proofs.host.Host.recv.Goals.{In-Some}
use Rattle.packet_socket.proofs.host.Host.recv.Goals as goal

parts : (g : Over) (c : In-Some g)
    → Splits c.self.inside.sockets.queues c.args.socket c.in-Some.received (queue_at c.next.new.self.queues c.args.socket)
parts g c = entry-splits c.self.inside.driver c.self.inside.sockets c.next.new.self c.args.socket c.len.result c.in-Some.received
    c.self.invariant c.if-socket-len.false c.len.ensures.count c.in-Some.ensures.oldest

back : (g : Over) (c : In-Some g) → CanComeBack c.self.inside.driver c.in-Some.received
back g c = can-come-back c.self.inside.driver c.self.inside.sockets c.args.socket c.in-Some.received _ c.self.invariant (parts g c)

pub read-size-requires-clause-known : goal.read-size-requires-clause-known
read-size-requires-clause-known g c = (back g (goal.at.read-size-requires-clause-known g c).In-Some).known

pub read-size-requires-clause-whole : goal.read-size-requires-clause-whole
read-size-requires-clause-whole g c = (back g (goal.at.read-size-requires-clause-whole g c).In-Some).whole

pub give-requires-clause-one_owner : goal.give-requires-clause-one_owner
give-requires-clause-one_owner g c = (back g (goal.at.give-requires-clause-one_owner g c).In-Some).one_owner

pub invariant_of-self-2 : goal.invariant_of-self-2
invariant_of-self-2 g c =
    stays-host c.self.inside.driver c.give.new.self c.self.inside.sockets c.next.new.self c.args.socket c.in-Some.received c.self.invariant
    (parts g (goal.at.invariant_of-self-2 g c).In-Some) c.in-Some.ensures.others
    (ap (λ (s : DriverState). s.layout) c.give.ensures.offers.others) c.give.ensures.owners

pub returns-clause-ok : goal.returns-clause-ok
returns-clause-ok g c = rw (← c.self.view_is) (
    let d = c.self.inside.driver in
    let before = c.self.inside.sockets in
    let there = (goal.at.returns-clause-ok g c).In-Some in
    record {
      received = c.in-Some.received;
      leaves = record {
        oldest = c.in-Some.ensures.oldest;
        others = ap (λ (s : SocketsState). s.queues) c.in-Some.ensures.others;
        kinds = ap (λ (s : SocketsState). s.kinds) c.in-Some.ensures.others;
        unclaimed = ap (λ (s : SocketsState). s.unclaimed) c.in-Some.ensures.others;
        long = c.read-size.ensures.length;
      };
      others = gives-others d c.give.new.self before c.next.new.self c.give.ensures.offers.others
          (ap (λ (s : SocketsState). s.kinds) c.in-Some.ensures.others) (ap (λ (s : SocketsState). s.unclaimed) c.in-Some.ensures.others);
      owners = stays-owners d c.give.new.self before c.next.new.self c.args.socket c.in-Some.received (parts g there)
          c.in-Some.ensures.others c.give.ensures.owners;
      refilled = c.give.ensures.offers.refilled;
      legal = subst IsFrameSize (sym c.read-size.ensures.length) (back g there).whole.size;
      rest = c.read-size.ensures.rest;
    })

pub returns-clause-receives : goal.returns-clause-receives
returns-clause-receives g c = rw (← c.self.view_is) (λ up is.
    let d = c.self.inside.driver in
    let before = c.self.inside.sockets in
    let after = c.next.new.self in
    let old = host_at c.args.bus.now (host_inside c.self.inside) in
    let held = (driver_of old.host (g.B.Bus.world old.bus)).handed_out in
    let there = (goal.at.returns-clause-receives g c).In-Some in
    host-receives g.B.Bus g.met.B.Bus.composes.joins old (host_at c.give.new.bus (host_with c.give.new.self after)) c.read-size.new.bus
    c.args.socket c.read-size.result c.in-Some.received
    (take c.read-size.result c.read-size.new.into) is (parts g there)
    (record {
      oldest = c.in-Some.ensures.oldest;
      others = ap (λ (s : SocketsState). s.queues) c.in-Some.ensures.others;
      kinds = ap (λ (s : SocketsState). s.kinds) c.in-Some.ensures.others;
      unclaimed = ap (λ (s : SocketsState). s.unclaimed) c.in-Some.ensures.others;
      long = c.read-size.ensures.length;
    })
    (c.read-size.ensures.ran up held (record { honest = is.honest; ready = is.ready.ready }))
    (λ first pieces later ready. c.read-size.ensures.frame up first pieces later (record { honest = is.honest; ready = ready }))
    (λ first pieces later numbers ready. c.give.ensures.gives up first pieces later numbers
    (record { honest = c.read-size.ensures.keeps.honest is.honest; ready = ready }))
    (front-long c.read-size.result c.read-size.new.into (search rules)
    (subst IsFrameSize (sym c.read-size.ensures.length) (back g there).whole.size))
    (omega (arith, c.if-socket-len.false, c.len.ensures.count))
    c.give.ensures.offers.refilled
    (gives-others d c.give.new.self before after c.give.ensures.offers.others
    (ap (λ (s : SocketsState). s.kinds) c.in-Some.ensures.others)
    (ap (λ (s : SocketsState). s.unclaimed) c.in-Some.ensures.others)))

pub returns-in_default-clause-receives : goal.returns-in_default-clause-receives
returns-in_default-clause-receives g c = rw (← c.self.view_is) (λ up is. (
  omega (arith, c.if-socket-len.false, c.len.ensures.count),
  if-none c.next.result c.in_default.is c.next.ensures.none,
  makes-none g.B.Bus (host_at c.args.bus.now (host_inside c.self.inside)) c.args.bus.now
      (host_with c.self.inside.driver c.next.new.self) is refl
      (ap (host_with c.self.inside.driver) (if-none c.next.result c.in_default.is c.next.ensures.stays)),
))
