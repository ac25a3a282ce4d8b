use Rattle.std.proofs.Common.{ap, arith, length, length-append, refl}
use Rattle.stations.specs.Stations.{world_at}
use Rattle.host_calls.specs.Networks.{nth_host}
use Rattle.host_calls.proofs.Endings.{drains-into, held-at_most, steps-fit}
use Rattle.host_calls.proofs.HostsOfNetworks.{only-join, only-length, only-same}
use Rattle.host_calls.proofs.JoinedSteps.{into-join, into-none, no-step, one-step, stands-on, steps-none}
use Rattle.host_calls.proofs.network.Network.drain.Goals as goal

pub loop-bytes-init : goal.loop-bytes-init
loop-bytes-init g c =
    let n = c.args.self.now in
    record {
      into = into-none (steps-none c.args.number n.stations (nth_host n c.args.number) c.requires.stands);
      stands = c.requires.stands;
      adapter = λ adapter. adapter;
      others = only-same n n c.args.number c.requires.there refl;
    }

pub step-requires-clause-there : goal.step-requires-clause-there
step-requires-clause-there g c =
    omega (arith, c.requires.there, only-length c.args.self.now c.loop-bytes.self c.args.number c.loop-bytes.invariant.others)

pub step-requires-clause-room : goal.step-requires-clause-room
step-requires-clause-room g c = λ adapter.
    let into = c.loop-bytes.invariant.into in
    let most = held-at_most (nth_host c.args.self.now c.args.number) (world_at c.args.self.now.stations c.args.number) c.requires.stands
    (c.loop-bytes.invariant.adapter adapter) in
    omega (arith, into.room, into.on.counts.held, most, c.requires.room)

pub overflow_add-steps : goal.overflow_add-steps
overflow_add-steps g c =
    let into = c.loop-bytes.invariant.into in
    let step = one-step c.loop-bytes-test.true c.step.ensures.steps in
    let fit = steps-fit (nth_host c.args.self.now c.args.number) (world_at c.args.self.now.stations c.args.number) c.requires.stands
    (c.loop-bytes.invariant.adapter c.step.ensures.adapter) in
    omega (arith, into.on.counts.most, step.on.counts.most, fit)

pub loop-bytes-preserved : goal.loop-bytes-preserved
loop-bytes-preserved g c =
    let step = one-step c.loop-bytes-test.true c.step.ensures.steps in
    record {
      into = into-join c.loop-bytes.invariant.into step;
      stands = stands-on step.on c.loop-bytes.invariant.stands;
      adapter = λ adapter. c.loop-bytes.invariant.adapter c.step.ensures.adapter;
      others = only-join c.args.self.now c.loop-bytes.self c.step.new.self c.args.number c.loop-bytes.invariant.others
          c.step.ensures.others;
    }

pub returns-clause-drains : goal.returns-clause-drains
returns-clause-drains g c =
    drains-into (no-step c.loop-bytes-test.false (into-join c.loop-bytes.invariant.into c.step.ensures.steps))
    (c.step.ensures.ends c.loop-bytes-test.false) c.requires.stands (c.loop-bytes.invariant.adapter c.step.ensures.adapter)

pub returns-clause-left : goal.returns-clause-left
returns-clause-left g c =
    let one = c.loop-bytes.invariant.into in
    let two = c.step.ensures.steps in
    omega (
      arith,
      one.room,
      two.room,
      ap length one.appended,
      ap length two.appended,
      length-append (g.S.Outlet.frames c.args.sink.now) one.given,
      length-append (g.S.Outlet.frames c.loop-bytes.sink) two.given,
    )

pub returns-clause-others : goal.returns-clause-others
returns-clause-others g c =
    only-join c.args.self.now c.loop-bytes.self c.step.new.self c.args.number c.loop-bytes.invariant.others c.step.ensures.others
