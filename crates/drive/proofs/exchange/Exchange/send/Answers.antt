use Rattle.std.proofs.Common.{refl}
use Rattle.adapter.proofs.Keeping.{keeps-on}
use Rattle.drive.specs.Exchanging.{moment_of}
use Rattle.drive.proofs.Exchanges.{exchanges-on, goes-here, goes-on, still-fits}
use Rattle.drive.proofs.exchange.Exchange.send.Goals as goal

pub loop-turn-init : goal.loop-turn-init
loop-turn-init g c =
    goes-here g.B.Bus g.met.B.Bus.composes (moment_of c.args.bus.now c.args.self.now (g.S.Sink.taken c.args.sink.now))
    (g.S.Sink.failures c.args.sink.now) c.requires.memory

pub returns-then-hand : goal.returns-then-hand
returns-then-hand g c =
    let done = rw c.if-hand.true at (c.hand.ensures.exchanges (g.S.Sink.taken c.loop-turn.sink)) in
    let all = exchanges-on g.B.Bus g.met.B.Bus.composes _ _ _ _ _ c.loop-turn.invariant.exchanges done in
    record { keeps = all.keeps; exchanges = all; failures = c.loop-turn.invariant.failures }

pub turn-requires : goal.turn-requires
turn-requires g c = record {
  memory = still-fits g.B.Bus _ _ _ (c.hand.ensures.exchanges (g.S.Sink.taken c.loop-turn.sink)) c.loop-turn.invariant.memory;
  countable = rw c.loop-turn.invariant.failures c.requires.countable;
}

pub returns-in_err-turn-clause-keeps : goal.returns-in_err-turn-clause-keeps
returns-in_err-turn-clause-keeps g c =
    let joined = keeps-on g.B.Bus g.met.B.Bus.composes.lent_stays_on in
    joined c.args.bus.now c.hand.new.bus c.turn.new.bus
    (joined c.args.bus.now c.loop-turn.bus c.hand.new.bus c.loop-turn.invariant.exchanges.keeps c.hand.ensures.keeps) c.turn.ensures.keeps

pub loop-turn-preserved : goal.loop-turn-preserved
loop-turn-preserved g c =
    let full = rw c.if-hand.false at (c.hand.ensures.exchanges (g.S.Sink.taken c.loop-turn.sink)) in
    goes-on g.met.B.Bus.composes (goes-on g.met.B.Bus.composes c.loop-turn.invariant full refl) c.in_ok-turn.ensures.exchanges
    c.in_ok-turn.ensures.failures

pub returns-in-None : goal.returns-in-None
returns-in-None g c =
    let all = c.loop-turn.invariant in
    record { keeps = all.exchanges.keeps; exchanges = all.exchanges; failures = all.failures }

pub returns-then-self-idle : goal.returns-then-self-idle
returns-then-self-idle g c =
    let full = rw c.if-hand.false at (c.hand.ensures.exchanges (g.S.Sink.taken c.loop-turn.sink)) in
    let all = goes-on g.met.B.Bus.composes (goes-on g.met.B.Bus.composes c.loop-turn.invariant full refl) c.in_ok-turn.ensures.exchanges
    c.in_ok-turn.ensures.failures in
    record { keeps = all.exchanges.keeps; exchanges = all.exchanges; failures = all.failures }
