use Rattle.adapter.proofs.Keeping.{keeps-on}
use Rattle.drive.specs.Exchanging.{moment_of}
use Rattle.drive.proofs.Exchanges.{goes-here, goes-on}
use Rattle.drive.proofs.exchange.Exchange.wait.Goals as goal

pub loop-turn-init : goal.loop-turn-init
loop-turn-init g c =
    goes-here g.B.Bus g.met.B.Bus.composes (moment_of c.args.bus.now c.args.self.now (g.S.Sink.taken c.args.sink.now))
    (g.S.Sink.failures c.args.sink.now) c.requires.memory

pub turn-requires-clause-countable : goal.turn-requires-clause-countable
turn-requires-clause-countable g c = rw c.loop-turn.invariant.failures c.requires.countable

pub loop-turn-preserved : goal.loop-turn-preserved
loop-turn-preserved g c = goes-on g.met.B.Bus.composes c.loop-turn.invariant c.in_ok-turn.ensures.exchanges c.in_ok-turn.ensures.failures

pub returns-in_err-turn-clause-keeps : goal.returns-in_err-turn-clause-keeps
returns-in_err-turn-clause-keeps g c = keeps-on g.B.Bus g.met.B.Bus.composes.lent_stays_on c.args.bus.now c.loop-turn.bus
    c.turn.new.bus c.loop-turn.invariant.exchanges.keeps c.turn.ensures.keeps

pub returns-in-None : goal.returns-in-None
returns-in-None g c =
    let all = c.loop-turn.invariant in
    record { keeps = all.exchanges.keeps; exchanges = all.exchanges; failures = all.failures }

pub returns-then-is_expect_met : goal.returns-then-is_expect_met
returns-then-is_expect_met g c =
    let all = c.loop-turn.invariant in
    record { keeps = all.exchanges.keeps; exchanges = all.exchanges; failures = all.failures }
