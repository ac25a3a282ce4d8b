use Rattle.std.proofs.Common.{◌∙◌}
use Rattle.adapter.proofs.Keeping.{keeps-on}
use Rattle.drive.specs.Exchanging.{moment_of}
use Rattle.drive.proofs.Driven.{sends-written}
use Rattle.drive.proofs.Exchanges.{still-fits}
use Rattle.drive.proofs.exchange.Exchange.run.Goals as goal

pub wait-requires : goal.wait-requires
wait-requires g c = record {
  memory = still-fits g.B.Bus _ _ _ c.in_ok-handed.ensures.sends.1.exchanges c.requires.memory;
  countable = rw c.in_ok-handed.ensures.failures c.requires.countable;
}

pub flush-requires : goal.flush-requires
flush-requires g c = rw (c.in_ok-wait.ensures.failures, c.in_ok-handed.ensures.failures) c.requires.countable

pub returns : goal.returns
returns g c = record {
  keeps = keeps-on g.B.Bus g.met.B.Bus.composes.lent_stays_on c.args.bus.now c.send_all.new.bus c.wait.new.bus c.send_all.ensures.keeps
      c.wait.ensures.keeps;
  sends = sends-written g.B.Bus g.met.B.Bus.composes c.args.frames.now c.in_ok-handed.handed.sent c.in_ok-handed.handed.illegal
      (moment_of c.args.bus.now c.args.self.now (g.S.Sink.taken c.args.sink.now)) _ c.wait.new.bus c.wait.new.self.host
      (g.S.Sink.taken c.wait.new.sink) (g.S.Sink.taken c.flush.new.sink) c.wait.new.self.writer c.wait.new.self.received
      c.in_ok-handed.ensures.sends c.in_ok-wait.ensures.exchanges c.in_ok-flush.ensures.ok;
  failures = c.in_ok-flush.ensures.failures ∙ c.in_ok-wait.ensures.failures ∙ c.in_ok-handed.ensures.failures;
  missed = c.missed-missed.ensures.sum;
  exact = c.missed-missed.ensures.exact;
}

pub returns-in_err-wait-clause-keeps : goal.returns-in_err-wait-clause-keeps
returns-in_err-wait-clause-keeps g c = keeps-on g.B.Bus g.met.B.Bus.composes.lent_stays_on c.args.bus.now c.send_all.new.bus c.wait.new.bus
    c.send_all.ensures.keeps c.wait.ensures.keeps

pub returns-in_err-flush-clause-keeps : goal.returns-in_err-flush-clause-keeps
returns-in_err-flush-clause-keeps g c = keeps-on g.B.Bus g.met.B.Bus.composes.lent_stays_on c.args.bus.now c.send_all.new.bus c.wait.new.bus
    c.send_all.ensures.keeps c.wait.ensures.keeps

pub returns-in-Some-clause-keeps : goal.returns-in-Some-clause-keeps
returns-in-Some-clause-keeps g c = keeps-on g.B.Bus g.met.B.Bus.composes.lent_stays_on c.args.bus.now c.send_all.new.bus c.wait.new.bus
    c.send_all.ensures.keeps c.wait.ensures.keeps
