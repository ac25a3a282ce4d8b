use Rattle.adapter.specs.DriverState.{owners}
use Rattle.driver.proofs.ShownRuns.{answer-owners, answer-shown}
use Rattle.driver.proofs.driver.Driver.show.Goals as goal

pub put_back-requires : goal.put_back-requires
put_back-requires g c = record {
  one_owner = answer-owners g.R.Receiver.took c.args.receiver.now c.take-back.new.self c.args.received c.take-back.result
      c.args.self.now.layout.buffers (owners c.args.self.now) c.take-back.ensures c.requires.one_owner;
}

pub returns-clause-shows : goal.returns-clause-shows
returns-clause-shows g c =
    answer-shown g.R.Receiver.took c.args.receiver.now c.take-back.new.self c.args.received c.take-back.result c.args.self.now.pool
    c.put_back.new.self.pool c.take-back.ensures c.put_back.ensures.back
