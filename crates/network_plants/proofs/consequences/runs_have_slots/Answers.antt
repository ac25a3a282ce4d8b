use Rattle.network_plants.proofs.CountedRuns.{if-handled, serves-counted}
use Rattle.network_plants.proofs.consequences.runs_have_slots.Goals as goal

pub returns : goal.returns
returns g c = record {
  counted =
      if-handled c.interrupt.result
      (serves-counted g.R.Receiver c.args.receiver.now c.interrupt.new.receiver c.args.driver.now c.interrupt.new.self)
      c.interrupt.ensures.serves;
}
