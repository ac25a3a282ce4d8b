use Rattle.adapter.proofs.Keeping.{keeps-on}
use Rattle.drive.proofs.Driven.{drives}
use Rattle.drive.proofs.driving.drive.Goals as goal

pub returns : goal.returns
returns g c =
    let up = c.in_ok-bring_up.ensures in
    record {
      keeps = keeps-on g.B.Bus g.met.B.Bus.composes.lent_stays_on c.args.bus.now c.bring_up.new.bus c.run.new.bus up.keeps
          c.run.ensures.keeps;
      drives = drives g.B.Bus c.args.rings.now c.args.frames.now c.run.result (g.S.Sink.taken c.args.sink.now)
          (g.S.Sink.taken c.run.new.sink) c.in_ok-new.field-0 c.args.bus.now c.bring_up.new.bus c.run.new.bus c.in_ok-bring_up.field-0
          c.run.new.self.host up.keeps up.ready up.layout c.in_ok-new.ensures c.run.ensures.sends;
    }
