use Rattle.std.proofs.Common.{◌∙◌}
use Rattle.drive.proofs.driving.bring_up.Goals as goal

pub returns-in-Ok : goal.returns-in-Ok
returns-in-Ok g c =
    let made = c.in-Ok.ensures in
    record {
      keeps = made.keeps;
      layout = made.ok.fresh.layout ∙ c.config.ensures;
      memory = rw (made.ok.fresh.layout, made.keeps.extent) made.had.room;
      ready = made.ready;
    }

pub returns-in-Err-clause-keeps : goal.returns-in-Err-clause-keeps
returns-in-Err-clause-keeps g c = c.new.ensures.keeps
