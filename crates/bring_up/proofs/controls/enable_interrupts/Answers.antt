use Rattle.std.proofs.Common.{◌≡◌, ◌∙◌, refl}
use Rattle.bring_up.proofs.DriverAccesses.{enables-causes}
use Rattle.bring_up.proofs.Steps.{only-write}
use Rattle.bring_up.proofs.controls.enable_interrupts.Goals as goal

pub returns-clause-sets : goal.returns-clause-sets
returns-clause-sets g c honest =
    only-write refl (c.bits.ensures tt ∙ c.interrupt_causes.ensures) (c.write.ensures.acts honest)

pub returns-clause-enables : goal.returns-clause-enables
returns-clause-enables g c d is =
    let causes : c.bits.result ≡ 0xD1 = c.bits.ensures tt ∙ c.interrupt_causes.ensures in
    enables-causes g.B.Bus c.args.bus.now c.write.new.self c.bits.result d causes
    (c.write.ensures.acts is.honest) is.ready
