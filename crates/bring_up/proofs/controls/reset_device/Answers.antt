use Rattle.std.proofs.Common.{ap, ◌∙◌}
use Rattle.adapter.specs.World.{World}
use Rattle.adapter.proofs.Lists.{all-none}
use Rattle.bring_up.proofs.WritesAtRest.{mask-aside, read-forgets, reset-rests}
use Rattle.bring_up.specs.SettingSteps.{IsAside}
use Rattle.bring_up.proofs.Steps.{sets-join, sets-read, sets-write}
use Rattle.bring_up.proofs.DriverResets.{resets}
use Rattle.bring_up.proofs.controls.reset_device.Goals as goal

pub returns-clause-sets : goal.returns-clause-sets
returns-clause-sets g c honest =
    let joins = g.met.B.Bus.composes.joins in
    let start = c.args.bus.now in
    let one = sets-write g.B.Bus start c.write.new.self 0x0000 0x04000000 (rw (c.bits.ensures tt) at (c.write.ensures.acts honest)) in
    let still = c.write.ensures.keeps.honest honest in
    let two = sets-write g.B.Bus c.write.new.self c.write-2.new.self 0x00D8 0xFFFFFFFF (c.write-2.ensures.acts still) in
    let three = sets-read g.B.Bus c.write-2.new.self c.read.new.self 0x00C0 c.read.result _
    (c.read.ensures.acts (c.write-2.ensures.keeps.honest still)) in
    sets-join g.B.Bus joins start c.write-2.new.self c.read.new.self _ _
    (sets-join g.B.Bus joins start c.write.new.self c.write-2.new.self _ _ one two) three

pub returns-clause-rests : goal.returns-clause-rests
returns-clause-rests g c honest =
    let world = g.B.Bus.world in
    let first = c.write.ensures.acts honest in
    let still = c.write.ensures.keeps.honest honest in
    let reset = reset-rests c.bits.result first.middle (world c.write.new.self) (c.bits.ensures tt) first.effect_is in
    let masked = (sets-write g.B.Bus c.write.new.self c.write-2.new.self 0x00D8 0xFFFFFFFF
    (c.write-2.ensures.acts still)).rests mask-aside reset in
    ((sets-read g.B.Bus c.write-2.new.self c.read.new.self 0x00C0 c.read.result _
    (c.read.ensures.acts (c.write-2.ensures.keeps.honest still))).rests (all-none IsAside) masked.0).0

pub returns-clause-forgets : goal.returns-clause-forgets
returns-clause-forgets g c honest =
    let still = c.write-2.ensures.keeps.honest (c.write.ensures.keeps.honest honest) in
    ap (λ (w : World). w.adapter.causes.recorded) (c.read.ensures.acts still).effect_is.1
    ∙ read-forgets (c.read.ensures.acts still).middle

pub returns-clause-resets : goal.returns-clause-resets
returns-clause-resets g c up d pool is free =
    let still = c.write.ensures.keeps.honest is.honest in
    resets g.B.Bus g.met.B.Bus.composes.joins up c.args.bus.now c.write.new.self c.write-2.new.self c.read.new.self c.bits.result
    c.read.result _ d pool (c.bits.ensures tt) (c.write.ensures.acts is.honest) (c.write-2.ensures.acts still)
    (c.read.ensures.acts (c.write-2.ensures.keeps.honest still)) is.ready free
