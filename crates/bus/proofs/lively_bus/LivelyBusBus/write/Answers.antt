use Rattle.std.proofs.Common.{ap, refl}
use Rattle.bus.specs.Machines.{MachineState}
use Rattle.bus.specs.declared.event.Access.TheVariants.{Writes}
use Rattle.bus.proofs.LivelyAccesses.{lively-acts}
use Rattle.bus.proofs.lively_bus.LivelyBusBus.write.Goals as goal

pub returns-clause-acts : goal.returns-clause-acts
returns-clause-acts c = λ honest.
    let world = ap (λ (machine : MachineState). machine.world) c.write.ensures.state in
    lively-acts c.args.self.now c.prepare.new.self _ (Writes c.args.offset c.args.value) _ c.prepare.ensures
    (record { lent = record { machine = refl }; accesses = refl; answered = tt; world = world })
    c.write.ensures.adapter world
