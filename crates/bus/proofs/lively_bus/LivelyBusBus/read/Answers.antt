use Rattle.std.proofs.Common.{ap, refl}
use Rattle.bus.specs.Machines.{MachineState}
use Rattle.bus.specs.declared.event.Access.TheVariants.{Reads}
use Rattle.bus.proofs.LivelyAccesses.{lively-acts}
use Rattle.bus.proofs.lively_bus.LivelyBusBus.read.Goals as goal

pub returns-clause-acts : goal.returns-clause-acts
returns-clause-acts c = λ honest.
    let world = ap (λ (machine : MachineState). machine.world) c.read.ensures.state in
    lively-acts c.args.self.now c.prepare.new.self _ (Reads c.args.offset c.read.result) _ c.prepare.ensures
    (record { lent = record { machine = refl }; accesses = refl; answered = c.read.ensures.occurs; world = world })
    c.read.ensures.adapter (c.read.ensures.occurs, world)
