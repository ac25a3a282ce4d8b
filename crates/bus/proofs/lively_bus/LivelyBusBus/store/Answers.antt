use Rattle.std.proofs.Common.{ap, refl}
use Rattle.bus.specs.Machines.{MachineState}
use Rattle.bus.specs.declared.event.Access.TheVariants.{Stores}
use Rattle.bus.proofs.LivelyAccesses.{lively-acts}
use Rattle.bus.proofs.lively_bus.LivelyBusBus.store.Goals as goal

pub returns-clause-acts : goal.returns-clause-acts
returns-clause-acts c = λ honest.
    let world = ap (λ (machine : MachineState). machine.world) c.store.ensures.state in
    lively-acts c.args.self.now c.prepare.new.self _ (Stores c.args.address c.args.bytes.now) _ c.prepare.ensures
    (record { lent = record { machine = refl }; accesses = refl; answered = tt; world = world })
    c.store.ensures.adapter world
