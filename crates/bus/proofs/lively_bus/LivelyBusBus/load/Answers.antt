use Rattle.std.proofs.Common.{length, refl}
use Rattle.bus.specs.declared.event.Access.TheVariants.{Loads}
use Rattle.bus.proofs.LivelyAccesses.{lively-acts}
use Rattle.bus.proofs.lively_bus.LivelyBusBus.load.Goals as goal

pub returns-clause-acts : goal.returns-clause-acts
returns-clause-acts c = λ honest.
    lively-acts c.args.self.now c.prepare.new.self _ (Loads c.args.address (length c.args.into.now)) _ c.prepare.ensures
    (record { lent = record { machine = refl }; accesses = refl; answered = tt; world = refl })
    c.load.ensures.adapter (c.load.ensures.loaded, refl)
