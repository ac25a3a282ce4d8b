use Rattle.adapter.specs.bus_types.event.Access.TheVariants.{Writes}
use Rattle.drive.specs.QtestLaws.{keeps_one}
use Rattle.drive.proofs.qtest_bus.QtestBusBus.write.Goals as goal

pub returns-clause-keeps : goal.returns-clause-keeps
returns-clause-keeps g c = keeps_one (Writes c.args.offset c.args.value) _ _ c.write_register.ensures
