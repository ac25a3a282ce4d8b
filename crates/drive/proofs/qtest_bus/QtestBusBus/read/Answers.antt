use Rattle.adapter.specs.bus_types.event.Access.TheVariants.{Reads}
use Rattle.drive.specs.QtestLaws.{keeps_one}
use Rattle.drive.proofs.qtest_bus.QtestBusBus.read.Goals as goal

pub returns-clause-keeps : goal.returns-clause-keeps
returns-clause-keeps g c = keeps_one (Reads c.args.offset c.read_register.result) _ _ c.read_register.ensures
