use Rattle.std.proofs.Common.{length}
use Rattle.adapter.specs.bus_types.event.Access.TheVariants.{Loads}
use Rattle.drive.specs.QtestLaws.{keeps_one}
use Rattle.drive.proofs.qtest_bus.QtestBusBus.load.Goals as goal

pub returns-clause-keeps : goal.returns-clause-keeps
returns-clause-keeps g c = keeps_one (Loads c.args.address (length c.args.into.now)) _ _ c.load_bytes.ensures.asks
