use Rattle.adapter.specs.bus_types.event.Access.TheVariants.{Stores}
use Rattle.drive.specs.QtestLaws.{keeps_one}
use Rattle.drive.proofs.qtest_bus.QtestBusBus.store.Goals as goal

pub returns-clause-keeps : goal.returns-clause-keeps
returns-clause-keeps g c = keeps_one (Stores c.args.address c.args.bytes.now) _ _ c.store_bytes.ensures
