use Rattle.scenario.proofs.Addresses.{some-address}
use Rattle.scenario.proofs.spelling.address_of.Goals as goal

pub returns : goal.returns
returns c = some-address c.address_of.result c.args.text.now c.address_of.ensures.spelled c.address_of.ensures.refused
