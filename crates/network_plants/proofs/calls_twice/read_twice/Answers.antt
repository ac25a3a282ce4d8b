use Rattle.network_plants.proofs.Reading.{read-alike, refused-alike}
use Rattle.network_plants.proofs.calls_twice.read_twice.Goals as goal

pub returns-clause-read : goal.returns-clause-read
returns-clause-read c = read-alike _ _ _ c.read.ensures.read c.read-2.ensures.read

pub returns-clause-refused : goal.returns-clause-refused
returns-clause-refused c =
    refused-alike _ _ _ c.texts_are_read_or_refused.ensures.read c.texts_are_read_or_refused.ensures.once c.read.ensures.refused
    c.read-2.ensures.refused c.read-2.ensures.read
