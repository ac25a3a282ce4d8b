use Rattle.std.proofs.Common.{rules}
use Rattle.dma_memory.specs.OwnersLaws.{copies-append, one_owner-moved, owned-nowhere_else, length-one_owner, length-no_second}
use Rattle.dma_memory.specs.OwnersLaws.{length-missing}
use Rattle.dma_memory.specs.OwnersPlaces.{counts-places}
use Rattle.dma_memory.proofs.laws.numbers_have_one_owner.Goals as goal

pub returns : goal.returns
returns c = search
    (rules, counts-places, copies-append, one_owner-moved, owned-nowhere_else, length-one_owner, length-no_second, length-missing)
