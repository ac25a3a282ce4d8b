use Rattle.std.proofs.Common.{rules}
use Rattle.registers.specs.Laws.{HasBit-union, HasBit-intersection, HasBit-difference, HasBit-zero, Meet-places, IsSubset-places}
use Rattle.registers.specs.Laws.{same_places}
use Rattle.registers.proofs.laws.sets_of_places.Goals as goal

pub returns : goal.returns
returns c = search
    (rules, HasBit-union, HasBit-intersection, HasBit-difference, Meet-places, IsSubset-places, HasBit-zero, same_places)
