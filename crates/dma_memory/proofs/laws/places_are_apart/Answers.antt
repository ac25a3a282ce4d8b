use Rattle.dma_memory.specs.LayoutLaws.{places-apart, place-below_size, layout_begins}
use Rattle.dma_memory.proofs.laws.places_are_apart.Goals as goal

pub returns : goal.returns
returns c = record { apart = places-apart; below_size = place-below_size; next_multiple = layout_begins }
