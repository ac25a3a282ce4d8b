use Rattle.dma_memory.specs.Laws.{LiesIn-each, LiesIn-from_each, length-with_bytes, bytes_at-stored, bytes_at-elsewhere}
use Rattle.dma_memory.specs.Laws.{with_bytes-adjacent, with_bytes-none}
use Rattle.dma_memory.proofs.laws.stores_are_loaded.Goals as goal

pub returns : goal.returns
returns c = record {
  lies = λ memory address n. (LiesIn-each memory address n, LiesIn-from_each memory address n);
  size = length-with_bytes;
  stored = bytes_at-stored;
  others = λ memory bytes address other. bytes_at-elsewhere memory bytes address other.address other.size;
  adjacent = with_bytes-adjacent;
  none = with_bytes-none;
}
