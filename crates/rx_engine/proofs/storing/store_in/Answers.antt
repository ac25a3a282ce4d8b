use Rattle.std.proofs.Common.{◌≡◌, ◌↔◌, ℕ, List, length, refl}
use Rattle.std.specs.Prelude.{Ok, Err, Result, IsOk, OnOk, OnErr}
use Rattle.dma_memory.specs.AreaLaws.{changes_only_stored}
use Rattle.dma_memory.specs.Areas.{ChangesOnly, area_at}
use Rattle.dma_memory.specs.HostMemory.{LiesIn, with_bytes}
use Rattle.rx_engine.proofs.storing.store_in.Goals as goal

only : {T E : Type 0} (answer : Result T E) (memory memory' bytes : List ℕ) (address : ℕ)
    → (IsOk answer ↔ LiesIn memory address (length bytes)) → OnOk answer (memory' ≡ with_bytes memory address bytes)
    → OnErr answer (memory' ≡ memory) → ChangesOnly memory memory' (area_at address (length bytes))
only (Ok value) memory memory' bytes address lies stored refused = rw stored (changes_only_stored memory bytes address (lies.0 refl))
only (Err error) memory memory' bytes address lies stored refused = rw refused (record { size = refl; others = λ other apart. refl })

pub returns-clause-only : goal.returns-clause-only
returns-clause-only c =
    only c.store.result c.args.memory.now c.store.new.self c.args.bytes.now c.args.address c.store.ensures.in_range c.store.ensures.stored
    c.store.ensures.refused
