-- Stores that clear descriptors.
use Rattle.std.specs.Prelude.{◌+◌, ◌*◌, ◌++◌, ℕ, zero, suc, List, [], ◌∷◌, replicate}
use Rattle.dma_memory.specs.Layout.{descriptor_bytes}
use Rattle.adapter.specs.bus_types.event.Access.{Access}
use Rattle.adapter.specs.bus_types.event.Access.TheVariants.{Stores}

-- The store of 16 bytes of value 0 at an address.
abbrev pub clears : ℕ → Access
clears address = Stores address (replicate descriptor_bytes 0)

-- The stores that clear `count` descriptors, from an address on.
abbrev pub clears_from : (first count : ℕ) → List Access
clears_from first zero = []
clears_from first (suc k) = clears_from first k ++ clears (first + descriptor_bytes * k) ∷ []
