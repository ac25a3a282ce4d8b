-- A host's memory with its adapter, and the effect of a driver's accesses on them.
use Rattle.std.specs.Prelude.{ℕ, List}
use Rattle.dma_memory.specs.HostMemory.{with_bytes}
use Rattle.descriptors.specs.declared.ring.Ring.{Ring}
use Rattle.adapter_model.specs.Registers.{after_read, after_write}
use Rattle.adapter_model.specs.Rings.{ring_of}
use Rattle.adapter_model.specs.State.{AdapterState}

-- An adapter with its host's memory.
pub record World : Type 0 where
  -- The host's memory.
  pub memory : List ℕ
  -- The adapter's state.
  pub adapter : AdapterState

-- The ring that RDBAL to RDT define.
abbrev pub receive_ring : World → Ring
receive_ring world = ring_of world.adapter.receive_ring

-- The ring that TDBAL to TDT define.
abbrev pub transmit_ring : World → Ring
transmit_ring world = ring_of world.adapter.transmit_ring

-- The world after a read at this register offset. Memory doesn't change.
abbrev pub world_after_read : ℕ → World → World
world_after_read offset world = record world { adapter = after_read offset world.adapter }

-- The world after a write of this value at this register offset. Memory doesn't change.
abbrev pub world_after_write : ℕ → ℕ → World → World
world_after_write offset value world = record world { adapter = after_write offset value world.adapter }

-- The world after these bytes are stored in memory, from this address on. The adapter doesn't change.
abbrev pub world_after_store : ℕ → List ℕ → World → World
world_after_store address bytes world = record world { memory = with_bytes world.memory address bytes }
