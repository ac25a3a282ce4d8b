-- Rings without an offered or taken slot (our choice): after power-on, after a reset, and in initialization before the first slot is
-- offered ("14.4 Receive Initialization", "14.5 Transmit Initialization").
use Rattle.std.specs.Prelude.{⊤, ◌≡◌, ℕ, List, [], ◌∷◌, None, length, take}
use Rattle.dma_memory.specs.Areas.{AreSeparate}
use Rattle.mdic_phy.specs.declared.phy.Link.{Link}
use Rattle.rx_engine.specs.Receiver.{Receiver, oldest}
use Rattle.adapter_model.specs.Registers.{after_reset, new_adapter, write_of}
use Rattle.adapter_model.specs.declared.register.Register.{Register}
use Rattle.adapter_model.specs.declared.register.Register.TheVariants.{Receive, Transmit}
use Rattle.adapter_model.specs.HostAreas.{ring_area}
use Rattle.adapter_model.specs.Conditions.{Sound}
use Rattle.bus.specs.Law.{Happens}
use Rattle.bus.specs.Pasts.{Past}
use Rattle.adapter_model.specs.World.{receive_ring, transmit_ring, World, world_after_read, world_after_store, world_after_write}

-- In both rings, head equals tail. The rings are inside memory and apart from each other. A ring without descriptors is an empty area.
pub record HasIdleRings (world : World) : Type 0 where
  pub receive : world.adapter.receive_ring.head ≡ world.adapter.receive_ring.tail
  pub transmit : world.adapter.transmit_ring.head ≡ world.adapter.transmit_ring.tail
  pub separate : AreSeparate world.memory (ring_area (receive_ring world) ∷ ring_area (transmit_ring world) ∷ [])

-- The bytes of the packet buffer's oldest frame that have been moved.
abbrev pub moved_bytes : Receiver → List ℕ
moved_bytes receiver = take receiver.moved (oldest receiver.buffer)

-- No slot is offered or taken: the rings are idle, no piece is in progress, and no frame is in the transmit packet buffer. Frames may wait
-- in the receive packet buffer; no byte of them has been moved.
pub record IsIdle (world : World) : Type 0 where
  pub work : world.adapter.receiver.work ≡ None
  pub unmoved : moved_bytes world.adapter.receiver ≡ []
  pub buffer : world.adapter.transmitter.buffer ≡ []
  pub rings : HasIdleRings world

-- If an adapter is idle, the conditions of the law hold, with the tails as the driver's oldest slots.
abbrev pub IdleRingsAreSound : Type 0
IdleRingsAreSound = (world : World) → IsIdle world → Sound world.adapter.receive_ring.tail world.adapter.transmit_ring.tail world

-- An adapter is idle after power-on.
abbrev pub IdleAfterPowerOn : Type 0
IdleAfterPowerOn = (memory words : List ℕ) (link : Link) → IsIdle (record { memory = memory; adapter = new_adapter words link })

-- After a reset, an adapter is idle, with a memory of any size.
abbrev pub IdleAfterReset : Type 0
IdleAfterReset = (world : World) → IsIdle (record world { adapter = after_reset world.adapter })

-- Whatever happens between two accesses, an idle adapter remains idle.
abbrev pub HappeningsKeepIdle : Type 0
HappeningsKeepIdle = (a b : World) (past : Past) → Happens a b past → IsIdle a → IsIdle b

-- After a read of any register, an idle adapter is still idle.
abbrev pub ReadsKeepIdle : Type 0
ReadsKeepIdle = (offset : ℕ) (world : World) → IsIdle world → IsIdle (world_after_read offset world)

-- After a store that doesn't change the size of memory, an idle adapter is still idle.
abbrev pub StoresKeepIdle : Type 0
StoresKeepIdle =
    (address : ℕ) (bytes : List ℕ) (world : World)
    → length (world_after_store address bytes world).memory ≡ length world.memory → IsIdle world
    → IsIdle (world_after_store address bytes world)

-- A register of a ring.
abbrev pub IsOfRing : Register → Type 0
IsOfRing (Receive part) = ⊤
IsOfRing (Transmit part) = ⊤
IsOfRing register = ⊥

-- After a write of any register that isn't a register of a ring, even after a reset by CTRL.RST, an idle adapter is still idle.
abbrev pub OtherWritesKeepIdle : Type 0
OtherWritesKeepIdle =
    (register : Register) (value : ℕ) (world : World)
    → ¬ (IsOfRing register) → IsIdle world → IsIdle (record world { adapter = write_of register value world.adapter })

-- After a write of any register, an idle adapter is still idle if its rings are then idle.
abbrev pub WritesKeepIdle : Type 0
WritesKeepIdle =
    (offset value : ℕ) (world : World) → IsIdle world → HasIdleRings (world_after_write offset value world)
    → IsIdle (world_after_write offset value world)
