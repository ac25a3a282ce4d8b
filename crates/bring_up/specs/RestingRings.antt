-- An adapter at rest whose rings are set up, and a driver that begins in this state (our choice).
use Rattle.std.specs.Prelude.{◌≡◌, ◌≤◌, ◌*◌, ℕ, false, List, length}
use Rattle.dma_memory.specs.Layout.{Counts, IsAllowed, descriptor_bytes, size_of}
use Rattle.dma_memory.specs.Owners.{HasOneOwner}
use Rattle.adapter.specs.KnownRing.{KnowsRing}
use Rattle.adapter.specs.Rings.{new_ring}
use Rattle.adapter.specs.World.{World, receive_ring}
use Rattle.adapter.specs.AdaptersAtRest.{IsAtRest, NoFrame}
use Rattle.adapter.specs.Settings.{Write}
use Rattle.adapter.specs.bus_types.bus.Bus.{Ghosts}
use Rattle.adapter.specs.Beginnings.{IsAtBeginning, new_driver}
use Rattle.adapter.specs.DriverState.{DriverSetup, DriverState}
use Rattle.adapter.specs.ReadyDrivers.{ReadyWith}
use Rattle.adapter.specs.Resets.{RestsWith, reset_driver}
use Rattle.bring_up.specs.DriverSteps.{accesses_of}
use Rattle.bring_up.specs.NoFrames.{HasNoFrames}
use Rattle.bring_up.specs.SettingSteps.{Sets}

-- The adapter is at rest, and the registers of both rings have their reset values. Memory has room for `rx` receive
-- descriptors.
pub record HasNewRings (rx : ℕ) (world : World) : Type 0 where
  pub rest : IsAtRest world
  pub receives : world.adapter.receive_ring ≡ new_ring
  pub transmits : world.adapter.transmit_ring ≡ new_ring
  pub room : descriptor_bytes * rx ≤ length world.memory

-- The adapter is at rest, with a receive ring of `rx` slots at address 0 and no slot offered. The registers of the
-- transmit ring have their reset values.
pub record HasReceiveRing (rx : ℕ) (world : World) : Type 0 where
  pub rest : IsAtRest world
  pub knows : KnowsRing (receive_ring world) 0 rx 0
  pub transmits : world.adapter.transmit_ring ≡ new_ring

-- The call makes exactly the writes `writes`. If `before` holds of the world before the call, `after` holds of the
-- world after the call. In this case no frame is put on the wire, stored or missed, and memory doesn't change.
pub record SetsAtRest {B : Type 0} (bus : Ghosts B) (writes : List Write) (before after : World → Type 0) (old new : B) : Type 0 where
  pub sets : Sets bus writes old new
  pub only : sets.past.accesses ≡ accesses_of writes
  pub after_is : before (bus.world old) → after (bus.world new)
  pub no_frame : before (bus.world old) → NoFrame sets.past
  pub memory : before (bus.world old) → (bus.world new).memory ≡ (bus.world old).memory

-- A driver that has offered no slot is ready in this world, with its transmit side off. RCTL.EN is 0, and no frame is
-- held or to be sent.
pub record BeginsAtRest (counts : Counts) (setup : DriverSetup) (groups : List (List ℕ)) (pool : List ℕ) (world : World) : Type 0 where
  pub begun : IsAtBeginning false counts setup groups pool world
  pub ready : ReadyWith false (new_driver counts setup groups pool) world
  pub quiet : HasNoFrames (new_driver counts setup groups pool) world

-- Let the adapter be at rest with its receive ring set up, and the counts be valid. If memory contains the whole layout, and each buffer is
-- in `pool` exactly once, `BeginsAtRest` holds.
abbrev pub DriversBeginAtRest : Type 0
DriversBeginAtRest =
    (counts : Counts) (setup : DriverSetup) (groups : List (List ℕ)) (pool : List ℕ) (world : World)
    → IsAllowed counts → HasOneOwner counts.buffers pool → size_of counts ≤ length world.memory
    → HasReceiveRing counts.rx world → BeginsAtRest counts setup groups pool world

-- Let the counts of a driver's layout be valid. Let its adapter be reset, and its receive ring be set up at rest, with no slot offered.
-- Then the driver is ready again, with its transmit side off and RCTL.EN 0. The same buffers are free, the pieces of frames that others
-- hold are in their buffers, and no frame is held or to be sent.
abbrev pub DriversBeginAgain : Type 0
DriversBeginAgain =
    (driver : DriverState) (pool : List ℕ) (world : World) → (let again = reset_driver pool driver in
    IsAllowed driver.layout → RestsWith again world → HasReceiveRing driver.layout.rx world
    → ReadyWith false again world × HasNoFrames again world)
