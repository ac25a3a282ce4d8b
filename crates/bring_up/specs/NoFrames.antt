-- What remains true while a driver sets up its receive ring, before receiver and transmitter are enabled (our choice).
use Rattle.std.specs.Prelude.{⊤, ◌≡◌, ℕ, List, [], All, Option, Some, false}
use Rattle.dma_memory.specs.Layout.{Counts}
use Rattle.adapter.specs.HostFrames.{frames_held, frames_to_send}
use Rattle.adapter.specs.Rings.{new_ring}
use Rattle.adapter.specs.Table.{register_at}
use Rattle.adapter.specs.World.{World}
use Rattle.adapter.specs.model_types.register.Register.{Register}
use Rattle.adapter.specs.model_types.register.Register.TheVariants.{Transmit}
use Rattle.adapter.specs.Pasts.{Past}
use Rattle.adapter.specs.AdaptersAtRest.{NoFrame}
use Rattle.adapter.specs.Settings.{AreSet, IsOff, LeavesReceiver, WhileOff, Write, writes_in}
use Rattle.adapter.specs.DriverState.{DriverState}
use Rattle.adapter.specs.Calls.{GoesTo, driver_did, driver_in, stores_from}
use Rattle.adapter.specs.ReadyDrivers.{ReadyWith}
use Rattle.bring_up.specs.ClearedDescriptors.{clears_from}

-- RCTL.EN is 0, no received frame is held, and no frame is to be sent.
pub record HasNoFrames (d : DriverState) (world : World) : Type 0 where
  pub off : IsOff world
  pub none_held : frames_held d.oldest_receive world ≡ []
  pub none_to_send : frames_to_send world ≡ []

-- While the transmit side is off, `HasNoFrames` remains true in an interval in which RCTL isn't written, and no frame is taken or
-- accepted. In the interval, no frame is stored, missed or put on the wire.
abbrev pub NoFramesStay : Type 0
NoFramesStay =
    (d d' : DriverState) (a b : World) (past : Past) → GoesTo false (driver_in d a) (driver_in d' b) (driver_did [] []) past
    → AreSet a b past → WhileOff a past → All LeavesReceiver (writes_in past.accesses) → HasNoFrames d a → HasNoFrames d' b × NoFrame past

-- The register isn't a register of the transmit ring.
abbrev pub IsNotTransmitRing : Option Register → Type 0
IsNotTransmitRing (Some (Transmit part)) = ⊥
IsNotTransmitRing _ = ⊤

-- The write isn't a write of a register of the transmit ring.
abbrev pub LeavesTransmitRing : Write → Type 0
LeavesTransmitRing write = IsNotTransmitRing (register_at write.offset)

-- If no register of the transmit ring is written, and the transmit side is off at the end, this ring's registers keep
-- their reset values.
abbrev pub NewTransmitRingStays : Type 0
NewTransmitRingStays =
    (d : DriverState) (a b : World) (past : Past) → ReadyWith false d b → AreSet a b past → All LeavesTransmitRing (writes_in past.accesses)
    → a.adapter.transmit_ring ≡ new_ring → b.adapter.transmit_ring ≡ new_ring

-- The stores of a ring's descriptors, for staged slots, write no register.
abbrev pub StagingWritesNoRegister : Type 0
StagingWritesNoRegister = (counts : Counts) (slot : ℕ) (numbers : List ℕ) → writes_in (stores_from counts slot numbers) ≡ []

-- The stores that clear descriptors write no register.
abbrev pub ClearingWritesNoRegister : Type 0
ClearingWritesNoRegister = (first count : ℕ) → writes_in (clears_from first count) ≡ []
