-- What a driver knows after each part of initialization that follows the setup of the receive ring, and after a reset of its adapter
-- (our choice).
use Rattle.std.specs.Prelude.{◌≡◌, ◌⊎◌, ◌<◌, ◌*◌, ◌++◌, ℕ, Bool, true, false, List, [], ◌∷◌, map}
use Rattle.registers.specs.Bits.{HasBit}
use Rattle.registers.specs.Places.{alone, ctrl_rst, rxt0}
use Rattle.dma_memory.specs.Layout.{IsRingSize, descriptor_bytes}
use Rattle.adapter.specs.HostFrames.{frames_held}
use Rattle.adapter.specs.KnownRing.{KnowsRing}
use Rattle.adapter.specs.Rings.{new_ring}
use Rattle.adapter.specs.Slots.{finished}
use Rattle.adapter.specs.World.{World, transmit_ring}
use Rattle.adapter.specs.model_types.offsets.TheConstants.{CTRL, ICR, IMC, IMS}
use Rattle.adapter.specs.AdaptersAtRest.{NoFrame}
use Rattle.adapter.specs.Link.{HasLink}
use Rattle.adapter.specs.Pasts.{Past}
use Rattle.adapter.specs.Settings.{IsOff, NoArrival, Write}
use Rattle.adapter.specs.bus_types.bus.Bus.{Ghosts}
use Rattle.adapter.specs.bus_types.event.Access.{Access}
use Rattle.adapter.specs.bus_types.event.Access.TheVariants.{Reads, Writes}
use Rattle.adapter.specs.Beginnings.{Enabled}
use Rattle.adapter.specs.Calls.{FollowsWrites, Goes, GoesTo, HasNoForgottenWork, Ran, at, driver_did, driver_in, frames_ended, only}
use Rattle.adapter.specs.DriverState.{DriverState, transmit_tail}
use Rattle.adapter.specs.ReadyDrivers.{Ready}
use Rattle.adapter.specs.Resets.{RestsWith, reset_driver, reset_world}

-- These register writes, as accesses.
abbrev pub accesses_of : List Write → List Access
accesses_of writes = map (λ (write : Write). Writes write.offset write.value) writes

-- The accesses are exactly these writes. The driver is ready again, its state doesn't change, and no frame is taken or
-- accepted. After the writes its transmit side is set up if `up` is true, and off otherwise.
abbrev pub LeavesDriver : {B : Type 0} → Ghosts B → List Write → (up : Bool) → DriverState → (old new : B) → Type 0
LeavesDriver bus writes up d old new = Ran bus up (only (accesses_of writes)) (at old d) (at new d)

-- RCTL.EN is 0, and no received frame is held.
pub record ReceiverIsOff (d : DriverState) (world : World) : Type 0 where
  pub off : IsOff world
  pub none_held : frames_held d.oldest_receive world ≡ []

-- These writes enable the receiver of a driver that holds no frame. No frame is stored or missed in the interval.
-- After the writes no frame is held, and no slot is finished.
pub record LetsFramesIn {B : Type 0} (bus : Ghosts B) (writes : List Write) (d : DriverState) (old new : B) : Type 0 where
  pub ran : LeavesDriver bus writes false d old new
  pub none_held : frames_held d.oldest_receive (bus.world new) ≡ []
  pub none_finished : finished d.oldest_receive (bus.world new) ≡ []
  pub no_arrival : NoArrival ran.past

-- The transmit ring can be set up. The driver's oldest transmit slot is slot 0, and the ring's registers have their reset values. The sizes
-- of both rings are valid. The new ring begins right after the receive ring, and has the layout's number of slots.
pub record CanSetTransmitRing (base bytes : ℕ) (d : DriverState) (world : World) : Type 0 where
  pub oldest : d.oldest_transmit ≡ 0
  pub new : world.adapter.transmit_ring ≡ new_ring
  pub receive_size : IsRingSize d.layout.rx
  pub transmit_size : IsRingSize d.layout.tx
  pub begins : base ≡ descriptor_bytes * d.layout.rx
  pub long : bytes ≡ descriptor_bytes * d.layout.tx

-- These writes set up the transmit ring, with no slot offered. After them the ring agrees with the driver.
pub record SetsTransmitRing {B : Type 0} (bus : Ghosts B) (writes : List Write) (d : DriverState) (old new : B) : Type 0 where
  pub ran : LeavesDriver bus writes false d old new
  pub knows : KnowsRing (transmit_ring (bus.world new)) (descriptor_bytes * d.layout.rx) d.layout.tx 0

-- The transmit ring agrees with the driver, and the driver's oldest transmit slot is a slot of this ring.
pub record HasTransmitRing (d : DriverState) (world : World) : Type 0 where
  pub oldest : d.oldest_transmit < d.layout.tx
  pub knows : KnowsRing (transmit_ring world) (descriptor_bytes * d.layout.rx) d.layout.tx (transmit_tail d)

-- The accesses in an interval are exactly these. `FollowsWrites` states what the writes among them determine.
pub record MakesAccesses {B : Type 0} (bus : Ghosts B) (accesses : List Access) (old new : B) : Type 0 where
  pub past : Past
  pub reports : bus.happened old new past
  pub only : past.accesses ≡ accesses
  pub follows : FollowsWrites (bus.world old) (bus.world new) past

-- One write of IMS enables causes. Adapter steps and deliveries may happen before the write, and the write changes only the mask.
pub record EnablesCauses {B : Type 0} (bus : Ghosts B) (causes : ℕ) (d : DriverState) (old new : B) : Type 0 where
  pub accessed : MakesAccesses bus (Writes IMS causes ∷ []) old new
  -- the world right before the write takes effect
  pub middle : World
  -- what changes from the start of the call to `middle`; no recorded cause is cleared
  pub goes : Goes (driver_in d (bus.world old)) (driver_in d middle) (driver_did [] []) accessed.past
  -- the write itself, from `middle` to the end of the call
  pub enabled : Enabled true d causes middle (bus.world new)
  -- The driver is ready, the frames that were stored in the interval are held after those that were held before, and
  -- RXT0 is enabled.
  pub ready : Ready d (bus.world new)
  pub holds : frames_held d.oldest_receive (bus.world new) ≡ frames_held d.oldest_receive (bus.world old) ++ accessed.past.stored
  pub mask : HasBit (bus.world new).adapter.causes.mask rxt0
  -- No work is forgotten after the call if, before the call, no frame ended in finished slots, or RXT0 was recorded.
  pub work : (frames_ended (driver_in d (bus.world old)) ≡ []) ⊎ HasBit (bus.world old).adapter.causes.recorded rxt0
      → HasNoForgottenWork d (bus.world new)

-- A driver resets its adapter: it writes CTRL with RST, writes IMC, and reads ICR. After that, the free buffers are
-- `pool`.
pub record ResetsDriver {B : Type 0} (bus : Ghosts B) (up : Bool) (pool : List ℕ) (d : DriverState) (old new : B) : Type 0 where
  -- the bus right after the write of CTRL
  pub middle : B
  pub first : MakesAccesses bus (Writes CTRL (alone ctrl_rst) ∷ []) old middle
  -- the value read from ICR
  pub causes : ℕ
  pub later : MakesAccesses bus (Writes IMC 0xFFFFFFFF ∷ Reads ICR causes ∷ []) middle new
  -- the world right before the write of CTRL takes effect: the frames that are held or to be sent in this world are
  -- lost
  pub last : World
  -- what changes from the start of the call to `last`; no recorded cause is cleared
  pub goes : GoesTo up (driver_in d (bus.world old)) (driver_in d last) (driver_did [] []) first.past
  -- the write of CTRL itself, from `last` to `middle`
  pub is_reset : bus.world middle ≡ reset_world last
  -- After the write of CTRL, no frame is put on the wire, stored or missed, and the driver has no slots.
  pub no_frame : NoFrame later.past
  pub rests : RestsWith (reset_driver pool d) (bus.world new)
  -- If the link is up and no MDIC command is pending, both remain true.
  pub link : HasLink (bus.world old) → HasLink (bus.world new)
