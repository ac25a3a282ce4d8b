-- The state in which a driver begins, and the accesses of its initialization (our choice).
use Rattle.std.specs.Prelude.{◌≡◌, ◌≤◌, ◌<◌, ◌⊎◌, ◌+◌, ◌*◌, ℕ, Bool, true, false, List, [], None, length}
use Rattle.adapter_model.specs.declared.offsets.TheConstants.{IMS}
use Rattle.registers.specs.Bits.{HasBit, union}
use Rattle.registers.specs.Kept.{causes_of}
use Rattle.dma_memory.specs.Areas.{IsInside, area_at}
use Rattle.dma_memory.specs.Layout.{Counts, TransmitRing, area_of, descriptor_bytes, receive_buffer_bytes, size_of}
use Rattle.descriptors.specs.RingLaws.{place}
use Rattle.adapter_model.specs.HostAreas.{buffer_size, ring_area}
use Rattle.adapter_model.specs.HostFrames.{finished_pieces, frames_held, frames_to_send}
use Rattle.adapter_model.specs.Rings.{ring_of}
use Rattle.adapter_model.specs.Running.{CanRun}
use Rattle.adapter_model.specs.Slots.{finished, written_back_slots}
use Rattle.adapter_model.specs.World.{World, receive_ring, transmit_ring, world_after_store, world_after_write}
use Rattle.adapter_model.specs.declared.ring.RingRegisters.{RingRegisters}
use Rattle.bus.specs.IdleRings.{IsIdle}
use Rattle.bus.specs.RegisterSetting.{with_receive_control, with_transmit_control, with_transmit_ring}
use Rattle.bus.specs.Law.{Happens}
use Rattle.bus.specs.Pasts.{Past, nothing}
use Rattle.adapter_model.specs.KnownRing.{KnowsRing}
use Rattle.bus.specs.DriverState.{DriverSetup, DriverState, next_receive, receive_slot, transmit_tail}
use Rattle.bus.specs.Calls.{Goes, GoesTo, HasNoForgottenWork, driver_did, driver_in, frames_ended}
use Rattle.bus.specs.ReadyDrivers.{IsDriver, ReadyWith, TransmitIs, transmit_side}
use Rattle.registers.specs.Places.{rctl_bsex, rctl_en, rxt0, tctl_psp}

-- The state in which a driver begins

-- A driver with this layout and setup that has offered no slot, and has joined these groups. The buffers in `pool` are free, others hold no
-- piece, and the counts are 0.
abbrev pub new_driver : Counts → DriverSetup → (groups : List (List ℕ)) → (pool : List ℕ) → DriverState
new_driver counts setup groups pool = record {
  layout = counts;
  oldest_receive = 0;
  buffers = [];
  staged = [];
  pool = pool;
  handed_out = [];
  oldest_transmit = 0;
  sending = 0;
  missed = 0;
  exact = true;
  bad = 0;
  groups = groups;
  setup = setup;
}

-- The receive ring is set up, the transmit side is set up or off, and no slot of either ring is offered. Memory
-- contains the whole layout, and no step of an engine is a fault.
pub record IsAtBeginning (up : Bool) (counts : Counts) (setup : DriverSetup) (groups : List (List ℕ)) (pool : List ℕ) (world : World) :
    Type 0
  where
    pub driver_is : IsDriver (new_driver counts setup groups pool)
    pub idle : IsIdle world
    pub runs : CanRun world
    pub lies : size_of counts ≤ length world.memory
    -- RCTL.BSIZE selects the size of the layout's receive buffers while RCTL.EN is set.
    pub sized : HasBit world.adapter.filter.rctl rctl_en → buffer_size world ≡ receive_buffer_bytes
    pub receive : KnowsRing (receive_ring world) 0 counts.rx 0
    pub transmit : TransmitIs up counts 0 0 (transmit_side world)

-- A driver in the state in which it begins (`IsAtBeginning`) is ready.
abbrev pub DriversBegin : Type 0
DriversBegin =
    (up : Bool) (counts : Counts) (setup : DriverSetup) (groups : List (List ℕ)) (pool : List ℕ) (world : World)
    → IsAtBeginning up counts setup groups pool world → ReadyWith up (new_driver counts setup groups pool) world

-- Register writes of the initialization by a driver that is ready, other than the write of RDT, which offers staged slots

-- The registers of the transmit ring become `ring` while the transmit side is off. TDH then equals TDT, and the ring is inside its place in
-- the layout. The transmit side remains off, and TDT is the place of the driver's oldest transmit slot.
abbrev pub TransmitRingIsWritten : Type 0
TransmitRingIsWritten =
    (driver : DriverState) (ring : RingRegisters) (world : World) → ReadyWith false driver world → ring.head ≡ ring.tail
    → IsInside (ring_area (ring_of ring)) (area_of driver.layout TransmitRing)
    → GoesTo false (driver_in driver world) (driver_in (record driver { oldest_transmit = ring.tail }) (with_transmit_ring ring world))
    (driver_did [] []) nothing

-- TCTL is written with PSP, bit 3, while the transmit side is off. Before the write, TDBAL, TDBAH and TDLEN contain the ring's base and
-- size, TDT the driver's tail, and TDH the place of a slot. The driver's oldest slot is a slot of the ring. After the write, the transmit
-- side is set up.
abbrev pub TransmitterIsEnabled : Type 0
TransmitterIsEnabled =
    (driver : DriverState) (control : ℕ) (world : World) → ReadyWith false driver world → driver.oldest_transmit < driver.layout.tx
    → KnowsRing (transmit_ring world) (descriptor_bytes * driver.layout.rx) driver.layout.tx (transmit_tail driver)
    → HasBit control tctl_psp
    → Goes (driver_in driver world) (driver_in driver (with_transmit_control control world)) (driver_did [] []) nothing

-- RCTL is written, with or without EN, while no receive slot is finished or in progress and the transmit side is off. BSEX is 0, and BSIZE
-- selects the size of the layout's receive buffers. The driver remains ready.
abbrev pub ReceiverIsEnabled : Type 0
ReceiverIsEnabled =
    (driver : DriverState) (control : ℕ) (world : World) → ReadyWith false driver world
    → finished driver.oldest_receive world ≡ [] → world.adapter.receiver.work ≡ None → ¬ (HasBit control rctl_bsex)
    → buffer_size (with_receive_control control world) ≡ receive_buffer_bytes
    → GoesTo false (driver_in driver world) (driver_in driver (with_receive_control control world)) (driver_did [] []) nothing

-- In both worlds, the frames to be sent and the received frames that are held are the same. So are the finished slots
-- with their pieces, and the written-back slots.
pub record FramesStay (driver : DriverState) (a b : World) : Type 0 where
  pub to_send : frames_to_send b ≡ frames_to_send a
  pub held : frames_held driver.oldest_receive b ≡ frames_held driver.oldest_receive a
  pub finished_same : finished driver.oldest_receive b ≡ finished driver.oldest_receive a
  pub pieces_same : finished_pieces driver.oldest_receive b ≡ finished_pieces driver.oldest_receive a
  pub written_same : written_back_slots driver.oldest_transmit b ≡ written_back_slots driver.oldest_transmit a

-- The causes `causes` were enabled in the mask. The driver is ready, and frames, slots, MPC and the recorded causes
-- are the same.
pub record Enabled (up : Bool) (driver : DriverState) (causes : ℕ) (a b : World) : Type 0 where
  pub ready : ReadyWith up driver b
  pub frames : FramesStay driver a b
  -- MPC doesn't change.
  pub missed : b.adapter.missed_packets ≡ a.adapter.missed_packets
  pub recorded : b.adapter.causes.recorded ≡ a.adapter.causes.recorded
  pub mask : b.adapter.causes.mask ≡ union a.adapter.causes.mask (causes_of causes)

-- If the driver is ready, a write of IMS enables the causes in the written value (`Enabled`).
abbrev pub CausesAreEnabled : Type 0
CausesAreEnabled =
    (up : Bool) (driver : DriverState) (causes : ℕ) (world : World) → ReadyWith up driver world
    → Enabled up driver causes world (world_after_write IMS causes world)

-- After RXT0, bit 7, is enabled, no work is forgotten if, in the world `a` before, no frame ended in finished slots, or RXT0 was recorded.
abbrev pub EnabledForgetsNoWork : Type 0
EnabledForgetsNoWork =
    (up : Bool) (driver : DriverState) (causes : ℕ) (a b : World) → Enabled up driver causes a b → HasBit (causes_of causes) rxt0
    → (frames_ended (driver_in driver a) ≡ []) ⊎ HasBit a.adapter.causes.recorded rxt0 → HasNoForgottenWork driver b

-- Stores of the initialization by a driver that is ready, other than those that stage slots

-- The place of the i-th slot (from 0) after the outstanding and staged slots.
abbrev pub spare_slot : DriverState → ℕ → ℕ
spare_slot driver i = place driver.layout.rx driver.oldest_receive (length driver.buffers + (length driver.staged + i))

-- The 16 bytes of the descriptor of the slot after the outstanding and staged slots may be stored. The store is an interval in which the
-- driver doesn't change.
abbrev pub LastSlotIsStored : Type 0
LastSlotIsStored =
    (up : Bool) (driver : DriverState) (bytes : List ℕ) (world : World) → ReadyWith up driver world → length bytes ≡ descriptor_bytes
    → GoesTo up (driver_in driver world) (driver_in driver (world_after_store (receive_slot (next_receive driver)) bytes world))
    (driver_did [] []) nothing

-- The 16 bytes of the descriptor of a slot that is neither outstanding nor staged may be stored. The store is an interval in which the
-- driver doesn't change.
abbrev pub SpareSlotIsStored : Type 0
SpareSlotIsStored =
    (up : Bool) (driver : DriverState) (i : ℕ) (bytes : List ℕ) (world : World) → ReadyWith up driver world
    → length bytes ≡ descriptor_bytes → length driver.buffers + (length driver.staged + i) < driver.layout.rx
    → GoesTo up (driver_in driver world) (driver_in driver (world_after_store (receive_slot (spare_slot driver i)) bytes world))
    (driver_did [] []) nothing

-- While the transmit side is off, a store inside the place of the transmit ring is an interval in which the driver doesn't change.
abbrev pub TransmitPlaceIsStored : Type 0
TransmitPlaceIsStored =
    (driver : DriverState) (address : ℕ) (bytes : List ℕ) (world : World) → ReadyWith false driver world
    → IsInside (area_at address (length bytes)) (area_of driver.layout TransmitRing)
    → GoesTo false (driver_in driver world) (driver_in driver (world_after_store address bytes world)) (driver_did [] []) nothing

-- What remains true during initialization, whatever happens between two accesses

-- RCTL.EN is 0, and no received frame is held, as before the write of RCTL in the initialization.
pub record HoldsNoFrame (driver : DriverState) (world : World) : Type 0 where
  pub disabled : ¬ (HasBit world.adapter.filter.rctl rctl_en)
  pub none : frames_held driver.oldest_receive world ≡ []

-- For a driver that is ready, `HoldsNoFrame` remains true, whatever happens between two accesses.
abbrev pub NoFrameComes : Type 0
NoFrameComes =
    (up : Bool) (driver : DriverState) (a b : World) (past : Past) → ReadyWith up driver a → Happens a b past
    → HoldsNoFrame driver a → HoldsNoFrame driver b

-- For a driver that is ready, if RCTL.EN is 0 and no received frame is held, no receive slot is finished or in progress.
abbrev pub NothingIsHeld : Type 0
NothingIsHeld =
    (up : Bool) (driver : DriverState) (world : World) → ReadyWith up driver world → HoldsNoFrame driver world
    → (finished driver.oldest_receive world ≡ []) × (world.adapter.receiver.work ≡ None)

-- For a driver that is ready with its transmit side off, the registers of the transmit ring don't change, whatever happens between two
-- accesses.
abbrev pub RingsThatAreOffStay : Type 0
RingsThatAreOffStay =
    (driver : DriverState) (a b : World) (past : Past) → ReadyWith false driver a → Happens a b past
    → b.adapter.transmit_ring ≡ a.adapter.transmit_ring
