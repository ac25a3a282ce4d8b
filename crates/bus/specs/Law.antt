-- The bus law: what may happen to an adapter and its memory between two accesses of a driver (our choice).
use Rattle.std.specs.Prelude.{◌≡◌, ◌≤◌, ◌+◌, ◌⊎◌, ◌++◌, ℕ, List, [], ◌∷◌, All, length, max, min, if◌then◌else◌}
use Rattle.std.specs.Fn.{iterate}
use Rattle.dma_memory.specs.Areas.{Area, bytes_in}
use Rattle.eeprom.specs.Eerd as eeprom
use Rattle.mdic_phy.specs.Mdic.{MdicState, has_work, mdic_after_tick, phy_after_tick}
use Rattle.mdic_phy.specs.Phy.{PhyState}
use Rattle.registers.specs.Bits.{HasBit}
use Rattle.registers.specs.Counting.{greatest_count}
use Rattle.descriptors.specs.Frames.{IsLegal}
use Rattle.descriptors.specs.Ring.{HasValidIndices}
use Rattle.rx_engine.specs.Pieces.{IsPart, Piece}
use Rattle.adapter_model.specs.Conditions.{AreCut, FitBuffers, Sound}
use Rattle.adapter_model.specs.HostAreas.{IsForeign}
use Rattle.adapter_model.specs.HostFrames.{finished_pieces, frames_held, frames_to_send}
use Rattle.adapter_model.specs.Rings.{ring_of}
use Rattle.adapter_model.specs.Running.{CanRun}
use Rattle.adapter_model.specs.Slots.{finished, written_back_slots}
use Rattle.adapter_model.specs.State.{AdapterState, IsAdapter}
use Rattle.adapter_model.specs.World.{World}
use Rattle.adapter_model.specs.declared.ring.RingRegisters.{RingRegisters}
use Rattle.bus.specs.Pasts.{Past}
use Rattle.bus.specs.declared.event.Access.{Access}
use Rattle.registers.specs.Places.{rctl_en, rxt0}

-- MDIC and its PHY.
pub record Management : Type 0 where
  pub mdic : MdicState
  pub phy : PhyState

-- MDIC and the PHY of an adapter.
abbrev pub management_of : AdapterState → Management
management_of adapter = record { mdic = adapter.mdic; phy = adapter.phy }

-- MDIC and the PHY after a tick. The tick has an effect if the PHY's link countdown is running, or if a command of MDIC is pending.
abbrev pub phy_ticked : Management → Management
phy_ticked management =
    if has_work management.mdic management.phy
    then record { mdic = mdic_after_tick management.mdic management.phy; phy = phy_after_tick management.mdic management.phy }
    else management

-- Registers that only a driver's accesses change are the same in both states.
pub record RegistersStay (a b : AdapterState) : Type 0 where
  -- IMS doesn't change.
  pub mask : b.causes.mask ≡ a.causes.mask
  -- RAL, RAH, MTA, VFTA, RCTL and VET don't change.
  pub filter : b.filter ≡ a.filter
  -- CTRL doesn't change.
  pub device_control : b.device_control ≡ a.device_control
  -- TCTL doesn't change.
  pub transmit_control : b.transmit_control ≡ a.transmit_control
  -- PBA doesn't change.
  pub allocation : b.receive_kilobytes ≡ a.receive_kilobytes

-- Of the registers of a ring, only the head may change.
pub record OnlyHeadMoves (a b : RingRegisters) : Type 0 where
  -- Base, length and tail don't change.
  pub others : b ≡ record a { head = b.head }
  -- If the head changes, it is the index of a slot of its ring, and so is the tail.
  pub head : (b.head ≡ a.head) ⊎ HasValidIndices (ring_of b)

-- What is known of the frames that were stored or missed.
pub record CountsArrivals (a b : World) (past : Past) : Type 0 where
  -- MPC grows by the number of missed frames, and saturates at its greatest value.
  pub missed : b.adapter.missed_packets ≡ max a.adapter.missed_packets (min (a.adapter.missed_packets + past.missed) greatest_count)
  -- If RCTL.EN is 0, no frame is stored or missed.
  pub off : ¬ (HasBit a.adapter.filter.rctl rctl_en) → (past.stored ≡ []) × (past.missed ≡ 0)
  -- Each stored frame has 60 to 1,518 bytes.
  pub legal : All IsLegal past.stored

-- The registers that only ticks change between two accesses.
pub record MovesByTicks (a b : World) (past : Past) : Type 0 where
  -- Each tick of the EEPROM has its effect on EERD. Nothing else changes EERD.
  pub eerd : b.adapter.eerd ≡ iterate (eeprom.after_tick a.adapter.image) past.eeprom_ticks a.adapter.eerd
  -- Each tick of the PHY has its effect on MDIC and the PHY. Nothing else changes MDIC or the PHY.
  pub management : management_of b.adapter ≡ iterate phy_ticked past.phy_ticks (management_of a.adapter)

-- What is true of every interval, whatever the registers and the memory contain.
pub record Steady (a b : World) (past : Past) : Type 0 where
  -- The size of memory and the words of the EEPROM don't change.
  pub size : length b.memory ≡ length a.memory
  pub image : b.adapter.image ≡ a.adapter.image
  pub registers : RegistersStay a.adapter b.adapter
  -- Recorded causes remain recorded.
  pub causes : (place : ℕ) → HasBit a.adapter.causes.recorded place → HasBit b.adapter.causes.recorded place
  pub receive_ring : OnlyHeadMoves a.adapter.receive_ring b.adapter.receive_ring
  pub transmit_ring : OnlyHeadMoves a.adapter.transmit_ring b.adapter.transmit_ring
  pub arrivals : CountsArrivals a b past
  pub ticks : MovesByTicks a b past

-- The frames that were put on the wire, and the slots that report them.
pub record PutsInOrder (oldest_transmit : ℕ) (a b : World) (past : Past) : Type 0 where
  -- The frames to be sent are put on the wire in order, each exactly once.
  pub sends : past.put ++ frames_to_send b ≡ frames_to_send a
  -- The list of written-back slots, from the oldest on, grows at its end by one slot for each frame.
  pub reported : List ℕ
  pub written : written_back_slots oldest_transmit b ≡ written_back_slots oldest_transmit a ++ reported
  pub each_reported : length reported ≡ length past.put

-- The frames that were stored, and the slots that report them.
pub record StoresInOrder (oldest_receive : ℕ) (a b : World) (past : Past) : Type 0 where
  -- The list of frames held grows at its end by the stored frames.
  pub holds : frames_held oldest_receive b ≡ frames_held oldest_receive a ++ past.stored
  -- The list of finished slots, from the oldest on, only grows at its end, and so does the list of their pieces.
  pub more : List ℕ
  pub done : finished oldest_receive b ≡ finished oldest_receive a ++ more
  pub pieces : List Piece
  pub grown : finished_pieces oldest_receive b ≡ finished_pieces oldest_receive a ++ pieces
  -- If a frame ends in one of the new slots, RXT0, bit 7, is recorded.
  pub told : All IsPart pieces ⊎ HasBit b.adapter.causes.recorded rxt0

-- What happens to frames, slots and memory.
pub record Between (oldest_receive oldest_transmit : ℕ) (a b : World) (past : Past) : Type 0 where
  pub transmit : PutsInOrder oldest_transmit a b past
  pub receive : StoresInOrder oldest_receive a b past
  -- If all pieces fit into buffers of some size, they still fit, and so do new pieces.
  pub fits : (size : ℕ) → FitBuffers size oldest_receive a → FitBuffers size oldest_receive b
  -- If frames are cut into buffers of some size, new frames are cut in the same way.
  pub whole : (size : ℕ) → AreCut size oldest_receive a → AreCut size oldest_receive b
  -- An area that the adapter may not write doesn't change, and remains such an area.
  pub untouched : (area : Area) → IsForeign a area → bytes_in b.memory area ≡ bytes_in a.memory area
  pub foreign : (area : Area) → IsForeign a area → IsForeign b area
  -- If the engines can run before the interval, they can run after it: no fault stops them.
  pub runs : CanRun a → CanRun b
  pub sound : Sound oldest_receive oldest_transmit b

-- What adapter steps and deliveries may do, whichever slots the driver counts as its oldest.
pub record Happens (a b : World) (past : Past) : Type 0 where
  pub steady : Steady a b past
  pub between : (oldest_receive oldest_transmit : ℕ) → Sound oldest_receive oldest_transmit a
      → Between oldest_receive oldest_transmit a b past

-- At least one tick of the EEPROM and one tick of the PHY happened.
pub record HasTicks (past : Past) : Type 0 where
  pub eeprom : 1 ≤ past.eeprom_ticks
  pub phy : 1 ≤ past.phy_ticks

-- A bus as its members describe it: its memory and adapter, its report of an interval, and whether it is lively.
pub record BusView (B : Type 0) : Type 1 where
  pub world : B → World
  pub happened : B → B → Past → Type 0
  pub lively : B → Type 0

-- The bus with these members.
abbrev pub view : {B : Type 0} → (B → World) → (B → B → Past → Type 0) → (B → Type 0) → BusView B
view world happened lively = record { world = world; happened = happened; lively = lively }

-- One access of a driver over a bus: first an interval, which the bus reports, and then the access itself. A lively bus plays ticks in this
-- interval.
pub record Acts {B : Type 0} (bus : BusView B) (old new : B) (access : Access) (effect : World → World → Type 0) : Type 0 where
  -- The world in which the access itself begins.
  pub middle : World
  -- What happened, with the access.
  pub past : Past
  pub only : past.accesses ≡ access ∷ []
  pub told : bus.happened old new past
  pub ticks : bus.lively old → HasTicks past
  -- The adapter steps and deliveries before the access.
  pub before : Happens (bus.world old) middle past
  pub adapter : IsAdapter middle.adapter
  -- The access itself, from `middle` to the end of the call.
  pub effect_is : effect middle (bus.world new)
