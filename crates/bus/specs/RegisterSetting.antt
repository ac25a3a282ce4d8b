-- Writes and reads of registers while the conditions of the law hold, as in initialization after the first slot is offered (our choice).
use Rattle.std.specs.Prelude.{⊤, ◌≡◌, ◌≤◌, ◌<◌, ◌+◌, ◌%◌, ◌++◌, ℕ, zero, suc, [], false, All, None, map}
use Rattle.dma_memory.specs.Areas.{AreSeparate}
use Rattle.registers.specs.Bits.{HasBit}
use Rattle.descriptors.specs.Ring.{address_of, count_of, slots_from}
use Rattle.registers.specs.Places.{rctl_bsex, rctl_en, tctl_psp}
use Rattle.rx_engine.specs.Descriptors.{named_address}
use Rattle.adapter_model.specs.Registers.{is_reset, write_of}
use Rattle.adapter_model.specs.declared.register.Register.{Register}
use Rattle.adapter_model.specs.declared.register.Register.TheVariants.{Rctl, Receive, Tctl, Transmit}
use Rattle.adapter_model.specs.declared.ring.RingRegisters.{RingRegisters}
use Rattle.adapter_model.specs.HostAreas.{areas}
use Rattle.adapter_model.specs.Slots.{finished, offered, outstanding}
use Rattle.adapter_model.specs.HostFrames.{frames_held, frames_to_send}
use Rattle.adapter_model.specs.Conditions.{AreCut, FitBuffers, Sound}
use Rattle.bus.specs.Law.{Happens}
use Rattle.bus.specs.SlotOffers.{CanOffer, offering}
use Rattle.bus.specs.DriversStores.{LeavesFrames, SameFrames}
use Rattle.bus.specs.Pasts.{Past}
use Rattle.adapter_model.specs.Running.{GoOn}
use Rattle.adapter_model.specs.World.{receive_ring, transmit_ring, World, world_after_read}

-- This number of receive slots can be offered, one after the other.
abbrev pub CanOfferMany : ℕ → ℕ → World → Type 0
CanOfferMany oldest zero world = ⊤
CanOfferMany oldest (suc k) world = CanOffer oldest world × CanOfferMany oldest k (offering world)

-- The world with RDT at this index.
abbrev pub with_tail : ℕ → World → World
with_tail index world = record world
    { adapter = record world.adapter { receive_ring = record world.adapter.receive_ring { tail = index } } }

-- One write advances RDT by k slots: the conditions hold again, these slots are the last outstanding ones, and frames are the same.
-- Engines that could run still can run.
pub record OfferedMany (oldest_receive oldest_transmit k : ℕ) (a b : World) : Type 0 where
  pub same : SameFrames oldest_receive oldest_transmit a b
  pub runs : GoOn a b
  pub last :
      outstanding (receive_ring b) oldest_receive
      ≡ outstanding (receive_ring a) oldest_receive ++ map (address_of (receive_ring a))
      (slots_from (count_of (receive_ring a)) a.adapter.receive_ring.tail k)

-- If the conditions hold and k slots can be offered one after the other, one write of RDT can offer them (`OfferedMany`).
abbrev pub ManySlotsCanBeOffered : Type 0
ManySlotsCanBeOffered =
    (oldest_receive oldest_transmit k : ℕ) (world : World) → Sound oldest_receive oldest_transmit world
    → world.adapter.receive_ring.tail < count_of (receive_ring world)
    → CanOfferMany oldest_receive k world
    → OfferedMany oldest_receive oldest_transmit k world
    (with_tail ((world.adapter.receive_ring.tail + k) % count_of (receive_ring world)) world)

-- The world in which RCTL is this word.
abbrev pub with_receive_control : ℕ → World → World
with_receive_control control world = record world
    { adapter = record world.adapter { filter = record world.adapter.filter { rctl = control } } }

-- After a write of RCTL, the conditions hold, and slots and frames are the same. If BSEX is 0, engines that could run still can run.
pub record ReceiverSet (oldest_receive oldest_transmit : ℕ) (a b : World) : Type 0 where
  pub same : SameFrames oldest_receive oldest_transmit a b
  pub runs : ¬ (HasBit b.adapter.filter.rctl rctl_bsex) → GoOn a b

-- RCTL may be written if the rings, the frames, and the buffers that the conditions then name are in memory, apart from one another.
abbrev pub ReceiverCanBeSet : Type 0
ReceiverCanBeSet =
    (oldest_receive oldest_transmit control : ℕ) (world : World) → Sound oldest_receive oldest_transmit world
    → AreSeparate world.memory (areas oldest_receive (with_receive_control control world))
    → ReceiverSet oldest_receive oldest_transmit world (with_receive_control control world)

-- The world in which TCTL is this word.
abbrev pub with_transmit_control : ℕ → World → World
with_transmit_control control world = record world { adapter = record world.adapter { transmit_control = control } }

-- TCTL may be written if PSP is set in the written value, or TDH equals TDT.
abbrev pub TransmitterCanBeSet : Type 0
TransmitterCanBeSet =
    (oldest_receive oldest_transmit control : ℕ) (world : World) → Sound oldest_receive oldest_transmit world
    → (¬ (world.adapter.transmit_ring.head ≡ world.adapter.transmit_ring.tail) → HasBit control tctl_psp)
    → LeavesFrames oldest_receive oldest_transmit world (with_transmit_control control world)

-- The world with these registers of the transmit ring.
abbrev pub with_transmit_ring : RingRegisters → World → World
with_transmit_ring ring world = record world { adapter = record world.adapter { transmit_ring = ring } }

-- The conditions hold with TDT as the oldest slot, no transmit slot is outstanding, no frame is to be sent, and received frames don't
-- change. Engines that could run still can run.
pub record TransmitRingSet (oldest_receive : ℕ) (a b : World) : Type 0 where
  pub sound : Sound oldest_receive b.adapter.transmit_ring.tail b
  pub none_outstanding : outstanding (transmit_ring b) b.adapter.transmit_ring.tail ≡ []
  pub none_to_send : frames_to_send b ≡ []
  pub held : frames_held oldest_receive b ≡ frames_held oldest_receive a
  pub finished_same : finished oldest_receive b ≡ finished oldest_receive a
  pub fits : (size : ℕ) → FitBuffers size oldest_receive a → FitBuffers size oldest_receive b
  pub runs : GoOn a b

-- The transmit ring may be set up while no frame is in the transmit packet buffer. TDH must equal TDT, and the ring must be inside memory,
-- apart from all other areas.
abbrev pub TransmitRingCanBeSet : Type 0
TransmitRingCanBeSet =
    (oldest_receive oldest_transmit : ℕ) (ring : RingRegisters) (world : World) → Sound oldest_receive oldest_transmit world
    → world.adapter.transmitter.buffer ≡ [] → ring.head ≡ ring.tail
    → AreSeparate world.memory (areas oldest_receive (with_transmit_ring ring world))
    → TransmitRingSet oldest_receive world (with_transmit_ring ring world)

-- A register on which the conditions depend.
abbrev pub IsOfConditions : Register → Type 0
IsOfConditions Rctl = ⊤
IsOfConditions Tctl = ⊤
IsOfConditions (Receive part) = ⊤
IsOfConditions (Transmit part) = ⊤
IsOfConditions register = ⊥

-- A write of a register on which the conditions don't depend, except for a reset, changes neither the conditions nor slots nor frames.
abbrev pub OtherWritesLeaveFrames : Type 0
OtherWritesLeaveFrames =
    (oldest_receive oldest_transmit : ℕ) (register : Register) (value : ℕ) (world : World)
    → Sound oldest_receive oldest_transmit world → ¬ (IsOfConditions register) → is_reset register value ≡ false
    → LeavesFrames oldest_receive oldest_transmit world (record world { adapter = write_of register value world.adapter })

-- A read of any register changes neither the conditions nor slots nor frames.
abbrev pub ReadsLeaveFrames : Type 0
ReadsLeaveFrames =
    (oldest_receive oldest_transmit offset : ℕ) (world : World)
    → Sound oldest_receive oldest_transmit world → LeavesFrames oldest_receive oldest_transmit world (world_after_read offset world)

-- No frame is in the transmit packet buffer, and TDH equals TDT.
pub record IsTransmitIdle (world : World) : Type 0 where
  pub buffer : world.adapter.transmitter.buffer ≡ []
  pub ring : world.adapter.transmit_ring.head ≡ world.adapter.transmit_ring.tail

-- A transmit ring whose head and tail are at the driver's oldest slot remains idle, whatever happens between two accesses.
abbrev pub TransmitStaysIdle : Type 0
TransmitStaysIdle =
    (oldest_receive : ℕ) (a b : World) (past : Past) → Sound oldest_receive a.adapter.transmit_ring.tail a
    → a.adapter.transmit_ring.head ≡ a.adapter.transmit_ring.tail → Happens a b past → IsTransmitIdle b

-- In the second world, no receive slot is finished, and no piece is in progress. The offered slots and the addresses of their buffers are
-- the same in both worlds.
pub record OffersStay (oldest_receive : ℕ) (a b : World) : Type 0 where
  pub none_finished : finished oldest_receive b ≡ []
  pub no_work : b.adapter.receiver.work ≡ None
  pub slots : offered (receive_ring b) ≡ offered (receive_ring a)
  pub addresses : All (λ slot. named_address b.memory slot ≡ named_address a.memory slot) (offered (receive_ring a))

-- While RCTL.EN is 0 and no frame is held, the offered receive slots don't change. Frames must be cut into buffers of one size, at least
-- one byte, so that no slot contains a part of a frame.
abbrev pub OffersWait : Type 0
OffersWait =
    (size oldest_receive oldest_transmit : ℕ) (a b : World) (past : Past) → Sound oldest_receive oldest_transmit a
    → oldest_receive < count_of (receive_ring a)
    → ¬ (HasBit a.adapter.filter.rctl rctl_en) → 1 ≤ size → AreCut size oldest_receive a
    → frames_held oldest_receive a ≡ [] → Happens a b past
    → OffersStay oldest_receive a b
