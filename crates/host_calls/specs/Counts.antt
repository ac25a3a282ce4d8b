-- Counts of a host's adapter, and how outcomes and accesses change these counts (our choice). If no step is a fault,
-- the counts determine the outcomes of the adapter's steps. Only whether the wire is full, and which frame is put,
-- don't follow from the counts.
use Rattle.std.specs.Prelude.{◌<◌, ◌+◌, ◌-◌, ◌/◌, ◌%◌, ◌++◌, ℕ, Bool, true, false, Option, Some, None, List, [], ◌∷◌, bit_and, drop}
use Rattle.std.specs.Prelude.{is_some, length, map, max, min, if◌then◌else◌}
use Rattle.registers.specs.Bits.{is_set}
use Rattle.registers.specs.Kept.{receive_control_mask, transmit_control_mask}
use Rattle.registers.specs.Places.{ctrl_rst, rctl_en, tctl_en}
use Rattle.descriptors.specs.declared.ring.Ring.{Ring}
use Rattle.descriptors.specs.Ring.{count_of}
use Rattle.eeprom.specs.Eerd.{has_start, is_pending}
use Rattle.mdic_phy.specs.declared.phy.Negotiation.{Negotiation}
use Rattle.mdic_phy.specs.declared.phy.Negotiation.TheVariants.{NotStarted, Running, Complete}
use Rattle.mdic_phy.specs.Mdic.{MdicState, phy_after_tick}
use Rattle.mdic_phy.specs.Phy.{PhyState}
use Rattle.rx_engine.specs.Arriving.{kept}
use Rattle.rx_engine.specs.Moving.{buffer_bytes}
use Rattle.adapter.specs.model_types.register.Register.{Register}
use Rattle.adapter.specs.model_types.register.Register.TheVariants.{Ctrl, Eerd, Rctl, Tctl, Receive, Transmit}
use Rattle.adapter.specs.model_types.register.RingRegister.{RingRegister}
use Rattle.adapter.specs.model_types.register.RingRegister.TheVariants.{BaseLow, BaseHigh, Length, Head, Tail}
use Rattle.adapter.specs.model_types.step.StepKind.{StepKind}
use Rattle.adapter.specs.model_types.step.StepKind.TheVariants.{EepromTick, PhyTick}
use Rattle.adapter.specs.Rings.{ring_kept, ring_of}
use Rattle.adapter.specs.State.{AdapterState}
use Rattle.adapter.specs.Table.{register_at}
use Rattle.adapter.specs.bus_types.event.Access.{Access}
use Rattle.adapter.specs.bus_types.event.Access.TheVariants.{Loads, Reads, Stores, Writes}
use Rattle.adapter.specs.bus_types.event.Event.{Event}
use Rattle.adapter.specs.bus_types.event.Event.TheVariants.{Accesses, Arrives, Steps}
use Rattle.adapter.specs.Outcomes.{FrameOutcome}
use Rattle.adapter.specs.model_types.outcome.Outcome.TheVariants.{Done, Moved, Part, Put, Ticked, Took}

-- The counts of a ring.
pub record RingCounts : Type 0 where
  -- The number of descriptors.
  pub slots : ℕ
  -- The index of the head, RDH or TDH.
  pub head : ℕ
  -- The index of the tail, RDT or TDT.
  pub tail : ℕ

-- The counts of the receive side.
pub record ReceiveCounts : Type 0 where
  -- The counts of the receive ring.
  pub ring : RingCounts
  -- Whether the receive side is enabled, by RCTL.EN.
  pub is_enabled : Bool
  -- The size of a receive buffer in bytes, by RCTL.BSIZE.
  pub buffer_size : ℕ
  -- For each frame in the receive packet buffer, the oldest first, the number of bytes that are still to be moved.
  pub left : List ℕ
  -- Whether a piece of a frame is in progress: moved to memory, but its descriptor isn't written back.
  pub is_working : Bool

-- The counts of the transmit side.
pub record TransmitCounts : Type 0 where
  -- The counts of the transmit ring.
  pub ring : RingCounts
  -- Whether the transmit side is enabled, by TCTL.EN.
  pub is_enabled : Bool
  -- The number of frames in the transmit packet buffer.
  pub buffered : ℕ

-- The counts of the PHY.
pub record PhyCounts : Type 0 where
  -- The number of PHY ticks that are left of a negotiation; 0 if no negotiation is running.
  pub countdown : ℕ
  -- The countdown after the end of the pending command of MDIC; None if no command is pending.
  pub command : Option ℕ

-- The counts of a host's adapter.
pub record HostCounts : Type 0 where
  -- The counts of the receive side.
  pub receive : ReceiveCounts
  -- The counts of the transmit side.
  pub transmit : TransmitCounts
  -- Whether a read of EERD is pending.
  pub is_reading : Bool
  -- The counts of the PHY.
  pub phy : PhyCounts

-- The counts of a ring.
abbrev pub ring_counts : Ring → RingCounts
ring_counts ring = record { slots = count_of ring; head = ring.head; tail = ring.tail }

-- Head and tail are indices of slots of the ring.
pub record HasSlots (ring : RingCounts) : Type 0 where
  pub head : ring.head < ring.slots
  pub tail : ring.tail < ring.slots

-- The number of offered slots: from the head up to, but not including, the tail.
abbrev pub offered_in : RingCounts → ℕ
offered_in ring = (ring.tail + ring.slots - ring.head) % ring.slots

-- The number of PHY ticks that are left of this negotiation: at least 1 while it is running, else 0.
abbrev pub negotiation_ticks : Negotiation → ℕ
negotiation_ticks NotStarted = 0
negotiation_ticks (Running left) = max left 1
negotiation_ticks Complete = 0

-- The counts of MDIC and the PHY. A pending command of MDIC ends at the next PHY tick, and may start a negotiation.
abbrev pub phy_counts : MdicState → PhyState → PhyCounts
phy_counts mdic phy = record {
  countdown = negotiation_ticks phy.negotiation;
  command = if is_some mdic.pending then Some (negotiation_ticks (phy_after_tick mdic phy).negotiation) else None;
}

-- For each frame, the number of bytes that are still to be moved, if `moved` bytes of the oldest frame have been moved.
abbrev pub bytes_left : (moved : ℕ) → List (List ℕ) → List ℕ
bytes_left moved [] = []
bytes_left moved (frame ∷ later) = (length frame - moved) ∷ map length later

-- The counts of an adapter.
abbrev pub counts_of : AdapterState → HostCounts
counts_of state = record {
  receive = record {
    ring = ring_counts (ring_of state.receive_ring);
    is_enabled = is_set state.filter.rctl rctl_en;
    buffer_size = buffer_bytes state.filter.rctl;
    left = bytes_left state.receiver.moved state.receiver.buffer;
    is_working = is_some state.receiver.work;
  };
  transmit = record {
    ring = ring_counts (ring_of state.transmit_ring);
    is_enabled = is_set state.transmit_control tctl_en;
    buffered = length state.transmitter.buffer;
  };
  is_reading = is_pending state.eerd;
  phy = phy_counts state.mdic state.phy;
}

-- The counts of a ring after the adapter took the slot at the head.
abbrev pub one_taken : RingCounts → RingCounts
one_taken ring = record ring { head = (ring.head + 1) % ring.slots }

-- For each frame, the number of bytes still to be moved after a piece of at most `size` bytes of the oldest frame was
-- moved.
abbrev pub after_piece : (size : ℕ) → List ℕ → List ℕ
after_piece size [] = []
after_piece size (oldest ∷ later) = (oldest - size) ∷ later

-- The counts of the receive side after the adapter took a slot for a piece. `left` contains the number of bytes still
-- to be moved of each frame.
abbrev pub with_piece : (left : List ℕ) → ReceiveCounts → ReceiveCounts
with_piece left counts = record counts { ring = one_taken counts.ring; left = left; is_working = true }

-- The countdown after a tick of the PHY: `left` if a command with this countdown is pending, else the countdown minus
-- one, but at least 0.
abbrev pub countdown_after : (command : Option ℕ) → (countdown : ℕ) → ℕ
countdown_after None countdown = countdown - 1
countdown_after (Some left) countdown = left

-- The counts after a tick of the EEPROM or of the PHY with the outcome Ticked. A step of another kind changes no count.
abbrev pub counts_after_tick : StepKind → HostCounts → HostCounts
counts_after_tick EepromTick counts = record counts { is_reading = false }
counts_after_tick PhyTick counts =
    record counts { phy = record { countdown = countdown_after counts.phy.command counts.phy.countdown; command = None } }
counts_after_tick _ counts = counts

-- The counts after a step of this kind with this outcome.
abbrev pub after_outcome : StepKind → FrameOutcome → HostCounts → HostCounts
after_outcome kind Took counts =
    record counts { transmit = record counts.transmit { ring = one_taken counts.transmit.ring; buffered = counts.transmit.buffered + 1 } }
after_outcome kind (Put frame) counts =
    record counts { transmit = record counts.transmit { buffered = counts.transmit.buffered - 1 } }
after_outcome kind Part counts =
    record counts { receive = with_piece (after_piece counts.receive.buffer_size counts.receive.left) counts.receive }
after_outcome kind Moved counts = record counts { receive = with_piece (drop 1 counts.receive.left) counts.receive }
after_outcome kind Done counts = record counts { receive = record counts.receive { is_working = false } }
after_outcome kind Ticked counts = counts_after_tick kind counts
after_outcome kind _ counts = counts

-- The counts of a ring after one of its registers stored the value `number`.
abbrev pub ring_with : RingRegister → ℕ → RingCounts → RingCounts
ring_with BaseLow number ring = ring
ring_with BaseHigh number ring = ring
ring_with Length number ring = record ring { slots = min (number / 16) 65536 }
ring_with Head number ring = record ring { head = number }
ring_with Tail number ring = record ring { tail = number }

-- The counts of a ring after a write of one of its registers, which stores only the register's kept bits.
abbrev pub ring_counts_written : RingRegister → (value : ℕ) → RingCounts → RingCounts
ring_counts_written part value ring = ring_with part (bit_and value (ring_kept part)) ring

-- The counts of a ring without slots.
abbrev pub no_ring : RingCounts
no_ring = record { slots = 0; head = 0; tail = 0 }

-- The counts after a reset: the rings have no slots, the packet buffers are empty, and both sides are disabled. Receive
-- buffers have the size for RCTL 0. No piece, read or command is in progress; the countdown isn't reset.
abbrev pub emptied : HostCounts → HostCounts
emptied counts = record {
  receive = record { ring = no_ring; is_enabled = false; buffer_size = buffer_bytes 0; left = []; is_working = false };
  transmit = record { ring = no_ring; is_enabled = false; buffered = 0 };
  is_reading = false;
  phy = record { countdown = counts.phy.countdown; command = None };
}

-- The counts of the receive side after RCTL stored the value `number`.
abbrev pub counts_with_control : ℕ → ReceiveCounts → ReceiveCounts
counts_with_control number counts = record counts { is_enabled = is_set number rctl_en; buffer_size = buffer_bytes number }

-- The counts after a write of a value to a register, or to an offset without a register (`None`). For a write of MDIC
-- the result has no meaning (`IsCounted`), because the counts don't determine the effect of this write.
abbrev pub counts_after_write : Option Register → ℕ → HostCounts → HostCounts
counts_after_write (Some Ctrl) value counts = if is_set value ctrl_rst then emptied counts else counts
counts_after_write (Some Rctl) value counts =
    record counts { receive = counts_with_control (bit_and value receive_control_mask) counts.receive }
counts_after_write (Some Tctl) value counts =
    record counts { transmit = record counts.transmit { is_enabled = is_set (bit_and value transmit_control_mask) tctl_en } }
counts_after_write (Some (Receive part)) value counts =
    record counts { receive = record counts.receive { ring = ring_counts_written part value counts.receive.ring } }
counts_after_write (Some (Transmit part)) value counts =
    record counts { transmit = record counts.transmit { ring = ring_counts_written part value counts.transmit.ring } }
counts_after_write (Some Eerd) value counts = record counts { is_reading = if has_start value then true else counts.is_reading }
counts_after_write _ value counts = counts

-- The counts after an access: only writes change them.
abbrev pub counts_after_access : Access → HostCounts → HostCounts
counts_after_access (Reads offset value) counts = counts
counts_after_access (Writes offset value) counts = counts_after_write (register_at offset) value counts
counts_after_access (Loads address size) counts = counts
counts_after_access (Stores address bytes) counts = counts

-- The counts after an event; a stored frame is appended to the receive packet buffer.
abbrev pub counts_after : Event → HostCounts → HostCounts
counts_after (Steps kind wire_free answer) counts = after_outcome kind answer counts
counts_after (Arrives frame fate) counts =
    record counts { receive = record counts.receive { left = counts.receive.left ++ map length (kept fate frame) } }
counts_after (Accesses access) counts = counts_after_access access counts

-- The counts after these events, in order.
abbrev pub counts_behind : List Event → HostCounts → HostCounts
counts_behind [] counts = counts
counts_behind (event ∷ later) counts = counts_behind later (counts_after event counts)
