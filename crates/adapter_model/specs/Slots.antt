-- The slots of both rings as a driver counts them, from its oldest slot on ("3.2.6 Receive Descriptor Queue Structure", "3.4 Transmit
-- Descriptor Ring Structure"). A slot is identified by the address of its descriptor.
use Rattle.std.specs.Prelude.{◌≡◌, ◌<◌, ◌⊎◌, ◌++◌, ℕ, false, List, [], ◌∷◌, All, Option, None, Some, map}
use Rattle.descriptors.specs.declared.ring.Ring.{Ring}
use Rattle.descriptors.specs.Ring.{count_of}
pub use Rattle.rx_engine.specs.Slots.{done_slots, is_done, offered, outstanding}
use Rattle.rx_engine.specs.declared.engine.Work.{Work}
use Rattle.tx_engine.specs.Transmitter.{Queued}
use Rattle.adapter_model.specs.World.{World, receive_ring, transmit_ring}

-- From slot `oldest` on, the outstanding slots of the ring are first finished slots, then the slots of `taken`, then the offered slots.
-- Slots of `taken` and offered slots don't have DD. `oldest` is the index of a slot of the ring, or no slot is outstanding.
pub record IsDealt (memory : List ℕ) (ring : Ring) (oldest : ℕ) (taken : List ℕ) : Type 0 where
  -- `oldest` is the index of a slot of the ring, or no slot is outstanding.
  pub slot : (oldest < count_of ring) ⊎ (outstanding ring oldest ≡ [])
  -- The outstanding slots are first the finished slots, then the slots of `taken`, then the offered slots.
  pub classes : outstanding ring oldest ≡ done_slots memory ring oldest ++ (taken ++ offered ring)
  -- No slot of `taken` and no offered slot has DD set.
  pub not_done : All (λ descriptor. is_done memory descriptor ≡ false) (taken ++ offered ring)

-- The slot of the piece in progress, as a list of at most one slot.
abbrev pub slot_of_work : Option Work → List ℕ
slot_of_work None = []
slot_of_work (Some work) = work.descriptor ∷ []

-- The slot of the receive ring whose piece is in progress, as a list of at most one slot.
abbrev pub slots_in_work : World → List ℕ
slots_in_work world = slot_of_work world.adapter.receiver.work

-- The slots of the frames in the transmit packet buffer, in the order of the frames.
abbrev pub buffered : World → List ℕ
buffered world = map (λ (queued : Queued). queued.descriptor) world.adapter.transmitter.buffer

-- The finished slots of the receive ring, from the driver's oldest slot up to, but not including, the first outstanding slot without DD.
abbrev pub finished : ℕ → World → List ℕ
finished oldest world = done_slots world.memory (receive_ring world) oldest

-- The written-back slots of the transmit ring, from the driver's oldest slot up to, but not including, the first outstanding slot without
-- DD.
abbrev pub written_back_slots : ℕ → World → List ℕ
written_back_slots oldest world = done_slots world.memory (transmit_ring world) oldest
