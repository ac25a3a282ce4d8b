-- The conditions under which the frames that a host and its adapter hold can be read from memory (our choice).
use Rattle.std.specs.Prelude.{◌≡◌, ◌<◌, ◌⊎◌, ℕ, [], All}
use Rattle.std.specs.Option.{ForSome}
use Rattle.dma_memory.specs.HostMemory.{LiesIn}
use Rattle.descriptors.specs.Ring.{address_of, count_of, offered_places}
use Rattle.rx_engine.specs.Descriptors.{named_address}
use Rattle.rx_engine.specs.FinishedSlots.{LiesWhole, NamesMemory}
use Rattle.rx_engine.specs.JoinedPieces.{AreShort}
use Rattle.tx_engine.specs.QueuedFrames.{CanBeCopied}
use Rattle.adapter_model.specs.HostFrames.{pieces_in_slots}
use Rattle.adapter_model.specs.Slots.{finished, outstanding}
use Rattle.adapter_model.specs.World.{World, receive_ring, transmit_ring}

-- The frames to be sent can be read: the transmit ring and the data of its offered descriptors are inside memory. Each of these descriptors
-- has at most 1,518 bytes of data. TDH is the index of a slot, or no slot is offered.
pub record CanReadSending (world : World) : Type 0 where
  -- The transmit ring is in memory.
  pub ring : LiesWhole world.memory (transmit_ring world)
  -- TDH is the index of a slot of the ring, or no slot is offered.
  pub slot : ((transmit_ring world).head < count_of (transmit_ring world)) ⊎ (offered_places (transmit_ring world) ≡ [])
  -- The data of each offered descriptor is in memory, and has at most 1,518 bytes.
  pub queued : All (λ slot. CanBeCopied world.memory (address_of (transmit_ring world) slot)) (offered_places (transmit_ring world))

-- The frames held can be read: the receive ring and the pieces in its finished slots are inside memory. The piece in progress and its
-- descriptor are inside memory, too. No frame in these pieces has more than 1,518 bytes. `oldest` is the index of a slot, or no slot is
-- outstanding.
pub record CanReadHeld (oldest : ℕ) (world : World) : Type 0 where
  -- The receive ring is in memory.
  pub ring : LiesWhole world.memory (receive_ring world)
  -- `oldest` is the index of a slot of the ring, or no slot is outstanding.
  pub slot : (oldest < count_of (receive_ring world)) ⊎ (outstanding (receive_ring world) oldest ≡ [])
  -- The pieces of the finished slots are in memory.
  pub finished : All (NamesMemory world.memory) (finished oldest world)
  -- The descriptor of the piece in progress is in memory.
  pub work : ForSome world.adapter.receiver.work (λ work. LiesIn world.memory work.descriptor 16)
  -- The piece in progress is in memory.
  pub piece : ForSome world.adapter.receiver.work (λ work. LiesIn world.memory (named_address world.memory work.descriptor) work.length)
  -- Each frame that ends in these pieces has at most 1,518 bytes, and at most 1,518 bytes follow the last end of a frame.
  pub short : AreShort [] (pieces_in_slots oldest world)
