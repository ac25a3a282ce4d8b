-- The areas of a host's memory that its rings and frames need, and those that its adapter may write (our choice).
use Rattle.std.specs.Prelude.{◌+◌, ◌*◌, ◌++◌, ℕ, Bool, List, [], ◌∷◌, All, Option, None, Some, map, if◌then◌else◌}
use Rattle.dma_memory.specs.Areas.{AreApart, Area}
use Rattle.registers.specs.Bits.{field, is_set}
use Rattle.registers.specs.Places.{rctl_bsize, rctl_en}
use Rattle.registers.specs.ReceiveControl.{buffer_size_of}
use Rattle.descriptors.specs.declared.ring.Ring.{Ring}
use Rattle.descriptors.specs.Ring.{count_of}
use Rattle.rx_engine.specs.declared.engine.Work.{Work}
use Rattle.rx_engine.specs.Descriptors as receive
use Rattle.tx_engine.specs.Fetching as transmit
use Rattle.adapter_model.specs.HostFrames.{named}
use Rattle.adapter_model.specs.Slots.{buffered, finished, slots_in_work, offered}
use Rattle.adapter_model.specs.World.{World, receive_ring, transmit_ring}

-- The area of a ring's descriptors.
abbrev pub ring_area : Ring → Area
ring_area ring = record { address = ring.base; size = 16 * count_of ring }

-- The area of memory that contains the piece in progress, as a list of at most one area.
abbrev pub work_areas : List ℕ → Option Work → List Area
work_areas memory None = []
work_areas memory (Some work) = record { address = receive.named_address memory work.descriptor; size = work.length } ∷ []

-- The size of each receive buffer in bytes, by RCTL.BSIZE while RCTL.BSEX is 0.
abbrev pub buffer_size : World → ℕ
buffer_size world = buffer_size_of (field world.adapter.filter.rctl rctl_bsize 2)

-- The buffer that the receive descriptor at this address points to.
abbrev pub buffer_of : World → ℕ → Area
buffer_of world descriptor = record {
  address = receive.named_address world.memory descriptor;
  size = buffer_size world;
}

-- Whether RCTL.EN is set.
abbrev pub receives : World → Bool
receives world = is_set world.adapter.filter.rctl rctl_en

-- The buffers of the offered slots if RCTL.EN is set, else none.
abbrev pub offered_buffers : World → List Area
offered_buffers world = if receives world then map (buffer_of world) (offered (receive_ring world)) else []

-- The area of the data that the transmit descriptor at this address points to.
abbrev pub data_of : List ℕ → ℕ → Area
data_of memory descriptor = record {
  address = (transmit.transmit_descriptor_at memory descriptor).address;
  size = (transmit.transmit_descriptor_at memory descriptor).length;
}

-- The data of offered transmit slots, the pieces in finished receive slots, the piece in progress, and the buffers of `offered_buffers`.
abbrev pub frame_areas : ℕ → World → List Area
frame_areas oldest world =
    map (data_of world.memory) (offered (transmit_ring world))
    ++ (map (named world.memory) (finished oldest world)
    ++ (work_areas world.memory world.adapter.receiver.work
    ++ offered_buffers world))

-- The areas of both rings, then those of `frame_areas`.
abbrev pub areas : ℕ → World → List Area
areas oldest world = ring_area (receive_ring world) ∷ ring_area (transmit_ring world) ∷ frame_areas oldest world

-- The area of bytes 8 to 15 of the receive descriptor at this address.
abbrev pub reported_half : ℕ → Area
reported_half descriptor = record { address = descriptor + 8; size = 8 }

-- The area of byte 12 of the transmit descriptor at this address.
abbrev pub status_byte : ℕ → Area
status_byte descriptor = record { address = descriptor + 12; size = 1 }

-- The areas that the adapter may write:
-- - bytes 8 to 15 of each receive descriptor that is in progress or offered;
-- - byte 12 of each transmit descriptor that is offered or whose frame is in the packet buffer;
-- - if RCTL.EN is set, the buffers of offered receive slots.
abbrev pub writable : World → List Area
writable world =
    map reported_half (slots_in_work world ++ offered (receive_ring world))
    ++ (map status_byte (buffered world ++ offered (transmit_ring world))
    ++ offered_buffers world)

-- The area is apart from all areas that the adapter may write.
abbrev pub IsForeign : World → Area → Type 0
IsForeign world area = All (AreApart area) (writable world)
