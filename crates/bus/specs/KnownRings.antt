-- What a driver knows of its rings remains true, and a write of a tail changes only the tail (our choice).
use Rattle.std.specs.Prelude.{◌≡◌, ◌<◌, ℕ}
use Rattle.adapter_model.specs.declared.offsets.TheConstants.{RDT, TDT}
use Rattle.descriptors.specs.declared.ring.Ring.{Ring}
use Rattle.adapter_model.specs.KnownRing.{KnowsRing}
use Rattle.adapter_model.specs.World.{World, world_after_write}
use Rattle.bus.specs.Law.{Steady}
use Rattle.bus.specs.Pasts.{Past}

-- Whatever happens between two accesses, what a driver knows of this ring remains true.
abbrev pub KnownRingStays : (World → Ring) → Type 0
KnownRingStays ring =
    (a b : World) (past : Past) (base count tail : ℕ) → Steady a b past → KnowsRing (ring a) base count tail
    → KnowsRing (ring b) base count tail

-- The indices in RDT and TDT have 16 bits, so they are below this number ("13.4.29 Receive Descriptor Tail", "13.4.40 Transmit
-- Descriptor Tail").
abbrev pub index_limit : ℕ
index_limit = 65536

-- A write of an index below this limit to RDT changes only RDT.
abbrev pub ReceiveTailMoves : Type 0
ReceiveTailMoves =
    (index : ℕ) (world : World) → index < index_limit
    → world_after_write RDT index world
    ≡ record world { adapter = record world.adapter { receive_ring = record world.adapter.receive_ring { tail = index } } }

-- A write of an index below this limit to TDT changes only TDT.
abbrev pub TransmitTailMoves : Type 0
TransmitTailMoves =
    (index : ℕ) (world : World) → index < index_limit
    → world_after_write TDT index world
    ≡ record world { adapter = record world.adapter { transmit_ring = record world.adapter.transmit_ring { tail = index } } }
