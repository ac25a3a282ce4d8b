-- Memory apart from both rings, and from the buffers and the data of outstanding slots (our choice).
use Rattle.std.specs.Prelude.{ℕ, All}
use Rattle.dma_memory.specs.Areas.{AreApart, Area, area_at}
use Rattle.rx_engine.specs.Descriptors.{named_address}
use Rattle.adapter_model.specs.HostAreas.{areas, data_of, IsForeign, ring_area}
use Rattle.adapter_model.specs.Conditions.{FitBuffers, Sound}
use Rattle.bus.specs.Law.{Happens}
use Rattle.bus.specs.Pasts.{Past}
use Rattle.adapter_model.specs.Slots.{outstanding}
use Rattle.adapter_model.specs.World.{receive_ring, transmit_ring, World}

-- An area is apart from both rings, and from the receive buffers of this size and the data that outstanding slots point to.
pub record IsSpare (size oldest_receive oldest_transmit : ℕ) (world : World) (area : Area) : Type 0 where
  pub receive_slots : AreApart (ring_area (receive_ring world)) area
  pub transmit_slots : AreApart (ring_area (transmit_ring world)) area
  pub buffers : All (λ slot. AreApart (area_at (named_address world.memory slot) size) area)
      (outstanding (receive_ring world) oldest_receive)
  pub sources : All (λ slot. AreApart (data_of world.memory slot) area) (outstanding (transmit_ring world) oldest_transmit)

-- Pieces of frames fit into buffers of this size. The area is spare and apart from all areas that the conditions of the law name, and the
-- adapter may not write it.
pub record StaysApart (size oldest_receive oldest_transmit : ℕ) (world : World) (area : Area) : Type 0 where
  pub fit : FitBuffers size oldest_receive world
  pub spare : IsSpare size oldest_receive oldest_transmit world area
  pub apart : All (λ other. AreApart other area) (areas oldest_receive world)
  pub foreign : IsForeign world area

-- If pieces of frames fit into buffers of this size, a spare area remains spare whatever happens between two accesses, and the pieces still
-- fit.
abbrev pub AreasStayApart : Type 0
AreasStayApart =
    (size oldest_receive oldest_transmit : ℕ) (a b : World) (past : Past) (area : Area)
    → Sound oldest_receive oldest_transmit a → FitBuffers size oldest_receive a → IsSpare size oldest_receive oldest_transmit a area
    → Happens a b past
    → StaysApart size oldest_receive oldest_transmit b area
