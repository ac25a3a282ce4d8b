-- Registers, causes and counters after a step or an arrival.
use Rattle.std.proofs.Common.{◌⊎◌, [], ◌≡◌, ℕ, List, length, inl, refl, sym, subst, arith}
use Rattle.std.specs.List.{All}
use Rattle.registers.specs.Bits.{HasBit, union}
use Rattle.registers.specs.Laws.{HasBit-union}
use Rattle.descriptors.specs.Frames.{IsLegal}
use Rattle.descriptors.specs.Ring.{HasValidIndices}
use Rattle.adapter_model.specs.Rings.{ring_of}
use Rattle.adapter_model.specs.World.{World}
use Rattle.bus.specs.Law.{CountsArrivals, MovesByTicks, Steady}
use Rattle.bus.specs.Pasts.{Past}
use Rattle.bus.proofs.Lists.{all-none}

pub added : (recorded causes place : ℕ) → HasBit recorded place → HasBit (union recorded causes) place
added recorded causes place set = (HasBit-union recorded causes place).1 (inl set)

-- The world b, with the registers of the world a that only a driver's accesses change.
abbrev pub moved : World → World → World
moved a b = record b {
  adapter = record b.adapter {
    causes = record b.adapter.causes { mask = a.adapter.causes.mask };
    filter = a.adapter.filter;
    device_control = a.adapter.device_control;
    transmit_control = a.adapter.transmit_control;
    receive_kilobytes = a.adapter.receive_kilobytes;
    image = a.adapter.image;
    receive_ring = record a.adapter.receive_ring { head = b.adapter.receive_ring.head };
    transmit_ring = record a.adapter.transmit_ring { head = b.adapter.transmit_ring.head };
  };
}

pub no-arrivals : (a b : World) (past : Past) → b.adapter.missed_packets ≡ a.adapter.missed_packets → past.stored ≡ [] → past.missed ≡ 0
    → CountsArrivals a (moved a b) past
no-arrivals a b past same none_stored none_missed = record {
  missed = omega (arith, same, none_missed);
  off = λ off. (none_stored, none_missed);
  legal = subst (λ (frames : List (List ℕ)). All IsLegal frames) (sym none_stored) (all-none IsLegal);
}

pub steady_moves : (a b : World) (past : Past) → length b.memory ≡ length a.memory
    → ((place : ℕ) → HasBit a.adapter.causes.recorded place → HasBit b.adapter.causes.recorded place)
    → (b.adapter.receive_ring.head ≡ a.adapter.receive_ring.head)
    ⊎ HasValidIndices (ring_of (record a.adapter.receive_ring { head = b.adapter.receive_ring.head }))
    → (b.adapter.transmit_ring.head ≡ a.adapter.transmit_ring.head)
    ⊎ HasValidIndices (ring_of (record a.adapter.transmit_ring { head = b.adapter.transmit_ring.head }))
    → CountsArrivals a (moved a b) past → MovesByTicks a (moved a b) past → Steady a (moved a b) past
steady_moves a b past size causes receive_head transmit_head arrivals ticks = record {
  size = size;
  image = refl;
  registers = record {
    mask = refl;
    filter = refl;
    device_control = refl;
    transmit_control = refl;
    allocation = refl;
  };
  causes = causes;
  receive_ring = record { others = refl; head = receive_head };
  transmit_ring = record { others = refl; head = transmit_head };
  arrivals = arrivals;
  ticks = ticks;
}
