-- A driver is ready in the state in which it begins.
use Rattle.std.proofs.Common.{Bool, true, false, ◌≡◌, ◌≤◌, [], ℕ, List, Option, None, map, sym, ap, subst, arith}
use Rattle.registers.specs.Places.{rctl_en}
use Rattle.registers.specs.Bits.{HasBit}
use Rattle.std.specs.List.{All, take_while}
use Rattle.dma_memory.specs.Layout.{Counts, receive_buffer_bytes}
use Rattle.rx_engine.specs.Descriptors.{named_address}
use Rattle.rx_engine.specs.declared.engine.Work.{Work}
use Rattle.adapter_model.specs.Conditions.{FitBuffers, Sound}
use Rattle.adapter_model.specs.HostAreas.{buffer_size, work_areas}
use Rattle.adapter_model.specs.HostFrames.{named}
use Rattle.adapter_model.specs.Slots.{finished, is_done, outstanding}
use Rattle.adapter_model.specs.World.{World, receive_ring}
use Rattle.bus.proofs.IdleRings.{idle_rings_are_sound, outstanding-none}
use Rattle.bus.proofs.Lists.{all-none}
use Rattle.bus.proofs.EndedFrames.{none-cut}
use Rattle.bus.specs.Beginnings.{DriversBegin}
use Rattle.bus.specs.ReadyDrivers.{TransmitIs, transmit_side}

tail-known : (up : Bool) (counts : Counts) (world : World)
    → TransmitIs up counts 0 0 (transmit_side world)
    → world.adapter.transmit_ring.tail ≡ 0
tail-known true counts world known = known.knows.last
tail-known false counts world off = off.last

begun-fits : (size : ℕ) (world : World) → (HasBit world.adapter.filter.rctl rctl_en → buffer_size world ≡ size)
    → finished 0 world ≡ [] → world.adapter.receiver.work ≡ None → FitBuffers size 0 world
begun-fits size world sized none idle = record {
  large = λ enabled. omega (arith, sized enabled);
  finished_fit = subst (λ (slots : List ℕ). All (λ slot. (named world.memory slot).size ≤ size) slots) (sym none) (all-none _);
  work_fits = subst (λ (work : Option Work). All (λ area. area.size ≤ size) (work_areas world.memory work)) (sym idle)
      (all-none _);
}

pub drivers_begin : DriversBegin
drivers_begin up counts setup groups pool world begun =
    let first : world.adapter.receive_ring.tail ≡ 0 = begun.receive.last in
    let last : world.adapter.transmit_ring.tail ≡ 0 = tail-known up counts world begun.transmit in
    let own : Sound 0 world.adapter.transmit_ring.tail world = subst
    (λ (oldest : ℕ). Sound oldest world.adapter.transmit_ring.tail world) first (idle_rings_are_sound world begun.idle) in
    let clear : outstanding (receive_ring world) 0
    ≡ [] = subst (λ (oldest : ℕ). outstanding (receive_ring world) oldest ≡ []) first (outstanding-none (receive_ring world)) in
    let none : finished 0 world ≡ [] = ap (take_while (is_done world.memory)) clear in
    record {
      driver_is = begun.driver_is;
      law = record {
        sound = subst (λ (oldest : ℕ). Sound 0 oldest world) last own;
        runs = begun.runs;
        fit = begun-fits receive_buffer_bytes world begun.sized none begun.idle.work;
        whole = none-cut receive_buffer_bytes 0 world begun.sized none begun.idle.work;
      };
      lies = begun.lies;
      receive = begun.receive;
      transmit = begun.transmit;
      slots = record {
        names = ap (map (named_address world.memory)) clear;
        stored = tt;
      };
      stand = all-none _;
    }
