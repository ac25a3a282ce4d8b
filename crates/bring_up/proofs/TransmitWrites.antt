-- The transmit ring is set up while the transmit side is off.
use Rattle.std.proofs.Common.{false, ◌≡◌, ◌+◌, ◌*◌, ◌/◌, ◌%◌, ◌^◌, ◌++◌, ◌∷◌, [], ℕ, List, refl, sym, ap, subst, ◌∙◌, arith}
use Rattle.dma_memory.specs.Areas.{IsInside}
use Rattle.dma_memory.specs.Layout.{TransmitRing, area_of}
use Rattle.adapter.specs.HostAreas.{ring_area}
use Rattle.adapter.specs.KnownRing.{KnowsRing}
use Rattle.adapter.specs.Rings.{new_ring, ring_distance, ring_of, ring_written}
use Rattle.adapter.specs.World.{World}
use Rattle.adapter.specs.model_types.register.Register.TheVariants.{Transmit}
use Rattle.adapter.specs.model_types.register.RingRegister.{RingRegister}
use Rattle.adapter.specs.model_types.register.RingRegister.TheVariants.{BaseHigh, BaseLow, Head, Length, Tail}
use Rattle.adapter.specs.model_types.ring.RingRegisters.{RingRegisters}
use Rattle.adapter.specs.RegisterSetting.{with_transmit_ring}
use Rattle.adapter.specs.Pasts.{nothing}
use Rattle.adapter.specs.bus_types.bus.Bus.{Ghosts}
use Rattle.adapter.specs.bus_types.event.Access.{Access}
use Rattle.adapter.specs.bus_types.event.Access.TheVariants.{Writes}
use Rattle.adapter.specs.Calls.{GoesTo, Ran, at, driver_did, driver_in, only}
use Rattle.adapter.specs.DriverState.{DriverState}
use Rattle.adapter.specs.ReadyDrivers.{ReadyWith}
use Rattle.adapter.proofs.DriverAccesses.{ran_by-join, write-sets}
use Rattle.adapter.proofs.Steps.{goes-happens}
use Rattle.adapter.proofs.TransmitRing.{transmit_ring_is_written}
use Rattle.bring_up.specs.DriverSteps.{CanSetTransmitRing, SetsTransmitRing}
use Rattle.bring_up.specs.RingRegisters.{WritesRing, ring_setup_writes}
use Rattle.bring_up.specs.SettingSteps.{WriteActs}
use Rattle.bring_up.proofs.DriverAccesses.{ran_by-begins}
use Rattle.bring_up.proofs.RingWrites.{IsRingPlace, high-written, length-written, low-written, ring-known, ring_at, still-ring}
use Rattle.bring_up.proofs.Steps.{IntervalsJoin, register-written}

-- `Ran` holds for the accesses, with the transmit side off, and the transmit ring has the registers `after` at the end.
record LeavesRing {B : Type 0} (bus : Ghosts B) (accesses : List Access) (old new : B) (d : DriverState)
    (after : RingRegisters) : Type 0 where
  ran : Ran bus false (only accesses) (at old d) (at new d)
  ring : (bus.world new).adapter.transmit_ring ≡ after

-- A ring inside its place in the layout, with head and tail at the driver's oldest transmit slot.
record IsIdleRing (d : DriverState) (ring : RingRegisters) : Type 0 where
  idle : ring.head ≡ ring.tail
  last : ring.tail ≡ d.oldest_transmit
  inside : IsInside (ring_area (ring_of ring)) (area_of d.layout TransmitRing)

-- A write of one register of the transmit ring changes its registers from `before` to `after`, and the driver remains ready.
transmit-write : {B : Type 0} (bus : Ghosts B) (old new : B) (part : RingRegister) (word : ℕ) (d : DriverState)
    (before after : RingRegisters) → ring_written part word before ≡ after → IsIdleRing d after
    → WriteActs bus old new (0x3800 + ring_distance part) word
    → ReadyWith false d (bus.world old) → (bus.world old).adapter.transmit_ring ≡ before
    → LeavesRing bus (Writes (0x3800 + ring_distance part) word ∷ []) old new d after
transmit-write bus old new part word d before after written fits acts ready known =
    let middle = acts.middle in
    let there = (goes-happens d (bus.world old) middle acts.past ready acts.before).flows.ready in
    let same : middle.adapter.transmit_ring ≡ before =
    still-ring (bus.world old).adapter.transmit_ring middle.adapter.transmit_ring acts.before.steady.transmit_ring.others
    ready.transmit.idle there.transmit.idle ∙ known in
    let done : bus.world new ≡ with_transmit_ring after middle =
    acts.effect_is ∙ register-written (Transmit part) tt word middle
    ∙ ap (λ (ring : RingRegisters). with_transmit_ring (ring_written part word ring) middle) same
    ∙ ap (λ (ring : RingRegisters). with_transmit_ring ring middle) written in
    let goes : GoesTo false (driver_in d middle) (driver_in d (with_transmit_ring after middle)) (driver_did [] []) nothing =
    subst
    (λ (oldest : ℕ). GoesTo false (driver_in d middle)
    (driver_in (record d { oldest_transmit = oldest }) (with_transmit_ring after middle)) (driver_did [] []) nothing)
    fits.last
    (transmit_ring_is_written d after middle there fits.idle fits.inside) in
    record {
      ran =
          ran_by-begins bus old new (Writes (0x3800 + ring_distance part) word) _ d acts
          (write-sets (0x3800 + ring_distance part) word (bus.world new)) ready
          (λ begins. subst (λ (w : World). GoesTo false (driver_in d middle) (driver_in d w) (driver_did [] []) nothing) (sym done) goes);
      ring = ap (λ (w : World). w.adapter.transmit_ring) done;
    }

transmit-then : {B : Type 0} (bus : Ghosts B) → IntervalsJoin bus
    → (xs ys : List Access) (a b c : B) (d : DriverState) (between after : RingRegisters) → LeavesRing bus xs a b d between
    → (ReadyWith false d (bus.world b) → (bus.world b).adapter.transmit_ring ≡ between → LeavesRing bus ys b c d after)
    → LeavesRing bus (xs ++ ys) a c d after
transmit-then bus joins xs ys a b c d between after one rest =
    let two = rest one.ran.goes.flows.ready one.ring in
    record { ran = ran_by-join bus joins xs ys a b c d d d [] [] [] [] one.ran two.ran; ring = two.ring }

-- The five writes set up the transmit ring while the transmit side is off.
pub sets-transmit_ring : {B : Type 0} {bus : Ghosts B} {base bytes : ℕ} {d : DriverState} {old new : B} → IntervalsJoin bus
    → CanSetTransmitRing base bytes d (bus.world old) → WritesRing bus 0x3800 base bytes old new → ReadyWith false d (bus.world old)
    → SetsTransmitRing bus (ring_setup_writes 0x3800 base bytes) d old new
sets-transmit_ring {B} {bus} {base} {bytes} {d} {old} {new} joins can w ready =
    let first = can.begins in
    let long = can.long in
    let rx = can.receive_size in
    let place : IsRingPlace base d.layout.tx = record
    { sixteens = omega (arith, first); below = omega (arith, first, rx.most); size = can.transmit_size } in
    let r0 = ring_at base 0 in
    let r1 = ring_at base bytes in
    let fits0 : IsIdleRing d r0 = record
    { idle = refl; last = sym can.oldest; inside = record { from = omega (arith, first); to = omega (arith, first) } } in
    let fits1 : IsIdleRing d r1 = record
    { idle = refl; last = sym can.oldest; inside = record { from = omega (arith, first); to = omega (arith, first, long) } } in
    let all = transmit-then bus joins _ _ old w.b1 new d r0 r1
    (transmit-write bus old w.b1 BaseLow (base % 2 ^ 32) d new_ring r0 (low-written base d.layout.tx place) fits0 w.base_low ready can.new)
    (λ ready1 ring1. transmit-then bus joins _ _ w.b1 w.b2 new d r0 r1
    (transmit-write bus w.b1 w.b2 BaseHigh (base / 2 ^ 32) d r0 r0 (high-written base d.layout.tx place) fits0 w.base_high ready1 ring1)
    (λ ready2 ring2. transmit-then bus joins _ _ w.b2 w.b3 new d r1 r1
    (transmit-write bus w.b2 w.b3 Length bytes d r0 r1 (length-written base d.layout.tx bytes place long) fits1 w.length ready2 ring2)
    (λ ready3 ring3. transmit-then bus joins _ _ w.b3 w.b4 new d r1 r1
    (transmit-write bus w.b3 w.b4 Head 0 d r1 r1 refl fits1 w.head ready3 ring3)
    (λ ready4 ring4. transmit-write bus w.b4 new Tail 0 d r1 r1 refl fits1 w.tail ready4 ring4)))) in
    record {
      ran = all.ran;
      knows = subst (λ (ring : RingRegisters). KnowsRing (ring_of ring) (16 * d.layout.rx) d.layout.tx 0) (sym all.ring)
          (subst (λ (from : ℕ). KnowsRing (ring_of r1) from d.layout.tx 0) first (ring-known base d.layout.tx bytes place long));
    }
