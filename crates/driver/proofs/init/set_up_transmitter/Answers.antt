use Rattle.std.proofs.Common.{◌≡◌, ◌≤◌, ◌*◌, ℕ, false, ap, sym, subst, ◌∙◌, arith}
use Rattle.bring_up.specs.ClearedDescriptors.{clears_from}
use Rattle.bring_up.specs.DriverSteps.{SetsTransmitRing}
use Rattle.bring_up.specs.RingRegisters.{ring_setup_writes}
use Rattle.bring_up.specs.declared.ring_registers.RingPlace.{RingPlace}
use Rattle.dma_memory.specs.Layout.{Counts, IsAllowed, TransmitRing}
use Rattle.dma_memory.specs.LayoutLaws.{place-below_size}
use Rattle.adapter.proofs.Keeping.{keeps-on}
use Rattle.adapter.specs.Calls.{Ran, at, only}
use Rattle.driver.proofs.Initialisation.{sets-transmitter}
use Rattle.driver.proofs.init.set_up_transmitter.Goals as goal

pub returns-clause-ran : goal.returns-clause-ran
returns-clause-ran g c d is counts oldest none new =
    let b0 = c.args.bus.now in
    let b1 = c.clear_descriptors.new.bus in
    let b2 = c.set_transmit_ring.new.bus in
    let layout = c.args.layout in
    let h1 = c.clear_descriptors.ensures.keeps.honest is.honest in
    let allowed : IsAllowed d.layout = subst IsAllowed (sym counts) c.requires.allowed in
    let start : c.transmit_ring-ring.result ≡ 16 * layout.rx = c.transmit_ring-ring.ensures in
    let most : c.tx-slots.result ≤ d.layout.tx = omega (arith, c.tx-slots.ensures.count, ap (λ (s : Counts). s.tx) counts) in
    let Clears : ℕ → ℕ → Type 0 = λ first count. Ran g.B.Bus false (only (clears_from first count)) (at b0 d) (at b1 d) in
    let cleared : Clears (16 * layout.rx) layout.tx =
    subst (λ (first : ℕ). Clears first layout.tx) start
    (subst (Clears c.transmit_ring-ring.result) c.tx-slots.ensures.count
    (c.clear_descriptors.ensures.ran d is (start ∙ omega (arith, ap (λ (s : Counts). 16 * s.rx) counts)) most)) in
    let place : c.place_of.result ≡ record { base = 16 * layout.rx; bytes = 16 * layout.tx } =
    c.place_of.ensures ∙ ap (λ (base : ℕ). let place : RingPlace = record { base = base; bytes = 16 * c.tx-slots.result } in place) start
    ∙ ap (λ (slots : ℕ). let place : RingPlace = record { base = 16 * layout.rx; bytes = 16 * slots } in place) c.tx-slots.ensures.count in
    sets-transmitter g.B.Bus g.met.B.Bus.composes.joins b0 b1 b2 c.enable_transmitter.new.bus
    d layout counts oldest none (omega (arith, c.requires.allowed.tx.least)) new cleared
    (λ there still.
    subst (λ (ring : RingPlace). SetsTransmitRing g.B.Bus (ring_setup_writes 0x3800 ring.base ring.bytes) d b1 b2) place
    (c.set_transmit_ring.ensures.ran d (record { honest = h1; ready = there }) (record {
      oldest = oldest;
      new = still;
      receive_size = allowed.rx;
      transmit_size = allowed.tx;
      begins = ap (λ (ring : RingPlace). ring.base) place ∙ ap (λ (s : Counts). 16 * s.rx) (sym counts);
      long = ap (λ (ring : RingPlace). ring.bytes) place ∙ ap (λ (s : Counts). 16 * s.tx) (sym counts);
    })))
    (λ there below knows.
    c.enable_transmitter.ensures.ran d (record { honest = c.set_transmit_ring.ensures.keeps.honest h1; ready = there })
    (record { oldest = below; knows = knows }))

pub clear_descriptors-requires-clause-memory : goal.clear_descriptors-requires-clause-memory
clear_descriptors-requires-clause-memory g c =
    omega (
      arith,
      c.transmit_ring-ring.ensures,
      c.tx-slots.ensures.count,
      place-below_size c.args.layout TransmitRing tt,
      c.requires.memory,
    )

pub returns-clause-keeps : goal.returns-clause-keeps
returns-clause-keeps g c =
    let on = keeps-on g.B.Bus g.met.B.Bus.composes.lent_stays_on c.args.bus.now in
    on c.set_transmit_ring.new.bus c.enable_transmitter.new.bus
    (on c.clear_descriptors.new.bus c.set_transmit_ring.new.bus c.clear_descriptors.ensures.keeps c.set_transmit_ring.ensures.keeps)
    c.enable_transmitter.ensures.keeps
