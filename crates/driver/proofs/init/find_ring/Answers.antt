use Rattle.std.proofs.Common.{◌≡◌, ◌≤◌, ◌*◌, ℕ, List, length, ap, subst, ◌∙◌, sym, arith}
use Rattle.dma_memory.specs.Layout.{Counts, ReceiveRing}
use Rattle.dma_memory.specs.LayoutLaws.{place-below_size}
use Rattle.adapter.proofs.Keeping.{keeps-on}
use Rattle.adapter.specs.Pasts.{joined}
use Rattle.bring_up.specs.Configuration.{configured_counts, vlans_of}
use Rattle.eeprom.specs.Image.{address_bytes}
use Rattle.bring_up.specs.RestingRings.{HasNewRings, HasReceiveRing, SetsAtRest}
use Rattle.bring_up.specs.RingRegisters.{ring_setup_writes}
use Rattle.bring_up.specs.declared.ring_registers.RingPlace.{RingPlace}
use Rattle.bring_up.specs.FilterSetting.{SetsFilter}
use Rattle.bring_up.proofs.CausesLeft.{filter-causes, joined-causes, receive_ring-causes, sets-causes}
use Rattle.driver.specs.Initialisation.{HasFoundRing}
use Rattle.driver.proofs.Initialisation.{finds-ring}
use Rattle.driver.proofs.init.find_ring.Goals as goal

pub returns-clause-finds : goal.returns-clause-finds
returns-clause-finds g c honest =
    let joins = g.met.B.Bus.composes.joins in
    let b0 = c.args.bus.now in
    let b1 = c.find_device.new.bus in
    let b2 = c.set_filter.new.bus in
    let b3 = c.set_receive_ring.new.bus in
    let finds = c.in_ok-image.ensures.finds honest in
    let h1 = c.in_ok-image.ensures.keeps.honest honest in
    let config = c.args.config.now in
    let filter : SetsFilter g.B.Bus config.groups.items (vlans_of config.vlans) (address_bytes c.in_ok-image.image) b1 b2 =
    rw (← c.as_slice.ensures.value, ← c.named_vlans.ensures, ← c.address-address.ensures) (c.set_filter.ensures.sets h1) in
    let h2 = c.set_filter.ensures.keeps.honest h1 in
    let base : c.place_of.result.base ≡ 0 = ap (λ (ring : RingPlace). ring.base) c.place_of.ensures ∙ c.receive_ring.ensures in
    let slots : c.rx.result ≡ config.rx = c.rx.ensures.count ∙ ap (λ (s : Counts). s.rx) c.requires.counts in
    let bytes : c.place_of.result.bytes ≡ 16 * config.rx =
    ap (λ (ring : RingPlace). ring.bytes) c.place_of.ensures ∙ ap (λ (n : ℕ). 16 * n) slots in
    let Rests : ℕ → ℕ → Type 0 = λ b n.
    SetsAtRest g.B.Bus (ring_setup_writes 0x2800 b n) (HasNewRings config.rx) (HasReceiveRing config.rx) b2 b3 in
    let ring : Rests 0 (16 * config.rx) =
    subst (Rests 0) bytes (subst (λ (b : ℕ). Rests b c.place_of.result.bytes) base
    (c.set_receive_ring.ensures.rests config.rx h2 c.requires.had.counts.rx base bytes)) in
    let room : 16 * config.rx ≤ length (g.B.Bus.world b2).memory =
    omega (
      arith,
      place-below_size (configured_counts config) ReceiveRing tt,
      c.requires.had.room,
      g.met.B.Bus.sized b2 h2,
      c.set_filter.ensures.keeps.extent,
      c.in_ok-image.ensures.keeps.extent,
    ) in
    let one = finds.past in
    let two = filter.sets.past in
    let three = ring.sets.past in
    record {
      past = joined one (joined two three);
      reports = joins b0 b1 b3 one (joined two three) finds.reports (joins b1 b2 b3 two three filter.sets.reports ring.sets.reports);
      found =
          subst (λ (address : List ℕ). HasFoundRing g.B.Bus config address b0 b3) (sym c.address-address.ensures)
          (finds-ring g.B.Bus b0 b1 b2 b3 config (g.B.Bus.extent b0) c.in_ok-image.image c.requires.had room finds.found filter ring);
      no_cause = joined-causes one (joined two three) finds.no_cause
          (joined-causes two three (filter-causes g.B.Bus config.groups.items (vlans_of config.vlans) _ b1 b2 filter)
          (sets-causes g.B.Bus b2 b3 (ring_setup_writes 0x2800 0 (16 * config.rx)) ring.sets (receive_ring-causes 0 (16 * config.rx))));
      why = tt;
      why_lively = λ lively. tt;
    }

pub returns-clause-keeps : goal.returns-clause-keeps
returns-clause-keeps g c =
    let on = keeps-on g.B.Bus g.met.B.Bus.composes.lent_stays_on c.args.bus.now in
    on c.set_filter.new.bus c.set_receive_ring.new.bus
    (on c.find_device.new.bus c.set_filter.new.bus c.find_device.ensures.keeps c.set_filter.ensures.keeps) c.set_receive_ring.ensures.keeps
