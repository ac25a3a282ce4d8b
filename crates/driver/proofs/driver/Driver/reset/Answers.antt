use Rattle.std.proofs.Common.{false, Bool, ◌≡◌, ◌≤◌, ◌*◌, ◌++◌, ◌∷◌, [], ℕ, List, length, refl, sym, ap, subst, ◌∙◌, arith}
use Rattle.registers.specs.Bits.{HasBit}
use Rattle.registers.specs.Laws.{HasBit-zero}
use Rattle.dma_memory.specs.Layout.{Counts, ReceiveRing, size_of}
use Rattle.dma_memory.specs.LayoutLaws.{place-below_size}
use Rattle.dma_memory.specs.Owners.{HaveSameNumbers}
use Rattle.adapter.proofs.Keeping.{keeps-on}
use Rattle.adapter.specs.Settings.{IsOff}
use Rattle.adapter.specs.bus_types.event.Access.TheVariants.{Reads, Writes}
use Rattle.bring_up.specs.Configuration.{IsValidIn, configured_counts, vlans_of}
use Rattle.bring_up.specs.ConfiguredAdapters.{names_vlans, setup_of}
use Rattle.bring_up.specs.FilterSetting.{SetsFilter}
use Rattle.bring_up.specs.declared.config.Config.{Config}
use Rattle.adapter.proofs.Lists.{all-none}
use Rattle.rx_filter.specs.Addresses.{IsGroup}
use Rattle.bring_up.specs.DriverSteps.{LetsFramesIn}
use Rattle.bring_up.specs.RestingRings.{HasNewRings, HasReceiveRing, SetsAtRest}
use Rattle.bring_up.specs.RingRegisters.{receive_writes, ring_setup_writes}
use Rattle.bring_up.specs.declared.ring_registers.RingPlace.{RingPlace}
use Rattle.adapter.proofs.DriverAccesses.{ran_by-join}
use Rattle.adapter.specs.Calls.{IsRefilled, Ran, at, only, missed_added}
use Rattle.adapter.specs.DriverState.{DriverState, holding, owners, with_owners}
use Rattle.adapter.specs.ReadyDrivers.{ReadyWith}
use Rattle.adapter.specs.Resets.{reset_driver}
use Rattle.driver.specs.Resetting.{Resets, free_accesses, stop_accesses}
use Rattle.driver.proofs.Initialisation.{vlans-named}
use Rattle.driver.proofs.ResetOwners.{reset-owners}
use Rattle.driver.proofs.Resetting.{resets-all}
use Rattle.driver.proofs.driver.Driver.reset.Given.{Over}
use Rattle.driver.proofs.driver.Driver.reset.Goals.{After-offer_free}
use Rattle.driver.proofs.driver.Driver.reset.Goals as goal

pub returns-clause-keeps : goal.returns-clause-keeps
returns-clause-keeps g c =
    let b0 = c.args.bus.now in
    let on = keeps-on g.B.Bus g.met.B.Bus.composes.lent_stays_on b0 in
    let k2 = on c.disable_receiver.new.bus c.count_missed.new.bus c.disable_receiver.ensures.keeps c.count_missed.ensures.keeps in
    let k3 = on c.count_missed.new.bus c.reset_device.new.bus k2 c.reset_device.ensures.keeps in
    let k4 = on c.reset_device.new.bus c.allocate_packet_buffer.new.bus k3 c.allocate_packet_buffer.ensures.keeps in
    let k5 = on c.allocate_packet_buffer.new.bus c.set_link_up.new.bus k4 c.set_link_up.ensures.keeps in
    let k6 = on c.set_link_up.new.bus c.set_filter.new.bus k5 c.set_filter.ensures.keeps in
    let k7 = on c.set_filter.new.bus c.set_receive_ring.new.bus k6 c.set_receive_ring.ensures.keeps in
    let k8 = on c.set_receive_ring.new.bus c.offer_free.new.bus k7 c.offer_free.ensures.keeps in
    let k9 = on c.offer_free.new.bus c.enable_receiver.new.bus k8 c.enable_receiver.ensures.keeps in
    let k10 = on c.enable_receiver.new.bus c.set_up_transmitter.new.bus k9 c.set_up_transmitter.ensures.keeps in
    on c.set_up_transmitter.new.bus c.enable_interrupts.new.bus k10 c.enable_interrupts.ensures.keeps

-- The driver after the reset: the count of missed frames, and the owners of buffers, are new.
others : (g : Over) (c : After-offer_free g) → c.offer_free.new.self
    ≡ with_owners (reset_driver c.forget_slots.new.self.pool (missed_added c.count_missed.result c.args.self.now))
    c.offer_free.ensures.offers.numbers [] c.offer_free.new.self.pool []
others g c = c.offer_free.ensures.offers.others ∙ ap
    (λ (d : DriverState). with_owners d c.offer_free.ensures.offers.numbers [] c.offer_free.new.self.pool [])
    (c.forget_slots.ensures.others ∙ ap (reset_driver c.forget_slots.new.self.pool) c.count_missed.ensures.others)

pub returns-clause-layout : goal.returns-clause-layout
returns-clause-layout g c = ap (λ (d : DriverState). d.layout) (others g (goal.at.returns-clause-layout g c).After-offer_free)

pub returns-clause-setup : goal.returns-clause-setup
returns-clause-setup g c = ap (λ (d : DriverState). d.setup) (others g (goal.at.returns-clause-setup g c).After-offer_free)

pub returns-clause-groups : goal.returns-clause-groups
returns-clause-groups g c = ap (λ (d : DriverState). d.groups) (others g (goal.at.returns-clause-groups g c).After-offer_free)

pub returns-clause-owners : goal.returns-clause-owners
returns-clause-owners g c =
    let o = c.offer_free.ensures.offers in
    let d0 = c.args.self.now in
    let d2 = c.count_missed.new.self in
    let d3 = c.forget_slots.new.self in
    let counted = c.count_missed.ensures.others in
    let kept : d3.handed_out ≡ d0.handed_out =
    ap (λ (d : DriverState). d.handed_out) c.forget_slots.ensures.others ∙ ap (λ (d : DriverState). d.handed_out) counted in
    let none : d0.handed_out ≡ [] = sym kept ∙ sym (ap (λ (d : DriverState). d.handed_out) c.self.view_is) in
    let free : HaveSameNumbers (d0.pool ++ (d0.buffers ++ d0.staged)) d3.pool =
    subst (λ (d : DriverState). HaveSameNumbers (d.pool ++ (d.buffers ++ d.staged)) d3.pool) counted c.forget_slots.ensures.pool in
    subst (λ (d : DriverState). HaveSameNumbers (owners d0) (owners d)) (sym o.others)
    (reset-owners d0 d3 d3.pool o.numbers c.offer_free.new.self.pool none free o.pool)

pub returns-clause-resets : goal.returns-clause-resets
returns-clause-resets g c up held is =
    let bus = g.B.Bus in
    let joins = g.met.B.Bus.composes.joins in
    let d0 = c.args.self.now in
    let e0 = holding held d0 in
    let b0 = c.args.bus.now in
    let b1 = c.disable_receiver.new.bus in
    let b2 = c.count_missed.new.bus in
    let b3 = c.reset_device.new.bus in
    let b4 = c.allocate_packet_buffer.new.bus in
    let b5 = c.set_link_up.new.bus in
    let b6 = c.set_filter.new.bus in
    let b7 = c.set_receive_ring.new.bus in
    let b8 = c.offer_free.new.bus in
    let b9 = c.enable_receiver.new.bus in
    let b10 = c.set_up_transmitter.new.bus in
    let b11 = c.enable_interrupts.new.bus in
    let h1 = c.disable_receiver.ensures.keeps.honest is.honest in
    let h2 = c.count_missed.ensures.keeps.honest h1 in
    let h3 = c.reset_device.ensures.keeps.honest h2 in
    let h4 = c.allocate_packet_buffer.ensures.keeps.honest h3 in
    let h5 = c.set_link_up.ensures.keeps.honest h4 in
    let h6 = c.set_filter.ensures.keeps.honest h5 in
    let h7 = c.set_receive_ring.ensures.keeps.honest h6 in
    let h8 = c.offer_free.ensures.keeps.honest h7 in
    let h9 = c.enable_receiver.ensures.keeps.honest h8 in
    let h10 = c.set_up_transmitter.ensures.keeps.honest h9 in
    let s = c.self.inside.setup in
    let own : Counts = c.self.inside.layout in
    let config : Config = record {
      rx = own.rx;
      tx = own.tx;
      buffers = own.buffers;
      rxa = s.rxa;
      promiscuous = s.promiscuous;
      groups = record { items = [] };
      vlans = s.vlans;
    } in
    let address = s.address in
    let counts = configured_counts config in
    let v = c.count_missed.result in
    let d2 = c.count_missed.new.self in
    let d3 = c.forget_slots.new.self in
    let pool = d3.pool in
    let o = c.offer_free.ensures.offers in
    let left = c.offer_free.new.self.pool in
    let e2 = missed_added v e0 in
    let again = reset_driver pool e2 in
    let e8 = with_owners again o.numbers [] left held in
    let counted : d2 ≡ missed_added v d0 = c.count_missed.ensures.others in
    let again_is : d3 ≡ reset_driver pool (missed_added v d0) =
    c.forget_slots.ensures.others ∙ ap (reset_driver pool) counted in
    let again_held : holding held d3 ≡ with_owners again [] [] pool held = ap (holding held) again_is in
    let last_is : holding held c.offer_free.new.self ≡ e8 =
    ap (holding held) o.others ∙ ap (λ (d : DriverState). with_owners d o.numbers [] left held) again_is in
    let layout3 : d3.layout ≡ counts = sym (ap (λ (d : DriverState). d.layout) c.self.view_is) in
    let layout : d0.layout ≡ counts = sym (ap (λ (d : DriverState). d.layout) again_is) ∙ layout3 in
    let setup : d0.setup ≡ setup_of config address =
    sym (ap (λ (d : DriverState). d.setup) again_is) ∙ sym (ap (λ (d : DriverState). d.setup) c.self.view_is) in
    let groups : c.as_slice.result.now ≡ d0.groups =
    c.as_slice.ensures ∙ ap (λ (d : DriverState). d.groups) c.self.view_is ∙ ap (λ (d : DriverState). d.groups) again_is in
    let resets_again = c.self.invariant.resets in
    let had : IsValidIn config (bus.extent b0) = record {
      counts = resets_again.allowed;
      numbers = record { allocation = resets_again.right.allocation; groups = all-none IsGroup; vlans = resets_again.right.vlans };
      room = subst (λ (l : Counts). size_of l ≤ bus.extent b0) layout c.requires.memory;
    } in
    let one = c.disable_receiver.ensures.ran up e0 is in
    let two : Ran bus up (only (Reads 0x4010 v ∷ [])) (at b1 e0) (at b2 e2) =
    subst (λ (d : DriverState). Ran bus up (only (Reads 0x4010 v ∷ [])) (at b1 e0) (at b2 (holding held d))) counted
    (c.count_missed.ensures.ran up held (record { honest = h1; ready = one.goes.flows.ready })) in
    let stop : Ran bus up (only (stop_accesses v)) (at b0 e0) (at b2 e2) =
    ran_by-join bus joins (Writes 0x0100 0 ∷ []) (Reads 0x4010 v ∷ []) b0 b1 b2 e0 e0 e2 [] [] [] [] one two in
    let off : IsOff (bus.world b2) =
    subst (λ (control : ℕ). ¬ (HasBit control 1)) (sym (c.count_missed.ensures.settings h1 ∙ c.disable_receiver.ensures.off is.honest))
    (HasBit-zero 1) in
    let free : HaveSameNumbers (e2.pool ++ (e2.buffers ++ e2.staged)) pool =
    subst (λ (d : DriverState). HaveSameNumbers (d.pool ++ (d.buffers ++ d.staged)) pool) counted c.forget_slots.ensures.pool in
    let resets = c.reset_device.ensures.resets up e2 pool (record { honest = h2; ready = stop.goes.flows.ready }) free in
    let base : c.place_of.result.base ≡ 0 = ap (λ (ring : RingPlace). ring.base) c.place_of.ensures ∙ c.receive_ring.ensures in
    let slots : c.rx.result ≡ config.rx = c.rx.ensures.count in
    let bytes : c.place_of.result.bytes ≡ 16 * config.rx =
    ap (λ (ring : RingPlace). ring.bytes) c.place_of.ensures ∙ ap (λ (n : ℕ). 16 * n) slots in
    let Rests : ℕ → ℕ → Type 0 = λ b n.
    SetsAtRest bus (ring_setup_writes 0x2800 b n) (HasNewRings config.rx) (HasReceiveRing config.rx) b6 b7 in
    let ring : Rests 0 (16 * config.rx) =
    subst (Rests 0) bytes (subst (λ (b : ℕ). Rests b c.place_of.result.bytes) base
    (c.set_receive_ring.ensures.rests config.rx h6 had.counts.rx base bytes)) in
    let room : 16 * config.rx ≤ length (bus.world b3).memory =
    omega (
      arith,
      place-below_size counts ReceiveRing tt,
      had.room,
      g.met.B.Bus.sized b3 h3,
      c.reset_device.ensures.keeps.extent,
      c.count_missed.ensures.keeps.extent,
      c.disable_receiver.ensures.keeps.extent,
    ) in
    let filter : SetsFilter bus d0.groups (vlans_of config.vlans) address b5 b6 =
    subst (λ (named : List ℕ). SetsFilter bus d0.groups named address b5 b6) c.named_vlans-vlans.ensures
    (subst (λ (named : List (List ℕ)). SetsFilter bus named c.named_vlans-vlans.result.now address b5 b6) groups
    (c.set_filter.ensures.sets h5)) in
    let tagged : c.is_some.result ≡ names_vlans s.vlans = c.is_some.ensures ∙ vlans-named s.vlans in
    let final : Resets bus up (at b0 e0) (at b11 e8) =
    resets-all bus joins up b0 b2 b3 b4 b5 b6 b7 b8 b9 b10 b11 config address (bus.extent b0) v e0 pool o.numbers left
    layout setup had room stop off (c.count_missed.ensures.cleared h1) resets (c.reset_device.ensures.sets h2).settings
    (c.allocate_packet_buffer.ensures.sets h3) (c.set_link_up.ensures.sets h4) (c.set_link_up.ensures.link h4)
    filter ring o.pool (subst IsRefilled last_is o.refilled)
    (λ ready.
    subst (λ (s : Counts). Ran bus false (only (free_accesses s o.numbers)) (at b7 again) (at b8 e8)) layout3
    (subst (λ (d : DriverState). Ran bus false (only (free_accesses d3.layout o.numbers)) (at b7 again) (at b8 d)) last_is
    (subst (λ (d : DriverState). Ran bus false (only (free_accesses d3.layout o.numbers)) (at b7 d)
    (at b8 (holding held c.offer_free.new.self))) again_held
    (o.ran held (record { honest = h7; ready = subst (λ (d : DriverState). ReadyWith false d (bus.world b7)) (sym again_held) ready })))))
    (λ ready none off_there.
    subst (λ (by_vlan : Bool). LetsFramesIn bus (receive_writes s.promiscuous by_vlan) e8 b8 b9) tagged
    (c.enable_receiver.ensures.ran e8 (record { honest = h8; ready = ready }) (record { off = off_there; none_held = none })))
    (λ ready new.
    c.set_up_transmitter.ensures.ran e8 (record { honest = h9; ready = ready }) layout refl refl new)
    (λ ready. c.enable_interrupts.ensures.enables e8 (record { honest = h10; ready = ready })) in
    subst (λ (d : DriverState). Resets bus up (at b0 e0) (at b11 d)) (sym last_is) final

pub offer_free-requires : goal.offer_free-requires
offer_free-requires g c =
    let again = c.forget_slots.ensures.others in
    record {
      memory =
          omega (
            arith,
            ap (λ (d : DriverState). size_of d.layout) again,
            ap (λ (d : DriverState). size_of d.layout) c.count_missed.ensures.others,
            c.requires.memory,
            c.disable_receiver.ensures.keeps.extent,
            c.count_missed.ensures.keeps.extent,
            c.reset_device.ensures.keeps.extent,
            c.allocate_packet_buffer.ensures.keeps.extent,
            c.set_link_up.ensures.keeps.extent,
            c.set_filter.ensures.keeps.extent,
            c.set_receive_ring.ensures.keeps.extent,
          );
      first = ap (λ (d : DriverState). d.oldest_receive) again;
      none_out = ap (λ (d : DriverState). d.buffers) again;
      none_staged = ap (λ (d : DriverState). d.staged) again;
    }

pub set_up_transmitter-requires-clause-memory : goal.set_up_transmitter-requires-clause-memory
set_up_transmitter-requires-clause-memory g c =
    omega (
      arith,
      ap (λ (d : DriverState). size_of d.layout) c.self.view_is,
      ap (λ (d : DriverState). size_of d.layout) c.forget_slots.ensures.others,
      ap (λ (d : DriverState). size_of d.layout) c.count_missed.ensures.others,
      c.requires.memory,
      c.disable_receiver.ensures.keeps.extent,
      c.count_missed.ensures.keeps.extent,
      c.reset_device.ensures.keeps.extent,
      c.allocate_packet_buffer.ensures.keeps.extent,
      c.set_link_up.ensures.keeps.extent,
      c.set_filter.ensures.keeps.extent,
      c.set_receive_ring.ensures.keeps.extent,
      c.offer_free.ensures.keeps.extent,
      c.enable_receiver.ensures.keeps.extent,
    )
