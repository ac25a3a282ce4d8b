use Rattle.std.proofs.Common.{List, ℕ, ◌≡◌, ◌≤◌, [], Bool, true, length, ap, refl, sym, subst, ◌∙◌, arith, inr}
use Rattle.std.proofs.lemmas.Result.{err_from_is_err_and}
use Rattle.dma_memory.specs.Layout.{Counts, IsAllowed, size_of}
use Rattle.dma_memory.specs.Owners.{HasOneOwner}
use Rattle.bring_up.specs.Configuration.{IsValidIn, configured_counts}
use Rattle.bring_up.specs.ConfiguredAdapters.{names_vlans, setup_of}
use Rattle.bring_up.specs.Device.{IsBeforeAccess}
use Rattle.bring_up.specs.DriverSteps.{LetsFramesIn}
use Rattle.bring_up.specs.RingRegisters.{receive_writes}
use Rattle.bring_up.proofs.RestingRings.{drivers_begin_at_rest}
use Rattle.adapter.specs.Beginnings.{new_driver}
use Rattle.adapter.specs.DriverState.{DriverSetup, DriverState, owners}
use Rattle.adapter.specs.Calls.{Ran, at, only}
use Rattle.adapter.proofs.Keeping.{keeps-here, keeps-on}
use Rattle.bring_up.specs.Groups.{AreNamedOnce}
use Rattle.driver.specs.Initialisation.{RefusesInit, transmit_accesses}
use Rattle.driver.specs.Resetting.{OffersFree}
use Rattle.driver.proofs.Initialisation.{config-told, initialises, new-still, not-config, passed, refused}
use Rattle.driver.proofs.Initialisation.{stays-quiet, vlans-named}
use Rattle.driver.proofs.FirstSlots.{OffersFirst, offering, offers-first, owners-offered}
use Rattle.driver.proofs.driver.Driver.init.Given.{Over}
use Rattle.driver.proofs.driver.Driver.init.Goals as goal

-- The configuration isn't valid.
pub returns-in_err-layout : goal.returns-in_err-layout
returns-in_err-layout g c =
    let b0 = c.args.bus.now in
    let config = c.args.config.now in
    let told = c.from_residual.ensures.1 in
    let is = (err_from_is_err_and c.from_residual.result told).1 in
    let err = c.in_err-layout.ensures.err in
    record {
      keeps = keeps-here g.B.Bus g.met.B.Bus.composes.lent_stays_here b0;
      config = (
        λ same valid. absurd (cc (c.in_err-layout.ensures.ok.1 (subst (IsValidIn config) (sym c.size.ensures) valid))),
        λ invalid. config-told _ told err,
      );
      unasked = passed (λ error. IsBeforeAccess error → b0 ≡ b0) _ told (λ before. refl);
      fresh = rw is tt;
      initialises = λ honest. rw is tt;
      refuses = λ honest. refused g.B.Bus b0 _ (g.met.B.Bus.composes.stays b0) told err tt;
    }

pub find-requires : goal.find-requires
find-requires g c = record {
  counts = c.in_ok-layout.ensures.counts;
  had = subst (IsValidIn c.args.config.now) c.size.ensures (c.in_ok-layout.ensures.ok.0 refl);
}

-- An allocation failed, or no device was found.
pub returns-in_err-driver : goal.returns-in_err-driver
returns-in_err-driver g c =
    let b0 = c.args.bus.now in
    let b1 = c.find.new.bus in
    let config = c.args.config.now in
    let told = c.from_residual-in_err-driver.ensures.1 in
    let is = (err_from_is_err_and c.from_residual-in_err-driver.result told).1 in
    let had = subst (IsValidIn config) c.size.ensures (c.in_ok-layout.ensures.ok.0 refl) in
    record {
      keeps = c.find.ensures.keeps;
      config = (λ same. absurd (not-config _ told c.in_err-driver.ensures.errors same), λ invalid. absurd (invalid had));
      unasked = passed (λ error. IsBeforeAccess error → b1 ≡ b0) _ told c.in_err-driver.ensures.unasked;
      fresh = rw is tt;
      initialises = λ honest. rw is tt;
      refuses = λ honest. passed (RefusesInit g.B.Bus b0 b1) _ told (c.in_err-driver.ensures.refuses honest);
    }

-- the setup of the configuration, with the address in the EEPROM
abbrev kept : (g : Over) (c : goal.After-enable_interrupts g) → DriverSetup
kept g c = setup_of c.args.config.now c.in_ok-driver.driver.setup.address

made : (g : Over) (c : goal.After-enable_interrupts g)
    → c.in_ok-driver.driver ≡ new_driver (configured_counts c.args.config.now) (kept g c) c.in_ok-driver.driver.groups
    c.in_ok-driver.driver.pool
made g c =
    let d = c.in_ok-driver.driver in
    c.in_ok-driver.ensures.new ∙ ap (λ (layout : Counts). new_driver layout (kept g c) d.groups d.pool) c.in_ok-layout.ensures.counts

owner : (g : Over) (c : goal.After-enable_interrupts g) → HasOneOwner c.args.config.now.buffers c.in_ok-driver.driver.pool
owner g c = subst (λ (layout : Counts). HasOneOwner layout.buffers c.in_ok-driver.driver.pool) c.in_ok-layout.ensures.counts
    c.in_ok-driver.ensures.one_owner

offered : (g : Over) (c : goal.After-enable_interrupts g)
    → OffersFirst g.B.Bus (at c.find.new.bus (new_driver (configured_counts c.args.config.now) (kept g c) c.in_ok-driver.driver.groups
    c.in_ok-driver.driver.pool)) (at c.offer_free.new.bus c.offer_free.new.self)
offered g c =
    let counts = configured_counts c.args.config.now in
    let d = c.in_ok-driver.driver in
    let had = c.in_ok-layout.ensures.ok.0 refl in
    offers-first g.B.Bus c.find.new.bus c.offer_free.new.bus counts (kept g c) d.groups d.pool c.offer_free.new.self (owner g c)
    had.counts.buffers.least
    (subst (λ (s : DriverState). OffersFree g.B.Bus (at c.find.new.bus s) (at c.offer_free.new.bus c.offer_free.new.self)) (made g c)
    c.offer_free.ensures.offers)

pub returns-clause-fresh : goal.returns-clause-fresh
returns-clause-fresh g c =
    let o = offered g c in
    let counts = configured_counts c.args.config.now in
    let found = c.in_ok-driver.driver in
    let d = c.offer_free.new.self in
    record {
      layout = ap (λ (s : DriverState). s.layout) o.others;
      new = o.others
          ∙ ap (λ (numbers : List ℕ). offering counts (kept g c) found.groups [] numbers d.pool)
          (sym (ap (λ (s : DriverState). s.buffers) o.others))
          ∙ ap (λ (groups : List (List ℕ)). offering counts (kept g c) groups [] d.buffers d.pool)
          (sym (ap (λ (s : DriverState). s.groups) o.others))
          ∙ ap (λ (setup : DriverSetup). offering counts setup d.groups [] d.buffers d.pool)
          (sym (ap (λ (s : DriverState). s.setup) o.others));
      setup = let same = ap (λ (s : DriverState). s.setup) o.others in
          same ∙ ap (λ (s : DriverSetup). setup_of c.args.config.now s.address) (sym same);
      joined = subst (AreNamedOnce c.args.config.now.groups.items) (sym (ap (λ (s : DriverState). s.groups) o.others))
          c.in_ok-driver.ensures.joined;
      one_owner = subst (λ (d : DriverState). HasOneOwner d.layout.buffers (owners d)) (sym o.others)
          (owners-offered counts.buffers counts (kept g c) found.groups found.pool o.numbers d.pool (owner g c)
          o.pool);
      none_out = ap (λ (s : DriverState). s.handed_out) o.others;
      refilled = let size = ap (λ (s : DriverState). length s.buffers) o.others in
          let rx = ap (λ (s : DriverState). s.layout.rx) o.others in
          inr (omega (arith, o.count, size, rx));
    }

pub returns-clause-keeps : goal.returns-clause-keeps
returns-clause-keeps g c =
    let on = keeps-on g.B.Bus g.met.B.Bus.composes.lent_stays_on c.args.bus.now in
    let k2 = on c.find.new.bus c.offer_free.new.bus c.find.ensures.keeps c.offer_free.ensures.keeps in
    let k3 = on c.offer_free.new.bus c.enable_receiver.new.bus k2 c.enable_receiver.ensures.keeps in
    let k4 = on c.enable_receiver.new.bus c.set_up_transmitter.new.bus k3 c.set_up_transmitter.ensures.keeps in
    on c.set_up_transmitter.new.bus c.enable_interrupts.new.bus k4 c.enable_interrupts.ensures.keeps

pub returns-clause-initialises : goal.returns-clause-initialises
returns-clause-initialises g c honest =
    let world = g.B.Bus.world in
    let b0 = c.args.bus.now in
    let b1 = c.find.new.bus in
    let b2 = c.offer_free.new.bus in
    let b3 = c.enable_receiver.new.bus in
    let b4 = c.set_up_transmitter.new.bus in
    let config = c.args.config.now in
    let counts = configured_counts config in
    let pool = c.in_ok-driver.driver.pool in
    let groups = c.in_ok-driver.driver.groups in
    let d = c.offer_free.new.self in
    let o = offered g c in
    let size : c.size.result ≡ g.B.Bus.extent b0 = c.size.ensures in
    let had : IsValidIn config (g.B.Bus.extent b0) = subst (IsValidIn config) size (c.in_ok-layout.ensures.ok.0 refl) in
    let finds = c.in_ok-driver.ensures.finds honest in
    let h1 = c.in_ok-driver.ensures.keeps.honest honest in
    let h2 = c.offer_free.ensures.keeps.honest h1 in
    let h3 = c.enable_receiver.ensures.keeps.honest h2 in
    let h4 = c.set_up_transmitter.ensures.keeps.honest h3 in
    let lies : size_of counts ≤ length (world b1).memory = omega
    (arith, had.room, g.met.B.Bus.sized b1 h1, c.in_ok-driver.ensures.keeps.extent) in
    let begins = drivers_begin_at_rest counts (kept g c) groups pool (world b1) had.counts (owner g c) lies finds.found.ring in
    let first = o.ran (record { honest = h1; ready = begins.ready }) in
    let still = stays-quiet counts o.numbers (new_driver counts (kept g c) groups pool) d (world b1) (world b2) first.past
    first.only first.goes first.follows.set first.follows.off begins.quiet finds.found.ring.transmits in
    let tagged : c.is_some.result ≡ names_vlans config.vlans = c.is_some.ensures ∙ vlans-named config.vlans in
    let lets : LetsFramesIn g.B.Bus (receive_writes config.promiscuous (names_vlans config.vlans)) d b2 b3 =
    subst (λ (by_vlan : Bool). LetsFramesIn g.B.Bus (receive_writes config.promiscuous by_vlan) d b2 b3) tagged
    (c.enable_receiver.ensures.ran d (record { honest = h2; ready = first.goes.flows.ready })
    (record { off = still.0.off; none_held = still.0.none_held })) in
    let new = new-still config.promiscuous (names_vlans config.vlans) d (world b2) (world b3) lets.ran.past lets.ran.only
    lets.ran.goes.flows.ready lets.ran.follows.set still.1.0 in
    let same : d.layout ≡ counts = ap (λ (s : DriverState). s.layout) o.others in
    let sends : Ran g.B.Bus true (only (transmit_accesses counts)) (at b3 d) (at b4 d) =
    subst (λ (layout : Counts). Ran g.B.Bus true (only (transmit_accesses layout)) (at b3 d) (at b4 d)) c.in_ok-layout.ensures.counts
    (c.set_up_transmitter.ensures.ran d (record { honest = h3; ready = lets.ran.goes.flows.ready })
    (same ∙ sym c.in_ok-layout.ensures.counts)
    (ap (λ (s : DriverState). s.oldest_transmit) o.others) (ap (λ (s : DriverState). s.sending) o.others) new) in
    initialises g.B.Bus g.met.B.Bus.composes.joins b0 b1 b2 b3 b4 c.enable_interrupts.new.bus config (g.B.Bus.extent b0)
    c.in_ok-driver.driver.setup.address groups pool o.numbers d
    finds.past had finds.reports finds.found finds.no_cause o.count o.others c.in_ok-driver.ensures.joined
    first still.0 still.1.1 lets sends (c.enable_interrupts.ensures.enables d (record { honest = h4; ready = sends.goes.flows.ready }))

pub offer_free-requires : goal.offer_free-requires
offer_free-requires g c =
    let new = c.in_ok-driver.ensures.new in
    let had = subst (IsValidIn c.args.config.now) c.size.ensures (c.in_ok-layout.ensures.ok.0 refl) in
    record {
      memory =
          omega (
            arith,
            had.room,
            ap size_of c.in_ok-layout.ensures.counts,
            ap (λ (d : DriverState). size_of d.layout) new,
            c.find.ensures.keeps.extent,
          );
      first = ap (λ (d : DriverState). d.oldest_receive) new;
      none_out = ap (λ (d : DriverState). d.buffers) new;
      none_staged = ap (λ (d : DriverState). d.staged) new;
    }

pub set_up_transmitter-requires : goal.set_up_transmitter-requires
set_up_transmitter-requires g c =
    let had = subst (IsValidIn c.args.config.now) c.size.ensures (c.in_ok-layout.ensures.ok.0 refl) in
    record {
      allowed = subst IsAllowed (sym c.in_ok-layout.ensures.counts) had.counts;
      memory =
          omega (
            arith,
            had.room,
            ap size_of c.in_ok-layout.ensures.counts,
            c.find.ensures.keeps.extent,
            c.offer_free.ensures.keeps.extent,
            c.enable_receiver.ensures.keeps.extent,
          );
    }

pub returns-clause-config : goal.returns-clause-config
returns-clause-config g c =
    let had = subst (IsValidIn c.args.config.now) c.size.ensures (c.in_ok-layout.ensures.ok.0 refl) in
    (λ is. absurd (cc is), λ invalid. absurd (invalid had))
