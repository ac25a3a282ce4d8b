use Rattle.std.proofs.Common.{⊎_elim, ◌≡◌, ◌++◌, ℕ, List, Result, Err, length-append, sym, ap, subst, ◌∙◌, arith}
use Rattle.std.proofs.lemmas.Bool.{false≢true}
use Rattle.std.proofs.lemmas.Result.{err_from_is_err_and}
use Rattle.eeprom.specs.Image.{HasRightSum}
use Rattle.adapter.specs.Pasts.{joined}
use Rattle.bring_up.specs.Device.{FindsDevice}
use Rattle.bring_up.specs.Link.{NeedsMoreThan}
use Rattle.bring_up.specs.WrittenRegisters.{allocation_writes, enable_link_writes, reset_writes}
use Rattle.bring_up.specs.declared.init_error.InitError.{InitError}
use Rattle.bring_up.specs.declared.init_error.InitError.TheVariants.{EepromTimeout, NoLink, PhyTimeout}
use Rattle.bring_up.proofs.Devices.{IsPrepared, IsRead, device-image, device-link, is-read, is-set, still-ready}
use Rattle.bring_up.proofs.device.find_device.Given.{Over}
use Rattle.bring_up.proofs.device.find_device.Goals.{After-checksum_ok, After-set_link_up}
use Rattle.bring_up.proofs.device.find_device.Goals as goal

pub returns-in_err-image-clause-finds : goal.returns-in_err-image-clause-finds
returns-in_err-image-clause-finds g c honest =
    let start = c.args.bus.now in
    let end = c.read_image.new.bus in
    let resets = c.reset_device.ensures.sets honest in
    let still = c.reset_device.ensures.keeps.honest honest in
    let reads = c.in_err-image.ensures.reads still in
    let told = err_from_is_err_and c.from_residual.result c.from_residual.ensures.1 in
    let is : c.from_residual.result ≡ Err EepromTimeout = told.1 ∙ ap Err (told.2 ∙ c.in_err-image.ensures.only) in
    subst (λ (result : Result (List ℕ) InitError). FindsDevice g.B.Bus c.args.kilobytes result start end) (sym is)
    (record {
      past = joined resets.past reads.asks.past;
      reports = g.met.B.Bus.composes.joins start c.reset_device.new.bus end resets.past reads.asks.past resets.reports reads.asks.reports;
      found = tt;
      no_cause = tt;
      why = omega (arith, reads.in_vain, length-append resets.past.accesses reads.asks.past.accesses);
      why_lively = λ lively. absurd (false≢true (c.in_err-image.ensures.in_time (c.reset_device.ensures.keeps.lively lively) still));
    })

-- The EEPROM was read.
record HasImage (g : Over) (c : After-checksum_ok g) : Type 0 where
  honest : g.B.Bus.honest c.read_image.new.bus
  image_is : c.in_ok-image.image ≡ (g.B.Bus.world c.args.bus.now).adapter.image
  read : IsRead g.B.Bus c.args.bus.now c.read_image.new.bus

has-image : (g : Over) (c : After-checksum_ok g) → g.B.Bus.honest c.args.bus.now → HasImage g c
has-image g c honest =
    let start = c.args.bus.now in
    let middle = c.reset_device.new.bus in
    let resets = c.reset_device.ensures.sets honest in
    let still = c.reset_device.ensures.keeps.honest honest in
    let reads = c.in_ok-image.ensures.reads still in
    record {
      honest = c.in_ok-image.ensures.keeps.honest still;
      image_is = reads.image ∙ device-image (g.B.Bus.world start) (g.B.Bus.world middle) reset_writes resets.settings;
      read = is-read g.B.Bus g.met.B.Bus.composes.joins start middle c.read_image.new.bus resets (c.reset_device.ensures.rests honest)
          reads.asks;
    }

pub returns-then-not-checksum_ok-clause-finds : goal.returns-then-not-checksum_ok-clause-finds
returns-then-not-checksum_ok-clause-finds g c honest =
    let has = has-image g (goal.at.returns-then-not-checksum_ok-clause-finds g c).After-checksum_ok honest in
    record {
      past = has.read.past;
      reports = has.read.reports;
      found = tt;
      no_cause = tt;
      why = λ right. absurd (false≢true (sym c.if-not-checksum_ok.true
          ∙ c.checksum_ok.ensures.1 (subst HasRightSum (sym has.image_is) right)));
      why_lively = λ lively. tt;
    }

-- PBA and CTRL were written.
record IsSetUp (g : Over) (c : After-set_link_up g) : Type 0 where
  honest : g.B.Bus.honest c.set_link_up.new.bus
  lively : g.B.Bus.lively c.args.bus.now → g.B.Bus.lively c.set_link_up.new.bus
  image_is : c.in_ok-image.image ≡ (g.B.Bus.world c.args.bus.now).adapter.image
  prepared : IsPrepared g.B.Bus c.args.bus.now c.set_link_up.new.bus c.args.kilobytes

is-set_up : (g : Over) (c : After-set_link_up g) → g.B.Bus.honest c.args.bus.now → IsSetUp g c
is-set_up g c honest =
    let has = has-image g c.before.before.before.before.before honest in
    let h3 = c.allocate_packet_buffer.ensures.keeps.honest has.honest in
    record {
      honest = c.set_link_up.ensures.keeps.honest h3;
      lively = λ lively. c.set_link_up.ensures.keeps.lively (c.allocate_packet_buffer.ensures.keeps.lively
          (c.in_ok-image.ensures.keeps.lively (c.reset_device.ensures.keeps.lively lively)));
      image_is = has.image_is;
      prepared = is-set g.B.Bus g.met.B.Bus.composes.joins c.args.bus.now c.read_image.new.bus c.allocate_packet_buffer.new.bus
          c.set_link_up.new.bus c.args.kilobytes has.read (c.allocate_packet_buffer.ensures.sets has.honest).sets
          (c.set_link_up.ensures.sets h3).sets;
    }

pub returns-in_err-negotiate-clause-finds : goal.returns-in_err-negotiate-clause-finds
returns-in_err-negotiate-clause-finds g c honest =
    let up = is-set_up g (goal.at.returns-in_err-negotiate-clause-finds g c).After-set_link_up honest in
    let ready = up.prepared in
    let asked = c.in_err-negotiate.ensures.negotiates up.honest in
    let told = err_from_is_err_and c.from_residual-in_err-negotiate.result c.from_residual-in_err-negotiate.ensures.1 in
    let is : c.from_residual-in_err-negotiate.result ≡ Err PhyTimeout = told.1 ∙ ap Err (told.2 ∙ c.in_err-negotiate.ensures.error) in
    subst (λ (result : Result (List ℕ) InitError). FindsDevice g.B.Bus c.args.kilobytes result c.args.bus.now c.negotiate.new.bus) (sym is)
    (record {
      past = joined ready.past asked.asks.past;
      reports = g.met.B.Bus.composes.joins c.args.bus.now c.set_link_up.new.bus c.negotiate.new.bus ready.past asked.asks.past ready.reports
          asked.asks.reports;
      found = tt;
      no_cause = tt;
      why = omega (arith, asked.late, length-append ready.past.accesses asked.asks.past.accesses);
      why_lively = λ lively. absurd (false≢true (asked.in_time (up.lively lively)));
    })

pub returns-in_err-await_link-clause-finds : goal.returns-in_err-await_link-clause-finds
returns-in_err-await_link-clause-finds g c honest =
    let world = g.B.Bus.world in
    let joins = g.met.B.Bus.composes.joins in
    let start = c.args.bus.now in
    let up = is-set_up g (goal.at.returns-in_err-await_link-clause-finds g c).After-set_link_up honest in
    let asked = c.in_ok-negotiate.ensures.negotiates up.honest in
    let still = still-ready g.B.Bus joins start c.set_link_up.new.bus c.negotiate.new.bus c.args.kilobytes up.prepared asked.asks in
    let waits = c.in_err-await_link.ensures.awaits (c.in_ok-negotiate.ensures.keeps.honest up.honest) in
    let told = err_from_is_err_and c.from_residual-in_err-await_link.result c.from_residual-in_err-await_link.ensures.1 in
    let is : c.from_residual-in_err-await_link.result ≡ Err c.in_err-await_link.field-0.0 = told.1 ∙ ap Err told.2 in
    let right = subst HasRightSum up.image_is (c.checksum_ok.ensures.0 c.if-not-checksum_ok.false) in
    let Is : InitError → Type 0 = λ error. FindsDevice g.B.Bus c.args.kilobytes (Err error) start c.await_link.new.bus in
    let past = joined still.past waits.asks.past in
    let happened_so = joins start c.negotiate.new.bus c.await_link.new.bus still.past waits.asks.past still.reports waits.asks.reports in
    let count = length-append still.past.accesses waits.asks.past.accesses in
    let LivesOn : g.B.Bus.lively start → g.B.Bus.lively c.negotiate.new.bus = λ lively.
    c.in_ok-negotiate.ensures.keeps.lively (up.lively lively) in
    subst (λ (result : Result (List ℕ) InitError). FindsDevice g.B.Bus c.args.kilobytes result start c.await_link.new.bus) (sym is)
    (⊎_elim
    (λ (late : c.in_err-await_link.field-0.0 ≡ PhyTimeout). subst Is (sym late) (record {
      past = past;
      reports = happened_so;
      found = tt;
      no_cause = tt;
      why = omega (arith, waits.late, count);
      why_lively = λ lively. absurd (waits.in_time (LivesOn lively) (ap Err late));
    }))
    (λ (none : c.in_err-await_link.field-0.0 ≡ NoLink). subst Is (sym none) (record {
      past = past;
      reports = happened_so;
      found = tt;
      no_cause = tt;
      why = omega (arith, waits.no_link (ap Err none), count);
      why_lively = λ lively. (
        right,
        subst (NeedsMoreThan 2000)
            (device-link (world start) (world c.negotiate.new.bus)
            (reset_writes ++ (allocation_writes c.args.kilobytes ++ enable_link_writes)) still.settings)
            (waits.slow (LivesOn lively) asked.started.0 (ap Err none)),
      );
    }))
    c.in_err-await_link.ensures.errors)

pub returns-clause-finds : goal.returns-clause-finds
returns-clause-finds g c honest =
    let joins = g.met.B.Bus.composes.joins in
    let start = c.args.bus.now in
    let up = is-set_up g (goal.at.returns-clause-finds g c).After-set_link_up honest in
    let asked = c.in_ok-negotiate.ensures.negotiates up.honest in
    let still = still-ready g.B.Bus joins start c.set_link_up.new.bus c.negotiate.new.bus c.args.kilobytes up.prepared asked.asks in
    let waits = c.in_ok-await_link.ensures.awaits (c.in_ok-negotiate.ensures.keeps.honest up.honest) in
    let last = still-ready g.B.Bus joins start c.negotiate.new.bus c.await_link.new.bus c.args.kilobytes still waits.asks in
    record {
      past = last.past;
      reports = last.reports;
      found = record {
        image_is = up.image_is;
        sum_is_right = c.checksum_ok.ensures.0 c.if-not-checksum_ok.false;
        rests = last.rests;
        settings = last.settings;
        up = waits.up;
      };
      no_cause = last.no_cause;
      why = tt;
      why_lively = λ lively. tt;
    }
