use Rattle.std.specs.Prelude.{◌≢◌}
use Rattle.std.proofs.Common.{◌≡◌, ◌-◌, ◌++◌, ℕ, List, [], Ok, length, take, drop, refl, sym, ap, subst, ◌∙◌, arith}
use Rattle.dma_memory.specs.Layout.{IsAllowed}
use Rattle.dma_memory.specs.Owners.{HasNoSecondOwner, HasOneOwner, copies}
use Rattle.dma_memory.specs.OwnersLaws.{copies-append}
use Rattle.descriptors.specs.RingLaws.{place}
use Rattle.std.proofs.lemmas.Result.{err_from_is_err_and}
use Rattle.circular_buffer.specs.Buffer.{Buffer}
use Rattle.bring_up.specs.ConfiguredAdapters.{setup_of}
use Rattle.bring_up.specs.Device.{IsBeforeAccess}
use Rattle.bring_up.specs.Groups.{AreNamedOnce}
use Rattle.bring_up.specs.declared.init_error.InitError.TheVariants.{Config}
use Rattle.adapter.proofs.Keeping.{keeps-here}
use Rattle.adapter.specs.Beginnings.{new_driver}
use Rattle.adapter.specs.DriverState.{DriverSetup, DriverState}
use Rattle.driver.specs.InsideSetup.{setup_in}
use Rattle.driver.specs.Initialisation.{FindsRing, RefusesInit}
use Rattle.driver.proofs.Initialisation.{passed, refused, why-found}
use Rattle.driver.proofs.driver.Driver.find.Goals as goal

pub returns-in_err-buffers : goal.returns-in_err-buffers
returns-in_err-buffers g c =
    let b0 = c.args.bus.now in
    let told = c.from_residual.ensures.1 in
    let is = (err_from_is_err_and c.from_residual.result told).1 in
    record {
      keeps = keeps-here g.B.Bus g.met.B.Bus.composes.lent_stays_here b0;
      errors = passed (λ error. error ≢ Config) _ told (λ same. absurd (cc same));
      unasked = passed (λ error. IsBeforeAccess error → b0 ≡ b0) _ told (λ before. refl);
      new = rw is tt;
      joined = rw is tt;
      one_owner = rw is tt;
      finds = λ honest. rw is tt;
      refuses = λ honest. refused g.B.Bus b0 _ (g.met.B.Bus.composes.stays b0) told refl tt;
    }

pub returns-in_err-pool : goal.returns-in_err-pool
returns-in_err-pool g c =
    let b0 = c.args.bus.now in
    let told = c.from_residual-in_err-pool.ensures.1 in
    let is = (err_from_is_err_and c.from_residual-in_err-pool.result told).1 in
    record {
      keeps = keeps-here g.B.Bus g.met.B.Bus.composes.lent_stays_here b0;
      errors = passed (λ error. error ≢ Config) _ told (λ same. absurd (cc same));
      unasked = passed (λ error. IsBeforeAccess error → b0 ≡ b0) _ told (λ before. refl);
      new = rw is tt;
      joined = rw is tt;
      one_owner = rw is tt;
      finds = λ honest. rw is tt;
      refuses = λ honest. refused g.B.Bus b0 _ (g.met.B.Bus.composes.stays b0) told refl tt;
    }

pub returns-in_err-address : goal.returns-in_err-address
returns-in_err-address g c =
    let b0 = c.args.bus.now in
    let b1 = c.find_ring.new.bus in
    let told = c.from_residual-in_err-address.ensures.1 in
    let is = (err_from_is_err_and c.from_residual-in_err-address.result told).1 in
    let asked = c.in_err-address.ensures.errors in
    record {
      keeps = c.find_ring.ensures.keeps;
      errors = passed (λ error. error ≢ Config) _ told (λ same. asked (subst IsBeforeAccess (sym same) tt));
      unasked = passed (λ error. IsBeforeAccess error → b1 ≡ b0) _ told (λ before. absurd (asked before));
      new = rw is tt;
      joined = rw is tt;
      one_owner = rw is tt;
      finds = λ honest. rw is tt;
      refuses = λ honest.
          let finds = c.in_err-address.ensures.finds honest in
          passed (RefusesInit g.B.Bus b0 b1) _ told (record {
            past = finds.past;
            reports = finds.reports;
            why = why-found _ _ _ finds.why;
            why_lively = finds.why_lively;
          });
    }

one-owner : (n : ℕ) (free queue : List ℕ) → HasOneOwner n free → queue ≡ [] → HasNoSecondOwner n (free ++ queue)
one-owner n free queue owner empty k = omega (arith, owner k, copies-append k free queue, ap (copies k) empty)

pub invariant_of-result : goal.invariant_of-result
invariant_of-result g c =
    let layout = c.args.layout in
    let queue = c.in_ok-buffers.buffers in
    let pool = c.in_ok-pool.pool in
    let empty : queue.items ≡ [] = ap (λ (b : Buffer ℕ). b.items) c.in_ok-buffers.ensures in
    let allowed = subst IsAllowed (sym c.requires.counts) c.requires.had.counts in
    record {
      receives = record {
        oldest_slot = omega (arith, allowed.rx.least);
        room = omega (arith, ap length empty, allowed.rx.least);
        next_slot = sym (ap (λ (list : List ℕ). place layout.rx 0 (length list)) empty);
        capacity = ap (λ (b : Buffer ℕ). b.capacity) c.in_ok-buffers.ensures ∙ c.from.ensures ∙ c.rx.ensures.count;
        some_staged = omega arith;
        buffers = c.in_ok-pool.ensures.buffers ∙ c.buffers.ensures.count;
        owners = one-owner layout.buffers pool.free queue.items
            (subst (λ (n : ℕ). HasOneOwner n pool.free) c.buffers.ensures.count c.in_ok-pool.ensures.all_in) empty;
      };
      sends = record { oldest_slot = omega (arith, allowed.tx.least); room = omega (arith, allowed.tx.least); next_slot = refl };
      resets = record { allowed = allowed; right = c.of-2.ensures.right };
      sums = λ below. refl;
    }

pub returns-clause-new : goal.returns-clause-new
returns-clause-new g c =
    let config = c.args.config.now in
    let is = c.of-2.ensures.is in
    let setup = is ∙ ap (setup_of config) (sym (ap (λ (kept : DriverSetup). kept.address) is)) in
    let shape : List ℕ → DriverSetup → DriverState = λ queue kept.
    record (new_driver c.args.layout kept c.of.result c.in_ok-pool.pool.free) {
      buffers = take (length queue - 0) queue;
      staged = drop (length queue - 0) queue;
    } in
    ap (λ (queue : Buffer ℕ). shape queue.items (setup_in c.of-2.result)) c.in_ok-buffers.ensures ∙ ap (shape []) setup

pub returns-clause-joined : goal.returns-clause-joined
returns-clause-joined g c =
    subst (λ (groups : List (List ℕ)). AreNamedOnce groups c.of.result) c.as_slice.ensures.value c.of.ensures

pub returns-clause-finds : goal.returns-clause-finds
returns-clause-finds g c honest =
    subst (λ (address : List ℕ). FindsRing g.B.Bus c.args.config.now (Ok address) c.args.bus.now c.find_ring.new.bus)
    (sym (ap (λ (setup : DriverSetup). setup.address) c.of-2.ensures.is)) (c.in_ok-address.ensures.finds honest)
