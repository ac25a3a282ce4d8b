use Rattle.std.proofs.Common.{◌≡◌, ◌+◌, ◌*◌, ◌∷◌, [], Bool, false, ℕ, add-one, sym, subst, arith}
use Rattle.adapter.proofs.Keeping.{keeps-here, keeps-on}
use Rattle.adapter.specs.Calls.{Ran, at, only}
use Rattle.adapter.specs.DriverState.{DriverState}
use Rattle.adapter.proofs.DriverAccesses.{ran_by-join, ran_by-stays}
use Rattle.bring_up.specs.ClearedDescriptors.{clears, clears_from}
use Rattle.bring_up.proofs.ClearedDescriptors.{ran_by-clears_sent, ran_by-clears_spare}
use Rattle.bring_up.proofs.descriptors_clearing.clear_descriptors.Goals as goal

pub loop-slot-init : goal.loop-slot-init
loop-slot-init g c = record {
  keeps = keeps-here g.B.Bus g.met.B.Bus.composes.lent_stays_here c.args.bus.now;
  ran = λ d is first below. ran_by-stays g.B.Bus g.met.B.Bus.composes.stays c.args.bus.now d is.ready;
  spare = λ up d slot is oldest past below first. ran_by-stays g.B.Bus g.met.B.Bus.composes.stays c.args.bus.now d is.ready;
}

pub loop-slot-preserved : goal.loop-slot-preserved
loop-slot-preserved g c =
    let here = c.loop-slot in
    let so_far = here.invariant in
    let start = c.args.bus.now in
    let later = c.store.new.self in
    let address : c.args.first + 16 * c.from.result ≡ c.args.first + 16 * here.slot = omega (arith, c.from.ensures) in
    let more : (up : Bool) (d : DriverState) → Ran g.B.Bus up (only (clears_from c.args.first here.slot)) (at start d) (at here.bus d)
    → Ran g.B.Bus up (only (clears (c.args.first + 16 * c.from.result) ∷ [])) (at here.bus d) (at later d)
    → Ran g.B.Bus up (only (clears_from c.args.first (here.slot + 1))) (at start d) (at later d) = λ up d before one.
    subst (λ (n : ℕ). Ran g.B.Bus up (only (clears_from c.args.first n)) (at start d) (at later d)) (sym (add-one here.slot))
    (ran_by-join g.B.Bus g.met.B.Bus.composes.joins (clears_from c.args.first here.slot)
    (clears (c.args.first + 16 * here.slot) ∷ []) start here.bus later d d d [] [] [] [] before
    (subst (λ (place : ℕ). Ran g.B.Bus up (only (clears place ∷ [])) (at here.bus d) (at later d)) address one)) in
    record {
      keeps = keeps-on g.B.Bus g.met.B.Bus.composes.lent_stays_on start here.bus later so_far.keeps c.store.ensures.keeps;
      ran = λ d is first below.
          let before = so_far.ran d is first (omega (arith, below)) in
          more false d before
          (ran_by-clears_sent g.B.Bus here.bus later d here.slot (c.args.first + 16 * c.from.result) (omega (arith, below))
          (omega (arith, address, first)) (c.store.ensures.acts (so_far.keeps.honest is.honest)) before.goes.flows.ready);
      spare = λ up d slot is oldest past below first.
          let before = so_far.spare up d slot is oldest past (omega (arith, below)) first in
          more up d before
          (ran_by-clears_spare g.B.Bus here.bus later d (slot + here.slot) (c.args.first + 16 * c.from.result) oldest
          (omega (arith, past)) (omega (arith, below)) (omega (arith, address, first))
          (c.store.ensures.acts (so_far.keeps.honest is.honest)) before.goes.flows.ready);
    }

pub returns-clause-ran : goal.returns-clause-ran
returns-clause-ran g c d is first below =
    let here = c.loop-slot in
    let all : here.slot ≡ c.args.count = omega (arith, here.auto, c.loop-slot-test.false) in
    subst (λ (n : ℕ). Ran g.B.Bus false (only (clears_from c.args.first n)) (at c.args.bus.now d) (at here.bus d)) all
    (here.invariant.ran d is first (omega (arith, all, below)))

pub returns-clause-spare : goal.returns-clause-spare
returns-clause-spare g c up d slot is oldest past below first =
    let here = c.loop-slot in
    let all : here.slot ≡ c.args.count = omega (arith, here.auto, c.loop-slot-test.false) in
    subst (λ (n : ℕ). Ran g.B.Bus up (only (clears_from c.args.first n)) (at c.args.bus.now d) (at here.bus d)) all
    (here.invariant.spare up d slot is oldest past (omega (arith, all, below)) first)
