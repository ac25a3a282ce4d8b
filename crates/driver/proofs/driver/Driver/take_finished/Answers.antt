use Rattle.std.proofs.Common.{Bool, true, false, ℕ, List, ◌≡◌, ◌≤◌, ◌+◌, ◌++◌, ◌∷◌, [], length, sum, ap, sym, subst, ◌∙◌, arith}
use Rattle.adapter.proofs.Keeping.{keeps-here, keeps-on}
use Rattle.dma_memory.specs.Layout.{size_of}
use Rattle.adapter.specs.DriverState.{DriverState}
use Rattle.std.specs.Int.{from_bool}
use Rattle.driver.specs.declared.parts.Part.{Part}
use Rattle.driver.specs.HandlerSteps.{run_with, whole_frames}
use Rattle.driver.specs.Parts.{FitIntoBuffers, pieces_of}
use Rattle.driver.proofs.SeenSlots.{fills-fit}
use Rattle.driver.proofs.TakenFrames.{run-left, walks-next, walks-none}
use Rattle.driver.proofs.driver.Driver.take_finished.Goals as goal

pub loop-run-init : goal.loop-run-init
loop-run-init g c = record {
  keeps = keeps-here g.B.Bus g.met.B.Bus.composes.lent_stays_here c.args.bus.now;
  walks = walks-none g.B.Bus g.R.Receiver g.met.B.Bus.composes.stays g.met.R.Receiver.stays
      c.args.bus.now c.args.receiver.now c.args.self.now;
  few = omega arith;
}

-- The parts have the lengths of the run that was found.
pub pass_on-requires-clause-parts : goal.pass_on-requires-clause-parts
pass_on-requires-clause-parts g c =
    let found = c.in-Some.ensures.finds in
    let lengths = c.take_run-parts.ensures.leaves.lengths in
    record {
      lengths = lengths;
      length_is = found.length_is ∙ ap sum (sym lengths);
      size = found.size;
      fits = λ whole. subst FitIntoBuffers (sym lengths) (fills-fit _ (found.full whole));
    }

-- A run was passed on: its frame was shown, and is counted, or the run is bad.

counted : (taken : ℕ) (parts : List Part) (shown : Bool)
    → taken + length (whole_frames (run_with parts shown ∷ [])) ≡ taken + from_bool shown
counted taken parts true = omega arith
counted taken parts false = omega arith

at-most-one : (shown : Bool) → from_bool shown ≤ 1
at-most-one true = omega arith
at-most-one false = omega arith

pub loop-run-preserved : goal.loop-run-preserved
loop-run-preserved g c =
    let l = c.loop-run.invariant in
    let look = c.in-Some.ensures in
    let h = c.pass_on.ensures in
    let same = counted c.loop-run.taken c.take_run-parts.result c.pass_on.result
    ∙ ap (λ (n : ℕ). c.loop-run.taken + n) (sym c.from-taken.ensures) in
    record {
      keeps = keeps-on g.B.Bus g.met.B.Bus.composes.lent_stays_on _ _ _ l.keeps
          (keeps-on g.B.Bus g.met.B.Bus.composes.lent_stays_on _ _ _ look.keeps h.keeps);
      walks = walks-next g.B.Bus g.R.Receiver g.met.B.Bus.composes.stays g.met.B.Bus.composes.joins
          g.met.R.Receiver.joins c.args.bus.now c.loop-run.bus c.look.new.bus c.pass_on.new.bus
          c.args.receiver.now c.loop-run.receiver c.pass_on.new.receiver c.args.self.now c.loop-run.self c.take_run-parts.new.self
          c.pass_on.new.self c.loop-run.taken (c.loop-run.taken + c.from-taken.result) _ c.in-Some.run' c.take_run-parts.result
          c.pass_on.result same l.keeps look.keeps l.walks look.finds look.looks c.take_run-parts.ensures.leaves h.others h.hands
          h.whole h.over;
      few = omega (
        arith,
        l.few,
        look.fits,
        look.finds.least,
        look.finds.inside,
        run-left _ c.in-Some.run' c.take_run-parts.result c.loop-run.self c.take_run-parts.new.self look.finds
            c.take_run-parts.ensures.leaves,
        ap (λ (d : DriverState). length d.buffers) h.others,
        at-most-one c.pass_on.result,
        c.from-taken.ensures,
      );
    }

-- Each frame that was taken had a slot, which is no longer outstanding.
pub overflow_add-taken : goal.overflow_add-taken
overflow_add-taken g c =
    omega (
      arith,
      c.loop-run.invariant.few,
      c.in-Some.ensures.fits,
      c.in-Some.ensures.finds.least,
      c.in-Some.ensures.finds.inside,
      at-most-one c.pass_on.result,
      c.from-taken.ensures,
    )

pub returns-clause-one_owner : goal.returns-clause-one_owner
returns-clause-one_owner g c = c.look.ensures.one_owner

pub returns-clause-takes : goal.returns-clause-takes
returns-clause-takes g c up held is =
    let l = c.loop-run.invariant in
    let before = l.walks.takes up held is in
    let look = c.in_default.ensures.looks up (held ++ pieces_of before.frames.kept)
    (record { honest = l.keeps.honest is.honest; ready = before.ran.goes.flows.ready }) in
    record {
      middle = c.loop-run.bus;
      takes = record { frames = before.frames; oldest = before.oldest; bad = before.bad; ran = before.ran };
      none_left = look.none;
      loads = look.loads;
      loads_are = look.loads_are;
      looks = look.ran;
    }

pub look-requires : goal.look-requires
look-requires g c =
    let slots = c.loop-run.invariant.walks.slots in
    let same = ap (λ (d : DriverState). size_of d.layout) slots.others in
    omega (arith, same, c.requires.memory, c.loop-run.invariant.keeps.extent)

pub returns-clause-keeps : goal.returns-clause-keeps
returns-clause-keeps g c =
    keeps-on g.B.Bus g.met.B.Bus.composes.lent_stays_on c.args.bus.now c.loop-run.bus c.look.new.bus c.loop-run.invariant.keeps
    c.look.ensures.keeps

pub returns-clause-slots : goal.returns-clause-slots
returns-clause-slots g c = c.loop-run.invariant.walks.slots

pub take_run-parts-requires : goal.take_run-parts-requires
take_run-parts-requires g c = record {
  size = c.in-Some.ensures.finds.room;
  few = c.in-Some.ensures.finds.most;
  enough = c.in-Some.ensures.finds.inside;
}

pub pass_on-requires-clause-memory : goal.pass_on-requires-clause-memory
pass_on-requires-clause-memory g c =
    let i = c.loop-run.invariant in
    let same = ap (λ (d : DriverState). size_of d.layout) i.walks.slots.others in
    let left = ap (λ (d : DriverState). size_of d.layout) c.take_run-parts.ensures.leaves.others in
    omega (arith, same, left, c.requires.memory, i.keeps.extent, c.look.ensures.keeps.extent)

pub pass_on-requires-clause-one_owner : goal.pass_on-requires-clause-one_owner
pass_on-requires-clause-one_owner g c = c.take_run-parts.ensures.one_owner

-- The run left the ring.
pub loop-run-smaller : goal.loop-run-smaller
loop-run-smaller g c =
    omega (
      arith,
      run-left _ c.in-Some.run' c.take_run-parts.result c.loop-run.self c.take_run-parts.new.self c.in-Some.ensures.finds
          c.take_run-parts.ensures.leaves,
      ap (λ (d : DriverState). length d.buffers) c.pass_on.ensures.others,
    )
