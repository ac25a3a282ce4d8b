use Rattle.std.proofs.Common.{◌≡◌, Bool, List, length, length-set, refl, replicate, sym, true, ap, ◌<◌, ◌≤◌}
use Rattle.std.proofs.Common.{◌∙◌, arith}
use Rattle.std.specs.Prelude.{IsTrue}
use Rattle.adapter.proofs.Keeping.{keeps-here, keeps-on}
use Rattle.adapter.specs.Calls.{IsReadyOver, at, held_at}
use Rattle.adapter.specs.DriverState.{HandedOut, holding}
use Rattle.adapter.specs.HostFrames.{finished_pieces}
use Rattle.driver.specs.declared.look.Run.{Run}
use Rattle.driver.proofs.SeenSlots.{IsAdded, LoadsNext, NextSeen, fills-added, finds-all_seen, finds-frame, finds-unfinished}
use Rattle.driver.proofs.SeenSlots.{full-added, full-none, is-added, loads-next, never-six, next-shown, sees_slots-more}
use Rattle.driver.proofs.SeenSlots.{sees_slots-none, sum-added}
use Rattle.driver.proofs.driver.Driver.look.Given.{Over}
use Rattle.driver.proofs.driver.Driver.look.Goals.{After-add, After-descriptor_after-descriptor}
use Rattle.driver.proofs.driver.Driver.look.Goals as goal

pub loop-run-init : goal.loop-run-init
loop-run-init g c =
    let run : Run = record { lengths = replicate 6 0; count = 0; length = 0; whole = true } in
    record {
      few = omega arith;
      size = refl;
      outstanding = omega arith;
      short = omega arith;
      sum_is = refl;
      full = λ whole. full-none run refl;
      keeps = keeps-here g.B.Bus g.met.B.Bus.composes.lent_stays_here c.args.bus.now;
      sees = λ up held ready. sees_slots-none g.B.Bus g.met.B.Bus.composes.stays run (holding held c.args.self.now) c.args.bus.now
          refl refl refl ready.ready;
    }

pub descriptor_after-descriptor-requires : goal.descriptor_after-descriptor-requires
descriptor_after-descriptor-requires g c = record {
  memory = omega (arith, c.requires.memory, c.loop-run.invariant.keeps.extent);
  outstanding = omega (arith, c.loop-run-test.true, c.most_slots-most.ensures.count);
}

next : (g : Over) (c : After-descriptor_after-descriptor g) (up : Bool) (held : List HandedOut)
    → IsReadyOver g.B.Bus up (held_at held (at c.args.bus.now c.args.self.now))
    → LoadsNext g.B.Bus c.loop-run.run c.descriptor_after-descriptor.result up (holding held c.args.self.now) c.args.bus.now
    c.descriptor_after-descriptor.new.bus
next g c up held is =
    let i = c.loop-run.invariant in
    let sees = i.sees up held is in
    loads-next g.B.Bus g.met.B.Bus.composes.joins c.loop-run.run c.descriptor_after-descriptor.result (holding held c.args.self.now)
    c.args.bus.now c.loop-run.bus c.descriptor_after-descriptor.new.bus sees
    (c.descriptor_after-descriptor.ensures.looks up held
    (record { honest = i.keeps.honest is.honest; ready = sees.ran.goes.flows.ready }))

-- The next slot isn't finished.
pub returns-then-not-is_done-clause-looks : goal.returns-then-not-is_done-clause-looks
returns-then-not-is_done-clause-looks g c up held is =
    finds-unfinished g.B.Bus c.loop-run.run c.descriptor_after-descriptor.result (holding held c.args.self.now) c.args.bus.now
    c.descriptor_after-descriptor.new.bus (next g c.before.before.before up held is) (sym c.if-not-is_done.ensures)
    (omega (
      arith,
      c.loop-run-test.true,
      c.most_slots-most.ensures.count,
    ))

pub returns-then-not-is_done-clause-keeps : goal.returns-then-not-is_done-clause-keeps
returns-then-not-is_done-clause-keeps g c =
    keeps-on g.B.Bus g.met.B.Bus.composes.lent_stays_on _ _ _ c.loop-run.invariant.keeps c.descriptor_after-descriptor.ensures.keeps

-- The next slot is finished.

abbrev loaded : (g : Over) → After-add g → After-descriptor_after-descriptor g
loaded g c = c.before.before.before.before.before.before

pub add-requires : goal.add-requires
add-requires g c = record {
  room = omega (arith, c.loop-run-test.true, c.most_slots-most.ensures.count);
  short = c.loop-run.invariant.short;
}

below : (g : Over) (c : After-add g) → c.loop-run.run.count < 6
below g c = omega (arith, c.loop-run-test.true, c.most_slots-most.ensures.count)

added : (g : Over) (c : After-add g) → IsAdded c.loop-run.run c.add.new.self c.descriptor_after-descriptor.result
added g c =
    let a = c.add.ensures in
    is-added c.loop-run.run c.add.new.self c.descriptor_after-descriptor.result (below g c) c.loop-run.invariant.size a.lengths
    a.count a.length

shown : (g : Over) (c : After-add g) (up : Bool) (held : List HandedOut)
    → (is : IsReadyOver g.B.Bus up (held_at held (at c.args.bus.now c.args.self.now)))
    → NextSeen (finished_pieces c.args.self.now.oldest_receive (g.B.Bus.world c.descriptor_after-descriptor.new.bus))
    (next g (loaded g c) up held is).sees.seen c.descriptor_after-descriptor.result
shown g c up held is =
    next-shown g.B.Bus c.loop-run.run c.descriptor_after-descriptor.result (holding held c.args.self.now) c.args.bus.now
    c.descriptor_after-descriptor.new.bus (next g (loaded g c) up held is) (sym c.if-not-is_done.ensures)

whole : (g : Over) (c : After-add g) (up : Bool) (held : List HandedOut)
    → IsReadyOver g.B.Bus up (held_at held (at c.args.bus.now c.args.self.now)) → IsTrue c.add.new.self.whole
whole g c up held is = c.add.ensures.whole.1 ((shown g c up held is).sound, (next g (loaded g c) up held is).sees.whole)

-- The run with the next slot, whether or not a frame ends in this slot.
room : (g : Over) (c : After-add g) → length c.add.new.self.lengths ≡ 6
room g c =
    let run = c.loop-run.run in
    ap length c.add.ensures.lengths ∙ length-set run.lengths run.count c.descriptor_after-descriptor.result.length
    ∙ c.loop-run.invariant.size

few : (g : Over) (c : After-add g) → c.add.new.self.count ≤ 6
few g c = omega (arith, c.add.ensures.count, below g c)

inside : (g : Over) (c : After-add g) → c.add.new.self.count ≤ length c.args.self.now.buffers
inside g c =
    omega (
      arith,
      c.add.ensures.count,
      c.loop-run-test.true,
      c.most_slots-most.ensures.count,
    )

-- A frame ends in the next slot. If the run is whole, the buffers of the slots before are full.
pub returns-then-is_ended-clause-finds : goal.returns-then-is_ended-clause-finds
returns-then-is_ended-clause-finds g c =
    let there = c.before.before.before.before.before in
    let i = c.loop-run.invariant in
    let run = c.loop-run.run in
    let desc = c.descriptor_after-descriptor.result in
    record {
      room = room g there;
      least = omega (arith, c.add.ensures.count);
      most = few g there;
      inside = inside g there;
      length_is = sum-added run c.add.new.self desc (added g there) i.sum_is;
      size = λ frame. (c.is_frame.ensures.0 frame).1;
      full = λ frame.
          let both = c.add.ensures.whole.0 (c.is_frame.ensures.0 frame).0 in
          fills-added run c.add.new.self desc (added g there) (sym c.if-is_ended.ensures) both.0 (i.full both.1);
    }

pub returns-then-is_ended-clause-keeps : goal.returns-then-is_ended-clause-keeps
returns-then-is_ended-clause-keeps g c =
    keeps-on g.B.Bus g.met.B.Bus.composes.lent_stays_on _ _ _ c.loop-run.invariant.keeps c.descriptor_after-descriptor.ensures.keeps

pub returns-then-is_ended-clause-looks : goal.returns-then-is_ended-clause-looks
returns-then-is_ended-clause-looks g c up held is =
    let there = c.before.before.before.before.before in
    let run : Run = record c.add.new.self { whole = c.is_frame.result } in
    let a = added g there in
    let same : IsAdded c.loop-run.run run c.descriptor_after-descriptor.result =
    record { lengths = a.lengths; length_is = a.length_is; count = a.count } in
    finds-frame g.B.Bus c.loop-run.run run c.descriptor_after-descriptor.result (holding held c.args.self.now) c.args.bus.now
    c.descriptor_after-descriptor.new.bus (next g (loaded g there) up held is) (shown g there up held is) same (sym c.if-is_ended.ensures)
    (λ legal. c.is_frame.ensures.1 (whole g there up held is, legal))

pub loop-run-smaller : goal.loop-run-smaller
loop-run-smaller g c = omega (arith, c.add.ensures.count, c.loop-run-test.true, c.most_slots-most.ensures.count)

pub loop-run-preserved : goal.loop-run-preserved
loop-run-preserved g c =
    let i = c.loop-run.invariant in
    let a = c.add.ensures in
    let there = c.before.before.before in
    let run = c.loop-run.run in
    let run' = c.add.new.self in
    let desc = c.descriptor_after-descriptor.result in
    record {
      few = few g there;
      size = room g there;
      outstanding = inside g there;
      short = omega (arith, a.count, a.length, i.short);
      sum_is = sum-added run run' desc (added g there) i.sum_is;
      full = λ whole.
          let both = a.whole.0 whole in
          full-added run run' desc (added g there) (sym c.if-is_ended.ensures) both.0 (i.full both.1);
      keeps = keeps-on g.B.Bus g.met.B.Bus.composes.lent_stays_on _ _ _ i.keeps c.descriptor_after-descriptor.ensures.keeps;
      sees = λ up held is. sees_slots-more g.B.Bus run run' desc (holding held c.args.self.now) c.args.bus.now
          c.descriptor_after-descriptor.new.bus (next g (loaded g there) up held is) (shown g there up held is) (added g there)
          (sym c.if-is_ended.ensures) (whole g there up held is);
    }

-- Each outstanding slot was seen.
pub returns-then-run-lt-MOST_PARTS-clause-looks : goal.returns-then-run-lt-MOST_PARTS-clause-looks
returns-then-run-lt-MOST_PARTS-clause-looks g c up held is =
    let i = c.loop-run.invariant in
    finds-all_seen g.B.Bus c.loop-run.run (holding held c.args.self.now) c.args.bus.now c.loop-run.bus (i.sees up held is)
    (omega (arith, c.loop-run-test.false, c.most_slots-most.ensures.count, c.if-run-lt-MOST_PARTS.true, i.outstanding))

-- Six slots without an end were seen.
pub returns-clause-finds : goal.returns-clause-finds
returns-clause-finds g c =
    let i = c.loop-run.invariant in
    record {
      room = i.size;
      least = omega (arith, c.if-run-lt-MOST_PARTS.false);
      most = i.few;
      inside = i.outstanding;
      length_is = i.sum_is;
      size = λ whole. absurd (cc whole);
      full = λ whole. absurd (cc whole);
    }

pub returns-clause-looks : goal.returns-clause-looks
returns-clause-looks g c up held is =
    let i = c.loop-run.invariant in
    absurd (never-six g.B.Bus c.loop-run.run (holding held c.args.self.now) c.args.bus.now c.loop-run.bus (i.sees up held is)
    (omega (arith, c.if-run-lt-MOST_PARTS.false, i.few)))
