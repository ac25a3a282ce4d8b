use Rattle.std.proofs.Common.{◌≡◌, true, false, ◌++◌, length, length-append, ap, refl, subst, ◌∙◌, arith}
use Rattle.adapter.proofs.Keeping.{keeps-on}
use Rattle.dma_memory.specs.Layout.{size_of}
use Rattle.registers.specs.Bits.{Meet}
use Rattle.adapter.proofs.RegisterAccesses.{reads-causes}
use Rattle.adapter.specs.DriverState.{DriverState, holding}
use Rattle.bring_up.specs.WrittenRegisters.{handled_causes}
use Rattle.driver.specs.HandlerSteps.{TakesSlots, run_buffers, scene}
use Rattle.driver.specs.Parts.{pieces_of}
use Rattle.driver.proofs.HandlerSteps.{Follows, handled-timer, handles-it}
use Rattle.driver.proofs.ShownRuns.{served}
use Rattle.driver.proofs.driver.Driver.interrupt.Goals as goal

pub returns-then-not-is_mine-clause-handles : goal.returns-then-not-is_mine-clause-handles
returns-then-not-is_mine-clause-handles g c up held is =
    let reads = reads-causes g.B.Bus c.args.bus.now c.read.new.self
    (holding held c.args.self.now) c.read.result (c.read.ensures.acts is.honest) is.ready in
    let none : ¬ Meet c.read.result handled_causes = λ meet.
    let is : c.is_mine.result ≡ true = c.is_mine.ensures.1 meet in
    let not : c.is_mine.result ≡ false = c.if-not-is_mine.true in
    absurd (cc (is, not)) in
    record {
      asked = record { causes = c.read.result; after_read = c.read.new.self; reads = reads };
      then_does = record {
        none = none;
        still = refl;
        work = reads.work (λ bit. none (handled-timer c.read.result c.read.type_inv bit));
        flows = reads.flows;
      };
    }

pub returns-then-not-is_mine-clause-only_receives : goal.returns-then-not-is_mine-clause-only_receives
returns-then-not-is_mine-clause-only_receives g c = record {
  layout = refl;
  oldest = refl;
  sending = refl;
  setup = refl;
  groups = refl;
}

pub returns-clause-keeps : goal.returns-clause-keeps
returns-clause-keeps g c =
    let on = keeps-on g.B.Bus g.met.B.Bus.composes.lent_stays_on c.args.bus.now in
    let k2 = on c.read.new.self c.count_missed.new.bus c.read.ensures.keeps c.count_missed.ensures.keeps in
    let k3 = on c.count_missed.new.bus c.take_finished-taken.new.bus k2 c.take_finished-taken.ensures.keeps in
    on c.take_finished-taken.new.bus c.refill.new.bus k3 c.refill.ensures.keeps

-- `count_missed`, `take_finished` and `refill` change only the driver's receive side and its counts.
pub returns-clause-only_receives : goal.returns-clause-only_receives
returns-clause-only_receives g c =
    let counted = c.count_missed.ensures.others in
    let taken = c.take_finished-taken.ensures.slots.others in
    let offers = c.refill.ensures.offers.others in
    record {
      layout = ap (λ (d : DriverState). d.layout) offers ∙ ap (λ (d : DriverState). d.layout) taken
          ∙ ap (λ (d : DriverState). d.layout) counted;
      oldest = ap (λ (d : DriverState). d.oldest_transmit) offers ∙ ap (λ (d : DriverState). d.oldest_transmit) taken
          ∙ ap (λ (d : DriverState). d.oldest_transmit) counted;
      sending = ap (λ (d : DriverState). d.sending) offers ∙ ap (λ (d : DriverState). d.sending) taken
          ∙ ap (λ (d : DriverState). d.sending) counted;
      setup = ap (λ (d : DriverState). d.setup) offers ∙ ap (λ (d : DriverState). d.setup) taken
          ∙ ap (λ (d : DriverState). d.setup) counted;
      groups = ap (λ (d : DriverState). d.groups) offers ∙ ap (λ (d : DriverState). d.groups) taken
          ∙ ap (λ (d : DriverState). d.groups) counted;
    }

pub returns-clause-serves : goal.returns-clause-serves
returns-clause-serves g c =
    let between = c.take_finished-taken.new in
    served g.R.Receiver c.take_finished-taken.result c.count_missed.result c.args.receiver.now between.receiver c.args.self.now between.self
    c.refill.new.self
    (subst (λ (d : DriverState). TakesSlots g.R.Receiver c.take_finished-taken.result c.args.receiver.now between.receiver d between.self)
    c.count_missed.ensures.others c.take_finished-taken.ensures.slots)
    c.refill.ensures.offers c.refill.ensures.order c.refill.ensures.owners

pub returns-clause-handles : goal.returns-clause-handles
returns-clause-handles g c up held is =
    let d1 = c.args.self.now in
    let reads = reads-causes g.B.Bus c.args.bus.now c.read.new.self (holding held d1) c.read.result
    (c.read.ensures.acts is.honest) is.ready in
    let asking = c.read.ensures.keeps.honest is.honest in
    let counts = c.count_missed.ensures.ran up held (record { honest = asking; ready = reads.flows.ready }) in
    let counting = c.count_missed.ensures.keeps.honest asking in
    let all = c.take_finished-taken.ensures.takes up held (record { honest = counting; ready = counts.goes.flows.ready }) in
    let refills = c.refill.ensures.refills up (held ++ pieces_of all.takes.frames.kept)
    (record { honest = c.take_finished-taken.ensures.keeps.honest counting; ready = all.looks.goes.flows.ready }) in
    let slots = c.take_finished-taken.ensures.slots in
    let from = scene c.read.new.self d1 c.args.receiver.now in
    let last = scene c.refill.new.bus c.refill.new.self c.take_finished-taken.new.receiver in
    let follows : Follows c.count_missed.result (length (run_buffers slots.runs)) d1 c.count_missed.new.self c.take_finished-taken.new.self
    c.refill.new.self = record {
      counted = c.count_missed.ensures.others;
      taken = slots.others;
      place = slots.next;
      count = omega (arith, ap length slots.oldest, length-append (run_buffers slots.runs) c.take_finished-taken.new.self.buffers);
      refilled = c.refill.ensures.offers.others;
    } in
    record {
      asked = record { causes = c.read.result; after_read = c.read.new.self; reads = reads };
      then_does =
          handles-it g.B.Bus g.R.Receiver g.met.B.Bus.composes.joins c.args.bus.now from
          (scene c.count_missed.new.bus c.count_missed.new.self c.args.receiver.now)
          (scene c.take_finished-taken.new.bus c.take_finished-taken.new.self c.take_finished-taken.new.receiver) last
          c.read.result c.count_missed.result c.take_finished-taken.result _ held follows
          (c.is_mine.ensures.0 c.if-not-is_mine.false) reads counts all refills;
    }

pub take_finished-taken-requires : goal.take_finished-taken-requires
take_finished-taken-requires g c =
    omega (
      arith,
      ap (λ (d : DriverState). size_of d.layout) c.count_missed.ensures.others,
      c.requires.memory,
      c.read.ensures.keeps.extent,
      c.count_missed.ensures.keeps.extent,
    )

pub refill-requires : goal.refill-requires
refill-requires g c =
    omega (
      arith,
      ap (λ (d : DriverState). size_of d.layout) c.count_missed.ensures.others,
      ap (λ (d : DriverState). size_of d.layout) c.take_finished-taken.ensures.slots.others,
      c.requires.memory,
      c.read.ensures.keeps.extent,
      c.count_missed.ensures.keeps.extent,
      c.take_finished-taken.ensures.keeps.extent,
    )
