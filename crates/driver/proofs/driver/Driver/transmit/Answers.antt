-- Slots are freed, and then the frame is sent if there is room.
use Rattle.std.proofs.Common.{◌≡◌, ◌+◌, ◌∙◌, sym, ap, arith}
use Rattle.adapter.proofs.Keeping.{keeps-here, keeps-on}
use Rattle.dma_memory.specs.Layout.{size_of}
use Rattle.adapter.proofs.DriverAccesses.{ran_by-stays}
use Rattle.adapter.proofs.Calls.{ready-on}
use Rattle.adapter.specs.Calls.{at, held_at}
use Rattle.adapter.specs.DriverState.{DriverState, holding}
use Rattle.driver.specs.SendSteps.{with_transmit_slots}
use Rattle.driver.proofs.SentFrames.{frees-and-sends, was-full}
use Rattle.driver.proofs.FreedSlots.{HasReclaimed, has-reclaimed, has_freed-more, has_freed-none}
use Rattle.driver.proofs.driver.Driver.transmit.Given.{Over}
use Rattle.driver.proofs.driver.Driver.transmit.Goals.{After-tx}
use Rattle.driver.proofs.driver.Driver.transmit.Goals as goal

-- Each iteration except the last frees one slot. After the last iteration, no outstanding slot is written back.

pub loop-init : goal.loop-init
loop-init g c = record {
  keeps = keeps-here g.B.Bus g.met.B.Bus.composes.lent_stays_here c.args.bus.now;
  freed = has_freed-none g.B.Bus g.met.B.Bus.composes.stays (at c.args.bus.now c.args.self.now);
}

pub loop-preserved : goal.loop-preserved
loop-preserved g c =
    let l = c.loop.invariant in
    let turn = c.loop-test.ensures in
    record {
      keeps = keeps-on g.B.Bus g.met.B.Bus.composes.lent_stays_on _ _ _ l.keeps turn.keeps;
      freed = has_freed-more g.B.Bus g.met.B.Bus.composes.joins _ _ _ l.keeps l.freed turn.looks turn.freed;
    }

pub loop-smaller : goal.loop-smaller
loop-smaller g c =
    let frees = c.loop-test.ensures.freed in
    omega (arith, frees.some, ap (λ (d : DriverState). d.sending) frees.freed)

pub free_oldest-requires : goal.free_oldest-requires
free_oldest-requires g c =
    let i = c.loop.invariant in
    let same = ap (λ (d : DriverState). size_of d.layout) i.freed.freeing.others in
    omega (arith, same, c.requires.memory, i.keeps.extent)

reclaimed : (g : Over) (c : After-tx g)
    → HasReclaimed g.B.Bus (at c.args.bus.now c.args.self.now) (at c.free_oldest.new.bus c.free_oldest.new.self)
reclaimed g c =
    let l = c.loop.invariant in
    let turn = c.loop-test.ensures in
    has-reclaimed g.B.Bus g.met.B.Bus.composes.joins (at c.args.bus.now c.args.self.now) (at c.loop.bus c.loop.self)
    (at c.free_oldest.new.bus c.free_oldest.new.self) l.keeps l.freed
    (keeps-on g.B.Bus g.met.B.Bus.composes.lent_stays_on _ _ _ l.keeps turn.keeps) turn.looks turn.stays

pub returns-then-frame-lt-SHORTEST_SENDABLE-clause-transmits : goal.returns-then-frame-lt-SHORTEST_SENDABLE-clause-transmits
returns-then-frame-lt-SHORTEST_SENDABLE-clause-transmits g c held is = record {
  ran = ran_by-stays g.B.Bus g.met.B.Bus.composes.stays c.args.bus.now (holding held c.args.self.now) is.ready;
  answer = tt;
  frees_first = tt;
}

pub returns-then-frame-gt-LONGEST_SENDABLE-clause-transmits : goal.returns-then-frame-gt-LONGEST_SENDABLE-clause-transmits
returns-then-frame-gt-LONGEST_SENDABLE-clause-transmits g c held is = record {
  ran = ran_by-stays g.B.Bus g.met.B.Bus.composes.stays c.args.bus.now (holding held c.args.self.now) is.ready;
  answer = tt;
  frees_first = tt;
}

pub returns-then-self-tx-clause-transmits : goal.returns-then-self-tx-clause-transmits
returns-then-self-tx-clause-transmits g c held is =
    let r = reclaimed g (goal.at.returns-then-self-tx-clause-transmits g c).After-tx in
    let reclaims = r.reclaims held is in
    let count = ap (λ (state : DriverState). state.layout.tx) r.others in
    let inside = ap (λ (state : DriverState). state.layout.tx) c.self.view_is in
    let sending = ap (λ (state : DriverState). state.sending) c.self.view_is in
    let full : c.free_oldest.new.self.sending + 1 ≡ c.args.self.now.layout.tx =
    omega (arith, c.if-self-tx.true, c.tx.ensures.count, count, inside, sending) in
    record {
      ran = reclaims.ran;
      answer = was-full g.B.Bus _ _ is reclaims
          (ap (holding held) r.others) r.tail full;
      frees_first = reclaims;
    }

pub returns-clause-transmits : goal.returns-clause-transmits
returns-clause-transmits g c held is =
    let r = reclaimed g (goal.at.returns-clause-transmits g c).After-tx in
    let d = c.args.self.now in
    let freed = c.free_oldest.new.self in
    let reclaims = r.reclaims held is in
    let sends = c.send.ensures.sends held (ready-on g.B.Bus _ _ r.keeps is reclaims.ran) in
    frees-and-sends g.B.Bus g.met.B.Bus.composes.joins (held_at held (at c.args.bus.now d)) (held_at held (at c.free_oldest.new.bus freed))
    (held_at held (at c.send.new.bus c.send.new.self)) c.args.frame.now (ap (holding held) r.others)
    r.tail (ap (holding held) c.send.ensures.others) reclaims sends

pub returns-then-self-tx-clause-full : goal.returns-then-self-tx-clause-full
returns-then-self-tx-clause-full g c is =
    let sending = ap (λ (state : DriverState). state.sending) c.self.view_is in
    let tx = ap (λ (state : DriverState). state.layout.tx) c.self.view_is in
    omega (arith, c.if-self-tx.true, c.tx.ensures.count, sending, tx)

pub returns-clause-keeps : goal.returns-clause-keeps
returns-clause-keeps g c =
    let r = reclaimed g (goal.at.returns-clause-keeps g c).After-tx in
    keeps-on g.B.Bus g.met.B.Bus.composes.lent_stays_on c.args.bus.now c.free_oldest.new.bus c.send.new.bus r.keeps
    c.send.ensures.keeps

pub returns-clause-others : goal.returns-clause-others
returns-clause-others g c =
    let r = reclaimed g (goal.at.returns-clause-others g c).After-tx in
    c.send.ensures.others ∙ ap (λ (state : DriverState). with_transmit_slots state c.free_oldest.new.self.oldest_transmit
    (c.free_oldest.new.self.sending + 1)) r.others
    ∙ sym (ap (λ (state : DriverState). with_transmit_slots c.args.self.now state.oldest_transmit state.sending) c.send.ensures.others)

pub send-requires-clause-memory : goal.send-requires-clause-memory
send-requires-clause-memory g c =
    let r = reclaimed g (goal.at.send-requires-clause-memory g c).After-tx in
    omega (
      arith,
      ap (λ (state : DriverState). size_of state.layout) r.others,
      c.requires.memory,
      r.keeps.extent,
    )

pub send-requires-clause-room : goal.send-requires-clause-room
send-requires-clause-room g c =
    omega (
      arith,
      c.if-self-tx.false,
      c.self.invariant.sends.room,
      c.tx.ensures.count,
      ap (λ (state : DriverState). state.sending) c.self.view_is,
      ap (λ (state : DriverState). state.layout.tx) c.self.view_is,
    )

pub returns-then-self-tx-clause-keeps : goal.returns-then-self-tx-clause-keeps
returns-then-self-tx-clause-keeps g c = (reclaimed g (goal.at.returns-then-self-tx-clause-keeps g c).After-tx).keeps

pub returns-then-self-tx-clause-others : goal.returns-then-self-tx-clause-others
returns-then-self-tx-clause-others g c = (reclaimed g (goal.at.returns-then-self-tx-clause-others g c).After-tx).others
