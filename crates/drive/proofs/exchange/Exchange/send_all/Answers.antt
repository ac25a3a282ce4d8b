use Rattle.std.proofs.Common.{[], ◌∙◌, refl}
use Rattle.adapter.proofs.Keeping.{keeps-on}
use Rattle.drive.specs.Exchanging.{accepted_of, moment_of}
use Rattle.drive.proofs.Exchanges.{still-fits}
use Rattle.drive.proofs.SentFrames.{sends-more, sends-start, sends-then}
use Rattle.drive.proofs.exchange.Exchange.send_all.Goals as goal

pub loop-frame-init : goal.loop-frame-init
loop-frame-init g c = record {
  memory = c.requires.memory;
  failures = refl;
  so_far = sends-start g.B.Bus g.met.B.Bus.composes c.args.frames.now c.into_iter-frame-iterator.result
      (moment_of c.args.bus.now c.args.self.now (g.S.Sink.taken c.args.sink.now))
      (c.into_iter-frame-iterator.ensures.into_iter_gives ∙ c.iter-frame-items.ensures);
}

pub send-requires-clause-countable : goal.send-requires-clause-countable
send-requires-clause-countable g c = rw c.loop-frame.invariant.failures c.requires.countable

pub turn_if_asserted-requires : goal.turn_if_asserted-requires
turn_if_asserted-requires g c = record {
  memory = still-fits g.B.Bus _ _ _ c.in_ok-send.ensures.exchanges c.loop-frame.invariant.memory;
  countable = rw (c.in_ok-send.ensures.failures, c.loop-frame.invariant.failures) c.requires.countable;
}

pub loop-frame-preserved : goal.loop-frame-preserved
loop-frame-preserved g c =
    let l = c.loop-frame in
    let frame = c.in-Some.frame.now in
    let one = rw c.if-not-branch.false at c.in_ok-send.ensures.exchanges in
    let two = c.in_ok-turn_if_asserted.ensures in
    record {
      memory = still-fits g.B.Bus [] _ _ two.exchanges (still-fits g.B.Bus (accepted_of frame) _ _ one l.invariant.memory);
      failures = two.failures ∙ c.in_ok-send.ensures.failures ∙ l.invariant.failures;
      so_far = sends-more g.B.Bus g.met.B.Bus.composes c.args.frames.now c.next.new.self frame l.handed.sent l.handed.illegal
          c.count.new.self.sent c.count.new.self.illegal _ _ _ _ (rw c.in-Some.ensures.steps at l.invariant.so_far)
          one two.exchanges c.count.ensures.sent c.count.ensures.illegal;
    }

pub returns-in_err-send-clause-keeps : goal.returns-in_err-send-clause-keeps
returns-in_err-send-clause-keeps g c = keeps-on g.B.Bus g.met.B.Bus.composes.lent_stays_on c.args.bus.now c.loop-frame.bus c.send.new.bus
    c.loop-frame.invariant.so_far.exchanges.keeps c.send.ensures.keeps

pub returns-in_err-turn_if_asserted-clause-keeps : goal.returns-in_err-turn_if_asserted-clause-keeps
returns-in_err-turn_if_asserted-clause-keeps g c =
    let joined = keeps-on g.B.Bus g.met.B.Bus.composes.lent_stays_on in
    joined c.args.bus.now c.send.new.bus c.turn_if_asserted.new.bus
    (joined c.args.bus.now c.loop-frame.bus c.send.new.bus c.loop-frame.invariant.so_far.exchanges.keeps c.send.ensures.keeps)
    c.turn_if_asserted.ensures.keeps

pub returns-in-None : goal.returns-in-None
returns-in-None g c =
    let l = c.loop-frame in
    record {
      keeps = l.invariant.so_far.exchanges.keeps;
      sends = (l.frame-iterator, l.invariant.so_far);
      failures = l.invariant.failures;
    }

pub returns-then-not-branch : goal.returns-then-not-branch
returns-then-not-branch g c =
    let l = c.loop-frame in
    let all = sends-then g.B.Bus g.met.B.Bus.composes c.args.frames.now l.frame-iterator l.handed.sent l.handed.illegal _ _ _
    l.invariant.so_far (rw c.if-not-branch.true at c.in_ok-send.ensures.exchanges) in
    record {
      keeps = all.exchanges.keeps;
      sends = (l.frame-iterator, all);
      failures = c.in_ok-send.ensures.failures ∙ l.invariant.failures;
    }
