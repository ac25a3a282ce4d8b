use Rattle.std.proofs.Common.{◌∙◌, arith, inl, inr, refl}
use Rattle.pcap_trace.proofs.Uses.{counted-first, received_none, receives_joined, uses_joined, uses_received}
use Rattle.pcap_trace.proofs.block.Block.fill_by_reading.Goals as goal

pub loop-self-init : goal.loop-self-init
loop-self-init g c = record {
  countable = refl;
  received = received_none c.args.self.now (g.S.Source.left c.args.source.now);
  limit = omega arith;
  counted = inl (refl, refl);
}

pub loop-self-preserved : goal.loop-self-preserved
loop-self-preserved g c = record {
  countable = c.in_ok-read_more.ensures.failures ∙ c.loop-self.invariant.countable;
  received = receives_joined c.args.self.now c.loop-self.self c.read_more.new.self (g.S.Source.left c.args.source.now)
      (g.S.Source.left c.loop-self.source) (g.S.Source.left c.read_more.new.source) c.loop-self.invariant.received
      c.in_ok-read_more.ensures.received;
  limit = omega (arith, c.in_ok-read_more.ensures.more, c.in_ok-read_more.ensures.limit);
  counted = inr (counted-first g.S.Source.limit c.loop-self.invariant.counted (omega (arith, c.read_more.ensures.counted)));
}

pub returns-in_err-read_more-clause-used : goal.returns-in_err-read_more-clause-used
returns-in_err-read_more-clause-used g c =
    uses_joined (uses_received c.args.self.now c.loop-self.self (g.S.Source.left c.args.source.now) (g.S.Source.left c.loop-self.source)
    c.loop-self.invariant.received) c.in_err-read_more.ensures.used

pub returns-after-loop-self-clause-used : goal.returns-after-loop-self-clause-used
returns-after-loop-self-clause-used g c =
    uses_received c.args.self.now c.loop-self.self (g.S.Source.left c.args.source.now) (g.S.Source.left c.loop-self.source)
    c.loop-self.invariant.received

pub returns-then-branch-eq0-clause-received : goal.returns-then-branch-eq0-clause-received
returns-then-branch-eq0-clause-received g c =
    receives_joined c.args.self.now c.loop-self.self c.read_more.new.self (g.S.Source.left c.args.source.now)
    (g.S.Source.left c.loop-self.source) (g.S.Source.left c.read_more.new.source) c.loop-self.invariant.received
    c.in_ok-read_more.ensures.received

pub returns-then-branch-eq0-clause-used : goal.returns-then-branch-eq0-clause-used
returns-then-branch-eq0-clause-used g c =
    uses_received c.args.self.now c.read_more.new.self (g.S.Source.left c.args.source.now) (g.S.Source.left c.read_more.new.source)
    (returns-then-branch-eq0-clause-received g c)
