use Rattle.std.proofs.Common.{◌≡◌, ◌≤◌, ◌<◌, ◌+◌, ◌^◌, ◌⊎◌, length}
use Rattle.pcap_trace.specs.Devices.{Receives}
use Rattle.pcap_trace.proofs.block.Block.fill_by_reading.Given as goal

abbrev pub invariant-loop-self : goal.invariant-loop-self
invariant-loop-self g l = record {
  countable : g.S.Source.failures l.source ≡ g.S.Source.failures l.initial.source;
  received : Receives l.initial.self l.self (g.S.Source.left l.initial.source) (g.S.Source.left l.source);
  limit : length l.self + g.S.Source.limit l.source ≤ length l.initial.self + g.S.Source.limit l.initial.source;
  counted : ((l.self ≡ l.initial.self) × (l.source ≡ l.initial.source)) ⊎ (g.S.Source.limit l.initial.source < 2 ^ 64);
}

abbrev pub decreases-loop-self : goal.decreases-loop-self
decreases-loop-self g l = g.S.Source.limit l.source
