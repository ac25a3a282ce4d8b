use Rattle.pcap_trace.proofs.Blocks.{slice_range-drop}
use Rattle.pcap_trace.proofs.block.Block.skip.Goals as goal

pub returns-clause-rest : goal.returns-clause-rest
returns-clause-rest c =
    rw (← c.self.view_is) (slice_range-drop c.self.inside.bytes.items c.self.inside.start c.self.inside.end c.args.count)
