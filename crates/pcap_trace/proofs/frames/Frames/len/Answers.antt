use Rattle.std.proofs.Common.{arith}
use Rattle.pcap_trace.proofs.Cuts.{length-cut}
use Rattle.pcap_trace.proofs.frames.Frames.len.Goals as goal

pub returns : goal.returns
returns c = rw (← c.self.view_is, length-cut c.self.inside.lengths.items c.self.inside.bytes.items) (omega arith)
