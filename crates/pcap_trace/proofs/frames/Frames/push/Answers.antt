use Rattle.pcap_trace.proofs.Cuts.{cut-push}
use Rattle.pcap_trace.proofs.frames.Frames.push.Goals as goal

pub returns-clause-ok : goal.returns-clause-ok
returns-clause-ok c =
    rw (c.push_reserved.ensures.items, c.reserve.ensures.items, c.in_ok-extend_from_slice.ensures.items, ← c.self.view_is)
    (cut-push c.self.inside.lengths.items c.self.inside.bytes.items c.args.frame.now c.self.invariant)
