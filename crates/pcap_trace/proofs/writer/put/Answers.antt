use Rattle.pcap_trace.proofs.Put.{put_after}
use Rattle.pcap_trace.proofs.writer.put.Goals as goal

pub returns-clause-put : goal.returns-clause-put
returns-clause-put c = rw c.write_at.ensures (put_after c.args.block.now c.args.bytes.now c.args.end c.requires.room)
