use Rattle.pcap_trace.specs.declared.header.Endianness.TheVariants.{Little}
use Rattle.pcap_trace.proofs.FileHeaders.{header_fault-in}
use Rattle.pcap_trace.proofs.header.byte_order.Goals as goal

pub returns-in-Err-clause-fault : goal.returns-in-Err-clause-fault
returns-in-Err-clause-fault c = header_fault-in Little c.args.bytes.now c.in-Err.fault
    (λ is. let same = rw is at c.if-ne.ensures in cc) c.in-Err.ensures
