use Rattle.pcap_trace.proofs.WrittenLaw.{found, no_other}
use Rattle.pcap_trace.proofs.law.written_is_trace.Goals as goal

pub returns-clause-found : goal.returns-clause-found
returns-clause-found c = found

pub returns-clause-no_other : goal.returns-clause-no_other
returns-clause-no_other c = no_other
