-- The program's exit status for an error of a trace (our choice): 4 if memory was refused, 3 if a source or a sink failed, and 1 if the trace
-- is invalid.
use Rattle.std.specs.Prelude.{ℕ}
use Rattle.pcap_trace.specs.declared.fault.ReadError.{ReadError}
use Rattle.pcap_trace.specs.declared.fault.ReadError.TheVariants as errors
use Rattle.pcap_trace.specs.declared.fault.WriteError.{WriteError}
use Rattle.pcap_trace.specs.declared.fault.WriteError.TheVariants as write_errors

abbrev pub read_status : ReadError → ℕ
read_status errors.Memory = 4
read_status errors.Read = 3
read_status _ = 1

abbrev pub write_status : WriteError → ℕ
write_status write_errors.Write = 3
