-- The exit status of the program after a fault (our choice): 4 if memory was refused; 3 if a file or a stream can't be opened, read or written,
-- is too long, or is used twice; 1 for every other fault, such as an input that is refused.
use Rattle.std.specs.Prelude.{◌≡◌, ℕ, List, string_bytes}
use Rattle.adapter_server.specs.Statuses.{serve_status}
use Rattle.drive.specs.Statuses.{drive_status}
use Rattle.pcap_trace.specs.Statuses.{write_status}
use Rattle.program_files.specs.FileErrors.{file_status}
use Rattle.scenario.specs.Statuses.{refusal_status}
use Rattle.scenario_bench.specs.Statuses.{bench_status}
use Rattle.program_jobs.specs.declared.fault.Fault.{Fault}
use Rattle.program_jobs.specs.declared.fault.Fault.TheVariants as faults

abbrev pub fault_status : Fault → ℕ
fault_status (faults.File error) = file_status error
fault_status (faults.Scenario refusal) = refusal_status refusal
fault_status (faults.Word refusal word) = refusal_status refusal
fault_status (faults.Bench error) = bench_status error
fault_status (faults.Write error) = write_status error
fault_status (faults.Serve error) = serve_status error
fault_status (faults.Drive error) = drive_status error
fault_status faults.Image = 1
fault_status (faults.Fewer counts) = 1
fault_status (faults.Unmet deviations) = 1
fault_status (faults.SameFile path) = 3
fault_status faults.Memory = 4

-- the fault of an output at this path that is also another file of the run, or refused memory for the path
abbrev pub IsUsed : List ℕ → Fault → Type 0
IsUsed path (faults.SameFile text) = string_bytes text ≡ path
IsUsed path fault = fault ≡ faults.Memory
