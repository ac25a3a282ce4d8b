-- The program's exit status for an error of a bench (our choice): that of the plan's or the sink's error, and 4 if memory was refused.
use Rattle.std.specs.Prelude.{ℕ}
use Rattle.network_plan.specs.Statuses.{plan_status}
use Rattle.pcap_trace.specs.Statuses.{write_status}
use Rattle.scenario_bench.specs.declared.bench_error.BenchError.{BenchError}
use Rattle.scenario_bench.specs.declared.bench_error.BenchError.TheVariants as errors

abbrev pub bench_status : BenchError → ℕ
bench_status (errors.Plan error) = plan_status error
bench_status (errors.Run stopped) = 4
bench_status errors.Memory = 4
bench_status (errors.Write error) = write_status error
