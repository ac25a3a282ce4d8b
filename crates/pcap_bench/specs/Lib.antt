pub mod Passing
pub mod Printing
pub mod Showing
-- The definitions of the crates below, under the name of this crate.
pub use Rattle.pcap_trace.specs as trace_specs
pub use Rattle.receive_lane.specs as lane_specs
pub use Rattle.scenario.specs as scenario_specs
pub use Rattle.scenario_bench.specs as bench_specs
pub use Rattle.command_line.specs as line_specs
