use Rattle.bus.proofs.Accesses.{ring_writes_leave_interrupts}
use Rattle.bus.proofs.trail_law.quiet_accesses_leave_adapters.Goals as goal

pub returns-clause-rings : goal.returns-clause-rings
returns-clause-rings c = ring_writes_leave_interrupts
