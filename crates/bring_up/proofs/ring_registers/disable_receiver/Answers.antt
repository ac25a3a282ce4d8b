use Rattle.std.proofs.Common.{refl}
use Rattle.bring_up.proofs.DriverResets.{disabled-off, disables}
use Rattle.bring_up.proofs.Steps.{only-write}
use Rattle.bring_up.proofs.ring_registers.disable_receiver.Goals as goal

pub returns-clause-sets : goal.returns-clause-sets
returns-clause-sets g c honest = only-write refl refl (c.write.ensures.acts honest)

pub returns-clause-off : goal.returns-clause-off
returns-clause-off g c honest = disabled-off g.B.Bus c.args.bus.now c.write.new.self (c.write.ensures.acts honest)

pub returns-clause-ran : goal.returns-clause-ran
returns-clause-ran g c up d is = disables g.B.Bus up c.args.bus.now c.write.new.self d (c.write.ensures.acts is.honest) is.ready
