use Rattle.std.proofs.Common.{ap, refl}
use Rattle.adapter.specs.Machines.{MachineState}
use Rattle.played_adapter.proofs.Happening.{happened}
use Rattle.played_adapter.proofs.player.PlayedAdapter.arrive.Goals as goal

pub returns : goal.returns
returns g c =
    happened g.O.Observer.heard g.met.O.Observer.composes _ _ _ c.args.self.now _ _ c.report.new.self c.args.observer.now
    c.arrived.new.self c.report.new.observer c.arrive-fate.ensures.occurs
    (ap (λ (machine : MachineState). record c.args.self.now { machine = machine }) c.arrive-fate.ensures.state) c.arrived.ensures refl
    c.report.ensures
