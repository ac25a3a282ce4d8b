use Rattle.std.proofs.Common.{ap, refl, sym, subst, ◌∙◌}
use Rattle.dma_memory.specs.Layout.{Counts}
use Rattle.dma_memory.specs.OwnersLaws.{no_second_from_one}
use Rattle.bring_up.specs.Configuration.{IsValidIn}
use Rattle.adapter.specs.DriverState.{owners}
use Rattle.driver.proofs.Initialisation.{refused}
use Rattle.packet_socket.proofs.ConsistentHosts.{new-host, new-ready}
use Rattle.packet_socket.proofs.host.Host.new.Goals as goal

pub returns-in_err-layout-clause-refuses : goal.returns-in_err-layout-clause-refuses
returns-in_err-layout-clause-refuses g c honest =
    refused g.B.Bus c.args.bus.now c.from_residual.result (g.met.B.Bus.composes.stays c.args.bus.now) c.from_residual.ensures.1
    c.in_err-layout.ensures.err tt

pub returns-in_err-sockets-clause-refuses : goal.returns-in_err-sockets-clause-refuses
returns-in_err-sockets-clause-refuses g c honest =
    refused g.B.Bus c.args.bus.now c.from_residual-in_err-sockets.result (g.met.B.Bus.composes.stays c.args.bus.now)
    c.from_residual-in_err-sockets.ensures.1 refl tt

pub invariant_of-result : goal.invariant_of-result
invariant_of-result g c =
    new-host c.in_ok-driver.driver c.in_ok-sockets.sockets c.args.kinds.items c.from.result c.in_ok-sockets.ensures.new
    (c.from.ensures ∙ c.buffers.ensures.count
    ∙ ap (λ (counts : Counts). counts.buffers) (c.in_ok-layout.ensures.counts ∙ sym c.in_ok-driver.ensures.fresh.layout))
    (no_second_from_one c.in_ok-driver.driver.layout.buffers (owners c.in_ok-driver.driver) c.in_ok-driver.ensures.fresh.one_owner)

pub returns-clause-ready : goal.returns-clause-ready
returns-clause-ready g c honest =
    new-ready c.in_ok-driver.driver c.in_ok-sockets.sockets c.args.kinds.items c.from.result
    (g.B.Bus.world c.init.new.bus) c.in_ok-sockets.ensures.new c.in_ok-driver.ensures.fresh.none_out
    (c.in_ok-driver.ensures.initialises honest).started.ready

pub returns-clause-had : goal.returns-clause-had
returns-clause-had g c = subst (IsValidIn c.args.config.now) c.size.ensures (c.in_ok-layout.ensures.ok.0 refl)
