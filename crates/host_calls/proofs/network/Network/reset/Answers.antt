use Rattle.std.proofs.Common.{◌+◌, ℕ, arith, ap, drop, length, min, ◌∙◌}
use Rattle.dma_memory.specs.Layout.{Counts}
use Rattle.packet_socket.specs.HostState.{HostState}
use Rattle.host_calls.specs.Networks.{connected_at}
use Rattle.host_calls.proofs.HostsOfNetworks.{has-host}
use Rattle.host_calls.proofs.PendingFrames.{held-in_room}
use Rattle.host_calls.proofs.ResetNetworks.{answered, makes-reset}
use Rattle.host_calls.proofs.network.Network.reset.Goals as goal

pub new-noted-requires-clause-fits : goal.new-noted-requires-clause-fits
new-noted-requires-clause-fits g c =
    let rx = c.layout.ensures ∙ ap (λ (host : HostState). host.driver.layout)
    (has-host c.self.view_is c.self.invariant c.requires.there c.index.ensures).is in
    let few = held-in_room c.requires.ready.ready c.requires.adapter in
    omega (
      arith,
      few,
      ap length c.requires.found.holding,
      c.from.ensures,
      c.from-2.ensures,
      c.rx-rx.ensures.count,
      ap (λ (counts : Counts). counts.rx) rx,
    )

pub returns-clause-on_after : goal.returns-clause-on_after
returns-clause-on_after g c =
    let rx = c.layout.ensures ∙ ap (λ (host : HostState). host.driver.layout)
    (has-host c.self.view_is c.self.invariant c.requires.there c.index.ensures).is in
    omega (arith, c.from-3.ensures, c.rx-rx.ensures.count, ap (λ (counts : Counts). counts.rx) rx)

pub returns-clause-resets : goal.returns-clause-resets
returns-clause-resets g c =
    makes-reset c.args.number (c.from.result + c.from-2.result) c.reset_noting-accesses.result (302 + c.from-3.result) c.args.ticks.now
    _ (connected_at c.args.self.now c.args.number) (connected_at c.reset_noting-accesses.new.self c.args.number) c.new-noted.result
    c.reset_noting-accesses.new.noted _ c.into_parts-put.result.1.items
    c.reset_noting-accesses.ensures.runs
    (answered c.args.found
    (has-host c.self.view_is c.self.invariant c.requires.there c.index.ensures) c.requires.ready c.requires.adapter
    c.requires.found (c.rx-rx.ensures.count ∙ ap (λ (counts : Counts). counts.rx) c.layout.ensures)
    (omega (arith, c.from.ensures, c.from-2.ensures)) c.from-3.ensures c.new-noted.ensures.is c.new-noted.ensures.within
    (c.drop_first.ensures
    ∙ ap (λ (count : ℕ). drop (min (length c.args.found.sending.items) count) c.args.found.sending.items) c.into_parts-put.ensures.put)
    c.into_parts-put.ensures.holding)
