use Rattle.std.proofs.Common.{◌+◌, ◌++◌, ℕ, List, arith, ap, length, ◌∙◌}
use Rattle.dma_memory.specs.Layout.{Counts}
use Rattle.adapter.specs.HostFrames.{frames_held, frames_to_send}
use Rattle.stations.specs.Stations.{world_at}
use Rattle.host_calls.proofs.HostsOfNetworks.{has-host}
use Rattle.host_calls.proofs.PendingFrames.{can-read_held, can-read_sending, found-before, found-host, held-within, sending-at_most}
use Rattle.host_calls.proofs.network.Network.before_reset.Goals as goal

pub pending-requires-clause-sending : goal.pending-requires-clause-sending
pending-requires-clause-sending c = can-read_sending
    (found-host (has-host c.self.view_is c.self.invariant c.requires.there c.index-host.ensures)
    c.requires.ready c.requires.adapter).ready.ready

pub pending-requires-clause-holding : goal.pending-requires-clause-holding
pending-requires-clause-holding c = rw c.oldest.ensures (can-read_held
    (found-host (has-host c.self.view_is c.self.invariant c.requires.there c.index-host.ensures)
    c.requires.ready c.requires.adapter).ready.ready)

pub pending-requires-clause-sending_room : goal.pending-requires-clause-sending_room
pending-requires-clause-sending_room c =
    let few = sending-at_most
    (found-host (has-host c.self.view_is c.self.invariant c.requires.there c.index-host.ensures)
    c.requires.ready c.requires.adapter).ready.ready in
    omega (
      arith,
      few,
      ap length c.reserve.ensures.items,
      ap length c.new-sending.ensures.items,
      c.in_ok-reserve.ensures.ok,
      c.from-3.ensures,
      c.tx.ensures.count,
      ap (λ (counts : Counts). counts.tx) c.layout-layout.ensures,
    )

pub pending-requires-clause-holding_room : goal.pending-requires-clause-holding_room
pending-requires-clause-holding_room c =
    let few = held-within (c.from.result + c.from-2.result)
    (found-host (has-host c.self.view_is c.self.invariant c.requires.there c.index-host.ensures)
    c.requires.ready c.requires.adapter) c.layout-layout.ensures c.oldest.ensures
    (omega (arith, c.from.ensures, c.from-2.ensures, c.rx.ensures.count)) in
    omega (arith, few, ap length c.reserve-2.ensures.items, ap length c.new-holding.ensures.items, c.in_ok-reserve-2.ensures.ok)

pub returns : goal.returns
returns c =
    let w = world_at c.self.inside.stations c.args.number in
    record {
      found = found-before _
          (found-host (has-host c.self.view_is c.self.invariant c.requires.there c.index-host.ensures)
          c.requires.ready c.requires.adapter)
          (c.pending.ensures.sending
          ∙ ap (λ (list : List (List ℕ)). list ++ frames_to_send w) (c.reserve.ensures.items ∙ c.new-sending.ensures.items))
          (c.pending.ensures.holding
          ∙ ap (λ (list : List (List ℕ)). list ++ frames_held c.oldest.result w)
          (c.reserve-2.ensures.items ∙ c.new-holding.ensures.items)
          ∙ ap (λ (o : ℕ). frames_held o w) c.oldest.ensures)
          (omega (
            arith,
            c.in_ok-reserve-2.ensures.ok,
            c.pending.ensures.holding_capacity,
            c.from.ensures,
            c.from-2.ensures,
            c.rx.ensures.count,
            ap (λ (counts : Counts). counts.rx) c.layout-layout.ensures,
          ));
    }
