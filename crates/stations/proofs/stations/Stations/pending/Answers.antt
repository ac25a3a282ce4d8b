use Rattle.std.proofs.Common.{◌≤◌, ◌+◌, ◌++◌, ap, length, subst, sym, vec_capacity, ◌∙◌}
use Rattle.adapter.specs.HostFrames.{frames_held, frames_to_send}
use Rattle.adapter.specs.Pending.{CanReadHeld, CanReadSending}
use Rattle.adapter.specs.World.{World}
use Rattle.stations.proofs.stations.Stations.pending.Goals as goal

pub pending-requires : goal.pending-requires
pending-requires c =
    let shown = sym c.machine.ensures in
    record {
      sending = subst CanReadSending shown c.requires.sending;
      holding = subst (CanReadHeld c.args.oldest) shown c.requires.holding;
      sending_room = subst (λ (w : World). length c.args.sending.now.items + length (frames_to_send w) ≤ vec_capacity c.args.sending.now)
          shown c.requires.sending_room;
      holding_room = subst
          (λ (w : World). length c.args.holding.now.items + length (frames_held c.args.oldest w) ≤ vec_capacity c.args.holding.now)
          shown c.requires.holding_room;
    }

pub returns : goal.returns
returns c = record {
  sending = c.pending.ensures.sending
      ∙ ap (λ (w : World). c.args.sending.now.items ++ frames_to_send w) c.machine.ensures;
  holding = c.pending.ensures.holding
      ∙ ap (λ (w : World). c.args.holding.now.items ++ frames_held c.args.oldest w) c.machine.ensures;
  holding_capacity = c.pending.ensures.holding_capacity;
}
