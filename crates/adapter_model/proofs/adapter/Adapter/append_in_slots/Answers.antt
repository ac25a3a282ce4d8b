use Rattle.std.proofs.Common.{vec_capacity, arith}
use Rattle.adapter_model.specs.World.{World}
use Rattle.adapter_model.proofs.SlotsRead.{ReadsSlots, ReadsWork, finished-few, finished-short, reads-slots, reads-work, with-work, work-room}
use Rattle.adapter_model.proofs.SlotsRead.{work-short}
use Rattle.adapter_model.proofs.adapter.Adapter.append_in_slots.Goals as goal
use Rattle.adapter_model.proofs.adapter.Adapter.append_in_slots.Goals.{After-new-begun, In-Some-bytes_in_progress}

slots : (c : After-new-begun) → let world : World = record { memory = c.args.memory.now; adapter = c.args.self.now } in
    ReadsSlots world c.ring-ring.result c.new-begun.result.items
slots c = reads-slots _ c.ring-ring.ensures c.self.view_is c.new-begun.ensures

work : (c : In-Some-bytes_in_progress) → let world : World = record { memory = c.args.memory.now; adapter = c.args.self.now } in
    ReadsWork c.args.oldest world c.ring-ring.result c.new-begun.result.items c.append_finished.new.begun.items
    c.in-Some-bytes_in_progress.bytes.now c.in-Some.work.now
work c =
    reads-work c.args.oldest _ c.ring-ring.ensures c.self.view_is c.new-begun.ensures c.append_finished.ensures.begun
    c.in-Some.ensures.work c.in-Some-bytes_in_progress.ensures.bytes

pub append_finished-requires-clause-short : goal.append_finished-requires-clause-short
append_finished-requires-clause-short c =
    finished-short c.args.oldest (slots (goal.at.append_finished-requires-clause-short c).After-new-begun) c.requires.can.short

pub append_finished-requires-clause-room : goal.append_finished-requires-clause-room
append_finished-requires-clause-room c =
    let few = finished-few c.args.oldest (slots (goal.at.append_finished-requires-clause-room c).After-new-begun) in
    omega (arith, few, c.requires.room)

pub append_piece-requires-clause-short : goal.append_piece-requires-clause-short
append_piece-requires-clause-short c =
    work-short (work (goal.at.append_piece-requires-clause-short c).In-Some-bytes_in_progress) c.requires.can.short

pub append_piece-requires-clause-room : goal.append_piece-requires-clause-room
append_piece-requires-clause-room c ends =
    let below = work-room c.args.holding.now.items (vec_capacity c.args.holding.now)
    (work (goal.at.append_piece-requires-clause-room c).In-Some-bytes_in_progress) c.append_finished.ensures.frames ends c.requires.room in
    omega (arith, below, c.append_finished.ensures.room)

pub returns-in-Some-bytes_in_progress-clause-frames : goal.returns-in-Some-bytes_in_progress-clause-frames
returns-in-Some-bytes_in_progress-clause-frames c =
    with-work c.args.holding.now.items (work (goal.at.returns-in-Some-bytes_in_progress-clause-frames c).In-Some-bytes_in_progress)
    c.append_finished.ensures.frames c.append_piece.ensures.frames
