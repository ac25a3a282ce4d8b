use Rattle.std.proofs.Common.{◌≡◌, length, map, vec_capacity, arith}
use Rattle.std.proofs.lemmas.List.{length-map}
use Rattle.tx_engine.specs.Transmitter.{Queued}
use Rattle.adapter_model.proofs.TakenFrames.{room-left, taken}
use Rattle.adapter_model.proofs.pending.append_to_put.Goals as goal

pub append_frame-requires-clause-room : goal.append_frame-requires-clause-room
append_frame-requires-clause-room c =
    let l = c.loop-index in
    let queued = c.args.engine.now.buffer in
    let buffer = map (λ (q : Queued). q.frame) queued in
    let count : length buffer ≡ length queued = length-map queued (λ (q : Queued). q.frame) in
    let room = room-left l.frames.items c.args.frames.now.items buffer l.index (vec_capacity c.args.frames.now)
    l.invariant.frames (omega (arith, count, c.loop-index-test.true, c.from-index-end.ensures, c.len.ensures.count))
    (omega (arith, count, c.requires.room)) in
    omega (arith, room, l.invariant.capacity)

pub loop-index-preserved : goal.loop-index-preserved
loop-index-preserved c =
    let frames = taken _ _ _ c.append_frame.ensures.frames c.loop-index.invariant.frames c.frame_at.ensures.frame in
    record { frames = frames; capacity = omega arith }
