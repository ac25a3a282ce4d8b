use Rattle.std.proofs.Common.{ℕ, List, ◌≡◌, ◌<◌, ◌≤◌, ◌+◌, ◌-◌, ◌*◌, ◌++◌, ◌∷◌, [], length, take, drop, replicate}
use Rattle.std.proofs.Common.{refl, sym, ap, ◌∙◌, arith}
use Rattle.std.proofs.lemmas.List.{length-append, length-replicate, with_items_is}
use Rattle.circular_buffer.specs.Buffer.{buffer}
use Rattle.descriptors.specs.QueueLaws.{keep_last-room}
use Rattle.descriptors.specs.WrappedPlaces.{wrapped}
use Rattle.descriptors.proofs.Written.{length-written}
use Rattle.descriptors.proofs.InPlaces.{length-frames_from, frames_from-pushed, wrapped-within}
use Rattle.descriptors.proofs.queue.FrameQueue.push_padded.Goals as goal

pub returns : goal.returns
returns c =
    let queue = c.self.inside in
    let bytes = queue.bytes.items in
    let lengths = queue.lengths.items in
    let capacity = queue.lengths.capacity in
    let frame = c.args.frame.now in
    let n = c.max-length.result in
    let written : List ℕ = frame ++ replicate (n - length frame) 0 in
    let zeros : n - length frame ≡ c.args.least - length frame = omega (arith, c.max-length.ensures) in
    let count : length written
    ≡ n = omega (
      arith,
      length-append frame (replicate (n - length frame) 0),
      length-replicate {A = ℕ}
          (n - length frame) 0,
      c.max-length.ensures,
    ) in
    let short : n ≤ 1518 = omega (arith, c.max-length.ensures, c.requires.fits, c.requires.least_fits) in
    let asked = rw (← c.self.view_is) at c.requires.room in
    let room : length lengths < capacity = omega (arith, asked, length-frames_from bytes capacity queue.first lengths) in
    let first : queue.first < capacity = omega (arith, room, c.self.invariant.first) in
    let behind : c.from.result + c.len.result ≡ queue.first + length lengths = omega (arith, c.from.ensures, c.len.ensures.len) in
    let place : c.wrap-start.result
    ≡ wrapped capacity (queue.first + length lengths) = rw (← behind, ← c.capacity.ensures.capacity) c.wrap-start.ensures in
    let within = wrapped-within capacity (queue.first + length lengths) (omega (arith, first, room)) in
    let start = wrapped capacity (queue.first + length lengths) * 1518 in
    let lies : start + n ≤ length bytes = omega (arith, within, c.self.invariant.size, short) in
    let stored : c.write_padded.new.bytes ≡ take start bytes ++ written ++ drop (start + n) bytes = rw
    (← place, ← c.as_mut_slice.ensures.value) c.write_padded.ensures in
    let kept : length c.write_padded.new.bytes ≡ queue.bytes.len = ap length stored
    ∙ length-written bytes written start n count lies ∙ sym queue.bytes.ok.0 in
    let items = with_items_is queue.bytes c.write_padded.new.bytes kept ∙ stored in
    let more : c.push_back.new.self ≡ buffer (lengths ++ n ∷ []) capacity = c.push_back.ensures.items
    ∙ ap (λ (ns : List ℕ). buffer ns capacity) (keep_last-room lengths capacity n room) in
    let pushed = frames_from-pushed bytes written lengths capacity queue.first n c.self.invariant.size first room c.self.invariant.fits
    count short in
    rw (← c.self.view_is, items, more, pushed, zeros) refl
