use Rattle.std.proofs.Common.{◌≡◌, ◌<◌, ◌+◌, ◌-◌, ◌%◌, ◌++◌, ◌∷◌, [], ℕ, List, All, length, map, sym, ap, subst, ◌∙◌, arith}
use Rattle.std.proofs.lemmas.List.{length-append, append_assoc, append-nil}
use Rattle.descriptors.specs.Ring.{address_of, count_of, distance_of, next_of}
use Rattle.descriptors.specs.RingLaws.{next-below}
use Rattle.rx_engine.specs.Pieces.{Piece, begun_from, frames_from}
use Rattle.rx_engine.specs.JoinedLaws.{alone-one}
use Rattle.rx_engine.specs.JoinedPieces.{AreShort, piece_alone}
use Rattle.rx_engine.specs.FinishedSlots.{NamesMemory, done_from, finished_in, piece_in, pieces_from}
use Rattle.rx_engine.proofs.FinishedWalk.{done-next, is-done-status, pieces-none, slots-begin, Walks, piece-is, walks}
use Rattle.rx_engine.proofs.finished.append_finished.Goals as goal

pub loop-left-init : goal.loop-left-init
loop-left-init c =
    let memory = c.args.memory.now in
    let ring = c.args.ring.now in
    let begun = c.args.begun.now.items in
    let left = (c.from-2.result + c.count-count.result - c.from-3.result) % c.count-count.result in
    let is : left ≡ distance_of ring c.args.oldest ring.tail =
    ap (λ (n : ℕ). (n + c.count-count.result - c.from-3.result) % c.count-count.result) c.from-2.ensures
    ∙ ap (λ (n : ℕ). (ring.tail + n - c.from-3.result) % n) c.count-count.ensures
    ∙ ap (λ (n : ℕ). (ring.tail + count_of ring - n) % count_of ring) c.from-3.ensures in
    let slots = slots-begin memory ring c.args.oldest left is in
    let pieces : pieces_from memory ring c.args.oldest left ≡ finished_in memory ring c.args.oldest = ap (map (piece_in memory)) slots in
    record {
      place = omega (arith, c.if-from-count.false, c.from.ensures, c.count-count.ensures);
      lie = subst (All (NamesMemory memory)) (sym slots) c.requires.lie;
      short = subst (AreShort begun) (sym pieces) c.requires.short;
      begun = ap (begun_from begun) pieces;
      frames = ap (λ (list : List Piece). c.args.frames.now.items ++ frames_from begun list) pieces;
      capacity = omega arith;
    }

pub finished_piece-requires-clause-lies : goal.finished_piece-requires-clause-lies
finished_piece-requires-clause-lies c done =
    let l = c.loop-left in
    let memory = c.args.memory.now in
    let ring = c.args.ring.now in
    let at = address_of ring l.place in
    let next = done-next memory ring l.place l.left c.loop-left-test.true (sym (is-done-status memory at) ∙ done) in
    let all = subst (λ (slots : List ℕ). All (NamesMemory memory) slots) next l.invariant.lie in
    all 0 at (omega arith)

pub returns-in_default-clause-begun : goal.returns-in_default-clause-begun
returns-in_default-clause-begun c =
    let l = c.loop-left in
    sym (ap (begun_from l.begun.items) (pieces-none c.args.memory.now c.args.ring.now l.place l.left c.in_default.ensures.none))
    ∙ l.invariant.begun

pub returns-in_default-clause-frames : goal.returns-in_default-clause-frames
returns-in_default-clause-frames c =
    let l = c.loop-left in
    sym (append-nil l.frames.items)
    ∙ sym (ap (λ (list : List Piece). l.frames.items ++ frames_from l.begun.items list)
    (pieces-none c.args.memory.now c.args.ring.now l.place l.left c.in_default.ensures.none)) ∙ l.invariant.frames

-- If the slot at `place` is done, its piece is the next one of the loop (`Walks`).
walk : (c : goal.After-append_piece-arg-in-loop-left-1)
    → Walks c.args.memory.now c.args.ring.now c.loop-left.place c.loop-left.left c.loop-left.begun.items
    (piece_in c.args.memory.now (address_of c.args.ring.now c.loop-left.place))
walk c =
    let l = c.loop-left in
    let memory = c.args.memory.now in
    let ring = c.args.ring.now in
    let at = address_of ring l.place in
    walks memory ring l.place l.left l.begun.items c.loop-left-test.true (sym (is-done-status memory at) ∙ c.in-Some.ensures.done)
    l.invariant.lie l.invariant.short

same : (c : goal.After-append_piece-arg-in-loop-left-1)
    → piece_alone c.in-Some.ends c.in-Some.bytes.now ≡ piece_in c.args.memory.now (address_of c.args.ring.now c.loop-left.place) ∷ []
same c = piece-is c.args.memory.now (address_of c.args.ring.now c.loop-left.place) c.in-Some.ends c.in-Some.bytes.now
    c.in-Some.ensures.bytes c.in-Some.ensures.ends

pub append_piece-requires-clause-short : goal.append_piece-requires-clause-short
append_piece-requires-clause-short c = subst (AreShort c.loop-left.begun.items) (sym (same c)) (walk c).first

pub append_piece-requires-clause-room : goal.append_piece-requires-clause-room
append_piece-requires-clause-room c ends =
    let l = c.loop-left in
    let begun = l.begun.items in
    let memory = c.args.memory.now in
    let ring = c.args.ring.now in
    let w = walk c in
    let one = ap (λ (list : List Piece). length (frames_from begun list)) (same c) in
    let is_one = alone-one begun c.in-Some.bytes.now c.in-Some.ends ends in
    let first = frames_from begun (piece_in memory (address_of ring l.place) ∷ []) in
    let later = pieces_from memory ring (next_of ring l.place) (l.left - 1) in
    let rest = frames_from (begun_from begun (piece_in memory (address_of ring l.place) ∷ [])) later in
    let all = frames_from begun (pieces_from memory ring l.place l.left) in
    let whole = frames_from c.args.begun.now.items (finished_in memory ring c.args.oldest) in
    let both = ap length w.frames in
    let sum = length-append first rest in
    let here = ap length l.invariant.frames in
    let left_sum = length-append l.frames.items all in
    let right_sum = length-append c.args.frames.now.items whole in
    omega (arith, one, is_one, both, sum, here, left_sum, right_sum, c.requires.room, l.invariant.capacity)

pub loop-left-preserved : goal.loop-left-preserved
loop-left-preserved c =
    let l = c.loop-left in
    let i = l.invariant in
    let begun = l.begun.items in
    let memory = c.args.memory.now in
    let ring = c.args.ring.now in
    let at = address_of ring l.place in
    let piece = piece_in memory at in
    let w = walk c.before.before in
    let is = same c.before.before in
    let next = c.next-place.ensures in
    let left = l.left - 1 in
    let rest : c.append_piece.new.begun.items ≡ begun_from begun (piece ∷ []) =
    c.append_piece.ensures.begun ∙ ap (begun_from begun) is in
    let more : c.append_piece.new.frames.items ≡ l.frames.items ++ frames_from begun (piece ∷ []) =
    c.append_piece.ensures.frames ∙ ap (λ (list : List Piece). l.frames.items ++ frames_from begun list) is in
    let later = pieces_from memory ring (next_of ring l.place) left in
    record {
      place = subst (λ (n : ℕ). n < count_of ring) (sym next) (next-below (count_of ring) l.place i.place);
      lie = subst (λ (n : ℕ). All (NamesMemory memory) (done_from memory ring n left)) (sym next) w.lie;
      short = subst (λ (n : ℕ). AreShort c.append_piece.new.begun.items (pieces_from memory ring n left)) (sym next)
          (subst (λ (list : List ℕ). AreShort list later) (sym rest) w.later);
      begun = ap (λ (n : ℕ). begun_from c.append_piece.new.begun.items (pieces_from memory ring n left)) next
          ∙ ap (λ (list : List ℕ). begun_from list later) rest ∙ w.rest ∙ i.begun;
      frames =
          ap (λ (n : ℕ). c.append_piece.new.frames.items ++ frames_from c.append_piece.new.begun.items (pieces_from memory ring n left))
          next
          ∙ ap (λ (list : List ℕ). c.append_piece.new.frames.items ++ frames_from list later) rest
          ∙ ap (λ (list : List (List ℕ)). list ++ frames_from (begun_from begun (piece ∷ [])) later) more
          ∙ append_assoc l.frames.items (frames_from begun (piece ∷ [])) (frames_from (begun_from begun (piece ∷ [])) later)
          ∙ ap (λ (list : List (List ℕ)). l.frames.items ++ list) w.frames ∙ i.frames;
      capacity = omega (arith, i.capacity, c.append_piece.ensures.room);
    }
