use Rattle.std.proofs.Common.{suc, ◌≡◌, ◌<◌, ◌+◌, ◌-◌, ◌%◌, ◌++◌, ◌∷◌, [], ℕ, List, All, length, map, sym, ap, subst, ◌∙◌, arith}
use Rattle.std.proofs.lemmas.List.{length-append, append_assoc}
use Rattle.descriptors.specs.Ring.{address_of, count_of, distance_of, next_of, slots_from}
use Rattle.descriptors.specs.RingLaws.{next-below}
use Rattle.tx_engine.specs.Fetching.{as_sent, frame_at}
use Rattle.tx_engine.specs.QueuedFrames.{CanBeCopied}
use Rattle.tx_engine.proofs.QueuedWalk.{places-begin, places-length, places-next}
use Rattle.tx_engine.proofs.queued.append_queued.Goals as goal

pub loop-left-init : goal.loop-left-init
loop-left-init c =
    let memory = c.args.memory.now in
    let ring = c.args.ring.now in
    let left = (c.from-2.result + c.count-count.result - c.from-3.result) % c.count-count.result in
    let is : left ≡ distance_of ring ring.head ring.tail =
    ap (λ (n : ℕ). (n + c.count-count.result - c.from-3.result) % c.count-count.result) c.from-2.ensures
    ∙ ap (λ (n : ℕ). (ring.tail + n - c.from-3.result) % n) c.count-count.ensures
    ∙ ap (λ (n : ℕ). (ring.tail + count_of ring - n) % count_of ring) c.from-3.ensures in
    let slots = places-begin ring left is in
    let count = ap length slots in
    let long = places-length (count_of ring) ring.head left in
    record {
      place = omega (arith, c.if-from-count.false, c.from.ensures, c.count-count.ensures);
      lie = subst (All (λ slot. CanBeCopied memory (address_of ring slot))) (sym slots) c.requires.lie;
      frames =
          ap (λ (list : List ℕ). c.args.frames.now.items ++ map (λ (slot : ℕ). frame_at c.args.pad memory (address_of ring slot)) list)
          slots;
      room = omega (arith, count, long, c.requires.room);
      capacity = omega arith;
    }

pub queued_bytes-requires-clause-lies : goal.queued_bytes-requires-clause-lies
queued_bytes-requires-clause-lies c =
    let l = c.loop-left in
    let ring = c.args.ring.now in
    let memory = c.args.memory.now in
    let all = subst (All (λ slot. CanBeCopied memory (address_of ring slot))) (places-next ring l.place l.left c.loop-left-test.true)
    l.invariant.lie in
    all 0 l.place (omega arith)

pub loop-left-preserved : goal.loop-left-preserved
loop-left-preserved c =
    let l = c.loop-left in
    let i = l.invariant in
    let ring = c.args.ring.now in
    let memory = c.args.memory.now in
    let next = c.next-place.ensures in
    let left = l.left - 1 in
    let split = places-next ring l.place l.left c.loop-left-test.true in
    let all = subst (All (λ slot. CanBeCopied memory (address_of ring slot))) split i.lie in
    let frame = frame_at c.args.pad memory (address_of ring l.place) in
    let later =
    map (λ (slot : ℕ). frame_at c.args.pad memory (address_of ring slot)) (slots_from (count_of ring) (next_of ring l.place) left) in
    let more : c.append_as_sent.new.frames.items ≡ l.frames.items ++ frame ∷ [] =
    c.append_as_sent.ensures.frames
    ∙ ap (λ (bytes : List ℕ). l.frames.items ++ as_sent c.args.pad bytes ∷ []) c.in-Some.ensures.bytes in
    let one = ap length more in
    let sum = length-append l.frames.items (frame ∷ []) in
    record {
      place = subst (λ (n : ℕ). n < count_of ring) (sym next) (next-below (count_of ring) l.place i.place);
      lie = subst (λ (n : ℕ). All (λ slot. CanBeCopied memory (address_of ring slot)) (slots_from (count_of ring) n left)) (sym next)
          (λ k d below. all (suc k) d (omega (arith, below)));
      frames =
          ap (λ (n : ℕ). c.append_as_sent.new.frames.items
          ++ map (λ (slot : ℕ). frame_at c.args.pad memory (address_of ring slot)) (slots_from (count_of ring) n left)) next
          ∙ ap (λ (list : List (List ℕ)). list ++ later) more
          ∙ append_assoc l.frames.items (frame ∷ []) later
          ∙ ap (λ (list : List ℕ). l.frames.items ++ map (λ (slot : ℕ). frame_at c.args.pad memory (address_of ring slot)) list) (sym split)
          ∙ i.frames;
      room = omega (arith, one, sum, i.room, c.loop-left-test.true, c.append_as_sent.ensures.room);
      capacity = omega (arith, i.capacity, c.append_as_sent.ensures.room);
    }
