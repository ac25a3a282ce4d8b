-- The oldest buffers leave a driver's queue, as parts of a run.
use Rattle.std.proofs.Common.{◌≡◌, ◌≤◌, ◌<◌, ◌+◌, ◌-◌, ◌%◌, ◌++◌, ◌∷◌, []}
use Rattle.std.proofs.Common.{Some, None, ℕ, List, length, take, drop, get_or, slice_get}
use Rattle.std.proofs.Common.{length-drop, sym, ap, ◌∙◌, arith}
use Rattle.std.proofs.Math.Seq.{take-add}
use Rattle.std.proofs.lemmas.List.{drop-drop, drop_more, map-append, take-append-drop, take_more}
use Rattle.circular_buffer.specs.Buffer.{Buffer, buffer}
use Rattle.dma_memory.specs.Owners.{HasNoSecondOwner, copies}
use Rattle.dma_memory.specs.OwnersLaws.{copies-append}
use Rattle.descriptors.specs.RingLaws.{place}
use Rattle.adapter.proofs.Places.{place-add, place-below}
use Rattle.adapter.specs.DriverState.{DriverState, owners}
use Rattle.adapter.specs.ReceiveSteps.{after_slots}
use Rattle.driver.specs.InsideDriver.{driver_state_of}
use Rattle.driver.specs.Parts.{buffers_in, lengths_in}
use Rattle.driver.specs.declared.driver.Driver.TheInside.{Inside}
use Rattle.driver.specs.declared.parts.Part.{Part}
use Rattle.driver.proofs.BufferQueue.{Receives, owners-inside, queue-split}
use Rattle.adapter.proofs.Places.{place-sum}

-- The first i + 1 buffers have left the queue. The parts are these buffers, with the first i + 1 lengths.
pub record OneMore (items lengths : List ℕ) (i : ℕ) (queue : Buffer ℕ) (capacity : ℕ) (parts : List Part) : Type 0 where
  pub left : queue ≡ buffer (drop (i + 1) items) capacity
  pub buffers : buffers_in parts ≡ take (i + 1) items
  pub lengths_are : lengths_in parts ≡ take (i + 1) lengths

pub one-more : (items lengths : List ℕ) (i capacity n number : ℕ) (queue queue' : Buffer ℕ) (parts parts' : List Part) → i < length lengths
    → length lengths ≤ length items → queue ≡ buffer (drop i items) capacity → queue' ≡ buffer (drop 1 queue.items) queue.capacity
    → Some number ≡ slice_get queue.items 0 → n ≡ get_or lengths i 0 → buffers_in parts ≡ take i items → lengths_in parts ≡ take i lengths
    → parts' ≡ parts ++ record { buffer = number; length = n } ∷ [] → OneMore items lengths i queue' capacity parts'
one-more items lengths i capacity n number queue queue' parts parts' few enough before popped first is numbers sizes pushed =
    let split = drop_more items i number (omega (arith, few, enough)) in
    let shown : Some number ≡ Some (get_or items i number) = first ∙ ap (λ (q : Buffer ℕ). slice_get q.items 0) before
    ∙ ap (λ (list : List ℕ). slice_get list 0) split in
    let same : number ≡ get_or items i number = cc in
    record {
      left =
          popped ∙ ap (λ (q : Buffer ℕ). buffer (drop 1 q.items) q.capacity) before
          ∙ ap (λ (list : List ℕ). buffer list capacity) (drop-drop 1 i items);
      buffers =
          ap buffers_in pushed ∙ map-append (λ (part : Part). part.buffer) parts _
          ∙ ap (λ (list : List ℕ). list ++ number ∷ []) numbers ∙ ap (λ (k : ℕ). take i items ++ k ∷ []) same
          ∙ sym (take_more items i number (omega (arith, few, enough)));
      lengths_are =
          ap lengths_in pushed ∙ map-append (λ (part : Part). part.length) parts _
          ∙ ap (λ (list : List ℕ). list ++ n ∷ []) sizes ∙ ap (λ (k : ℕ). take i lengths ++ k ∷ []) is
          ∙ sym (take_more lengths i 0 few);
    }

pub some-first : (items : List ℕ) (i : ℕ) (queue : Buffer ℕ) (capacity : ℕ) → i < length items → queue ≡ buffer (drop i items) capacity
    → slice_get queue.items 0 ≡ None → ⊥
some-first items i queue capacity few before none =
    let shown : Some (get_or items i 0) ≡ None = ap (λ (list : List ℕ). slice_get list 0) (sym (drop_more items i 0 few))
    ∙ ap (λ (q : Buffer ℕ). slice_get q.items 0) (sym before) ∙ none in
    cc

-- `later` is the queue without its first n buffers. The last `staged` buffers, those of the staged slots, are the same.
record IsCutOff (staged n : ℕ) (queue later : List ℕ) : Type 0 where
  front : take (length queue - staged) queue ≡ take n queue ++ take (length later - staged) later
  back : drop (length later - staged) later ≡ drop (length queue - staged) queue

queue-cut : (staged n : ℕ) (queue later : List ℕ) → later ≡ drop n queue → n + staged ≤ length queue → IsCutOff staged n queue later
queue-cut staged n queue later left enough =
    let k = length later - staged in
    let sum : length queue - staged ≡ n + k = omega (arith, ap length left, length-drop n queue, enough) in
    record {
      front = ap (λ (i : ℕ). take i queue) sum ∙ take-add n k queue ∙ ap (λ (list : List ℕ). take n queue ++ take k list) (sym left);
      back = ap (drop k) left ∙ drop-drop k n queue ∙ ap (λ (i : ℕ). drop i queue) (sym sum);
    }

-- the driver with another oldest slot and queue
abbrev pub with_queue : Inside → ℕ → Buffer ℕ → Inside
with_queue d next queue = record d { oldest_receive = next; buffers = queue }

-- The first n buffers, those of the oldest outstanding slots, have left the queue.
pub record HasTaken (d : Inside) (next n : ℕ) (queue : Buffer ℕ) : Type 0 where
  pub receives : Receives (with_queue d next queue)
  pub first : (driver_state_of d).buffers ≡ take n d.buffers.items ++ (driver_state_of (with_queue d next queue)).buffers
  pub view : driver_state_of (with_queue d next queue) ≡ after_slots (driver_state_of d) n
      (driver_state_of (with_queue d next queue)).buffers []
  pub one_owner : HasNoSecondOwner d.layout.buffers (take n d.buffers.items ++ owners (driver_state_of (with_queue d next queue)))

pub taken-inside : (d : Inside) (next n : ℕ) (queue : Buffer ℕ) → Receives d → n ≤ length (driver_state_of d).buffers
    → next ≡ (d.oldest_receive + n) % d.layout.rx → queue ≡ buffer (drop n d.buffers.items) d.buffers.capacity → HasTaken d next n queue
taken-inside d next n queue receives enough moved popped =
    let old = d.buffers.items in
    let later = queue.items in
    let rx = d.layout.rx in
    let d' = with_queue d next queue in
    let left : later ≡ drop n old = ap (λ (b : Buffer ℕ). b.items) popped in
    let fits : n + d.staged ≤ length old = omega (arith, enough, (queue-split d receives).outstanding) in
    let count : n + length later ≡ length old = omega (arith, ap length left, length-drop n old, fits) in
    let cut = queue-cut d.staged n old later left fits in
    let at : next ≡ place rx d.oldest_receive n = moved ∙ sym (place-sum rx d.oldest_receive n receives.oldest_slot) in
    let halves : (k : ℕ) → copies k old ≡ copies k (take n old) + copies k later = λ k.
    sym (ap (copies k) (take-append-drop n old)) ∙ copies-append k (take n old) (drop n old)
    ∙ ap (λ (list : List ℕ). copies k (take n old) + copies k list) (sym left) in
    let view : ℕ → List ℕ → DriverState = λ oldest staged. record (driver_state_of d)
    { oldest_receive = oldest; buffers = (driver_state_of d').buffers; staged = staged } in
    let later_receives : Receives d' = record {
      oldest_slot = let below = place-below rx d.oldest_receive n receives.oldest_slot in omega (arith, at, below);
      room = omega (arith, count, receives.room);
      next_slot =
          receives.next_slot ∙ ap (place rx d.oldest_receive) (sym count) ∙ place-add rx d.oldest_receive n (length later)
          ∙ ap (λ (slot : ℕ). place rx slot (length later)) (sym at);
      capacity = ap (λ (b : Buffer ℕ). b.capacity) popped ∙ receives.capacity;
      some_staged = omega (arith, count, fits);
      buffers = receives.buffers;
      owners = λ k. omega (arith, receives.owners k, copies-append k d.pool.free old, copies-append k d.pool.free later, halves k);
    } in
    record {
      receives = later_receives;
      first = cut.front;
      view = ap (λ (oldest : ℕ). view oldest (driver_state_of d').staged) at ∙ ap (view (place rx d.oldest_receive n)) cut.back;
      one_owner = λ k.
          omega (
            arith,
            receives.owners k,
            owners-inside d' later_receives k,
            copies-append k (take n old) (owners (driver_state_of d')),
            copies-append k d.pool.free old,
            halves k,
          );
    }
