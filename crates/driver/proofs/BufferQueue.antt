-- A driver's queue of buffers agrees with its state in contracts. This remains true if slots are staged or offered, or if a buffer returns
-- to the pool.
use Rattle.std.proofs.Common.{refl, ◌≡◌, ◌≤◌, ◌<◌, ◌+◌, ◌-◌, ◌++◌, ◌∷◌, [], ℕ, List, length, take, drop, ◌%◌, sym, ap}
use Rattle.std.proofs.Common.{◌∙◌, length-append, length-drop, arith}
use Rattle.dma_memory.specs.Numbers.{Numbers}
use Rattle.dma_memory.specs.Owners.{HasNoSecondOwner, HaveSameNumbers, copies}
use Rattle.dma_memory.specs.OwnersLaws.{copies-append, copies-cons, copies-push}
use Rattle.circular_buffer.specs.Buffer.{Buffer, buffer, keep_last}
use Rattle.descriptors.specs.QueueLaws.{keep_last-room}
use Rattle.std.proofs.Math.Seq.{drop-length, take-length}
use Rattle.adapter.specs.bus_types.event.Access.TheVariants.{Writes}
use Rattle.adapter.specs.Calls.{tail_write}
use Rattle.std.proofs.lemmas.List.{drop-append-le, length-take-le, take-append-drop, take-append-le}
use Rattle.descriptors.specs.RingLaws.{place}
use Rattle.adapter.proofs.Owners.{owners-count}
use Rattle.adapter.proofs.Places.{place-below, place-next}
use Rattle.adapter.specs.DriverState.{DriverState, next_receive, owners, with_owners}
use Rattle.driver.specs.InsideDriver.{HasReceiveSide, driver_state_of}
use Rattle.driver.specs.declared.driver.Driver.TheInside.{Inside}

-- The queue consists of the buffers of outstanding slots, and then those of staged slots. `next_receive` is the place after these slots.
pub record IsSplit (d : Inside) : Type 0 where
  pub whole : (driver_state_of d).buffers ++ (driver_state_of d).staged ≡ d.buffers.items
  pub outstanding : length (driver_state_of d).buffers + d.staged ≡ length d.buffers.items
  pub staged : length (driver_state_of d).staged ≡ d.staged
  pub next : d.next_receive ≡ next_receive (driver_state_of d)
  pub next_slot : d.next_receive < d.layout.rx

abbrev pub Receives : Inside → Type 0
Receives d = HasReceiveSide d.layout d.oldest_receive d.next_receive d.staged d.buffers d.pool

pub queue-split : (d : Inside) → Receives d → IsSplit d
queue-split d receives =
    let queue = d.buffers.items in
    let k = length queue - d.staged in
    let front : length (take k queue) ≡ k = length-take-le k queue (omega arith) in
    let back : length (drop k queue) ≡ d.staged = length-drop k queue ∙ omega (arith, receives.some_staged) in
    let sum : length queue ≡ length (take k queue) + length (drop k queue) = omega (arith, front, back, receives.some_staged) in
    record {
      whole = take-append-drop k queue;
      outstanding = omega (arith, front, receives.some_staged);
      staged = back;
      next = receives.next_slot ∙ ap (place d.layout.rx d.oldest_receive) sum;
      next_slot = let below = place-below d.layout.rx d.oldest_receive (length queue) receives.oldest_slot in omega
          (arith, below, receives.next_slot);
    }

-- The owners of buffers, by the pool and the queue

pub owners-inside : (d : Inside) → Receives d → (k : ℕ) → copies k (owners (driver_state_of d))
    ≡ copies k d.pool.free + copies k d.buffers.items
owners-inside d receives k =
    let shown = driver_state_of d in
    omega (arith, owners-count k shown, copies-append k shown.buffers shown.staged, ap (copies k) (queue-split d receives).whole)

pub no_second-inside : (d : Inside) → Receives d → HasNoSecondOwner d.layout.buffers (owners (driver_state_of d))
no_second-inside d receives k = omega (arith, receives.owners k, owners-inside d receives k, copies-append k d.pool.free d.buffers.items)

-- One more slot is staged

record IsPushed (staged m : ℕ) (queue queue' : List ℕ) : Type 0 where
  front : take (length queue' - (staged + 1)) queue' ≡ take (length queue - staged) queue
  back : drop (length queue' - (staged + 1)) queue' ≡ drop (length queue - staged) queue ++ m ∷ []

queue-pushed : (staged m : ℕ) (queue queue' : List ℕ) → staged ≤ length queue → queue' ≡ queue ++ m ∷ [] → IsPushed staged m queue queue'
queue-pushed staged m queue queue' some pushed =
    let k = length queue - staged in
    let longer : length queue' ≡ length queue + 1 = ap length pushed ∙ length-append queue (m ∷ []) in
    let same : length queue' - (staged + 1) ≡ k = omega (arith, longer) in
    record {
      front = ap (λ (i : ℕ). take i queue') same ∙ ap (take k) pushed ∙ take-append-le k queue (m ∷ []) (omega arith);
      back = ap (λ (i : ℕ). drop i queue') same ∙ ap (drop k) pushed ∙ drop-append-le k queue (m ∷ []) (omega arith);
    }

pub record HasStaged (d : Inside) (next m : ℕ) (queue : Buffer ℕ) (pool : Numbers) : Type 0 where
  pub receives : HasReceiveSide d.layout d.oldest_receive next (d.staged + 1) queue pool
  pub view :
      driver_state_of (record d { next_receive = next; buffers = queue; staged = d.staged + 1; pool = pool })
      ≡ with_owners (driver_state_of d) (driver_state_of d).buffers ((driver_state_of d).staged ++ m ∷ []) pool.free []

pub staged-inside : (d : Inside) (next m : ℕ) (queue : Buffer ℕ) (pool : Numbers) → Receives d → length d.buffers.items + 1 < d.layout.rx
    → next ≡ (d.next_receive + 1) % d.layout.rx
    → queue ≡ buffer (keep_last d.buffers.capacity (d.buffers.items ++ m ∷ [])) d.buffers.capacity → pool.buffers ≡ d.pool.buffers
    → HaveSameNumbers d.pool.free (m ∷ pool.free) → HasStaged d next m queue pool
staged-inside d next m queue pool receives room moved pushed count moves =
    let old = d.buffers.items in
    let items : queue.items ≡ old ++ m ∷ [] = ap (λ (b : Buffer ℕ). b.items) pushed
    ∙ keep_last-room old d.buffers.capacity m (omega (arith, receives.capacity, room)) in
    let longer : length queue.items ≡ length old + 1 = ap length items ∙ length-append old (m ∷ []) in
    let parts = queue-pushed d.staged m old queue.items receives.some_staged items in
    let view : List ℕ → List ℕ → DriverState = λ buffers staged. with_owners (driver_state_of d) buffers staged pool.free [] in
    record {
      receives = record {
        oldest_slot = receives.oldest_slot;
        room = omega (arith, longer, room);
        next_slot =
            moved
            ∙ ap (λ (slot : ℕ). (slot + 1) % d.layout.rx) receives.next_slot
            ∙ sym (place-next d.layout.rx d.oldest_receive (length old))
            ∙ ap (place d.layout.rx d.oldest_receive) (sym longer);
        capacity = ap (λ (b : Buffer ℕ). b.capacity) pushed ∙ receives.capacity;
        some_staged = omega (arith, longer, receives.some_staged);
        buffers = count ∙ receives.buffers;
        owners = λ k.
            omega (
              arith,
              receives.owners k,
              moves k,
              copies-cons k m pool.free,
              copies-append k d.pool.free old,
              copies-append k pool.free
                  queue.items,
              ap (copies k) items,
              copies-push k m old,
            );
      };
      view = ap (λ (list : List ℕ). view list (drop (length queue.items - (d.staged + 1)) queue.items)) parts.front
          ∙ ap (view (driver_state_of d).buffers) parts.back;
    }

pub none-staged : (d : Inside) → Receives d → Receives (record d { staged = 0 })
none-staged d receives = record {
  oldest_slot = receives.oldest_slot;
  room = receives.room;
  next_slot = receives.next_slot;
  capacity = receives.capacity;
  some_staged = omega arith;
  buffers = receives.buffers;
  owners = receives.owners;
}

pub offered-inside : (d : Inside) → Receives d
    → driver_state_of (record d { staged = 0 }) ≡ with_owners (driver_state_of d)
    ((driver_state_of d).buffers ++ (driver_state_of d).staged) [] d.pool.free []
offered-inside d receives =
    let queue = d.buffers.items in
    let view : List ℕ → List ℕ → DriverState = λ buffers staged. with_owners (driver_state_of d) buffers staged d.pool.free [] in
    let all : length queue - 0 ≡ length queue = omega arith in
    ap (λ (i : ℕ). view (take i queue) (drop i queue)) all
    ∙ ap (λ (list : List ℕ). view list (drop (length queue) queue)) (take-length queue ∙ sym (queue-split d receives).whole)
    ∙ ap (view ((driver_state_of d).buffers ++ (driver_state_of d).staged)) (drop-length queue)

pub owners-offered : (d : Inside) → Receives d → HaveSameNumbers (owners (driver_state_of d))
    (owners (driver_state_of (record d { staged = 0 })))
owners-offered d receives k =
    let shown = driver_state_of d in
    let later = with_owners shown (shown.buffers ++ shown.staged) [] d.pool.free [] in
    omega (arith, owners-count k shown, owners-count k later, copies-append k shown.buffers shown.staged)
    ∙ ap (λ (s : DriverState). copies k (owners s)) (sym (offered-inside d receives))

-- Another pool with the same number of buffers.
pub pool-inside : (d : Inside) (pool : Numbers) → Receives d → pool.buffers ≡ d.pool.buffers
    → HasNoSecondOwner d.layout.buffers (pool.free ++ d.buffers.items) → Receives (record d { pool = pool })
pool-inside d pool receives count once = record {
  oldest_slot = receives.oldest_slot;
  room = receives.room;
  next_slot = receives.next_slot;
  capacity = receives.capacity;
  some_staged = receives.some_staged;
  buffers = count ∙ receives.buffers;
  owners = once;
}

-- RDT is written if any slot is staged

pub tail_write-none : (slot : ℕ) (staged : List ℕ) → length staged ≡ 0 → tail_write slot staged ≡ []
tail_write-none slot [] none = refl
tail_write-none slot (number ∷ later) none = absurd (omega (arith, none))

pub tail_write-some : (slot : ℕ) (staged : List ℕ) → ¬ (length staged ≡ 0) → tail_write slot staged ≡ Writes 0x2818 slot ∷ []
tail_write-some slot [] some = absurd (some refl)
tail_write-some slot (number ∷ later) some = refl

-- The number of outstanding and staged slots is below the size of the ring

pub slots-inside : (inside : Inside) (d : DriverState) → Receives inside → driver_state_of inside ≡ d
    → length d.buffers + length d.staged ≡ length inside.buffers.items
slots-inside inside d receives shown =
    let split = queue-split inside receives in
    omega (
      arith,
      split.outstanding,
      split.staged,
      ap (λ (s : DriverState). length s.buffers) shown,
      ap (λ (s : DriverState). length s.staged) shown,
    )

pub room-inside : (inside : Inside) (d : DriverState) → Receives inside → driver_state_of inside ≡ d
    → length d.buffers + length d.staged < d.layout.rx
room-inside inside d receives shown =
    omega (arith, slots-inside inside d receives shown, receives.room, ap (λ (s : DriverState). s.layout.rx) shown)
