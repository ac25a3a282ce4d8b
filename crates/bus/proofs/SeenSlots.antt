-- What a driver sees of an outstanding receive slot: whether the slot is finished, and the piece in the slot.
use Rattle.std.proofs.Common.{◌≡◌, ◌≤◌, ◌<◌, ◌+◌, ◌-◌, ◌*◌, ◌%◌, ◌++◌, ◌∷◌, []}
use Rattle.std.proofs.Common.{Bool, true, false, cond, ℕ, zero, suc, List, length, map}
use Rattle.std.proofs.Common.{refl}
use Rattle.std.proofs.Common.{sym, ap, subst, ◌∙◌, arith}
use Rattle.std.specs.List.{All, take_while}
use Rattle.std.proofs.lemmas.List.{append-nil, length-map, map-append}
use Rattle.std.proofs.lemmas.List.Sums.{take_while-cons}
use Rattle.dma_memory.specs.HostMemory.{LiesIn, bytes_at}
use Rattle.dma_memory.specs.Laws.{length-bytes_at}
use Rattle.registers.specs.Bits.{is_set}
use Rattle.descriptors.specs.Ring.{slots_from}
use Rattle.descriptors.specs.RingLaws.{length-slots_from, place}
use Rattle.descriptors.specs.RxStatus.{dd, status_bits}
use Rattle.descriptors.specs.declared.rx_desc.RxDesc.{RxDesc}
use Rattle.rx_engine.specs.Descriptors.{descriptor_at}
use Rattle.rx_engine.specs.Pieces.{Piece}
use Rattle.adapter_model.specs.HostFrames.{finished_pieces, named, piece_in}
use Rattle.adapter_model.specs.Slots.{finished, slots_in_work, is_done, offered, outstanding}
use Rattle.adapter_model.specs.World.{World, receive_ring}
use Rattle.bus.specs.DriversSlots.{frame_named}
use Rattle.bus.proofs.Lists.{all-head, all-right}
use Rattle.bus.proofs.RunsOfSlots.{run-passed}
use Rattle.bus.proofs.Places.{outstanding-known}
use Rattle.bus.proofs.Stores.{status-bits}
use Rattle.bus.specs.DriverState.{DriverState, receive_slot}
use Rattle.bus.specs.OldestSlot.{ShowsSlot, slot_after_oldest}
use Rattle.bus.specs.ReadyDrivers.{ReadyWith}

-- Lists up to the first element that fails a test

pub cons-parts : (x y : ℕ) (xs ys : List ℕ) → x ∷ xs ≡ y ∷ ys → (x ≡ y) × (xs ≡ ys)
cons-parts x y xs ys same = (cc, cc)

no-longer : (b : Bool) (y : ℕ) (ys : List ℕ) → length (cond b (y ∷ ys) []) ≤ suc (length ys)
no-longer true y ys = omega arith
no-longer false y ys = omega arith

stops-before : (p : ℕ → Bool) (xs : List ℕ) (x : ℕ) (ys : List ℕ) → p x ≡ false → length (take_while p (xs ++ x ∷ ys)) ≤ length xs
stops-before p [] x ys fails =
    let none : take_while p (x ∷ ys) ≡ [] = take_while-cons p x ys ∙ ap (λ (b : Bool). cond b (x ∷ take_while p ys) []) fails in
    omega (arith, ap length none)
stops-before p (y ∷ xs) x ys fails = by_case (p y) refl (stops-before p xs x ys fails)
  where
    rest : List ℕ
    rest = xs ++ x ∷ ys

    by_case : (passes : Bool) → p y ≡ passes → length (take_while p rest) ≤ length xs
        → length (take_while p (y ∷ rest)) ≤ suc (length xs)
    by_case passes is short =
        let here : take_while p (y ∷ rest) ≡ cond passes (y ∷ take_while p rest) [] =
        take_while-cons p y rest ∙ ap (λ (b : Bool). cond b (y ∷ take_while p rest) []) is in
        omega (arith, ap length here, no-longer passes y (take_while p rest), short)

-- The longest front of the list whose elements pass the test contains all of `xs`, and then x.
record GoesPast (p : ℕ → Bool) (xs : List ℕ) (x : ℕ) (ys : List ℕ) : Type 0 where
  later : List ℕ
  is : take_while p (xs ++ x ∷ ys) ≡ xs ++ x ∷ later

goes-past : (p : ℕ → Bool) (xs : List ℕ) (x : ℕ) (ys rest : List ℕ) → p x ≡ true
    → xs ++ x ∷ ys ≡ take_while p (xs ++ x ∷ ys) ++ rest
    → All (λ y. p y ≡ false) rest
    → GoesPast p xs x ys
goes-past p [] x ys rest passes parts fail = record {
  later = take_while p ys;
  is = take_while-cons p x ys ∙ ap (λ (b : Bool). cond b (x ∷ take_while p ys) []) passes;
}
goes-past p (y ∷ xs) x ys rest passes parts fail = by_case (p y) refl (λ same. goes-past p xs x ys rest passes same fail)
  where
    Fails : ℕ → Type 0
    Fails z = p z ≡ false

    by_case : (here : Bool) → p y ≡ here → (xs ++ x ∷ ys ≡ take_while p (xs ++ x ∷ ys) ++ rest → GoesPast p xs x ys)
        → GoesPast p (y ∷ xs) x ys
    by_case true is further =
        let first : take_while p (y ∷ (xs ++ x ∷ ys)) ≡ y ∷ take_while p (xs ++ x ∷ ys) =
        take_while-cons p y (xs ++ x ∷ ys) ∙ ap (λ (b : Bool). cond b (y ∷ take_while p (xs ++ x ∷ ys)) []) is in
        let same : y ∷ (xs ++ x ∷ ys) ≡ y ∷ (take_while p (xs ++ x ∷ ys) ++ rest) =
        parts ∙ ap (λ (list : List ℕ). list ++ rest) first in
        let on = further (cons-parts y y (xs ++ x ∷ ys) (take_while p (xs ++ x ∷ ys) ++ rest) same).1 in
        record { later = on.later; is = first ∙ ap (λ (list : List ℕ). y ∷ list) on.is }
    by_case false is further =
        let none : take_while p (y ∷ (xs ++ x ∷ ys)) ≡ [] =
        take_while-cons p y (xs ++ x ∷ ys) ∙ ap (λ (b : Bool). cond b (y ∷ take_while p (xs ++ x ∷ ys)) []) is in
        let all : y ∷ (xs ++ x ∷ ys) ≡ rest = parts ∙ ap (λ (list : List ℕ). list ++ rest) none in
        let here : Fails x = all-head Fails x ys
        (all-right Fails (y ∷ xs) (x ∷ ys) (subst (λ (list : List ℕ). All Fails list) (sym all) fail)) in
        let both : true ≡ false = sym passes ∙ here in
        absurd (cc)

-- Outstanding slots

pub slots_from-append : (n from i j : ℕ) → slots_from n from (i + j) ≡ slots_from n from i ++ slots_from n (place n from i) j
slots_from-append n from zero j = let none : 0 + j ≡ j = omega arith in ap (slots_from n from) none
slots_from-append n from (suc i) j =
    let more : suc i + j ≡ suc (i + j) = omega arith in
    ap (slots_from n from) more ∙ ap (λ (slots : List ℕ). from ∷ slots) (slots_from-append n ((from + 1) % n) i j)

pub outstanding-slots : {up : Bool} (d : DriverState) (world : World) → ReadyWith up d world
    → outstanding (receive_ring world) d.oldest_receive
    ≡ map receive_slot (slots_from d.layout.rx d.oldest_receive (length d.buffers))
outstanding-slots {up} d world ready =
    outstanding-known (receive_ring world) 0 d.layout.rx d.oldest_receive (length d.buffers) ready.receive ready.driver_is.oldest_slot
    (omega (arith, ready.driver_is.room))
    ∙ from-zero (slots_from d.layout.rx d.oldest_receive (length d.buffers))
  where
    from-zero : (xs : List ℕ) → map (λ (slot : ℕ). 0 + 16 * slot) xs ≡ map receive_slot xs
    from-zero [] = refl
    from-zero (x ∷ xs) = let here : 0 + 16 * x ≡ 16 * x = omega arith in rw (here, from-zero xs) refl

pub finished-empty : {up : Bool} (d : DriverState) (world : World) → d.buffers ≡ [] → ReadyWith up d world
    → finished d.oldest_receive world ≡ []
finished-empty d world none ready =
    ap (take_while (is_done world.memory))
    (outstanding-slots d world ready
    ∙ ap (λ (list : List ℕ). map receive_slot (slots_from d.layout.rx d.oldest_receive (length list))) none)

pub pieces-empty : {up : Bool} (d : DriverState) (world : World) → d.buffers ≡ [] → ReadyWith up d world
    → finished_pieces d.oldest_receive world ≡ []
pieces-empty d world none ready = ap (map (piece_in world.memory)) (finished-empty d world none ready)

-- The list contains the k-th slot after the oldest at place k.
record HasSlot (d : DriverState) (k : ℕ) (slots : List ℕ) : Type 0 where
  before : List ℕ
  count : length before ≡ k
  after : List ℕ
  is : slots ≡ before ++ receive_slot (slot_after_oldest d k) ∷ after

slot-outstanding : {up : Bool} (d : DriverState) (world : World) (k : ℕ) → ReadyWith up d world → k < length d.buffers
    → HasSlot d k (outstanding (receive_ring world) d.oldest_receive)
slot-outstanding d world k ready below =
    let n = d.layout.rx in
    let o = d.oldest_receive in
    let more = length d.buffers - (k + 1) in
    let sum : length d.buffers ≡ k + suc more = omega (arith, below) in
    let first = slots_from n o k in
    let later = slots_from n ((place n o k + 1) % n) more in
    record {
      before = map receive_slot first;
      count = length-map first receive_slot ∙ length-slots_from n o k;
      after = map receive_slot later;
      is =
          outstanding-slots d world ready
          ∙ ap (λ (i : ℕ). map receive_slot (slots_from n o i)) sum
          ∙ ap (map receive_slot) (slots_from-append n o k (suc more))
          ∙ map-append receive_slot first (place n o k ∷ later);
    }

pub finished-lie : {up : Bool} (d : DriverState) (world : World) → ReadyWith up d world
    → All (λ slot. LiesIn world.memory (named world.memory slot).address (named world.memory slot).size)
    (finished d.oldest_receive world)
finished-lie d world ready =
    (run-passed d.oldest_receive world (finished d.oldest_receive world) [] ready.law.sound.receive_slots ready.law.sound.separate
    (sym (append-nil (finished d.oldest_receive world)))).lie

pub slot-shows : {up : Bool} (d : DriverState) (world : World) (k : ℕ) → ReadyWith up d world → k < length d.buffers
    → (let descriptor = descriptor_at world.memory (receive_slot (slot_after_oldest d k)) in
    ShowsSlot (is_set (status_bits descriptor.status) dd) k (finished_pieces d.oldest_receive world) descriptor)
slot-shows {up} d world k ready below =
    subst (λ (done : Bool). ShowsSlot done k pieces descriptor)
    (ap (λ (status : ℕ). is_set status dd) (sym (status-bits (bytes_at world.memory slot 16))))
    (by_case (is_done world.memory slot) refl)
  where
    o : ℕ
    o = d.oldest_receive

    slot : ℕ
    slot = receive_slot (slot_after_oldest d k)

    descriptor : RxDesc
    descriptor = descriptor_at world.memory slot

    test : ℕ → Bool
    test = is_done world.memory

    pieces : List Piece
    pieces = finished_pieces o world

    it : HasSlot d k (outstanding (receive_ring world) o)
    it = slot-outstanding d world k ready below

    by_case : (done : Bool) → test slot ≡ done → ShowsSlot done k pieces descriptor
    by_case true done =
        let rest = slots_in_work world ++ offered (receive_ring world) in
        let sound = ready.law.sound.receive_slots in
        let past = goes-past test it.before slot it.after rest done
        (subst (λ (list : List ℕ). list ≡ take_while test list ++ rest) it.is sound.classes) sound.not_done in
        let slots : finished o world ≡ it.before ++ slot ∷ past.later = ap (take_while test) it.is ∙ past.is in
        let piece = piece_in world.memory in
        let Lies : ℕ → Type 0 = λ s. LiesIn world.memory (named world.memory s).address (named world.memory s).size in
        let NoErrors : ℕ → Type 0 = λ s. (descriptor_at world.memory s).errors ≡ 0 in
        let lies = subst (λ (list : List ℕ). All Lies list) slots (finished-lie d world ready) in
        let errors = subst (λ (list : List ℕ). All NoErrors list) slots ready.law.whole.have_no_errors in
        record {
          before = map piece it.before;
          count = length-map it.before piece ∙ it.count;
          bytes = frame_named world slot;
          after = map piece past.later;
          is = ap (map piece) slots ∙ map-append piece it.before (slot ∷ past.later);
          size =
              sym (length-bytes_at world.memory (named world.memory slot).address (named world.memory slot).size
              (all-head Lies slot past.later (all-right Lies it.before (slot ∷ past.later) lies)));
          has_no_errors = all-head NoErrors slot past.later (all-right NoErrors it.before (slot ∷ past.later) errors);
        }
    by_case false clear =
        let short = stops-before test it.before slot it.after clear in
        omega (
          arith,
          short,
          it.count,
          length-map (finished o world) (piece_in world.memory),
          ap (λ (list : List ℕ). length (take_while test list)) it.is,
        )
