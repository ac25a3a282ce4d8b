-- What a driver does with its receive slots over a bus.
use Rattle.std.proofs.Common.{◌≡◌, ◌≤◌, ◌<◌, ◌+◌, ◌*◌, ◌-◌, ◌%◌, ◌++◌, ◌∷◌, []}
use Rattle.std.proofs.Common.{Bool, ℕ, suc, List, length, map, take, drop}
use Rattle.std.proofs.Common.{refl, sym, ap, subst, ◌∙◌, append_assoc, length-append, arith}
use Rattle.std.specs.List.{All, concat}
use Rattle.std.proofs.lemmas.List.{append-nil, drop-drop, drop-take, map-append, take-take}
use Rattle.std.proofs.lemmas.List.Folds.{concat-append}
use Rattle.registers.specs.Bits.{is_set}
use Rattle.dma_memory.specs.HostMemory.{bytes_at}
use Rattle.dma_memory.specs.Layout.{Counts, receive_buffer_bytes}
use Rattle.descriptors.specs.Frames.{longest_frame}
use Rattle.dma_memory.specs.Owners.{HaveSameNumbers}
use Rattle.descriptors.specs.Ring.{slots_from}
use Rattle.descriptors.specs.RingLaws.{place}
use Rattle.descriptors.specs.RxDesc.{rx_desc_of}
use Rattle.descriptors.specs.RxStatus.{dd, status_bits}
use Rattle.rx_engine.specs.Pieces.{Piece, parts}
use Rattle.rx_engine.specs.Pieces.Piece.{Last}
use Rattle.adapter_model.specs.HostFrames.{finished_pieces}
use Rattle.adapter_model.specs.World.{World, world_after_store, world_after_write}
use Rattle.bus.specs.RegisterSetting.{with_tail}
use Rattle.bus.specs.Keeping.{view_of}
use Rattle.bus.specs.Law.{Acts}
use Rattle.bus.specs.Pasts.{nothing}
use Rattle.bus.specs.declared.event.Access.{Access}
use Rattle.bus.specs.declared.event.Access.TheVariants.{Loads, Stores, Writes}
use Rattle.bus.proofs.Lists.{all-head, all-right}
use Rattle.bus.proofs.KnownRings.{receive_tail-written}
use Rattle.bus.proofs.DriverAccesses.{load-sets, ran_by-acts, ran_by-itself, store-sets, write-sets}
use Rattle.bus.proofs.StagedSlotOffers.{staged_can_be_offered}
use Rattle.bus.proofs.Places.{place-add, place-below}
use Rattle.bus.proofs.SeenSlots.{slot-shows, slots_from-append}
use Rattle.bus.proofs.Steps.{goes-happens, goes-stays}
use Rattle.bus.proofs.Stores.{slots_can_be_staged}
use Rattle.bus.proofs.TakenSlots.{numbers-in, oldest-contain, parts_are_few, run_can_be_taken, run_is_of_frame}
use Rattle.bus.specs.Calls.{GoesTo, Ran, at, call_did, driver_did, driver_in, ether_type_load, only, receive_loads, stores_from}
use Rattle.bus.specs.Calls.{takes_from}
use Rattle.bus.specs.DriverState.{
  DriverState,
  HandedOut,
  buffer_at,
  frame_of,
  next_receive,
  piece_numbers,
  receive_slot,
  with_owners,
}
use Rattle.bus.specs.OldestSlot.{LooksAtSlot, ShowsSlot, slot_after_oldest}
use Rattle.bus.specs.ReadyDrivers.{ReadyWith, Stands, empty_descriptor}
use Rattle.bus.specs.ReceiveSteps.{AreOfFrame, ContainFrame, after_slots, pieces_in}
use Rattle.bus.specs.declared.bus.Bus.{Ghosts}

-- The lists of accesses grow at their ends

pub stores-append : (counts : Counts) (slot : ℕ) (xs ys : List ℕ)
    → stores_from counts slot (xs ++ ys) ≡ stores_from counts slot xs ++ stores_from counts (place counts.rx slot (length xs)) ys
stores-append counts slot [] ys = refl
stores-append counts slot (number ∷ xs) ys =
    ap (λ (list : List Access). Stores (receive_slot slot) (empty_descriptor (buffer_at counts number)) ∷ list)
    (stores-append counts ((slot + 1) % counts.rx) xs ys)

pub loads-append : (counts : Counts) (slot n m : ℕ)
    → receive_loads counts slot (n + m) ≡ receive_loads counts slot n ++ receive_loads counts (place counts.rx slot n) m
loads-append counts slot n m =
    let load : ℕ → Access = λ place. Loads (receive_slot place) 16 in
    ap (map load) (slots_from-append counts.rx slot n m)
    ∙ map-append load (slots_from counts.rx slot n) (slots_from counts.rx (place counts.rx slot n) m)

pub loads-push : (counts : Counts) (slot n : ℕ)
    → receive_loads counts slot (n + 1) ≡ receive_loads counts slot n ++ Loads (receive_slot (place counts.rx slot n)) 16 ∷ []
loads-push counts slot n = loads-append counts slot n 1

pub takes-push : (counts : Counts) (slot : ℕ) (taken : List (List ℕ)) (numbers : List ℕ)
    → takes_from counts slot (taken ++ numbers ∷ [])
    ≡ takes_from counts slot taken
    ++ (receive_loads counts (place counts.rx slot (length (concat taken))) (length numbers) ++ ether_type_load counts numbers)
takes-push counts slot [] numbers =
    ap (λ (list : List Access). receive_loads counts slot (length numbers) ++ list) (append-nil (ether_type_load counts numbers))
takes-push counts slot (first ∷ taken) numbers =
    let n = length first in
    let loads = receive_loads counts slot n in
    let read = ether_type_load counts first in
    let before = takes_from counts (place counts.rx slot n) taken in
    let more : ℕ → List Access = λ at. receive_loads counts at (length numbers) ++ ether_type_load counts numbers in
    let at : place counts.rx (place counts.rx slot n) (length (concat taken)) ≡ place counts.rx slot (length (concat (first ∷ taken))) =
    sym (ap (place counts.rx slot) (length-append first (concat taken)) ∙ place-add counts.rx slot n (length (concat taken))) in
    let after = more (place counts.rx slot (length (concat (first ∷ taken)))) in
    ap (λ (list : List Access). loads ++ (read ++ list)) (takes-push counts (place counts.rx slot n) taken numbers
    ∙ ap (λ (place : ℕ). before ++ more place) at)
    ∙ ap (λ (list : List Access). loads ++ list) (sym (append_assoc read before after))
    ∙ sym (append_assoc loads (read ++ before) after)

-- A store of an empty descriptor to the next slot, with a buffer of the pool, stages this slot.
pub ran_by-stages : {up : Bool} {B : Type 0} (bus : Ghosts B) (old new : B) (d : DriverState) (m address : ℕ) (pool bytes : List ℕ)
    → length d.buffers + length d.staged + 1 < d.layout.rx → m < d.layout.buffers → HaveSameNumbers d.pool (m ∷ pool)
    → address ≡ receive_slot (next_receive d) → bytes ≡ empty_descriptor (buffer_at d.layout m)
    → Acts (view_of bus) old new (Stores address bytes) (λ before after. after ≡ world_after_store address bytes before)
    → ReadyWith up d (bus.world old)
    → Ran bus up (only (stores_from d.layout (next_receive d) (m ∷ []))) (at old d)
    (at new (with_owners d d.buffers (d.staged ++ m ∷ []) pool d.handed_out))
ran_by-stages {up} bus old new d m address pool bytes room known moves address_is is acts ready =
    let d' = with_owners d d.buffers (d.staged ++ m ∷ []) pool d.handed_out in
    let slot = receive_slot (next_receive d) in
    let access : Stores address bytes ≡ Stores slot (empty_descriptor (buffer_at d.layout m)) = ap (λ (x : ℕ). Stores x bytes) address_is
    ∙ ap (Stores slot) is in
    subst (λ (one : Access). Ran bus up (only (one ∷ [])) (at old d) (at new d')) access
    (ran_by-acts bus old new (Stores address bytes)
    (λ before after. after ≡ world_after_store address bytes before) d d' [] [] acts (store-sets address bytes (bus.world new)) ready
    (λ middle set stored.
    let done = stored ∙ ap (λ (x : ℕ). world_after_store x bytes middle) address_is
    ∙ ap (λ (list : List ℕ). world_after_store slot list middle) is in
    subst (λ (w : World). GoesTo up (driver_in d middle) (driver_in d' w) (driver_did [] []) nothing) (sym done)
    (slots_can_be_staged up d m pool middle set room known moves)))

-- A write of RDT with the place after the staged slots offers all staged slots.
pub ran_by-offers : {up : Bool} {B : Type 0} (bus : Ghosts B) (old new : B) (d : DriverState) (value : ℕ) → value ≡ next_receive d
    → Acts (view_of bus) old new (Writes 0x2818 value) (λ before after. after ≡ world_after_write 0x2818 value before)
    → ReadyWith up d (bus.world old)
    → Ran bus up (only (Writes 0x2818 (next_receive d) ∷ [])) (at old d)
    (at new (with_owners d (d.buffers ++ d.staged) [] d.pool d.handed_out))
ran_by-offers {up} bus old new d value value_is acts ready =
    let d' = with_owners d (d.buffers ++ d.staged) [] d.pool d.handed_out in
    let below : value < 65536 = omega (
      arith,
      value_is,
      ready.receive.slots,
      place-below d.layout.rx d.oldest_receive
          (length d.buffers + length d.staged) ready.driver_is.oldest_slot,
    ) in
    subst (λ (place : ℕ). Ran bus up (only (Writes 0x2818 place ∷ [])) (at old d) (at new d')) value_is
    (ran_by-acts bus old new (Writes 0x2818 value)
    (λ before after. after ≡ world_after_write 0x2818 value before) d d' [] [] acts (write-sets 0x2818 value (bus.world new)) ready
    (λ middle set written.
    let done = written ∙ receive_tail-written value middle below ∙ ap (λ (place : ℕ). with_tail place middle) value_is in
    subst (λ (w : World). GoesTo up (driver_in d middle) (driver_in d' w) (driver_did [] []) nothing) (sym done)
    (staged_can_be_offered up d middle set)))

-- A load is an interval in which the driver doesn't change.
pub ran_by-reads : {up : Bool} {B : Type 0} (bus : Ghosts B) (old new : B) (d : DriverState) (address n : ℕ) (bytes : List ℕ)
    → Acts (view_of bus) old new (Loads address n)
    (λ before after. (bytes ≡ bytes_at before.memory address n) × (after ≡ before))
    → ReadyWith up d (bus.world old)
    → Ran bus up (only (Loads address n ∷ [])) (at old d) (at new d)
ran_by-reads {up} bus old new d address n bytes acts ready =
    ran_by-acts bus old new (Loads address n) (λ before after. (bytes ≡ bytes_at before.memory address n)
    × (after ≡ before)) d d [] [] acts
    (load-sets address n (λ before. bytes ≡ bytes_at before.memory address n) (bus.world new)) ready
    (λ middle set shows. subst (λ (w : World). GoesTo up (driver_in d middle) (driver_in d w) (driver_did [] []) nothing) (sym shows.1)
    (goes-stays d middle set))

-- The descriptor of an outstanding slot is loaded

-- the 16 bytes loaded are those in memory from this address on, and the load changes nothing
abbrev Shows : (address : ℕ) (bytes : List ℕ) → World → World → Type 0
Shows address bytes before after = (bytes ≡ bytes_at before.memory address 16) × (after ≡ before)

pub ran_by-looks : {up : Bool} {B : Type 0} (bus : Ghosts B) (old new : B) (d : DriverState) (k address : ℕ) (bytes : List ℕ)
    → k < length d.buffers → address ≡ receive_slot (slot_after_oldest d k)
    → Acts (view_of bus) old new (Loads address 16) (Shows address bytes)
    → ReadyWith up d (bus.world old)
    → LooksAtSlot bus up k (rx_desc_of bytes) (at old d) new
ran_by-looks {up} bus old new d k address bytes below address_is acts ready =
    let o = d.oldest_receive in
    let slot = receive_slot (slot_after_oldest d k) in
    let ran = ran_by-reads bus old new d address 16 bytes acts ready in
    let between = acts.before.between o d.oldest_transmit ready.law.sound in
    let shown : bytes ≡ bytes_at (bus.world new).memory slot 16 =
    acts.effect_is.0
    ∙ ap (λ (w : World). bytes_at w.memory address 16) (sym acts.effect_is.1)
    ∙ ap (λ (place : ℕ). bytes_at (bus.world new).memory place 16) address_is in
    record {
      ran = subst (λ (place : ℕ). Ran bus up (only (Loads place 16 ∷ [])) (at old d) (at new d)) address_is ran;
      more = between.receive.pieces;
      grows = ap (finished_pieces o) acts.effect_is.1 ∙ between.receive.grown;
      shows = subst
          (λ (list : List ℕ). ShowsSlot (is_set (status_bits (rx_desc_of list).status) dd) k (finished_pieces o (bus.world new))
          (rx_desc_of list)) (sym shown) (slot-shows d (bus.world new) k ran.goes.flows.ready below);
    }

-- A frame is taken off the ring

pub ran_by-run : {up : Bool} {B : Type 0} (bus : Ghosts B) → ((b : B) → bus.happened b b nothing)
    → (b : B) (d : DriverState) (numbers run : List ℕ) (seen : List (List ℕ)) (last : List ℕ) → ReadyWith up d (bus.world b)
    → (contain : ContainFrame d (bus.world b) numbers run seen last)
    → Ran bus up (call_did [] ((concat seen ++ last) ∷ []) []) (at b d)
    (at b (after_slots d (length numbers) contain.others (d.handed_out ++ pieces_in (bus.world b) run numbers)))
ran_by-run {up} bus stays b d numbers run seen last ready contain =
    ran_by-itself bus stays b d _ ((concat seen ++ last) ∷ []) [] (run_can_be_taken up d numbers run seen last (bus.world b) ready contain)

-- The oldest finished slots contain a frame, with the parts `seen` and the last piece `last`. The driver takes these slots without an
-- access, and others then hold the frame's pieces.
pub record TakesFrame {B : Type 0} (bus : Ghosts B) (up : Bool) (seen : List (List ℕ)) (last : List ℕ) (b : B) (d : DriverState)
    : Type 0 where
  pub pieces : List HandedOut
  pub numbers : piece_numbers pieces ≡ take (suc (length seen)) d.buffers
  pub bytes : map (λ (one : HandedOut). one.bytes) pieces ≡ seen ++ last ∷ []
  pub frame : frame_of pieces ≡ concat seen ++ last
  pub is : AreOfFrame seen last
  pub few : receive_buffer_bytes * length seen ≤ longest_frame
  pub size : length (take (suc (length seen)) d.buffers) ≡ suc (length seen)
  pub ran : Ran bus up (call_did [] ((concat seen ++ last) ∷ []) []) (at b d)
      (at b (after_slots d (suc (length seen)) (drop (suc (length seen)) d.buffers) (d.handed_out ++ pieces)))

pub ran_by-takes : {up : Bool} {B : Type 0} (bus : Ghosts B) → ((b : B) → bus.happened b b nothing)
    → (b : B) (d : DriverState) (seen : List (List ℕ)) (last : List ℕ) (later : List Piece) → ReadyWith up d (bus.world b)
    → finished_pieces d.oldest_receive (bus.world b) ≡ parts seen ++ Last last ∷ later
    → TakesFrame bus up seen last b d
ran_by-takes {up} bus stays b d seen last later ready is =
    let k = suc (length seen) in
    let world = bus.world b in
    let oldest = oldest-contain d world seen last later ready is in
    let numbers = take k d.buffers in
    let pieces = pieces_in world oldest.run numbers in
    let frame = run_is_of_frame up d numbers oldest.run seen last world ready oldest.contain in
    let ran = ran_by-run bus stays b d numbers oldest.run seen last ready oldest.contain in
    let did = call_did [] ((concat seen ++ last) ∷ []) [] in
    record {
      pieces = pieces;
      numbers = numbers-in world oldest.run numbers oldest.contain.count;
      bytes = frame.1;
      frame = ap concat frame.1 ∙ concat-append seen (last ∷ [])
          ∙ ap (λ (list : List ℕ). concat seen ++ list) (append-nil last);
      is = frame.0;
      few = parts_are_few up d seen (Last last ∷ later) world ready is;
      size = oldest.size;
      ran =
          subst (λ (others : List ℕ). Ran bus up did (at b d) (at b (after_slots d k others (d.handed_out ++ pieces)))) oldest.others
          (subst (λ (n : ℕ). Ran bus up did (at b d) (at b (after_slots d n oldest.contain.others (d.handed_out ++ pieces))))
          oldest.size ran);
    }

-- Bytes that are read from a piece that others hold are bytes of this piece.
pub frame-read : {up : Bool} {B : Type 0} (bus : Ghosts B) (old new : B) (d : DriverState) (first later : List HandedOut) (one : HandedOut)
    (address from n : ℕ) (bytes : List ℕ)
    → Acts (view_of bus) old new (Loads address n)
    (λ before after. (bytes ≡ bytes_at before.memory address n) × (after ≡ before))
    → ReadyWith up d (bus.world old)
    → d.handed_out ≡ first ++ one ∷ later → address ≡ buffer_at d.layout one.number + from → from + n ≤ length one.bytes
    → bytes ≡ take n (drop from one.bytes)
frame-read {up} bus old new d first later one address from n bytes acts ready holds address_is fits =
    let middle = acts.middle in
    let set = (goes-happens d (bus.world old) middle acts.past ready acts.before).flows.ready in
    let P = Stands d.layout middle.memory in
    let stands : P one = all-head P one later (all-right P first (one ∷ later) (subst (All P) holds set.stand)) in
    let start = buffer_at d.layout one.number in
    acts.effect_is.0
    ∙ ap (λ (place : ℕ). bytes_at middle.memory place n) address_is
    ∙ inner middle.memory start from n (length one.bytes) fits
    ∙ ap (λ (piece : List ℕ). take n (drop from piece)) stands.bytes
  where
    inner : (memory : List ℕ) (start from n size : ℕ) → from + n ≤ size
        → bytes_at memory (start + from) n ≡ take n (drop from (bytes_at memory start size))
    inner memory start from n size fits =
        let xs = drop start memory in
        let whole : size ≡ from + (size - from) = omega arith in
        ap (take n) (sym (drop-drop from start memory))
        ∙ sym (take-take n (size - from) (drop from xs) (omega arith))
        ∙ ap (take n) (sym (drop-take from (size - from) xs) ∙ ap (λ (i : ℕ). drop from (take i xs)) (sym whole))
