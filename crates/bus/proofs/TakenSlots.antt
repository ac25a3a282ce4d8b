-- The oldest finished receive slots are taken if they contain a whole frame, and buffers return to the pool.
use Rattle.std.proofs.Common.{◌≡◌, ◌≤◌, ◌+◌, ◌++◌, ◌∷◌, [], ◌∙◌}
use Rattle.dma_memory.specs.Layout.{receive_buffer_bytes}
use Rattle.std.proofs.Common.{inl, Bool, ℕ, suc, List, length, map, take, drop, refl, sym, ap, subst}
use Rattle.std.proofs.Common.{length-append, arith}
use Rattle.std.specs.List.{All, concat, take-map}
use Rattle.std.proofs.lemmas.List.{append-nil, length-map, length-take, map-append, take-append-drop}
use Rattle.std.proofs.lemmas.List.Elements.{All-append, All-cons}
use Rattle.dma_memory.specs.HostMemory.{LiesIn, bytes_at}
use Rattle.dma_memory.specs.Laws.{length-bytes_at}
use Rattle.dma_memory.specs.Owners.{copies}
use Rattle.dma_memory.specs.OwnersLaws.{copies-append}
use Rattle.descriptors.specs.RingLaws.{length-slots_from, place}
use Rattle.descriptors.specs.Ring.{slots_from}
use Rattle.rx_engine.specs.Descriptors.{descriptor_at, named_address}
use Rattle.rx_engine.specs.Pieces.{Piece, frames_of, parts}
use Rattle.rx_engine.specs.Pieces.Piece.{Last, Part}
use Rattle.adapter_model.specs.Conditions.{AreCut, FitBuffers, Sound}
use Rattle.adapter_model.specs.HostFrames.{finished_pieces, frames_held, frames_to_send, named, piece_in}
use Rattle.adapter_model.specs.Slots.{finished, slots_in_work, offered, outstanding}
use Rattle.adapter_model.specs.World.{World, receive_ring}
use Rattle.bus.specs.DriversSlots.{frame_named}
use Rattle.bus.specs.Pasts.{nothing}
use Rattle.bus.specs.RunsOfSlots.{RunTaken, after_run}
use Rattle.bus.proofs.Lists.{all-head, all-left, all-none, all-tail}
use Rattle.bus.proofs.RunsOfSlots.{runs_can_be_taken}
use Rattle.bus.proofs.EndedFrames.{parts-few}
use Rattle.bus.proofs.Owners.{one_owner-dealt}
use Rattle.bus.proofs.Places.{place-add, place-below}
use Rattle.bus.proofs.SeenSlots.{cons-parts, finished-lie, outstanding-slots}
use Rattle.bus.proofs.Steps.{goes-passes, passes-same, same-frames}
use Rattle.bus.proofs.Intervals.{misses-stay}
use Rattle.bus.specs.DriverState.{DriverState, HandedOut, buffer_at, piece_numbers, receive_slot, receive_tail, with_owners}
use Rattle.bus.specs.ReadyDrivers.{AreStored, ReadyWith, Stands}
use Rattle.bus.specs.ReceiveSteps.{BuffersCanComeBack, ContainFrame, PartsAreFew, RunCanBeTaken, RunIsOfFrame, after_slots}
use Rattle.bus.specs.ReceiveSteps.{pieces_in}

append-parts : (xs ys xs' ys' : List ℕ) → length xs ≡ length xs' → xs ++ ys ≡ xs' ++ ys' → (xs ≡ xs') × (ys ≡ ys')
append-parts [] ys [] ys' count same = (refl, same)
append-parts [] ys (x' ∷ xs') ys' count same = absurd (omega (arith, count))
append-parts (x ∷ xs) ys [] ys' count same = absurd (omega (arith, count))
append-parts (x ∷ xs) ys (x' ∷ xs') ys' count same =
    let first = cons-parts x x' (xs ++ ys) (xs' ++ ys') same in
    let later = append-parts xs ys xs' ys' (omega (arith, count)) first.1 in
    (rw (first.0, later.0) refl, later.1)

-- The pieces in slots, with their buffers

pub numbers-in : (world : World) (run numbers : List ℕ) → length numbers ≡ length run → piece_numbers (pieces_in world run numbers)
    ≡ numbers
numbers-in world [] [] count = refl
numbers-in world [] (number ∷ numbers) count = absurd (omega (arith, count))
numbers-in world (slot ∷ run) [] count = absurd (omega (arith, count))
numbers-in world (slot ∷ run) (number ∷ numbers) count =
    ap (λ (list : List ℕ). number ∷ list) (numbers-in world run numbers (omega (arith, count)))

bytes-in : (world : World) (run numbers : List ℕ) → length numbers ≡ length run
    → map (λ (one : HandedOut). one.bytes) (pieces_in world run numbers) ≡ map (frame_named world) run
bytes-in world [] numbers count = refl
bytes-in world (slot ∷ run) [] count = absurd (omega (arith, count))
bytes-in world (slot ∷ run) (number ∷ numbers) count =
    ap (λ (list : List (List ℕ)). frame_named world slot ∷ list) (bytes-in world run numbers (omega (arith, count)))

-- memory contains the bytes of a finished slot
abbrev Lies : World → ℕ → Type 0
Lies world slot = LiesIn world.memory (named world.memory slot).address (named world.memory slot).size

abbrev Fits : World → ℕ → Type 0
Fits world slot = (named world.memory slot).size ≤ receive_buffer_bytes

pieces-stand : {up : Bool} (d : DriverState) (world : World) → ReadyWith up d world → (run numbers : List ℕ)
    → map (named_address world.memory) run ≡ map (buffer_at d.layout) numbers
    → All (Lies world) run → All (Fits world) run
    → All (Stands d.layout world.memory) (pieces_in world run numbers)
pieces-stand d world ready [] numbers names lie fit = all-none (Stands d.layout world.memory)
pieces-stand d world ready (slot ∷ run) [] names lie fit = all-none (Stands d.layout world.memory)
pieces-stand d world ready (slot ∷ run) (number ∷ numbers) names lie fit =
    let desc = descriptor_at world.memory slot in
    let same = cons-parts _ _ (map (named_address world.memory) run) (map (buffer_at d.layout) numbers) names in
    let stands : frame_named world slot ≡ bytes_at world.memory (buffer_at d.layout number) desc.length =
    ap (λ (place : ℕ). bytes_at world.memory place desc.length) same.0 in
    let size : length (frame_named world slot) ≡ desc.length =
    length-bytes_at world.memory desc.address desc.length (all-head (Lies world) slot run lie) in
    All-cons (Stands d.layout world.memory) (record { number = number; bytes = frame_named world slot }) (pieces_in world run numbers)
    (record {
      bytes = ap (bytes_at world.memory (buffer_at d.layout number)) size ∙ sym stands;
      short = omega (arith, size, all-head (Fits world) slot run fit);
    })
    (pieces-stand d world ready run numbers same.1 (all-tail (Lies world) slot run lie) (all-tail (Fits world) slot run fit))

-- What the bus law states after a run of slots was taken: `next` is the place of the oldest slot then.
record IsNextOldest (d : DriverState) (world : World) (run later : List ℕ) (frame : List ℕ) (next : ℕ) : Type 0 where
  sound : Sound next d.oldest_transmit world
  held : frames_held d.oldest_receive world ≡ frame ∷ frames_held next world
  ended : frames_of (finished_pieces d.oldest_receive world) ≡ frame ∷ frames_of (finished_pieces next world)
  first : outstanding (receive_ring world) d.oldest_receive ≡ run ++ outstanding (receive_ring world) next
  fits : FitBuffers receive_buffer_bytes next world
  whole : AreCut receive_buffer_bytes next world

run-taken : {up : Bool} (d : DriverState) (numbers run : List ℕ) (seen : List (List ℕ)) (last : List ℕ) (world : World)
    → ReadyWith up d world
    → (contain : ContainFrame d world numbers run seen last)
    → RunTaken d.oldest_receive d.oldest_transmit world run seen last
run-taken d numbers run seen last world ready contain =
    runs_can_be_taken d.oldest_receive d.oldest_transmit world run seen last contain.later ready.law.sound contain.slots contain.pieces

pub run_can_be_taken : RunCanBeTaken
run_can_be_taken up d numbers run seen last a ready contain =
    let n = d.layout.rx in
    let o = d.oldest_receive in
    let ring = receive_ring a in
    let others = contain.others in
    let next = place n o (length numbers) in
    let pieces = pieces_in a run numbers in
    let d' = after_slots d (length numbers) others (d.handed_out ++ pieces) in
    let frame = concat seen ++ last in
    let taken = run-taken d numbers run seen last a ready contain in
    let here : IsNextOldest d a run contain.later frame (after_run o run a) = record {
      sound = taken.sound;
      held = taken.frame.held;
      ended = taken.frame.ended;
      first = taken.slots.first;
      fits = taken.fits receive_buffer_bytes ready.law.fit;
      whole = (taken.cut receive_buffer_bytes ready.law.whole).others;
    } in
    let at : IsNextOldest d a run contain.later frame next = subst (IsNextOldest d a run contain.later frame)
    (ap (λ (count : ℕ). place count o (length run)) ready.receive.slots ∙ ap (place n o) (sym contain.count)) here in
    let count : length d.buffers ≡ length numbers + length others = ap length contain.buffers ∙ length-append numbers others in
    let tail : receive_tail d ≡ place n next (length others) = ap (place n o) count ∙ place-add n o (length numbers) (length others) in
    let address = named_address a.memory in
    let buffer = buffer_at d.layout in
    let names : map address run ++ map address (outstanding ring next) ≡ map buffer numbers ++ map buffer others =
    sym (ap (map address) at.first ∙ map-append address run (outstanding ring next)) ∙ ready.slots.names
    ∙ ap (map buffer) contain.buffers ∙ map-append buffer numbers others in
    let same = append-parts (map address run) (map address (outstanding ring next)) (map buffer numbers) (map buffer others)
    (omega (arith, length-map run address, length-map numbers buffer, contain.count)) names in
    let held_by : piece_numbers (d.handed_out ++ pieces) ≡ piece_numbers d.handed_out ++ numbers =
    map-append (λ (entry : HandedOut). entry.number) d.handed_out pieces
    ∙ ap (λ (list : List ℕ). piece_numbers d.handed_out ++ list) (numbers-in a run numbers contain.count) in
    let lie = all-left (Lies a) run contain.later
    (subst (λ (list : List ℕ). All (Lies a) list) contain.slots (finished-lie d a ready)) in
    let fit = all-left (Fits a) run contain.later
    (subst (λ (list : List ℕ). All (Fits a) list) contain.slots ready.law.fit.finished_fit) in
    record {
      flows = record {
        ready = record {
          driver_is = record {
            oldest_slot = place-below n o (length numbers) ready.driver_is.oldest_slot;
            room = omega (arith, ready.driver_is.room, count);
            one_owner =
                one_owner-dealt d.layout.buffers d d'
                (λ k. omega (
                  arith,
                  ap (copies k) contain.buffers,
                  copies-append k numbers others,
                  ap (copies k) held_by,
                  copies-append k (piece_numbers d.handed_out) numbers,
                ))
                ready.driver_is.one_owner;
            allowed = ready.driver_is.allowed;
          };
          law = record {
            sound = at.sound;
            runs = ready.law.runs;
            fit = at.fits;
            whole = at.whole;
          };
          lies = ready.lies;
          receive = record {
            begins = ready.receive.begins;
            slots = ready.receive.slots;
            last = ready.receive.last ∙ tail;
            head_slot = ready.receive.head_slot;
          };
          transmit = ready.transmit;
          slots = record {
            names = same.1;
            stored = subst (λ (place : ℕ). AreStored a.memory d.layout place d.staged) tail ready.slots.stored;
          };
          stand = All-append (Stands d.layout a.memory) d.handed_out pieces ready.stand (pieces-stand d a ready run numbers same.0 lie fit);
        };
        layout = refl;
        sends = sym (append-nil (frames_to_send a));
        holds = sym at.held ∙ sym (append-nil (frames_held o a));
        least = omega (arith, ap length at.ended);
        frees = omega arith;
        mask = refl;
        misses = misses-stay d d' a a refl refl refl;
      };
      causes = λ place has. has;
      recorded = inl (omega (arith, ap length at.ended));
    }

pub run_is_of_frame : RunIsOfFrame
run_is_of_frame up d numbers run seen last a ready contain =
    let taken = run-taken d numbers run seen last a ready contain in
    let cut = taken.cut receive_buffer_bytes ready.law.whole in (
      record {
        legal = cut.legal;
        full = cut.full;
        last_size = cut.last_size;
      },
      bytes-in a run numbers contain.count ∙ taken.frame.bytes,
    )

pub parts_are_few : PartsAreFew
parts_are_few up d seen later world ready is = parts-few d.oldest_receive world seen later ready.law.whole is

-- The pieces show which slots contain the frame: the first slots, with the first buffers

length-parts : (seen : List (List ℕ)) (later : List Piece) → length (parts seen ++ later) ≡ length seen + length later
length-parts [] later = omega arith
length-parts (bytes ∷ seen) later = omega (arith, length-parts seen later)

take-parts : (seen : List (List ℕ)) (last : List ℕ) (later : List Piece)
    → take (suc (length seen)) (parts seen ++ Last last ∷ later) ≡ parts seen ++ Last last ∷ []
take-parts [] last later = refl
take-parts (bytes ∷ seen) last later = ap (λ (list : List Piece). Part bytes ∷ list) (take-parts seen last later)

pub record OldestContain (d : DriverState) (world : World) (seen : List (List ℕ)) (last : List ℕ) : Type 0 where
  pub run : List ℕ
  pub contain : ContainFrame d world (take (suc (length seen)) d.buffers) run seen last
  pub others : contain.others ≡ drop (suc (length seen)) d.buffers
  pub size : length (take (suc (length seen)) d.buffers) ≡ suc (length seen)

pub oldest-contain : {up : Bool} (d : DriverState) (world : World) (seen : List (List ℕ)) (last : List ℕ) (later : List Piece)
    → ReadyWith up d world
    → finished_pieces d.oldest_receive world ≡ parts seen ++ Last last ∷ later
    → OldestContain d world seen last
oldest-contain d world seen last later ready is =
    let k = suc (length seen) in
    let slots = finished d.oldest_receive world in
    let piece = piece_in world.memory in
    let all = ap length (outstanding-slots d world ready) in
    let most : length slots ≤ length d.buffers = omega (
      arith,
      ap length ready.law.sound.receive_slots.classes,
      length-append slots (slots_in_work world ++ offered (receive_ring world)),
      all,
      length-map (slots_from d.layout.rx d.oldest_receive (length d.buffers)) receive_slot,
      length-slots_from d.layout.rx d.oldest_receive (length d.buffers),
    ) in
    let some : k ≤ length slots = omega
    (arith, ap length is, length-map slots piece, length-parts seen (Last last ∷ later)) in
    record {
      run = take k slots;
      contain = record {
        others = drop k d.buffers;
        buffers = sym (take-append-drop k d.buffers);
        later = drop k slots;
        slots = sym (take-append-drop k slots);
        count = omega (arith, length-take k slots, length-take k d.buffers, most);
        pieces = sym (take-map piece k slots) ∙ ap (take k) is ∙ take-parts seen last later;
      };
      others = refl;
      size = omega (arith, length-take k d.buffers, most, some);
    }

pub buffers_can_come_back : BuffersCanComeBack
buffers_can_come_back up d pool handed_out a ready moves stand =
    goes-passes d d.buffers d.staged pool handed_out a a nothing
    (passes-same d.oldest_receive d.oldest_transmit a a
    (same-frames d.oldest_receive d.oldest_transmit a ready.law.sound) refl refl)
    (record {
      driver_is = record {
        oldest_slot = ready.driver_is.oldest_slot;
        room = ready.driver_is.room;
        one_owner = one_owner-dealt d.layout.buffers d (with_owners d d.buffers d.staged pool handed_out)
            (λ k. omega (arith, moves k)) ready.driver_is.one_owner;
        allowed = ready.driver_is.allowed;
      };
      law = ready.law;
      lies = ready.lies;
      receive = ready.receive;
      transmit = ready.transmit;
      slots = record { names = ready.slots.names; stored = ready.slots.stored };
      stand = stand;
    })
