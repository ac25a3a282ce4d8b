-- What a driver sees of its oldest slots, load by load.
use Rattle.std.proofs.Common.{◌≡◌, ◌≤◌, ◌<◌, ◌+◌, ◌++◌, ◌∷◌, [], Bool, true}
use Rattle.std.proofs.Common.{false, ℕ, suc, List, length, length-append, map, set, take, drop}
use Rattle.std.proofs.Common.{refl, sym, ap, subst, ◌∙◌, append_assoc, arith, sum}
use Rattle.std.specs.Prelude.{IsTrue}
use Rattle.std.specs.List.{All, concat}
use Rattle.std.proofs.lemmas.List.{append-nil, drop_at, length-map, map-append, nil_from_length, take_more_set}
use Rattle.std.proofs.lemmas.List.Elements.{All-append, All-cons}
use Rattle.std.proofs.lemmas.List.Sums.{sum_by_push}
use Rattle.registers.specs.Bits.{is_set}
use Rattle.dma_memory.specs.Layout.{receive_buffer_bytes}
use Rattle.descriptors.specs.Frames.{IsLegal}
use Rattle.descriptors.specs.Ring.{slots_from}
use Rattle.descriptors.specs.RingLaws.{length-slots_from}
use Rattle.descriptors.specs.RxStatus.{dd, status_bits}
use Rattle.descriptors.specs.declared.rx_desc.RxDesc.{RxDesc}
use Rattle.rx_engine.specs.Held.{in_work, piece_of}
use Rattle.rx_engine.specs.PieceLaws.{begun-parts, frames-append, frames-parts}
use Rattle.rx_engine.specs.Pieces.{IsCut, IsLastSize, Piece, begun_from, frames_from, frames_of, parts}
use Rattle.rx_engine.specs.Pieces.Piece.{Last, Part}
use Rattle.adapter.specs.HostFrames.{finished_pieces, piece_in, pieces_in_slots}
use Rattle.adapter.specs.Slots.{finished, slots_in_work as slot_in_work, offered}
use Rattle.adapter.specs.World.{World, receive_ring}
use Rattle.adapter.proofs.Lists.{all-head, all-left, all-none, all-right, all-weaker}
use Rattle.adapter.specs.Pasts.{Past, joined, nothing}
use Rattle.adapter.specs.bus_types.bus.Bus.{Ghosts}
use Rattle.adapter.specs.bus_types.event.Access.{Access}
use Rattle.adapter.proofs.DriverAccesses.{ran_by-stays}
use Rattle.adapter.proofs.Calls.{ran-on}
use Rattle.adapter.proofs.ReceiveAccesses.{loads-push}
use Rattle.adapter.proofs.SeenSlots.{outstanding-slots}
use Rattle.adapter.proofs.TakenSlots.{parts_are_few}
use Rattle.adapter.specs.Calls.{Ran, at, only, receive_loads}
use Rattle.adapter.specs.DriverState.{DriverState, receive_slot}
use Rattle.adapter.specs.OldestSlot.{IsSeen, LooksAtSlot, ShowsSlot}
use Rattle.adapter.specs.ReadyDrivers.{ReadyWith}
use Rattle.driver.specs.Looks.{FindsFrame, FindsNoFrame, IsPartSize, IsSoundPart, ends}
use Rattle.driver.specs.Parts.{AreFull, FillBuffers, FitIntoBuffers, IsFrameSize}
use Rattle.driver.specs.declared.look.Run.{Run}

-- The first of these pieces are the beginning of a frame, `seen`, and the run consists of their slots. The end of this frame wasn't seen
-- yet.
pub record Sees (pieces : List Piece) (run : Run) : Type 0 where
  pub seen : List (List ℕ)
  pub later : List Piece
  pub is : pieces ≡ parts seen ++ later
  pub count : run.count ≡ length seen
  pub lengths : take run.count run.lengths ≡ map length seen
  pub length_is : run.length ≡ length (concat seen)
  pub whole : IsTrue run.whole

-- The first of these pieces are those of a whole frame, and the run consists of their slots.
pub record SeesFrame (pieces : List Piece) (run : Run) : Type 0 where
  pub seen : List (List ℕ)
  pub last : List ℕ
  pub later : List Piece
  pub is : pieces ≡ parts seen ++ Last last ∷ later
  pub count : run.count ≡ length seen + 1
  pub lengths : take run.count run.lengths ≡ map length (seen ++ last ∷ [])
  pub length_is : run.length ≡ length (concat seen ++ last)

pub sees-none : (pieces : List Piece) (run : Run) → run.count ≡ 0 → run.length ≡ 0 → IsTrue run.whole → Sees pieces run
sees-none pieces run none empty whole = record {
  seen = [];
  later = pieces;
  is = refl;
  count = none;
  lengths = ap (λ (n : ℕ). take n run.lengths) none;
  length_is = empty;
  whole = whole;
}

pub sees-kept : (first pieces more : List Piece) (run : Run) → pieces ≡ first ++ more → Sees first run → Sees pieces run
sees-kept first pieces more run grown sees = record {
  seen = sees.seen;
  later = sees.later ++ more;
  is = grown ∙ ap (λ (list : List Piece). list ++ more) sees.is ∙ append_assoc (parts sees.seen) sees.later more;
  count = sees.count;
  lengths = sees.lengths;
  length_is = sees.length_is;
  whole = sees.whole;
}

pub length-parts : (seen : List (List ℕ)) → length (parts seen) ≡ length seen
length-parts [] = refl
length-parts (bytes ∷ seen) = ap (λ (n : ℕ). suc n) (length-parts seen)

pub seen-finished : (pieces : List Piece) (run : Run) → Sees pieces run → run.count ≤ length pieces
seen-finished pieces run sees =
    omega (arith, ap length sees.is, length-append (parts sees.seen) sees.later, length-parts sees.seen, sees.count)

pub none-ends : (pieces : List Piece) (run : Run) → Sees pieces run → length pieces ≤ run.count → frames_of pieces ≡ []
none-ends pieces run sees few =
    let long = length-append (parts sees.seen) sees.later in
    let none : sees.later ≡ [] =
    nil_from_length sees.later (omega (arith, ap length sees.is, long, length-parts sees.seen, few, sees.count)) in
    ap frames_of (sees.is ∙ ap (λ (later : List Piece). parts sees.seen ++ later) none ∙ append-nil (parts sees.seen))
    ∙ frames-parts [] sees.seen

-- The next slot is finished

pub record NextSeen (pieces : List Piece) (seen : List (List ℕ)) (desc : RxDesc) : Type 0 where
  pub bytes : List ℕ
  pub later : List Piece
  pub is : pieces ≡ parts seen ++ piece_of (ends desc) bytes ∷ later
  pub size : desc.length ≡ length bytes
  pub sound : IsSoundPart desc

part-size : (last : Bool) (n : ℕ) (bytes : List ℕ) → n ≡ length bytes → IsCut receive_buffer_bytes (piece_of last bytes) → IsPartSize last n
part-size true n bytes is cut = subst (IsLastSize receive_buffer_bytes) (sym is) cut
part-size false n bytes is cut = is ∙ cut

pub next-seen : (pieces : List Piece) (run : Run) (desc : RxDesc) → All (IsCut receive_buffer_bytes) pieces → (sees : Sees pieces run)
    → IsSeen run.count pieces desc → NextSeen pieces sees.seen desc
next-seen pieces run desc cut sees shown =
    let front = parts sees.seen in
    let next = piece_of (ends desc) shown.bytes in
    let later : sees.later ≡ next ∷ shown.after =
    sym (drop_at front sees.later run.count (omega (arith, length-parts sees.seen, sees.count)))
    ∙ ap (drop run.count) (sym sees.is ∙ shown.is) ∙ drop_at shown.before (next ∷ shown.after) run.count shown.count in
    let is : pieces ≡ front ++ next ∷ shown.after = sees.is ∙ ap (λ (list : List Piece). front ++ list) later in
    let own = all-head (IsCut receive_buffer_bytes) next shown.after
    (all-right (IsCut receive_buffer_bytes) front (next ∷ shown.after)
    (subst (λ (list : List Piece). All (IsCut receive_buffer_bytes) list) is cut)) in
    record {
      bytes = shown.bytes;
      later = shown.after;
      is = is;
      size = shown.size;
      sound = record { no_errors = shown.has_no_errors; size = part-size (ends desc) desc.length shown.bytes shown.size own };
    }

-- One more slot in a run

pub record IsAdded (run run' : Run) (desc : RxDesc) : Type 0 where
  pub lengths : take run'.count run'.lengths ≡ take run.count run.lengths ++ desc.length ∷ []
  pub length_is : run'.length ≡ run.length + desc.length
  pub count : run'.count ≡ run.count + 1

pub is-added : (run run' : Run) (desc : RxDesc) → run.count < 6 → length run.lengths ≡ 6
    → run'.lengths ≡ set run.lengths run.count desc.length → run'.count ≡ run.count + 1 → run'.length ≡ run.length + desc.length
    → IsAdded run run' desc
is-added run run' desc few six lengths count sum = record {
  lengths = rw (lengths, count) (take_more_set run.lengths run.count desc.length (omega (arith, few, six)));
  length_is = sum;
  count = count;
}

pub sum-added : (run run' : Run) (desc : RxDesc) → IsAdded run run' desc → run.length ≡ sum (take run.count run.lengths)
    → run'.length ≡ sum (take run'.count run'.lengths)
sum-added run run' desc added is =
    added.length_is ∙ ap (λ (n : ℕ). n + desc.length) is
    ∙ sym (ap sum added.lengths ∙ sum_by_push (λ (n : ℕ). n) (take run.count run.lengths) desc.length)

-- Each slot of a whole frame before its last is full

pub full-none : (run : Run) → run.count ≡ 0 → AreFull (take run.count run.lengths)
full-none run none = subst (λ (n : ℕ). AreFull (take n run.lengths)) (sym none) (all-none (λ (size : ℕ). size ≡ receive_buffer_bytes))

pub full-added : (run run' : Run) (desc : RxDesc) → IsAdded run run' desc → ends desc ≡ false → IsSoundPart desc
    → AreFull (take run.count run.lengths) → AreFull (take run'.count run'.lengths)
full-added run run' desc added part sound full =
    let Full : ℕ → Type 0 = λ size. size ≡ receive_buffer_bytes in
    let one : desc.length ≡ receive_buffer_bytes = subst (λ (last : Bool). IsPartSize last desc.length) part sound.size in
    subst AreFull (sym added.lengths)
    (All-append Full (take run.count run.lengths) (desc.length ∷ []) full (All-cons Full desc.length [] one (all-none Full)))

pub fills-added : (run run' : Run) (desc : RxDesc) → IsAdded run run' desc → ends desc ≡ true → IsSoundPart desc
    → AreFull (take run.count run.lengths) → FillBuffers (take run'.count run'.lengths)
fills-added run run' desc added last sound full = record {
  full = take run.count run.lengths;
  last = desc.length;
  sizes_are = added.lengths;
  are_full = full;
  last_is = subst (λ (ends : Bool). IsPartSize ends desc.length) last sound.size;
}

pub fills-fit : (sizes : List ℕ) → FillBuffers sizes → FitIntoBuffers sizes
fills-fit sizes fills =
    let Fits : ℕ → Type 0 = λ size. size ≤ receive_buffer_bytes in
    subst FitIntoBuffers (sym fills.sizes_are)
    (All-append Fits fills.full (fills.last ∷ [])
    (all-weaker (λ (size : ℕ). size ≡ receive_buffer_bytes) Fits fills.full (λ size is. omega (arith, is)) fills.are_full)
    (All-cons Fits fills.last [] fills.last_is.most (all-none Fits)))

concat-push : (seen : List (List ℕ)) (bytes : List ℕ) → concat (seen ++ bytes ∷ []) ≡ concat seen ++ bytes
concat-push [] bytes = append-nil bytes
concat-push (first ∷ seen) bytes = ap (λ (rest : List ℕ). first ++ rest) (concat-push seen bytes)
    ∙ sym (append_assoc first (concat seen) bytes)

parts-push : (seen : List (List ℕ)) (bytes : List ℕ) (later : List Piece)
    → parts seen ++ Part bytes ∷ later ≡ parts (seen ++ bytes ∷ []) ++ later
parts-push [] bytes later = refl
parts-push (first ∷ seen) bytes later = ap (λ (pieces : List Piece). Part first ∷ pieces) (parts-push seen bytes later)

lengths-more : (seen : List (List ℕ)) (run run' : Run) (desc : RxDesc) (bytes : List ℕ) → take run.count run.lengths ≡ map length seen
    → IsAdded run run' desc → desc.length ≡ length bytes → take run'.count run'.lengths ≡ map length (seen ++ bytes ∷ [])
lengths-more seen run run' desc bytes lengths added is =
    added.lengths ∙ ap (λ (list : List ℕ). list ++ desc.length ∷ []) lengths
    ∙ ap (λ (n : ℕ). map length seen ++ n ∷ []) is ∙ sym (map-append length seen (bytes ∷ []))

pub sees-more : (pieces : List Piece) (run run' : Run) (desc : RxDesc) → (sees : Sees pieces run) → NextSeen pieces sees.seen desc
    → IsAdded run run' desc → ends desc ≡ false → IsTrue run'.whole → Sees pieces run'
sees-more pieces run run' desc sees next added part whole =
    let seen = sees.seen in
    let bytes = next.bytes in
    record {
      seen = seen ++ bytes ∷ [];
      later = next.later;
      is = next.is ∙ ap (λ (last : Bool). parts seen ++ piece_of last bytes ∷ next.later) part ∙ parts-push seen bytes next.later;
      count = omega (arith, added.count, sees.count, length-append seen (bytes ∷ []));
      lengths = lengths-more seen run run' desc bytes sees.lengths added next.size;
      length_is = omega (
        arith,
        added.length_is,
        sees.length_is,
        next.size,
        ap length (concat-push seen bytes),
        length-append (concat seen) bytes,
      );
      whole = whole;
    }

pub sees-frame : (pieces : List Piece) (run run' : Run) (desc : RxDesc) → (sees : Sees pieces run) → NextSeen pieces sees.seen desc
    → IsAdded run run' desc → ends desc ≡ true → SeesFrame pieces run'
sees-frame pieces run run' desc sees next added last =
    let seen = sees.seen in
    let bytes = next.bytes in
    record {
      seen = seen;
      last = bytes;
      later = next.later;
      is = next.is ∙ ap (λ (end : Bool). parts seen ++ piece_of end bytes ∷ next.later) last;
      count = omega (arith, added.count, sees.count);
      lengths = lengths-more seen run run' desc bytes sees.lengths added next.size;
      length_is = omega (arith, added.length_is, sees.length_is, next.size, length-append (concat seen) bytes);
    }

-- What a driver that is ready knows of its finished slots

pub finished-cut : {up : Bool} (d : DriverState) (world : World) → ReadyWith up d world
    → All (IsCut receive_buffer_bytes) (finished_pieces d.oldest_receive world)
finished-cut d world ready =
    let pieces = finished_pieces d.oldest_receive world in
    all-left (IsCut receive_buffer_bytes) pieces (in_work world.memory world.adapter.receiver.work) ready.law.whole.cut

pub finished-most : {up : Bool} (d : DriverState) (world : World) → ReadyWith up d world
    → length (finished_pieces d.oldest_receive world) ≤ length d.buffers
finished-most d world ready =
    let slots = slots_from d.layout.rx d.oldest_receive (length d.buffers) in
    let done = finished d.oldest_receive world in
    omega (
      arith,
      ap length ready.law.sound.receive_slots.classes,
      length-append done (slot_in_work world ++ offered (receive_ring world)),
      ap length (outstanding-slots d world ready),
      length-map slots receive_slot,
      length-slots_from d.layout.rx d.oldest_receive (length d.buffers),
      length-map done (piece_in world.memory),
    )

pub frame-legal : {up : Bool} (d : DriverState) (world : World) (run : Run) → ReadyWith up d world
    → SeesFrame (finished_pieces d.oldest_receive world) run → IsFrameSize run.length
frame-legal d world run ready sees =
    let pieces = finished_pieces d.oldest_receive world in
    let work = in_work world.memory world.adapter.receiver.work in
    let front = parts sees.seen in
    let rest = sees.later ++ work in
    let frame = concat sees.seen ++ sees.last in
    let is : pieces_in_slots d.oldest_receive world ≡ front ++ Last sees.last ∷ rest =
    ap (λ (list : List Piece). list ++ work) sees.is ∙ append_assoc front (Last sees.last ∷ sees.later) work in
    let frames : frames_of (pieces_in_slots d.oldest_receive world) ≡ frame ∷ frames_from [] rest =
    ap frames_of is ∙ frames-append [] front (Last sees.last ∷ rest)
    ∙ ap (λ (list : List (List ℕ)). list ++ frames_from (begun_from [] front) (Last sees.last ∷ rest)) (frames-parts [] sees.seen)
    ∙ ap (λ (begun : List ℕ). frames_from begun (Last sees.last ∷ rest)) (begun-parts [] sees.seen) in
    let legal : IsLegal frame = all-head IsLegal frame (frames_from [] rest)
    (subst (λ (list : List (List ℕ)). All IsLegal list) frames ready.law.whole.legal) in
    record { least = omega (arith, sees.length_is, legal.least); most = omega (arith, sees.length_is, legal.most) }

-- Looks at slots over a bus

-- The only accesses were the loads of the descriptors in the run, in order. The run is the beginning of a frame.
pub record SeesSlots {B : Type 0} (bus : Ghosts B) (run : Run) (up : Bool) (d : DriverState) (old new : B) : Type 0 where
  pub sees : Sees (finished_pieces d.oldest_receive (bus.world new)) run
  pub ran : Ran bus up (only (receive_loads d.layout d.oldest_receive run.count)) (at old d) (at new d)

-- After the descriptors in the run, the next descriptor, `desc`, was loaded. `desc` shows whether the next slot is finished.
pub record LoadsNext {B : Type 0} (bus : Ghosts B) (run : Run) (desc : RxDesc) (up : Bool) (d : DriverState) (old new : B) : Type 0 where
  pub sees : Sees (finished_pieces d.oldest_receive (bus.world new)) run
  pub ran : Ran bus up (only (receive_loads d.layout d.oldest_receive (run.count + 1))) (at old d) (at new d)
  pub shows : ShowsSlot (is_set (status_bits desc.status) dd) run.count (finished_pieces d.oldest_receive (bus.world new)) desc

pub loads-next : {up : Bool} {B : Type 0} (bus : Ghosts B)
    → ((a b c : B) (first later : Past) → bus.happened a b first → bus.happened b c later → bus.happened a c (joined first later))
    → (run : Run) (desc : RxDesc) (d : DriverState) (a b c : B) → SeesSlots bus run up d a b
    → LooksAtSlot bus up run.count desc (at b d) c → LoadsNext bus run desc up d a c
loads-next {up} bus joins run desc d a b c one two = record {
  sees = sees-kept (finished_pieces d.oldest_receive (bus.world b)) (finished_pieces d.oldest_receive (bus.world c)) two.more run
      two.grows one.sees;
  ran = subst (λ (list : List Access). Ran bus up (only list) (at a d) (at c d)) (sym (loads-push d.layout d.oldest_receive run.count))
      (ran-on bus joins one.ran two.ran);
  shows = two.shows;
}

pub sees_slots-none : {up : Bool} {B : Type 0} (bus : Ghosts B) → ((b : B) → bus.happened b b nothing) → (run : Run) (d : DriverState)
    (b : B) → run.count ≡ 0 → run.length ≡ 0 → IsTrue run.whole → ReadyWith up d (bus.world b) → SeesSlots bus run up d b b
sees_slots-none {up} bus stays run d b none empty whole ready = record {
  sees = sees-none (finished_pieces d.oldest_receive (bus.world b)) run none empty whole;
  ran = subst (λ (n : ℕ). Ran bus up (only (receive_loads d.layout d.oldest_receive n)) (at b d) (at b d)) (sym none)
      (ran_by-stays bus stays b d ready);
}

pub next-shown : {up : Bool} {B : Type 0} (bus : Ghosts B) (run : Run) (desc : RxDesc) (d : DriverState) (a c : B)
    → (next : LoadsNext bus run desc up d a c) → is_set (status_bits desc.status) dd ≡ true
    → NextSeen (finished_pieces d.oldest_receive (bus.world c)) next.sees.seen desc
next-shown bus run desc d a c next done =
    let pieces = finished_pieces d.oldest_receive (bus.world c) in
    next-seen pieces run desc (finished-cut d (bus.world c) next.ran.goes.flows.ready) next.sees
    (subst (λ (bit : Bool). ShowsSlot bit run.count pieces desc) done next.shows)

pub finds-unfinished : {up : Bool} {B : Type 0} (bus : Ghosts B) (run : Run) (desc : RxDesc) (d : DriverState) (a c : B)
    → LoadsNext bus run desc up d a c → is_set (status_bits desc.status) dd ≡ false → run.count < length d.buffers
    → FindsNoFrame bus up (at a d) (at c d)
finds-unfinished bus run desc d a c next clear outstanding =
    let pieces = finished_pieces d.oldest_receive (bus.world c) in
    let few : length pieces ≤ run.count = subst (λ (bit : Bool). ShowsSlot bit run.count pieces desc) clear next.shows in
    record {
      none = none-ends pieces run next.sees few;
      loads = run.count + 1;
      loads_are = omega (arith, few, outstanding, seen-finished pieces run next.sees);
      ran = next.ran;
    }

pub finds-all_seen : {up : Bool} {B : Type 0} (bus : Ghosts B) (run : Run) (d : DriverState) (a b : B) → SeesSlots bus run up d a b
    → run.count ≡ length d.buffers → FindsNoFrame bus up (at a d) (at b d)
finds-all_seen bus run d a b sees all =
    let pieces = finished_pieces d.oldest_receive (bus.world b) in
    let most = finished-most d (bus.world b) sees.ran.goes.flows.ready in
    record {
      none = none-ends pieces run sees.sees (omega (arith, most, all));
      loads = run.count;
      loads_are = omega (arith, most, all, seen-finished pieces run sees.sees);
      ran = sees.ran;
    }

pub never-six : {up : Bool} {B : Type 0} (bus : Ghosts B) (run : Run) (d : DriverState) (a b : B) → SeesSlots bus run up d a b
    → run.count ≡ 6 → ⊥
never-six {up} bus run d a b sees six =
    let it = sees.sees in
    let few = parts_are_few up d it.seen it.later (bus.world b) sees.ran.goes.flows.ready it.is in
    omega (arith, few, it.count, six)

-- If the next slot is finished and the frame ends in it, the run with this slot is a whole frame.
pub finds-frame : {up : Bool} {B : Type 0} (bus : Ghosts B) (run run' : Run) (desc : RxDesc) (d : DriverState) (a c : B)
    → (next : LoadsNext bus run desc up d a c) → NextSeen (finished_pieces d.oldest_receive (bus.world c)) next.sees.seen desc
    → IsAdded run run' desc → ends desc ≡ true → (IsFrameSize run'.length → IsTrue run'.whole) → FindsFrame bus run' up (at a d) (at c d)
finds-frame {up} bus run run' desc d a c next shown added last whole =
    let world = bus.world c in
    let frame = sees-frame (finished_pieces d.oldest_receive world) run run' desc next.sees shown added last in
    record {
      seen = frame.seen;
      last = frame.last;
      later = frame.later;
      pieces = frame.is;
      is_run = record {
        count = frame.count;
        lengths = frame.lengths;
        length_is = frame.length_is;
        whole = whole (frame-legal d world run' next.ran.goes.flows.ready frame);
      };
      ran = subst (λ (n : ℕ). Ran bus up (only (receive_loads d.layout d.oldest_receive n)) (at a d) (at c d)) (sym added.count) next.ran;
    }

pub sees_slots-more : {up : Bool} {B : Type 0} (bus : Ghosts B) (run run' : Run) (desc : RxDesc) (d : DriverState) (a c : B)
    → (next : LoadsNext bus run desc up d a c) → NextSeen (finished_pieces d.oldest_receive (bus.world c)) next.sees.seen desc
    → IsAdded run run' desc → ends desc ≡ false → IsTrue run'.whole → SeesSlots bus run' up d a c
sees_slots-more {up} bus run run' desc d a c next shown added part whole = record {
  sees = sees-more (finished_pieces d.oldest_receive (bus.world c)) run run' desc next.sees shown added part whole;
  ran = subst (λ (n : ℕ). Ran bus up (only (receive_loads d.layout d.oldest_receive n)) (at a d) (at c d)) (sym added.count) next.ran;
}
