-- A driver offers its next slot of a ring.
use Rattle.std.proofs.Common.{inl, inr, ◌⊎◌, ⊎_elim, ◌≡◌, ◌≢◌, ◌<◌, ◌+◌, ◌-◌, ◌++◌, ◌∷◌, [], Bool, true, false, cond, ℕ, suc, List, length}
use Rattle.std.proofs.Common.{map, refl, sym, ap, subst, ◌∙◌, append_assoc, arith, length-append}
use Rattle.std.specs.List.{All, AllPairs, take_while}
use Rattle.std.proofs.lemmas.List.{map-append}
use Rattle.std.proofs.lemmas.List.Elements.{All-append, All-cons, All-map}
use Rattle.std.proofs.lemmas.List.Quantifiers.{all_pairs_push}
use Rattle.std.proofs.lemmas.Bool.{eqb-true}
use Rattle.std.proofs.lemmas.Nat.{mod_below}
use Rattle.registers.specs.Bits.{HasBit}
use Rattle.registers.specs.Places.{rctl_en}
use Rattle.dma_memory.specs.HostMemory.{LiesIn}
use Rattle.descriptors.specs.declared.ring.Ring.{Ring}
use Rattle.descriptors.specs.Ring.{HasValidIndices, address_of, count_of, distance_of, next_of, offered_places}
use Rattle.descriptors.specs.RingLaws.{distance-grows, length-places, next-below, places-tail}
use Rattle.rx_engine.specs.Held.{HasBegun, held, in_slots}
use Rattle.rx_engine.specs.Pieces.{Piece}
use Rattle.adapter_model.specs.HostAreas.{areas, buffer_of, data_of, IsForeign, offered_buffers, receives, reported_half, ring_area}
use Rattle.adapter_model.specs.HostAreas.{status_byte, work_areas}
use Rattle.adapter_model.specs.Slots.{buffered, done_slots, finished, slots_in_work, is_done, IsDealt, offered, outstanding}
use Rattle.adapter_model.specs.HostFrames.{finished_pieces, named, piece_in}
use Rattle.adapter_model.specs.Conditions.{Reports}
use Rattle.bus.specs.SlotOffers.{FramesCanBeOffered, SlotsCanBeOffered, offering, offering_frame}
use Rattle.adapter_model.specs.Running.{CanTransmit}
use Rattle.adapter_model.specs.World.{receive_ring, transmit_ring, World}
use Rattle.bus.proofs.KeptPieces.{cut-kept}
use Rattle.bus.proofs.WrittenAreas.{NamesFit}
use Rattle.bus.proofs.Lists.{all-head, all-left, all-none, all-right, all-tail, all-unmapped, pairs-head, pairs-tail, take_while-passes}
use Rattle.bus.proofs.Lists.{take_while-split}
use Rattle.std.proofs.lemmas.List.Kept.{AllPairs-cons}
use Rattle.dma_memory.specs.Areas.{AreApart, AreSeparate, Area}
use Rattle.dma_memory.specs.AreaLaws.{apart-sym}
use Rattle.tx_engine.specs.Fetching.{fetched}
use Rattle.tx_engine.specs.Laws.{to_send-offer}
use Rattle.tx_engine.specs.Transmitter.{Queued}
use Rattle.bus.proofs.Rings.{distance-whole}

length-map : (f : ℕ → ℕ) (xs : List ℕ) → length (map f xs) ≡ length xs
length-map f [] = refl
length-map f (x ∷ xs) = ap suc (length-map f xs)

not-head : (memory : List ℕ) (ring : Ring) (oldest : ℕ) (taken : List ℕ) → IsDealt memory ring oldest taken → HasValidIndices ring
    → oldest < count_of ring → next_of ring ring.tail ≢ oldest → next_of ring ring.tail ≢ ring.head
not-head memory ring oldest taken dealt in_ring below room same =
    let n = count_of ring in
    let all : length (outstanding ring oldest)
    ≡ distance_of ring oldest ring.tail = length-map (address_of ring) (offered_places (record ring { head = oldest }))
    ∙ length-places (record ring { head = oldest }) in
    let some : length (offered ring) ≡ distance_of ring ring.head ring.tail = length-map (address_of ring) (offered_places ring)
    ∙ length-places ring in
    let parts : length (outstanding ring oldest) ≡ length (done_slots memory ring oldest) + (length taken + length (offered ring)) =
    ap length dealt.classes ∙ length-append (done_slots memory ring oldest) (taken ++ offered ring)
    ∙ ap (λ (k : ℕ). length (done_slots memory ring oldest) + k) (length-append taken (offered ring)) in
    let grows = distance-grows n oldest ring.tail below in_ring.tail room in
    let most : distance_of ring oldest (next_of ring ring.tail) < n = mod_below (next_of ring ring.tail + n - oldest) n
    (omega (arith, below)) in
    let full : distance_of ring ring.head ring.tail ≡ n - 1 = ap (λ (head : ℕ). distance_of ring head ring.tail) (sym same)
    ∙ distance-whole n ring.tail in_ring.tail in
    absurd (omega (arith, all, some, parts, grows, most, full))

-- One more slot, which isn't done, is after the offered slots.
pub record Grown (memory : List ℕ) (ring moved : Ring) (oldest : ℕ) (taken : List ℕ) : Type 0 where
  pub dealt : IsDealt memory moved oldest taken
  pub done : done_slots memory moved oldest ≡ done_slots memory ring oldest
  pub outstanding_grown : outstanding moved oldest ≡ outstanding ring oldest ++ address_of ring ring.tail ∷ []
  pub offered_grown : offered moved ≡ offered ring ++ address_of ring ring.tail ∷ []

dealt-offered : (memory : List ℕ) (ring : Ring) (oldest : ℕ) (taken : List ℕ) → IsDealt memory ring oldest taken → HasValidIndices ring
    → oldest < count_of ring → next_of ring ring.tail ≢ oldest → is_done memory (address_of ring ring.tail) ≡ false
    → Grown memory ring (record ring { tail = next_of ring ring.tail }) oldest taken
dealt-offered memory ring oldest taken dealt in_ring below room fresh =
    let moved : Ring = record ring { tail = next_of ring ring.tail } in
    let last = address_of ring ring.tail in
    let front = done_slots memory ring oldest in
    let off : offered moved ≡ offered ring ++ last ∷ [] =
    ap (map (address_of ring)) (places-tail ring in_ring (not-head memory ring oldest taken dealt in_ring below room))
    ∙ map-append (address_of ring) (offered_places ring) (ring.tail ∷ []) in
    let from : Ring = record ring { head = oldest } in
    let from_sound : HasValidIndices from = record { head = below; tail = in_ring.tail } in
    let out : outstanding moved oldest ≡ outstanding ring oldest ++ last ∷ [] =
    ap (map (address_of ring)) (places-tail from from_sound room) ∙ map-append (address_of ring) (offered_places from) (ring.tail ∷ []) in
    let behind : (taken ++ offered ring) ++ last ∷ [] ≡ taken ++ offered moved = append_assoc taken (offered ring) (last ∷ [])
    ∙ ap (λ (slots : List ℕ). taken ++ slots) (sym off) in
    let whole : outstanding moved oldest ≡ front ++ (taken ++ offered moved) =
    out ∙ ap (λ (slots : List ℕ). slots ++ last ∷ []) dealt.classes ∙ append_assoc front (taken ++ offered ring) (last ∷ [])
    ∙ ap (λ (slots : List ℕ). front ++ slots) behind in
    let Open : ℕ → Type 0 = λ d. is_done memory d ≡ false in
    let not_done : All Open (taken ++ offered moved) =
    subst (λ (slots : List ℕ). All Open slots) behind
    (All-append Open (taken ++ offered ring) (last ∷ []) dealt.not_done (All-cons Open last [] fresh (all-none Open))) in
    let done : done_slots memory moved oldest ≡ front =
    ap (take_while (is_done memory)) whole
    ∙ take_while-split (is_done memory) front (taken ++ offered moved)
    (take_while-passes (is_done memory) (outstanding ring oldest)) not_done in
    record {
      dealt = record {
        slot = inl below;
        classes = whole
            ∙ ap (λ (slots : List ℕ). slots ++ (taken ++ offered moved)) (sym done);
        not_done = not_done;
      };
      done = done;
      outstanding_grown = out;
      offered_grown = off;
    }

buffers-grown : (on : Bool) (f : ℕ → Area) (xs ys : List ℕ) (x : ℕ) → ys ≡ xs ++ x ∷ []
    → ((on ≡ true) × (cond on (map f ys) [] ≡ cond on (map f xs) [] ++ f x ∷ [])) ⊎ (cond on (map f ys) [] ≡ cond on (map f xs) [])
buffers-grown true f xs ys x grown = inl (refl, ap (map f) grown ∙ map-append f xs (x ∷ []))
buffers-grown false f xs ys x grown = inr refl

separate-more : (memory : List ℕ) (list : List Area) (area : Area) → LiesIn memory area.address area.size
    → All (λ other. AreApart other area) list → AreSeparate memory list → AreSeparate memory (list ++ area ∷ [])
separate-more memory list area lies apart separate =
    let Lies : Area → Type 0 = λ a. LiesIn memory a.address a.size in
    record {
      lie = All-append Lies list (area ∷ []) separate.lie (All-cons Lies area [] lies (all-none Lies));
      apart = all_pairs_push AreApart list area separate.apart apart;
    }

areas-more : (r t : Area) (d n n' w b b' : List Area) (area : Area) → n' ≡ n → b' ≡ b ++ area ∷ []
    → r ∷ t ∷ (d ++ (n' ++ (w ++ b'))) ≡ (r ∷ t ∷ (d ++ (n ++ (w ++ b)))) ++ area ∷ []
areas-more r t d n n' w b b' area same_n more =
    rw (same_n, more)
    (ap (λ (list : List Area). r ∷ t ∷ list)
    (ap (λ (list : List Area). d ++ (n ++ list)) (sym (append_assoc w b (area ∷ [])))
    ∙ ap (λ (list : List Area). d ++ list) (sym (append_assoc n (w ++ b) (area ∷ [])))
    ∙ sym (append_assoc d (n ++ (w ++ b)) (area ∷ []))))

areas-still : (r t : Area) (d n n' w b b' : List Area) → n' ≡ n → b' ≡ b → r ∷ t ∷ (d ++ (n' ++ (w ++ b'))) ≡ r ∷ t ∷ (d ++ (n ++ (w ++ b)))
areas-still r t d n n' w b b' same_n same_b = rw (same_n, same_b) refl

all-grown : (P : Area → Type 0) (f : ℕ → Area) (taken xs ys : List ℕ) (x : ℕ) → ys ≡ xs ++ x ∷ [] → All P (map f (taken ++ xs)) → P (f x)
    → All P (map f (taken ++ ys))
all-grown P f taken xs ys x grown all new =
    let Each : ℕ → Type 0 = λ d. P (f d) in
    let each : All Each (taken ++ xs) = all-unmapped P f (taken ++ xs) all in
    let more : All Each (xs ++ x ∷ []) = All-append Each xs (x ∷ []) (all-right Each taken xs each)
    (All-cons Each x [] new (all-none Each)) in
    All-map P f (taken ++ ys)
    (All-append Each taken ys (all-left Each taken xs each) (subst (λ (slots : List ℕ). All Each slots) (sym grown) more))

foreign-offered : (a : World) (area : Area)
    → offered (receive_ring (offering a)) ≡ offered (receive_ring a) ++ address_of (receive_ring a) a.adapter.receive_ring.tail ∷ []
    → IsForeign a area → AreApart area (reported_half (address_of (receive_ring a) a.adapter.receive_ring.tail))
    → (HasBit a.adapter.filter.rctl rctl_en → AreApart area (buffer_of a (address_of (receive_ring a) a.adapter.receive_ring.tail)))
    → IsForeign (offering a) area
foreign-offered a area grown foreign half buffer =
    let b = offering a in
    let P : Area → Type 0 = AreApart area in
    let last = address_of (receive_ring a) a.adapter.receive_ring.tail in
    let halves = map reported_half (slots_in_work a ++ offered (receive_ring a)) in
    let halves' = map reported_half (slots_in_work a ++ offered (receive_ring b)) in
    let bytes = map status_byte (buffered a ++ offered (transmit_ring a)) in
    let rest : All P (bytes ++ offered_buffers a) = all-right P halves (bytes ++ offered_buffers a) foreign in
    let old : All P (offered_buffers a) = all-right P bytes (offered_buffers a) rest in
    let buffers : All P (offered_buffers b) =
    ⊎_elim
    (λ (more : (receives a ≡ true) × (offered_buffers b ≡ offered_buffers a ++ buffer_of a last ∷ [])).
    subst (λ (list : List Area). All P list) (sym more.1)
    (All-append P (offered_buffers a) (buffer_of a last ∷ []) old
    (All-cons P (buffer_of a last) [] (buffer (eqb-true _ _ more.0)) (all-none P))))
    (λ (none : offered_buffers b ≡ offered_buffers a). subst (λ (list : List Area). All P list) (sym none) old)
    (buffers-grown (receives a) (buffer_of a) (offered (receive_ring a)) (offered (receive_ring b)) last grown) in
    All-append P halves' (bytes ++ offered_buffers b)
    (all-grown P reported_half (slots_in_work a) (offered (receive_ring a)) (offered (receive_ring b)) last grown
    (all-left P halves (bytes ++ offered_buffers a) foreign) half)
    (All-append P bytes (offered_buffers b) (all-left P bytes (offered_buffers a) rest) buffers)

pub slots_can_be_offered : SlotsCanBeOffered
slots_can_be_offered o p a sound can =
    let b = offering a in
    let ring = receive_ring a in
    let last = address_of ring ring.tail in
    let r = ring_area ring in
    let t = ring_area (transmit_ring a) in
    let payload = map (data_of a.memory) (offered (transmit_ring a)) in
    let work = work_areas a.memory a.adapter.receiver.work in
    let grown = dealt-offered a.memory ring o (slots_in_work a) sound.receive_slots
    (record { head = can.ring.head_slot; tail = can.ring.tail_slot }) can.ring.oldest_slot can.ring.room can.fresh in
    let names : map (named a.memory) (finished o b) ≡ map (named a.memory) (finished o a) = ap (map (named a.memory)) grown.done in
    let pieces : finished_pieces o b ≡ finished_pieces o a = ap (map (piece_in a.memory)) grown.done in
    let receiver = a.adapter.receiver in
    let separate : AreSeparate a.memory (areas o b) =
    ⊎_elim
    (λ (more : (receives a ≡ true) × (offered_buffers b ≡ offered_buffers a ++ buffer_of a last ∷ [])).
    let enabled = eqb-true _ _ more.0 in
    subst (λ (list : List Area). AreSeparate a.memory list)
    (sym (areas-more r t payload (map (named a.memory) (finished o a)) (map (named a.memory) (finished o b)) work (offered_buffers a)
    (offered_buffers b) (buffer_of a last) names more.1))
    (separate-more a.memory (areas o a) (buffer_of a last) (can.lies enabled) (can.apart enabled) sound.separate))
    (λ (none : offered_buffers b ≡ offered_buffers a).
    subst (λ (list : List Area). AreSeparate a.memory list)
    (sym (areas-still r t payload (map (named a.memory) (finished o a)) (map (named a.memory) (finished o b)) work (offered_buffers a)
    (offered_buffers b) names none))
    sound.separate)
    (buffers-grown (receives a) (buffer_of a) (offered ring) (offered (receive_ring b)) last grown.offered_grown) in
    record {
      same = record {
        sound = record {
          receive_slots = grown.dealt;
          transmit_slots = sound.transmit_slots;
          separate = separate;
          reports = sound.reports;
          begun = subst (λ (list : List Piece). HasBegun a.memory list receiver) (sym pieces) sound.begun;
          pads = sound.pads;
        };
        held = ap (λ (list : List Piece). held a.memory list receiver) pieces;
        to_send = refl;
        finished_same = grown.done;
        written_same = refl;
        pieces_same = pieces;
        whole = λ size sized. cut-kept size o a b sized grown.done (λ k d below. refl)
            (ap (λ (list : List Piece). in_slots a.memory list receiver) pieces);
        fits = λ size large fit. record {
          large = large;
          finished_fit = subst (λ (slots : List ℕ). NamesFit a.memory size slots) (sym grown.done) fit.finished_fit;
          work_fits = fit.work_fits;
        };
      };
      runs = λ run. record {
        receiver_runs = run.receiver_runs;
        transmitter_runs = run.transmitter_runs;
        receive_indices = λ some. record { head = can.ring.head_slot; tail = next-below (count_of ring) ring.tail can.ring.tail_slot };
        transmit_indices = run.transmit_indices;
        not_extended = run.not_extended;
        transmittable = run.transmittable;
      };
      last = grown.outstanding_grown;
      foreign = λ area foreign half buffer. foreign-offered a area grown.offered_grown foreign half buffer;
    }

-- A transmit slot is offered.

all-inserted : {X : Type 0} (P : X → Type 0) (xs : List X) (y : X) (ys : List X) → P y → All P (xs ++ ys) → All P (xs ++ y ∷ ys)
all-inserted P xs y ys new all = All-append P xs (y ∷ ys) (all-left P xs ys all) (All-cons P y ys new (all-right P xs ys all))

pairs-inserted : {X : Type 0} (R : X → X → Type 0) (xs : List X) (y : X) (ys : List X) → All (λ x. R x y) xs → All (R y) ys
    → AllPairs R (xs ++ ys) → AllPairs R (xs ++ y ∷ ys)
pairs-inserted R [] y ys before behind pairs = AllPairs-cons R y ys behind pairs
pairs-inserted R (x ∷ xs) y ys before behind pairs =
    AllPairs-cons R x (xs ++ y ∷ ys)
    (all-inserted (R x) xs y ys (all-head (λ z. R z y) x xs before) (pairs-head R x (xs ++ ys) pairs))
    (pairs-inserted R xs y ys (all-tail (λ z. R z y) x xs before) behind (pairs-tail R x (xs ++ ys) pairs))

separate-inserted : (memory : List ℕ) (front : List Area) (area : Area) (behind : List Area) → LiesIn memory area.address area.size
    → All (λ other. AreApart other area) (front ++ behind) → AreSeparate memory (front ++ behind)
    → AreSeparate memory (front ++ area ∷ behind)
separate-inserted memory front area behind lies apart separate =
    let right = all-right (λ other. AreApart other area) front behind apart in
    record {
      lie = all-inserted (λ a. LiesIn memory a.address a.size) front area behind lies separate.lie;
      apart = pairs-inserted AreApart front area behind (all-left (λ other. AreApart other area) front behind apart)
          (λ k d below. apart-sym _ area (right k d below)) separate.apart;
    }

foreign-sending : (a : World) (area : Area)
    → offered (transmit_ring (offering_frame a)) ≡ offered (transmit_ring a) ++ address_of (transmit_ring a) a.adapter.transmit_ring.tail
    ∷ [] → IsForeign a area → AreApart area (status_byte (address_of (transmit_ring a) a.adapter.transmit_ring.tail))
    → IsForeign (offering_frame a) area
foreign-sending a area grown foreign status =
    let b = offering_frame a in
    let P : Area → Type 0 = AreApart area in
    let last = address_of (transmit_ring a) a.adapter.transmit_ring.tail in
    let halves = map reported_half (slots_in_work a ++ offered (receive_ring a)) in
    let bytes = map status_byte (buffered a ++ offered (transmit_ring a)) in
    let bytes' = map status_byte (buffered a ++ offered (transmit_ring b)) in
    let rest : All P (bytes ++ offered_buffers a) = all-right P halves (bytes ++ offered_buffers a) foreign in
    All-append P halves (bytes' ++ offered_buffers a)
    (all-left P halves (bytes ++ offered_buffers a) foreign)
    (All-append P bytes' (offered_buffers a)
    (all-grown P status_byte (buffered a) (offered (transmit_ring a)) (offered (transmit_ring b)) last grown
    (all-left P bytes (offered_buffers a) rest) status)
    (all-right P bytes (offered_buffers a) rest))

pub frames_can_be_offered : FramesCanBeOffered
frames_can_be_offered o p a sound can =
    let b = offering_frame a in
    let ring = transmit_ring a in
    let last = address_of ring ring.tail in
    let area = data_of a.memory last in
    let in_ring : HasValidIndices ring = record { head = can.ring.head_slot; tail = can.ring.tail_slot } in
    let r = ring_area (receive_ring a) in
    let t = ring_area ring in
    let payload = map (data_of a.memory) (offered ring) in
    let others = map (named a.memory) (finished o a) ++ (work_areas a.memory a.adapter.receiver.work ++ offered_buffers a) in
    let grown = dealt-offered a.memory ring p (buffered a) sound.transmit_slots in_ring can.ring.oldest_slot can.ring.room can.fresh in
    let away = not-head a.memory ring p (buffered a) sound.transmit_slots in_ring can.ring.oldest_slot can.ring.room in
    let payload_grown : map (data_of a.memory) (offered (transmit_ring b)) ≡ payload ++ area ∷ [] =
    ap (map (data_of a.memory)) grown.offered_grown ∙ map-append (data_of a.memory) (offered ring) (last ∷ []) in
    let list : areas o b ≡ (r ∷ t ∷ payload) ++ area ∷ others =
    ap (λ (front : List Area). r ∷ t ∷ (front ++ others)) payload_grown
    ∙ ap (λ (whole : List Area). r ∷ t ∷ whole) (append_assoc payload (area ∷ []) others) in
    let buffer = a.adapter.transmitter.buffer in
    let queue : buffer ++ map (fetched true a.memory) (offered (transmit_ring b))
    ≡ (buffer ++ map (fetched true a.memory) (offered ring)) ++ fetched true a.memory last ∷ [] =
    ap (λ (slots : List ℕ). buffer ++ map (fetched true a.memory) slots) grown.offered_grown
    ∙ ap (λ (frames : List Queued). buffer ++ frames) (map-append (fetched true a.memory) (offered ring) (last ∷ []))
    ∙ sym (append_assoc buffer (map (fetched true a.memory) (offered ring)) (fetched true a.memory last ∷ [])) in
    let Asks : Queued → Type 0 = Reports in
    record {
      sound = record {
        receive_slots = sound.receive_slots;
        transmit_slots = grown.dealt;
        separate = subst (λ (whole : List Area). AreSeparate a.memory whole) (sym list)
            (separate-inserted a.memory (r ∷ t ∷ payload) area others can.lies can.apart sound.separate);
        reports =
            subst (λ (frames : List Queued). All Asks frames) (sym queue)
            (All-append Asks (buffer ++ map (fetched true a.memory) (offered ring)) (fetched true a.memory last ∷ []) sound.reports
            (All-cons Asks (fetched true a.memory last) [] can.reports (all-none Asks)));
        begun = sound.begun;
        pads = λ differ. can.pads;
      };
      to_send = to_send-offer a.memory ring true buffer in_ring away;
      received = record {
        held = refl;
        finished_same = refl;
        pieces_same = refl;
        whole = λ size cut. record
            { sized = cut.sized; have_no_errors = cut.have_no_errors; cut = cut.cut; legal = cut.legal; short = cut.short };
        fits = λ size fit. record { large = fit.large; finished_fit = fit.finished_fit; work_fits = fit.work_fits };
      };
      written_same = grown.done;
      last = grown.outstanding_grown;
      runs = λ new run. record {
        receiver_runs = run.receiver_runs;
        transmitter_runs = run.transmitter_runs;
        receive_indices = run.receive_indices;
        transmit_indices = λ some. record { head = can.ring.head_slot; tail = next-below (count_of ring) ring.tail can.ring.tail_slot };
        not_extended = run.not_extended;
        transmittable =
            subst (λ (slots : List ℕ). All (CanTransmit a.memory) slots) (sym grown.offered_grown)
            (All-append (CanTransmit a.memory) (offered ring) (last ∷ []) run.transmittable
            (All-cons (CanTransmit a.memory) last [] new (all-none (CanTransmit a.memory))));
      };
      foreign = λ area foreign status. foreign-sending a area grown.offered_grown foreign status;
    }
