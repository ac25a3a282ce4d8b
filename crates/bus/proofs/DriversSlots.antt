-- The adapter may not write finished and written-back slots, the driver's slots, and what the driver wrote into descriptors.
use Rattle.std.proofs.Common.{◌≡◌, ◌≢◌, ◌≤◌, ◌<◌, ◌⊎◌, ◌+◌, ◌*◌, inl, inr, ◌++◌, ◌∷◌, [], ℕ, zero, suc, List, map, drop, slice_index}
use Rattle.std.proofs.Common.{⊎_elim, refl, sym, ap, subst, ◌∙◌, arith}
use Rattle.std.specs.List.{All, AllPairs}
use Rattle.std.proofs.lemmas.List.Elements.{All-append, All-cons, All-map}
use Rattle.std.proofs.lemmas.List.{get_or-drop, get_or-take}
use Rattle.byteorder.specs.Endian.{little_from, little_number}
use Rattle.byteorder.specs.Numbers.{little_from-take}
use Rattle.dma_memory.specs.HostMemory.{bytes_at}
use Rattle.descriptors.specs.RxDesc.{rx_desc_of}
use Rattle.descriptors.specs.TxDesc.{tx_desc_of}
use Rattle.descriptors.specs.TxFields.{command_of}
use Rattle.descriptors.specs.declared.flags.TxCommand.{TxCommand}
use Rattle.descriptors.specs.declared.tx_desc.TxDesc.{TxDesc}
use Rattle.descriptors.specs.declared.flags.TxStatus.{TxStatus}
use Rattle.std.proofs.lemmas.Bool.{cases_lt}
use Rattle.dma_memory.specs.Areas.{AreApart, Area, IsInside, bytes_in, descriptor_area}
use Rattle.dma_memory.specs.AreaLaws.{apart-inside, apart-sym, inside-apart}
use Rattle.descriptors.specs.declared.ring.Ring.{Ring}
use Rattle.descriptors.specs.Ring.{address_of, count_of}
use Rattle.adapter_model.specs.Rings.{ring_of}
use Rattle.adapter_model.specs.declared.ring.RingRegisters.{RingRegisters}
use Rattle.rx_engine.specs.Descriptors as receive
use Rattle.adapter_model.specs.Slots.{buffered, finished, slots_in_work, offered, outstanding, written_back_slots}
use Rattle.adapter_model.specs.HostAreas.{data_of, frame_areas, IsForeign, offered_buffers, reported_half, ring_area, status_byte, work_areas}
use Rattle.adapter_model.specs.HostFrames.{named}
use Rattle.adapter_model.specs.Conditions.{Sound}
use Rattle.bus.specs.DriversSlots.{DriversSideStaysAlways, IsDriversSlot, frame_named}
use Rattle.adapter_model.specs.World.{receive_ring, transmit_ring, World}
use Rattle.bus.proofs.WrittenAreas.{named-same}
use Rattle.bus.proofs.Lists.{all-head, all-left, all-none, all-right, all-tail, all-unmapped, map-same, pairs-head, pairs-right, pairs-tail}
use Rattle.bus.proofs.Rings.{dealt-left, dealt-right, each-outstanding, far-apart, outstanding-apart, outstanding-inside, slot-inside}

pairs-across : {X : Type 0} (R : X → X → Type 0) (xs ys : List X) → AllPairs R (xs ++ ys) → All (λ x. All (R x) ys) xs
pairs-across R [] ys pairs = all-none (λ x. All (R x) ys)
pairs-across R (x ∷ xs) ys pairs =
    All-cons (λ z. All (R z) ys) x xs (all-right (R x) xs ys (pairs-head R x (xs ++ ys) pairs))
    (pairs-across R xs ys (pairs-tail R x (xs ++ ys) pairs))

-- In a sound world, both rings and the areas of frames are apart. The descriptor bytes that the adapter may write are inside the rings.
pub record Parts (o : ℕ) (a : World) : Type 0 where
  pub rings : AreApart (ring_area (receive_ring a)) (ring_area (transmit_ring a))
  pub receive_rest : All (AreApart (ring_area (receive_ring a))) (frame_areas o a)
  pub transmit_rest : All (AreApart (ring_area (transmit_ring a))) (frame_areas o a)
  pub halves : All (λ area. IsInside area (ring_area (receive_ring a))) (map reported_half (slots_in_work a ++ offered (receive_ring a)))
  pub bytes : All (λ area. IsInside area (ring_area (transmit_ring a))) (map status_byte (buffered a ++ offered (transmit_ring a)))

half-inside : (r : Area) (d : ℕ) → IsInside (descriptor_area d) r → IsInside (reported_half d) r
half-inside r d inside = record { from = omega (arith, inside.from); to = omega (arith, inside.to) }

byte-inside : (t : Area) (d : ℕ) → IsInside (descriptor_area d) t → IsInside (status_byte d) t
byte-inside t d inside = record { from = omega (arith, inside.from); to = omega (arith, inside.to) }

half-apart : (x y : ℕ) → AreApart (descriptor_area x) (descriptor_area y) → AreApart (descriptor_area x) (reported_half y)
half-apart x y apart = inside-apart (descriptor_area x) (reported_half y) (descriptor_area y)
    (half-inside (descriptor_area y) y (record { from = omega arith; to = omega arith })) apart

byte-apart : (x y : ℕ) → AreApart (descriptor_area x) (descriptor_area y) → AreApart (descriptor_area x) (status_byte y)
byte-apart x y apart = inside-apart (descriptor_area x) (status_byte y) (descriptor_area y)
    (byte-inside (descriptor_area y) y (record { from = omega arith; to = omega arith })) apart

pub parts-of : (o p : ℕ) (a : World) → Sound o p a → Parts o a
parts-of o p a sound =
    let r = ring_area (receive_ring a) in
    let t = ring_area (transmit_ring a) in
    let Receive : ℕ → Type 0 = λ d. IsInside (descriptor_area d) r in
    let Transmit : ℕ → Type 0 = λ d. IsInside (descriptor_area d) t in
    let received = dealt-right a.memory (receive_ring a) o (slots_in_work a) Receive sound.receive_slots
    (outstanding-inside (receive_ring a) o sound.receive_slots.slot) in
    let sent = dealt-right a.memory (transmit_ring a) p (buffered a) Transmit sound.transmit_slots
    (outstanding-inside (transmit_ring a) p sound.transmit_slots.slot) in
    let from_r = pairs-head AreApart r (t ∷ frame_areas o a) sound.separate.apart in
    record {
      rings = all-head (AreApart r) t (frame_areas o a) from_r;
      receive_rest = all-tail (AreApart r) t (frame_areas o a) from_r;
      transmit_rest = pairs-head AreApart t (frame_areas o a) (pairs-tail AreApart r (t ∷ frame_areas o a) sound.separate.apart);
      halves = All-map (λ area. IsInside area r) reported_half (slots_in_work a ++ offered (receive_ring a))
          (λ k d below. half-inside r _ (received k d below));
      bytes = All-map (λ area. IsInside area t) status_byte (buffered a ++ offered (transmit_ring a))
          (λ k d below. byte-inside t _ (sent k d below));
    }

last-buffers : (P : Area → Type 0) (o : ℕ) (a : World) → All P (frame_areas o a) → All P (offered_buffers a)
last-buffers P o a all =
    let names = map (named a.memory) (finished o a) in
    let work = work_areas a.memory a.adapter.receiver.work in
    all-right P work (offered_buffers a)
    (all-right P names (work ++ offered_buffers a)
    (all-right P (map (data_of a.memory) (offered (transmit_ring a))) (names ++ (work ++ offered_buffers a)) all))

foreign-in_ring : (o p : ℕ) (a : World) (area : Area) → Sound o p a → IsInside area (ring_area (receive_ring a))
    → All (λ d. AreApart area (reported_half d)) (slots_in_work a ++ offered (receive_ring a)) → IsForeign a area
foreign-in_ring o p a area sound inside apart =
    let parts = parts-of o p a sound in
    let r = ring_area (receive_ring a) in
    let t = ring_area (transmit_ring a) in
    let bytes : All (AreApart area) (map status_byte (buffered a ++ offered (transmit_ring a))) =
    λ k d below. inside-apart area _ t (parts.bytes k d below) (apart-inside area r t inside parts.rings) in
    let buffers : All (AreApart area) (offered_buffers a) =
    λ k d below. apart-inside area r _ inside (last-buffers (AreApart r) o a parts.receive_rest k d below) in
    All-append (AreApart area) (map reported_half (slots_in_work a ++ offered (receive_ring a)))
    (map status_byte (buffered a ++ offered (transmit_ring a)) ++ offered_buffers a)
    (All-map (AreApart area) reported_half (slots_in_work a ++ offered (receive_ring a)) apart)
    (All-append (AreApart area) (map status_byte (buffered a ++ offered (transmit_ring a))) (offered_buffers a) bytes buffers)

foreign-finished : (o p : ℕ) (a : World) → Sound o p a → All (λ d. IsForeign a (descriptor_area d)) (finished o a)
foreign-finished o p a sound =
    let ring = receive_ring a in
    let slots = sound.receive_slots in
    let R : ℕ → ℕ → Type 0 = λ x y. AreApart (descriptor_area x) (descriptor_area y) in
    let behind = slots_in_work a ++ offered ring in
    let pairs : AllPairs R (finished o a ++ behind) = subst (λ (list : List ℕ). AllPairs R list) slots.classes
    (outstanding-apart ring o slots.slot) in
    let across = pairs-across R (finished o a) behind pairs in
    let whole : All (λ d. IsInside (descriptor_area d) (ring_area ring)) (finished o a ++ behind) =
    subst (λ (list : List ℕ). All (λ d. IsInside (descriptor_area d) (ring_area ring)) list) slots.classes
    (outstanding-inside ring o slots.slot) in
    let inside = all-left (λ d. IsInside (descriptor_area d) (ring_area ring)) (finished o a) behind whole in
    λ k d below. foreign-in_ring o p a _ sound (inside k d below) (λ j e within. half-apart _ _ (across k d below j e within))

pub foreign-named : (o p : ℕ) (a : World) → Sound o p a → All (λ d. IsForeign a (named a.memory d)) (finished o a)
foreign-named o p a sound =
    let parts = parts-of o p a sound in
    let r = ring_area (receive_ring a) in
    let t = ring_area (transmit_ring a) in
    let payload = map (data_of a.memory) (offered (transmit_ring a)) in
    let names = map (named a.memory) (finished o a) in
    let work = work_areas a.memory a.adapter.receiver.work in
    let halves = map reported_half (slots_in_work a ++ offered (receive_ring a)) in
    let bytes = map status_byte (buffered a ++ offered (transmit_ring a)) in
    let named_r = all-left (AreApart r) names (work ++ offered_buffers a)
    (all-right (AreApart r) payload (names ++ (work ++ offered_buffers a)) parts.receive_rest) in
    let named_t = all-left (AreApart t) names (work ++ offered_buffers a)
    (all-right (AreApart t) payload (names ++ (work ++ offered_buffers a)) parts.transmit_rest) in
    let pairs = pairs-right AreApart payload (names ++ (work ++ offered_buffers a))
    (pairs-tail AreApart t (frame_areas o a) (pairs-tail AreApart r (t ∷ frame_areas o a) sound.separate.apart)) in
    let across = pairs-across AreApart names (work ++ offered_buffers a) pairs in
    let each : All (λ area. IsForeign a area) names = λ k d below.
    All-append (AreApart _) halves (bytes ++ offered_buffers a)
    (λ j e within. inside-apart _ _ r (parts.halves j e within) (apart-sym r _ (named_r k d below)))
    (All-append (AreApart _) bytes (offered_buffers a)
    (λ j e within. inside-apart _ _ t (parts.bytes j e within) (apart-sym t _ (named_t k d below)))
    (all-right (AreApart _) work (offered_buffers a) (across k d below))) in
    all-unmapped (λ area. IsForeign a area) (named a.memory) (finished o a) each

foreign-in_transmit : (o p : ℕ) (a : World) (area : Area) → Sound o p a → IsInside area (ring_area (transmit_ring a))
    → All (λ d. AreApart area (status_byte d)) (buffered a ++ offered (transmit_ring a)) → IsForeign a area
foreign-in_transmit o p a area sound inside apart =
    let parts = parts-of o p a sound in
    let r = ring_area (receive_ring a) in
    let t = ring_area (transmit_ring a) in
    let halves : All (AreApart area) (map reported_half (slots_in_work a ++ offered (receive_ring a))) =
    λ k d below. inside-apart area _ r (parts.halves k d below) (apart-inside area t r inside (apart-sym r t parts.rings)) in
    let buffers : All (AreApart area) (offered_buffers a) =
    λ k d below. apart-inside area t _ inside (last-buffers (AreApart t) o a parts.transmit_rest k d below) in
    All-append (AreApart area) (map reported_half (slots_in_work a ++ offered (receive_ring a)))
    (map status_byte (buffered a ++ offered (transmit_ring a)) ++ offered_buffers a)
    halves
    (All-append (AreApart area) (map status_byte (buffered a ++ offered (transmit_ring a))) (offered_buffers a)
    (All-map (AreApart area) status_byte (buffered a ++ offered (transmit_ring a)) apart)
    buffers)

foreign-written : (o p : ℕ) (a : World) → Sound o p a → All (λ d. IsForeign a (descriptor_area d)) (written_back_slots p a)
foreign-written o p a sound =
    let ring = transmit_ring a in
    let slots = sound.transmit_slots in
    let R : ℕ → ℕ → Type 0 = λ x y. AreApart (descriptor_area x) (descriptor_area y) in
    let behind = buffered a ++ offered ring in
    let pairs : AllPairs R (written_back_slots p a ++ behind) = subst (λ (list : List ℕ). AllPairs R list) slots.classes
    (outstanding-apart ring p slots.slot) in
    let across = pairs-across R (written_back_slots p a) behind pairs in
    let inside = dealt-left a.memory ring p (buffered a) (λ d. IsInside (descriptor_area d) (ring_area ring)) slots
    (outstanding-inside ring p slots.slot) in
    λ k d below. foreign-in_transmit o p a _ sound (inside k d below) (λ j e within. byte-apart _ _ (across k d below j e within))

-- The driver's slots, and the addresses in descriptors.

pub own-apart : (ring : Ring) (oldest slot : ℕ) → (oldest < count_of ring) ⊎ (outstanding ring oldest ≡ []) → IsDriversSlot ring oldest slot
    → All (λ d. AreApart (descriptor_area (address_of ring slot)) (descriptor_area d)) (outstanding ring oldest)
own-apart ring oldest slot dealt own =
    let at = address_of ring slot in
    let others = each-outstanding ring oldest (λ d. d ≢ at → AreApart (descriptor_area at) (descriptor_area d)) dealt
    (λ other below differ. far-apart ring.base slot other (λ same. differ (ap (address_of ring) same))) in
    λ k d within. others k d within (own.apart k d within)

pub foreign-receive_slot : (o p : ℕ) (a : World) (slot : ℕ) → Sound o p a → IsDriversSlot (receive_ring a) o slot
    → IsForeign a (descriptor_area (address_of (receive_ring a) slot))
foreign-receive_slot o p a slot sound own =
    let ring = receive_ring a in
    let at = address_of ring slot in
    let Apart : ℕ → Type 0 = λ d. AreApart (descriptor_area at) (reported_half d) in
    let apart = own-apart ring o slot sound.receive_slots.slot own in
    foreign-in_ring o p a (descriptor_area at) sound (slot-inside ring.base (count_of ring) slot 16 own.below (omega arith))
    (dealt-right a.memory ring o (slots_in_work a) Apart sound.receive_slots (λ k d within. half-apart at _ (apart k d within)))

front-apart : (base slot other : ℕ) → AreApart (record { address = base + 16 * slot; size = 8 }) (reported_half (base + 16 * other))
front-apart base slot other = ⊎_elim (λ (less : other < slot). inr (omega (arith, less)))
    (λ (more : slot ≤ other). inl (omega (arith, more))) (cases_lt other slot)

foreign-address : (o p : ℕ) (a : World) (slot : ℕ) → Sound o p a → slot < count_of (receive_ring a)
    → IsForeign a (record { address = address_of (receive_ring a) slot; size = 8 })
foreign-address o p a slot sound below =
    let ring = receive_ring a in
    let area : Area = record { address = address_of ring slot; size = 8 } in
    let Apart : ℕ → Type 0 = λ d. AreApart area (reported_half d) in
    foreign-in_ring o p a area sound (slot-inside ring.base (count_of ring) slot 8 below (omega arith))
    (dealt-right a.memory ring o (slots_in_work a) Apart sound.receive_slots
    (each-outstanding ring o Apart sound.receive_slots.slot (λ other within. front-apart ring.base slot other)))

address-front : (memory : List ℕ) (at : ℕ) → receive.named_address memory at ≡ little_number 8 (bytes_at memory at 8)
unfolding rx_desc_of
address-front memory at = little_from-take 0 8 16 (drop at memory) (omega arith)
    ∙ sym (little_from-take 0 8 8 (drop at memory) (omega arith))

-- The driver's transmit slots, and the bytes of transmit descriptors except the status.

pub foreign-transmit_slot : (o p : ℕ) (a : World) (slot : ℕ) → Sound o p a → IsDriversSlot (transmit_ring a) p slot
    → IsForeign a (descriptor_area (address_of (transmit_ring a) slot))
foreign-transmit_slot o p a slot sound own =
    let ring = transmit_ring a in
    let at = address_of ring slot in
    let Apart : ℕ → Type 0 = λ d. AreApart (descriptor_area at) (status_byte d) in
    let apart = own-apart ring p slot sound.transmit_slots.slot own in
    foreign-in_transmit o p a (descriptor_area at) sound (slot-inside ring.base (count_of ring) slot 16 own.below (omega arith))
    (dealt-right a.memory ring p (buffered a) Apart sound.transmit_slots (λ k d within. byte-apart at _ (apart k d within)))

front-status : (base slot other : ℕ) → AreApart (record { address = base + 16 * slot; size = 12 }) (status_byte (base + 16 * other))
front-status base slot other = ⊎_elim (λ (less : other < slot). inr (omega (arith, less)))
    (λ (more : slot ≤ other). inl (omega (arith, more))) (cases_lt other slot)

back-status : (base slot other : ℕ) → AreApart (record { address = base + 16 * slot + 13; size = 3 }) (status_byte (base + 16 * other))
back-status base slot other = ⊎_elim (λ (more : slot < other). inl (omega (arith, more)))
    (λ (less : other ≤ slot). inr (omega (arith, less))) (cases_lt slot other)

foreign-request : (o p : ℕ) (a : World) (area : Area) → Sound o p a → IsInside area (ring_area (transmit_ring a))
    → ((other : ℕ) → AreApart area (status_byte (address_of (transmit_ring a) other))) → IsForeign a area
foreign-request o p a area sound inside apart =
    let ring = transmit_ring a in
    let Apart : ℕ → Type 0 = λ d. AreApart area (status_byte d) in
    foreign-in_transmit o p a area sound inside
    (dealt-right a.memory ring p (buffered a) Apart sound.transmit_slots
    (each-outstanding ring p Apart sound.transmit_slots.slot (λ other within. apart other)))

-- A transmit descriptor by its bytes.

byte-front : (memory : List ℕ) (at i : ℕ) → i < 12 → slice_index (bytes_at memory at 16) i ≡ slice_index (bytes_at memory at 12) i
byte-front memory at i front = get_or-take 16 (drop at memory) i 0 (omega (arith, front)) ∙ sym (get_or-take 12 (drop at memory) i 0 front)

byte-back : (memory : List ℕ) (at i : ℕ) → i < 3
    → slice_index (bytes_at memory at 16) (13 + i) ≡ slice_index (bytes_at memory (at + 13) 3) i
byte-back memory at i back =
    let moved : at + (13 + i) ≡ (at + 13) + i = omega arith in
    get_or-take 16 (drop at memory) (13 + i) 0 (omega (arith, back))
    ∙ get_or-drop at memory (13 + i) 0
    ∙ ap (λ (k : ℕ). slice_index memory k) moved
    ∙ sym (get_or-drop (at + 13) memory i 0)
    ∙ sym (get_or-take 3 (drop (at + 13) memory) i 0 back)

little-same : (i n : ℕ) (xs ys : List ℕ) → ((j : ℕ) → j < i + n → slice_index xs j ≡ slice_index ys j)
    → little_from i n xs ≡ little_from i n ys
little-same i zero xs ys same = refl
little-same i (suc n) xs ys same =
    let byte = same i (omega arith) in
    let rest = little-same (suc i) n xs ys (λ j below. same j (omega (arith, below))) in
    rw (byte, rest) refl

same_fields : (address address' size size' cso cso' : ℕ) (command command' : TxCommand) (status : TxStatus) (css css' special special' : ℕ)
    → address ≡ address' → size ≡ size' → cso ≡ cso' → command ≡ command' → css ≡ css' → special ≡ special'
    → (let d : TxDesc = record
    { address = address; length = size; cso = cso; command = command; status = status; css = css; special = special } in d)
    ≡ record { address = address'; length = size'; cso = cso'; command = command'; status = status; css = css'; special = special' }
same_fields address address' size size' cso cso' command command' status css css' special special' e1 e2 e3 e4 e5 e6 = rw
    (e1, e2, e3, e4, e5, e6) refl

fields-same : (xs ys : List ℕ) → ((i : ℕ) → i < 12 → slice_index xs i ≡ slice_index ys i)
    → ((i : ℕ) → i < 3 → slice_index xs (13 + i) ≡ slice_index ys (13 + i))
    → tx_desc_of xs ≡ record (tx_desc_of ys) { status = (tx_desc_of xs).status }
unfolding tx_desc_of
fields-same xs ys front back =
    same_fields _ _ _ _ _ _ _ _ _ _ _ _ _
    (little-same 0 8 xs ys (λ j below. front j (omega (arith, below))))
    (little-same 0 2 (drop 8 xs) (drop 8 ys) (λ j below. get_or-drop 8 xs j 0 ∙ front (8 + j) (omega (arith, below))
    ∙ sym (get_or-drop 8 ys j 0)))
    (front 10 (omega arith))
    (ap command_of (front 11 (omega arith)))
    (back 0 (omega arith))
    (little-same 0 2 (drop 14 xs) (drop 14 ys) (λ j below. get_or-drop 14 xs j 0 ∙ ap (slice_index xs) (place j)
    ∙ back (1 + j) (omega (arith, below)) ∙ ap (slice_index ys) (sym (place j)) ∙ sym (get_or-drop 14 ys j 0)))
  where
    place : (j : ℕ) → 14 + j ≡ 13 + (1 + j)
    place j = omega arith

-- What doesn't change between two accesses.

pub drivers_side_stays : DriversSideStaysAlways
drivers_side_stays o p a b past sound happens =
    let between = happens.between o p sound in
    let receives = happens.steady.receive_ring.others in
    let transmits = happens.steady.transmit_ring.others in
    let slots : All (λ d. bytes_in b.memory (descriptor_area d) ≡ bytes_in a.memory (descriptor_area d))
    (finished o a) = λ k d below. between.untouched _ (foreign-finished o p a sound k d below) in
    let names = foreign-named o p a sound in
    record {
      between = between;
      outstanding_same = record {
        received = ap (λ (registers : RingRegisters). outstanding (ring_of registers) o) receives;
        sent = ap (λ (registers : RingRegisters). outstanding (ring_of registers) p) transmits;
      };
      finished_stay = record {
        slots = slots;
        frames =
            map-same (frame_named b) (frame_named a) (finished o a)
            (λ k d below. ap (bytes_in b.memory) (named-same a.memory b.memory _ (slots k d below))
            ∙ between.untouched _ (names k d below));
      };
      written_stay = λ k d below. between.untouched _ (foreign-written o p a sound k d below);
      receive_slots = λ slot own. record {
        own = subst (λ (registers : RingRegisters). IsDriversSlot (ring_of registers) o slot) (sym receives)
            (record { below = own.below; apart = own.apart });
        bytes = between.untouched _ (foreign-receive_slot o p a slot sound own);
      };
      transmit_slots = λ slot own. record {
        own = subst (λ (registers : RingRegisters). IsDriversSlot (ring_of registers) p slot) (sym transmits)
            (record { below = own.below; apart = own.apart });
        bytes = between.untouched _ (foreign-transmit_slot o p a slot sound own);
      };
      addresses = λ slot below.
          address-front b.memory (address_of (receive_ring a) slot)
          ∙ ap (little_number 8) (between.untouched _ (foreign-address o p a slot sound below))
          ∙ sym (address-front a.memory (address_of (receive_ring a) slot));
      requests = λ slot below.
          let ring = transmit_ring a in
          let at = address_of ring slot in
          let before : bytes_at b.memory at 12 ≡ bytes_at a.memory at 12 =
          between.untouched (record { address = at; size = 12 })
          (foreign-request o p a _ sound (slot-inside ring.base (count_of ring) slot 12 below (omega arith)) (front-status ring.base slot))
          in
          let behind : bytes_at b.memory (at + 13) 3 ≡ bytes_at a.memory (at + 13) 3 =
          between.untouched (record { address = at + 13; size = 3 })
          (foreign-request o p a _ sound (record { from = omega arith; to = omega (arith, below) }) (back-status ring.base slot)) in
          record {
            before = before;
            behind = behind;
            fields =
                fields-same (bytes_at b.memory at 16) (bytes_at a.memory at 16)
                (λ i front. byte-front b.memory at i front ∙ ap (λ (bytes : List ℕ). slice_index bytes i) before
                ∙ sym (byte-front a.memory at i front))
                (λ i back. byte-back b.memory at i back ∙ ap (λ (bytes : List ℕ). slice_index bytes i) behind
                ∙ sym (byte-back a.memory at i back));
          };
    }
