-- A driver stores to memory that the adapter doesn't use, such as the descriptor of its next slot.
use Rattle.std.proofs.Common.{Bool, inl, ◌≡◌, ◌<◌, ◌+◌, ◌*◌, ◌%◌, ◌^◌, ◌++◌, ◌∷◌, [], false, ℕ, List, length, slice_index, refl, sym, ap}
use Rattle.std.proofs.Common.{subst, ◌∙◌, length-append, arith}
use Rattle.registers.specs.Bits.{is_set}
use Rattle.dma_memory.specs.Areas.{AreApart, area_at}
use Rattle.dma_memory.specs.AreaLaws.{apart-inside, changes_only_stored}
use Rattle.dma_memory.specs.HostMemory.{LiesIn, bytes_at, with_bytes}
use Rattle.dma_memory.specs.Laws.{bytes_at-elsewhere, bytes_at-stored, length-with_bytes}
use Rattle.dma_memory.specs.Layout.{Counts, ReceiveBuffer, ReceiveRing, area_of, receive_buffer_bytes}
use Rattle.dma_memory.specs.LayoutLaws.{places-apart}
use Rattle.dma_memory.specs.OwnersLaws.{copies-cons, copies-push}
use Rattle.descriptors.specs.declared.rx_desc.RxDesc.{RxDesc}
use Rattle.descriptors.specs.Laws.{length-rx_desc_bytes, rx_desc_of-rx_desc_bytes}
use Rattle.descriptors.specs.Ring.{address_of}
use Rattle.descriptors.specs.RingLaws.{place}
use Rattle.descriptors.specs.RxDesc.{rx_desc_of}
use Rattle.descriptors.specs.RxStatus.{status_bits, status_of}
use Rattle.descriptors.specs.TxDesc.{tx_desc_of}
use Rattle.rx_engine.specs.Descriptors.{named_address}
use Rattle.adapter_model.specs.Slots.{is_done, outstanding}
use Rattle.adapter_model.specs.World.{World, receive_ring, transmit_ring, world_after_store}
use Rattle.bus.specs.DriversStores.{IsDriversArea}
use Rattle.bus.specs.Pasts.{nothing}
use Rattle.bus.proofs.WrittenAreas.{same-apart}
use Rattle.bus.proofs.DriversStores.{drivers_stores_leave_frames}
use Rattle.bus.proofs.Rings.{far-apart}
use Rattle.bus.specs.WritableSlots.{CanBeWritten}
use Rattle.bus.proofs.Buffers.{stand-kept}
use Rattle.bus.proofs.WritableSlots.{drivers_receive_slots_can_be_written}
use Rattle.bus.proofs.Owners.{one_owner-dealt}
use Rattle.bus.proofs.Places.{place-add, place-below, places-differ}
use Rattle.bus.proofs.Readiness.{Keeps, own-staged, ready-kept, stored-kept, with_staged}
use Rattle.bus.proofs.Steps.{goes-passes, passes-same}
use Rattle.bus.specs.DriverState.{DriverState, buffer_at, next_receive, receive_slot, receive_tail}
use Rattle.bus.specs.Calls.{GoesTo, driver_did, driver_in}
use Rattle.bus.specs.ReadyDrivers.{AreStored, IsDriver, ReadyWith, empty_descriptor}
use Rattle.bus.specs.ReceiveSteps.{SlotsCanBeStaged}

keeps-store : {up : Bool} (d : DriverState) (a : World) (address : ℕ) (bytes : List ℕ) → ReadyWith up d a
    → LiesIn a.memory address (length bytes)
    → IsDriversArea d.oldest_receive d.oldest_transmit a (area_at address (length bytes))
    → Keeps d.oldest_receive d.oldest_transmit a (world_after_store address bytes a)
keeps-store {up} d a address bytes ready lies own =
    let o = d.oldest_receive in
    let p = d.oldest_transmit in
    let leaves = drivers_stores_leave_frames o p a address bytes ready.law.sound lies own in
    let memory' = with_bytes a.memory address bytes in
    let area = area_at address (length bytes) in
    let changes = changes_only_stored a.memory bytes address lies in
    let received = same-apart a.memory memory' area (outstanding (receive_ring a) o) changes own.received in
    let sent = same-apart a.memory memory' area (outstanding (transmit_ring a) p) changes own.sent in
    record {
      law = record {
        sound = leaves.same.sound;
        runs = leaves.runs ready.law.runs;
        fit = leaves.same.fits receive_buffer_bytes ready.law.fit.large ready.law.fit;
        whole = leaves.same.whole receive_buffer_bytes ready.law.whole.sized ready.law.whole;
      };
      size = length-with_bytes a.memory bytes address lies;
      filter = refl;
      control = refl;
      receives = record { others = refl; head = inl refl };
      transmits = record { others = refl; head = inl refl };
      addresses = λ k slot below. ap (λ (list : List ℕ). (rx_desc_of list).address) (received k slot below);
      sources = λ k slot below. ap (λ (list : List ℕ). area_at (tx_desc_of list).address (tx_desc_of list).length) (sent k slot below);
      none_to_send = λ none. leaves.same.to_send ∙ none;
    }

-- A store to an area of the driver that is apart from all receive buffers is an interval, after which slots may be staged.
pub goes-stores : {up : Bool} (d : DriverState) (staged pool : List ℕ) (a : World) (address : ℕ) (bytes : List ℕ) → ReadyWith up d a
    → LiesIn a.memory address (length bytes)
    → IsDriversArea d.oldest_receive d.oldest_transmit a (area_at address (length bytes)) → IsDriver (with_staged d staged pool)
    → AreStored (with_bytes a.memory address bytes) d.layout (receive_tail d) staged
    → ((number : ℕ) → number < d.layout.buffers → AreApart (area_at address (length bytes)) (area_of d.layout (ReceiveBuffer number)))
    → GoesTo up (driver_in d a) (driver_in (with_staged d staged pool) (world_after_store address bytes a)) (driver_did [] []) nothing
goes-stores {up} d staged pool a address bytes ready lies own driver stored away =
    let b = world_after_store address bytes a in
    let leaves = drivers_stores_leave_frames d.oldest_receive d.oldest_transmit a address bytes ready.law.sound lies own in
    let changes = changes_only_stored a.memory bytes address lies in
    let stand = stand-kept d a b ready (λ number known free. changes.others (area_of d.layout (ReceiveBuffer number)) (away number known))
    in
    goes-passes d d.buffers staged pool d.handed_out a b nothing (passes-same d.oldest_receive d.oldest_transmit a b leaves.same refl refl)
    (ready-kept d staged pool a b ready (keeps-store d a address bytes ready lies own) driver stored stand)

-- A descriptor with the address of a buffer, and otherwise 0

abbrev empty_fields : ℕ → RxDesc
empty_fields buffer = record { address = buffer; length = 0; checksum = 0; status = status_of 0; errors = 0; special = 0 }

pub length-empty_descriptor : (buffer : ℕ) → length (empty_descriptor buffer) ≡ 16
length-empty_descriptor buffer = length-rx_desc_bytes (empty_fields buffer)

pub status-bits : (bytes : List ℕ) → status_bits (rx_desc_of bytes).status ≡ slice_index bytes 12
unfolding rx_desc_of
status-bits bytes = refl

-- The descriptor of this slot isn't done, and has the address of this buffer.
pub record IsEmpty (memory : List ℕ) (slot buffer : ℕ) : Type 0 where
  pub clear : is_done memory slot ≡ false
  pub names : named_address memory slot ≡ buffer

pub empty-stored : (memory : List ℕ) (slot buffer : ℕ) → buffer < 2 ^ 64 → bytes_at memory slot 16 ≡ empty_descriptor buffer
    → IsEmpty memory slot buffer
empty-stored memory slot buffer fits bytes =
    let fields : rx_desc_of (bytes_at memory slot 16) ≡ empty_fields buffer =
    ap rx_desc_of bytes ∙ rx_desc_of-rx_desc_bytes (empty_fields buffer)
    (record {
      address = fits;
      length = omega arith;
      checksum = omega arith;
      status = omega arith;
      errors = omega arith;
      special = omega
          arith;
    }) in
    record {
      clear = ap (λ (status : ℕ). is_set status 0) (sym (status-bits (bytes_at memory slot 16))
          ∙ ap (λ (desc : RxDesc). status_bits desc.status) fields);
      names = ap (λ (desc : RxDesc). desc.address) fields;
    }

-- One more slot is staged

stored-push : (memory : List ℕ) (counts : Counts) (slot : ℕ) (numbers : List ℕ) (m : ℕ) → AreStored memory counts slot numbers
    → bytes_at memory (receive_slot (place counts.rx slot (length numbers))) 16 ≡ empty_descriptor (buffer_at counts m)
    → AreStored memory counts slot (numbers ++ m ∷ [])
stored-push memory counts slot [] m stored here = (here, tt)
stored-push memory counts slot (number ∷ later) m stored here =
    (stored.0, stored-push memory counts ((slot + 1) % counts.rx) later m stored.1 here)

pub slots-apart : (x y size : ℕ) → size ≡ 16 → ¬ (y ≡ x) → AreApart (area_at (receive_slot x) size) (area_at (receive_slot y) 16)
slots-apart x y size long differ =
    let base : (i : ℕ) → 0 + 16 * i ≡ receive_slot i = λ i. omega arith in
    subst (λ (n : ℕ). AreApart (area_at (receive_slot x) n) (area_at (receive_slot y) 16)) (sym long)
    (subst (λ (at : ℕ). AreApart (area_at (receive_slot x) 16) (area_at at 16)) (base y)
    (subst (λ (at : ℕ). AreApart (area_at at 16) (area_at (0 + 16 * y) 16)) (base x) (far-apart 0 x y differ)))

pub slots_can_be_staged : SlotsCanBeStaged
slots_can_be_staged up d m pool a ready room known moves =
    let n = d.layout.rx in
    let i = length d.buffers in
    let j = length d.staged in
    let first = d.oldest_receive in
    let slot = receive_slot (next_receive d) in
    let bytes = empty_descriptor (buffer_at d.layout m) in
    let memory' = with_bytes a.memory slot bytes in
    let staged' = d.staged ++ m ∷ [] in
    let long = length-empty_descriptor (buffer_at d.layout m) in
    let walked : place n (receive_tail d) j ≡ next_receive d = sym (place-add n first i j) in
    let at : address_of (receive_ring a) (place n (receive_tail d) j)
    ≡ slot = omega (arith, ready.receive.begins, ap (λ (index : ℕ). 16 * index) walked) in
    let own : CanBeWritten first d.oldest_transmit a slot = subst (CanBeWritten first d.oldest_transmit a) at
    (drivers_receive_slots_can_be_written first d.oldest_transmit _ a ready.law.sound (own-staged d a j ready (omega (arith, room)))) in
    let lies : LiesIn a.memory slot (length bytes) = subst (λ (size : ℕ). LiesIn a.memory slot size) (sym long) own.lies in
    let mine : IsDriversArea first d.oldest_transmit a (area_at slot (length bytes)) = subst
    (λ (size : ℕ). IsDriversArea first d.oldest_transmit a (area_at slot size)) (sym long) own.own in
    let others : (k : ℕ) → k < j
    → bytes_at memory' (receive_slot (place n (receive_tail d) k)) 16
    ≡ bytes_at a.memory (receive_slot (place n (receive_tail d) k)) 16 = λ k before.
    bytes_at-elsewhere a.memory bytes slot (receive_slot (place n (receive_tail d) k)) 16 lies
    (slots-apart (next_receive d) (place n (receive_tail d) k) (length bytes) long
    (λ equal. places-differ n first (i + k) (i + j) ready.driver_is.oldest_slot (omega (arith, before)) (omega (arith, room))
    (place-add n first i k ∙ equal))) in
    let here : bytes_at memory' (receive_slot (place n (receive_tail d) j)) 16 ≡ bytes =
    ap (λ (index : ℕ). bytes_at memory' (receive_slot index) 16) walked
    ∙ subst (λ (size : ℕ). bytes_at memory' slot size ≡ bytes) long (bytes_at-stored a.memory bytes slot lies) in
    let below : next_receive d < n = place-below n first (i + j) ready.driver_is.oldest_slot in
    goes-stores d staged' pool a slot bytes ready lies mine
    (record {
      oldest_slot = ready.driver_is.oldest_slot;
      room = omega (arith, room, length-append d.staged (m ∷ []));
      one_owner = one_owner-dealt d.layout.buffers d (with_staged d staged' pool)
          (λ k. omega (arith, moves k, copies-cons k m pool, copies-push k m d.staged)) ready.driver_is.one_owner;
      allowed = ready.driver_is.allowed;
    })
    (stored-push memory' d.layout (receive_tail d) d.staged m
    (stored-kept a.memory memory' d.layout (receive_tail d) d.staged others ready.slots.stored) here)
    (λ number within.
    apart-inside (area_at slot (length bytes)) (area_of d.layout ReceiveRing) (area_of d.layout (ReceiveBuffer number))
    (record { from = omega arith; to = omega (arith, long, below) })
    (places-apart d.layout ReceiveRing (ReceiveBuffer number) tt within (λ same. absurd (cc))))
