-- A frame is offered by advancing TDT by one, and the oldest transmit slot is freed.
use Rattle.std.proofs.Common.{Bool, true, false, cond, ◌≡◌, ◌≤◌, ◌<◌, ◌+◌, ◌-◌, ◌*◌, ◌%◌, ◌^◌, ◌++◌, ◌∷◌, [], ℕ, suc, List, length}
use Rattle.std.proofs.Common.{slice_index, map, inl, inr, ⊎_elim, refl, sym, ap, subst, ◌∙◌, arith}
use Rattle.std.specs.List.{All, take_while}
use Rattle.std.proofs.lemmas.Bool.{cases_eq}
use Rattle.std.proofs.lemmas.List.{append-nil}
use Rattle.std.proofs.lemmas.List.Elements.{All-append, All-cons}
use Rattle.std.proofs.lemmas.List.Sums.{take_while-cons}
use Rattle.registers.specs.Bits.{is_set}
use Rattle.dma_memory.specs.Areas.{AreApart, Area, IsInside, area_at}
use Rattle.dma_memory.specs.AreaLaws.{inside-apart}
use Rattle.dma_memory.specs.HostMemory.{LiesIn, bytes_at}
use Rattle.dma_memory.specs.Layout.{TransmitBuffer, area_of, receive_buffer_bytes}
use Rattle.dma_memory.specs.LayoutLaws.{addresses-fit, place-below_size}
use Rattle.descriptors.specs.Frames.{padded}
use Rattle.descriptors.specs.Laws.{length-tx_desc_bytes, tx_desc_of-tx_desc_bytes}
use Rattle.descriptors.specs.Ring.{address_of, next_of, slots_from}
use Rattle.descriptors.specs.RingLaws.{next-below, place, slots_from-push}
use Rattle.descriptors.specs.TxDesc.{tx_desc_of}
use Rattle.descriptors.specs.TxFields.{command_bits, command_of, sent_bits, sent_of}
use Rattle.descriptors.specs.declared.tx_desc.TxDesc.{TxDesc}
use Rattle.tx_engine.specs.Fetching.{IsTransmittable, transmit_descriptor_at, fetched, frame_at}
use Rattle.adapter_model.specs.Conditions.{Sound}
use Rattle.adapter_model.specs.HostAreas.{areas, data_of}
use Rattle.rx_engine.specs.Pieces.{frames_of}
use Rattle.adapter_model.specs.HostFrames.{frames_held, frames_to_send}
use Rattle.adapter_model.specs.Running.{CanTransmit}
use Rattle.adapter_model.specs.Slots.{is_done, outstanding, written_back_slots}
use Rattle.adapter_model.specs.World.{World, transmit_ring}
use Rattle.bus.proofs.Lists.{all-none, all-tail}
use Rattle.bus.proofs.SlotOffers.{frames_can_be_offered}
use Rattle.bus.proofs.TakingSlots.{written_slots_can_be_freed}
use Rattle.bus.specs.SlotOffers.{CanSend, OfferedFrame, offering_frame}
use Rattle.bus.specs.FreedSlots.{behind_oldest_transmit}
use Rattle.bus.specs.DriverState.{DriverState, transmit_slot, transmit_tail}
use Rattle.bus.specs.ReadyDrivers.{Ready}
use Rattle.bus.specs.Calls.{transmit_buffer, whole_descriptor}
use Rattle.bus.specs.TransmitSteps.{FrameIsOffered, NoneIsWrittenBack, SlotIsFreed}
use Rattle.bus.proofs.Places.{outstanding-known, place-next, places-differ}
use Rattle.bus.proofs.StepsWithoutFrames.{goes-rests}
use Rattle.bus.proofs.Intervals.{misses-stay}
use Rattle.bus.proofs.TransmitSlots.{next_slot_belongs_to_driver, drivers-buffer}
use Rattle.bus.proofs.AlikeWorlds.{same-driver}

-- The descriptor of a frame

abbrev whole_desc : ℕ → ℕ → TxDesc
whole_desc address size = record
    { address = address; length = size; cso = 0; command = command_of 0x0B; status = sent_of 0; css = 0; special = 0 }

pub length-whole : (address size : ℕ) → length (whole_descriptor address size) ≡ 16
length-whole address size = length-tx_desc_bytes (whole_desc address size)

whole-read : (address size : ℕ) → address < 2 ^ 64 → size ≤ 1518 → tx_desc_of (whole_descriptor address size) ≡ whole_desc address size
whole-read address size fits short =
    tx_desc_of-tx_desc_bytes (whole_desc address size)
    (record {
      address = fits;
      length = omega (arith, short);
      cso = omega arith;
      command = omega arith;
      status = omega arith;
      css = omega
          arith;
      special = omega arith;
    })

pub status-byte : (bytes : List ℕ) → sent_bits (tx_desc_of bytes).status ≡ slice_index bytes 12
unfolding tx_desc_of
status-byte bytes = refl

-- The descriptor isn't done, asks for a report, and names `size` bytes of data at `address`. Its frame consists of these bytes, padded. The
-- frame can be transmitted if it has at least 14 bytes, and the bytes are in memory.
record Says (memory : List ℕ) (slot address size : ℕ) : Type 0 where
  clear : is_done memory slot ≡ false
  reports : (fetched true memory slot).rs ≡ true
  place_of : data_of memory slot ≡ area_at address size
  frame : frame_at true memory slot ≡ padded (bytes_at memory address size)
  transmittable : 14 ≤ size → LiesIn memory address size → CanTransmit memory slot

whole-says : (memory : List ℕ) (slot address size : ℕ) → address < 2 ^ 64 → size ≤ 1518
    → bytes_at memory slot 16 ≡ whole_descriptor address size → Says memory slot address size
whole-says memory slot address size fits short bytes =
    let read : transmit_descriptor_at memory slot ≡ whole_desc address size = ap tx_desc_of bytes ∙ whole-read address size fits short in
    let none : slice_index (bytes_at memory slot 16) 12 ≡ 0 = sym (status-byte (bytes_at memory slot 16))
    ∙ ap (λ (desc : TxDesc). sent_bits desc.status) read in
    record {
      clear = ap (λ (status : ℕ). is_set status 0) none;
      reports = ap (λ (desc : TxDesc). is_set (command_bits desc.command) 3) read;
      place_of = ap (λ (desc : TxDesc). area_at desc.address desc.length) read;
      frame = ap (λ (desc : TxDesc). padded (bytes_at memory desc.address desc.length)) read;
      transmittable = λ least lies.
          subst (IsTransmittable memory) (sym read)
          (record { ends = refl; legacy = omega arith; least = omega (arith, least); most = short; lies = lies });
    }

-- The slot at the tail is offered

-- the data of a transmit slot is in the slot's own buffer
abbrev HasSource : DriverState → List ℕ → ℕ → Type 0
HasSource driver memory slot = IsInside (data_of memory (transmit_slot driver.layout slot)) (area_of driver.layout (TransmitBuffer slot))

pub frame_is_offered : FrameIsOffered
frame_is_offered driver frame world ready room least short stands =
    let counts = driver.layout in
    let n = counts.tx in
    let o = driver.oldest_receive in
    let p = driver.oldest_transmit in
    let k = driver.sending in
    let up = ready.transmit in
    let ring = transmit_ring world in
    let slot = transmit_tail driver in
    let at = transmit_slot counts slot in
    let size = length frame in
    let start = transmit_buffer counts slot in
    let area = area_at start size in
    let whole = area_of counts (TransmitBuffer slot) in
    let buffer = drivers-buffer driver slot world ready (next_slot_belongs_to_driver driver world ready) in
    let inside : IsInside area whole = record { from = omega arith; to = omega (arith, short) } in
    let ends = place-below_size counts (TransmitBuffer slot) buffer.below in
    let is : at ≡ address_of ring ring.tail = omega (arith, up.knows.begins, up.knows.last) in
    let fits : start < 2 ^ 64 = omega (arith, ends, addresses-fit ready.driver_is.allowed) in
    let reads = whole-says world.memory at start size fits short stands.descriptor in
    let says = subst (λ (address : ℕ). Says world.memory address start size) is reads in
    let lies : LiesIn world.memory start size = omega (arith, buffer.lies, short) in
    let apart : All (λ other. AreApart other area) (areas o world) = λ i d below. inside-apart _ area whole inside
    (buffer.apart i d below) in
    let next : next_of ring ring.tail ≡ (slot + 1) % n = ap (λ (count : ℕ). (ring.tail + 1) % count) up.knows.slots
    ∙ ap (λ (tail : ℕ). (tail + 1) % n) up.knows.last in
    let moved : place n p (k + 1) ≡ (slot + 1) % n = place-next n p k in
    let more : k + 1 ≡ suc k = omega arith in
    let can : CanSend o p world = record {
      ring = record {
        oldest_slot = omega (arith, up.knows.slots, up.oldest_slot);
        head_slot = omega (arith, up.knows.slots, up.knows.head_slot);
        tail_slot = omega (arith, up.knows.slots, up.knows.last, buffer.below);
        room = λ same. places-differ n p 0 (k + 1) up.oldest_slot (omega arith) room (sym (moved ∙ sym next ∙ same));
      };
      fresh = says.clear;
      reports = says.reports;
      pads = up.pads;
      lies = subst (λ (there : Area). LiesIn world.memory there.address there.size) (sym says.place_of) lies;
      apart = subst (λ (there : Area). All (λ other. AreApart other there) (areas o world)) (sym says.place_of) apart;
    } in
    let done : OfferedFrame o p world (offering_frame world) = frames_can_be_offered o p world ready.law.sound can in
    let Source = HasSource driver world.memory in
    let here : Source slot = subst (λ (there : Area). IsInside there whole) (sym reads.place_of) inside in
    let sources : All Source (slots_from n p (k + 1)) =
    subst (λ (slots : List ℕ). All Source slots) (sym (ap (slots_from n p) more ∙ slots_from-push n p k))
    (All-append Source (slots_from n p k) (slot ∷ []) up.sources (All-cons Source slot [] here (all-none Source))) in
    record {
      flows = record {
        ready = record {
          driver_is = record {
            oldest_slot = ready.driver_is.oldest_slot;
            room = ready.driver_is.room;
            one_owner =
                ready.driver_is.one_owner;
            allowed = ready.driver_is.allowed;
          };
          law = record {
            sound = done.sound;
            runs = done.runs (says.transmittable least lies) ready.law.runs;
            fit = done.received.fits receive_buffer_bytes ready.law.fit;
            whole = done.received.whole receive_buffer_bytes ready.law.whole;
          };
          lies = ready.lies;
          receive = ready.receive;
          transmit = record {
            oldest_slot = up.oldest_slot;
            room = room;
            pads = up.pads;
            knows = record { begins = up.knows.begins; slots = up.knows.slots; last = next ∙ sym moved; head_slot = up.knows.head_slot };
            sources = sources;
          };
          slots = record { names = ready.slots.names; stored = ready.slots.stored };
          stand = ready.stand;
        };
        layout = refl;
        sends = done.to_send ∙ ap (λ (last : List ℕ). frames_to_send world ++ last ∷ []) (says.frame ∙ ap padded stands.bytes);
        holds = done.received.held ∙ sym (append-nil (frames_held o world));
        least = omega (arith, ap length (ap frames_of done.received.pieces_same));
        frees = omega (arith, ap length done.written_same);
        mask = refl;
        misses = misses-stay driver (record driver { sending = driver.sending + 1 }) world (offering_frame world) refl refl refl;
      };
      causes = λ bit has. has;
      recorded = inl (omega (arith, ap length (ap frames_of done.received.pieces_same)));
    }

-- Written-back slots

outstanding-first : (driver : DriverState) (world : World) → Ready driver world → 0 < driver.sending
    → outstanding (transmit_ring world) driver.oldest_transmit
    ≡ transmit_slot driver.layout driver.oldest_transmit ∷ map (transmit_slot driver.layout)
    (slots_from driver.layout.tx ((driver.oldest_transmit + 1) % driver.layout.tx) (driver.sending - 1))
outstanding-first driver world ready some =
    let up = ready.transmit in
    let more : driver.sending ≡ suc (driver.sending - 1) = omega (arith, some) in
    outstanding-known (transmit_ring world) (16 * driver.layout.rx) driver.layout.tx driver.oldest_transmit driver.sending up.knows
    up.oldest_slot up.room
    ∙ ap (λ (k : ℕ). map (transmit_slot driver.layout) (slots_from driver.layout.tx driver.oldest_transmit k)) more

-- If the oldest slot is done, it is the first written-back slot; otherwise no slot is written back.
written-first : (driver : DriverState) (world : World) (done : Bool) → Ready driver world → 0 < driver.sending
    → is_done world.memory (transmit_slot driver.layout driver.oldest_transmit) ≡ done
    → written_back_slots driver.oldest_transmit world
    ≡ cond done (transmit_slot driver.layout driver.oldest_transmit
    ∷ take_while (is_done world.memory)
    (map (transmit_slot driver.layout)
    (slots_from driver.layout.tx ((driver.oldest_transmit + 1) % driver.layout.tx) (driver.sending - 1)))) []
written-first driver world done ready some is =
    let test = is_done world.memory in
    let first = transmit_slot driver.layout driver.oldest_transmit in
    let others = map (transmit_slot driver.layout)
    (slots_from driver.layout.tx ((driver.oldest_transmit + 1) % driver.layout.tx) (driver.sending - 1)) in
    ap (take_while test) (outstanding-first driver world ready some) ∙ take_while-cons test first others
    ∙ ap (λ (b : Bool). cond b (first ∷ take_while test others) []) is

none-outstanding : (driver : DriverState) (world : World) → Ready driver world → driver.sending ≡ 0
    → written_back_slots driver.oldest_transmit world ≡ []
none-outstanding driver world ready none =
    let up = ready.transmit in
    ap (take_while (is_done world.memory))
    (outstanding-known (transmit_ring world) (16 * driver.layout.rx) driver.layout.tx driver.oldest_transmit driver.sending up.knows
    up.oldest_slot up.room
    ∙ ap (λ (k : ℕ). map (transmit_slot driver.layout) (slots_from driver.layout.tx driver.oldest_transmit k)) none)

pub none_is_written_back : NoneIsWrittenBack
none_is_written_back driver world ready (inl none) = none-outstanding driver world ready none
none_is_written_back driver world ready (inr clear) =
    ⊎_elim
    (λ (none : driver.sending ≡ 0). none-outstanding driver world ready none)
    (λ (differ : ¬ (driver.sending ≡ 0)). written-first driver world false ready (omega (arith, differ)) clear)
    (cases_eq driver.sending 0)

-- The oldest slot is freed

record FreedTo (driver : DriverState) (world : World) (later : List ℕ) (next : ℕ) : Type 0 where
  sound : Sound driver.oldest_receive next world
  behind : written_back_slots next world ≡ later

pub slot_is_freed : SlotIsFreed
slot_is_freed driver world ready some done =
    let n = driver.layout.tx in
    let p = driver.oldest_transmit in
    let next = (p + 1) % n in
    let up = ready.transmit in
    let later = take_while (is_done world.memory) (map (transmit_slot driver.layout) (slots_from n next (driver.sending - 1))) in
    let first : written_back_slots p world ≡ transmit_slot driver.layout p ∷ later = written-first driver world true ready some done in
    let freed = written_slots_can_be_freed driver.oldest_receive p world (transmit_slot driver.layout p) later ready.law.sound first in
    let here : FreedTo driver world later (behind_oldest_transmit p world) = record { sound = freed.sound; behind = freed.behind } in
    let there : FreedTo driver world later next = subst (FreedTo driver world later)
    (ap (λ (count : ℕ). (p + 1) % count) up.knows.slots) here in
    let more : driver.sending ≡ suc (driver.sending - 1) = omega (arith, some) in
    let Source = HasSource driver world.memory in
    let sources : All Source (p ∷ slots_from n next (driver.sending - 1)) = subst
    (λ (k : ℕ). All Source (slots_from n p k)) more up.sources in
    goes-rests driver next (driver.sending - 1) world world
    (record {
      driver_is = same-driver driver next (driver.sending - 1) driver.missed driver.exact ready.driver_is;
      law = record {
        sound = there.sound;
        runs = ready.law.runs;
        fit = ready.law.fit;
        whole = ready.law.whole;
      };
      lies = ready.lies;
      receive = ready.receive;
      transmit = record {
        oldest_slot = next-below n p up.oldest_slot;
        room = omega (arith, up.room);
        pads = up.pads;
        knows = record {
          begins = up.knows.begins;
          slots = up.knows.slots;
          last = up.knows.last
              ∙ ap (place n p) more;
          head_slot = up.knows.head_slot;
        };
        sources = all-tail Source p (slots_from n next (driver.sending - 1)) sources;
      };
      slots = record { names = ready.slots.names; stored = ready.slots.stored };
      stand = ready.stand;
    })
    (record {
      to_send = refl;
      held = refl;
      pieces_same = refl;
      frees = omega (arith, ap length first, ap length there.behind, some);
      causes = refl;
      missed_packets = refl;
    })
