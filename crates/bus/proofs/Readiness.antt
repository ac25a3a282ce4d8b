-- A driver is still ready in another world in which everything is the same that the driver relies on.
use Rattle.std.proofs.Common.{true, false, Bool, ◌≡◌, ◌≤◌, ◌<◌, ◌+◌, ◌*◌, ◌%◌, ◌∷◌, [], ℕ, suc, List, length, get_or, map, sym}
use Rattle.std.proofs.Common.{ap, subst, ◌∙◌, arith}
use Rattle.std.specs.List.{All}
use Rattle.registers.specs.Bits.{HasBit}
use Rattle.dma_memory.specs.Areas.{Area, IsInside, area_at}
use Rattle.dma_memory.specs.HostMemory.{bytes_at}
use Rattle.dma_memory.specs.Layout.{Counts, TransmitBuffer, area_of, size_of, receive_buffer_bytes}
use Rattle.descriptors.specs.declared.ring.Ring.{Ring}
use Rattle.descriptors.specs.declared.tx_desc.TxDesc.{TxDesc}
use Rattle.descriptors.specs.Ring.{address_of, offered_places, slots_from}
use Rattle.descriptors.specs.RingLaws.{place}
use Rattle.rx_engine.specs.Descriptors.{named_address}
use Rattle.tx_engine.specs.ToSend.{to_send}
use Rattle.tx_engine.specs.Transmitter.{Queued}
use Rattle.adapter_model.specs.HostAreas.{data_of}
use Rattle.adapter_model.specs.HostFrames.{frames_to_send}
use Rattle.adapter_model.specs.Rings.{ring_of}
use Rattle.adapter_model.specs.Slots.{offered, outstanding}
use Rattle.adapter_model.specs.World.{World, receive_ring, transmit_ring}
use Rattle.adapter_model.specs.declared.ring.RingRegisters.{RingRegisters}
use Rattle.bus.specs.Law.{Happens, OnlyHeadMoves}
use Rattle.bus.specs.DriversSlots.{IsDriversSlot}
use Rattle.bus.specs.Pasts.{Past}
use Rattle.bus.proofs.IdleRings.{still-idle, none-to_send}
use Rattle.bus.proofs.Lists.{all-unmapped, append-empty, map-empty, map-same}
use Rattle.bus.proofs.DriversSlots.{drivers_side_stays}
use Rattle.bus.proofs.Rings.{each-outstanding}
use Rattle.bus.proofs.KnownRings.{knows-carried}
use Rattle.bus.proofs.Places.{outstanding-known, own-behind}
use Rattle.bus.specs.DriverState.{DriverState, receive_slot, receive_tail, transmit_slot, with_owners}
use Rattle.bus.specs.ReadyDrivers.{AreStored, IsDriver, MeetsLaw, ReadyWith, Stands, TransmitIs, TransmitIsOff, transmit_side}

-- the driver with other staged and free buffers
abbrev pub with_staged : DriverState → (staged pool : List ℕ) → DriverState
with_staged d staged pool = with_owners d d.buffers staged pool d.handed_out

-- Staged slots remain stored

pub stored-kept : (memory memory' : List ℕ) (counts : Counts) (slot : ℕ) (numbers : List ℕ)
    → ((i : ℕ) → i < length numbers
    → bytes_at memory' (receive_slot (place counts.rx slot i)) 16 ≡ bytes_at memory (receive_slot (place counts.rx slot i)) 16)
    → AreStored memory counts slot numbers → AreStored memory' counts slot numbers
stored-kept memory memory' counts slot [] same stored = tt
stored-kept memory memory' counts slot (number ∷ later) same stored = (
  same 0 (omega arith)
      ∙ stored.0,
  stored-kept memory memory' counts ((slot + 1) % counts.rx) later
      (λ i below. same (suc i) (omega (arith, below))) stored.1,
)

pub own-staged : {up : Bool} (d : DriverState) (world : World) (i : ℕ) → ReadyWith up d world → length d.buffers + i < d.layout.rx
    → IsDriversSlot (receive_ring world) d.oldest_receive (place d.layout.rx (receive_tail d) i)
own-staged {up} d world i ready below = own-behind (receive_ring world) 0 d.layout.rx d.oldest_receive
    (length d.buffers) i ready.receive ready.driver_is.oldest_slot below

-- The conditions of the bus law hold in the world b. Both worlds have the same size of memory, filter registers and TCTL, and the same
-- rings except their heads. The addresses in outstanding slots are the same, and if no frame is to be sent in a, none is in b.
pub record Keeps (o p : ℕ) (a b : World) : Type 0 where
  pub law : MeetsLaw o p b
  pub size : length b.memory ≡ length a.memory
  pub filter : b.adapter.filter ≡ a.adapter.filter
  pub control : b.adapter.transmit_control ≡ a.adapter.transmit_control
  pub receives : OnlyHeadMoves a.adapter.receive_ring b.adapter.receive_ring
  pub transmits : OnlyHeadMoves a.adapter.transmit_ring b.adapter.transmit_ring
  pub addresses : All (λ slot. named_address b.memory slot ≡ named_address a.memory slot) (outstanding (receive_ring a) o)
  pub sources : All (λ slot. data_of b.memory slot ≡ data_of a.memory slot) (outstanding (transmit_ring a) p)
  pub none_to_send : frames_to_send a ≡ [] → frames_to_send b ≡ []

-- The transmit side remains set up or off

none-left : (memory : List ℕ) (ring : Ring) (buffer : List Queued) → to_send memory ring true buffer ≡ [] → (buffer ≡ [])
    × (offered ring ≡ [])
unfolding to_send
none-left memory ring buffer none =
    let parts = append-empty _ _ none in
    (map-empty (λ (queued : Queued). queued.frame) buffer parts.0, ap (map (address_of ring)) (map-empty _ (offered_places ring) parts.1))

transmit-kept : (up : Bool) (o : ℕ) (counts : Counts) (p sending : ℕ) (a b : World) → Keeps o p a b
    → TransmitIs up counts p sending (transmit_side a) → TransmitIs up counts p sending (transmit_side b)
transmit-kept true o counts p sending a b keeps side =
    let slots = slots_from counts.tx p sending in
    let Same : ℕ → Type 0 = λ slot. data_of b.memory slot ≡ data_of a.memory slot in
    let known = outstanding-known (transmit_ring a) (16 * counts.rx) counts.tx p sending side.knows side.oldest_slot side.room in
    let same : All (λ slot. Same (transmit_slot counts slot)) slots = all-unmapped Same (transmit_slot counts) slots
    (subst (λ (list : List ℕ). All Same list) known keeps.sources) in
    record {
      oldest_slot = side.oldest_slot;
      room = side.room;
      pads = subst (λ (control : ℕ). HasBit control 3) (sym keeps.control) side.pads;
      knows = knows-carried a.adapter.transmit_ring b.adapter.transmit_ring
          (16 * counts.rx) counts.tx _ keeps.transmits side.knows;
      sources = λ k d below. subst (λ (area : Area). IsInside area (area_of counts (TransmitBuffer (get_or slots k d))))
          (sym (same k d below)) (side.sources k d below);
    }
transmit-kept false o counts p sending a b keeps side =
    let before = a.adapter.transmit_ring in
    let behind = b.adapter.transmit_ring in
    let none = none-left b.memory (transmit_ring b) b.adapter.transmitter.buffer
    (keeps.none_to_send (none-to_send a.memory (transmit_ring a) a.adapter.transmitter.buffer side.empty side.idle)) in
    let tail : behind.tail ≡ before.tail = ap (λ (ring : RingRegisters). ring.tail) keeps.transmits.others in
    let head : behind.head ≡ before.head = still-idle before behind keeps.transmits side.idle none.1 ∙ tail
    ∙ sym side.idle in
    let same : behind ≡ before = keeps.transmits.others
    ∙ ap (λ (index : ℕ). let ring : RingRegisters = record before { head = index } in ring) head in
    subst (λ (ring : RingRegisters). TransmitIsOff counts p sending (ring_of ring) b.adapter.transmitter.buffer) (sym same)
    (record { ends = side.ends; idle = side.idle; last = side.last; nothing = side.nothing; empty = none.0 })

-- A driver that is ready in the world a is ready in b, also with other staged and free buffers that are stored in b.
pub ready-kept : {up : Bool} (d : DriverState) (staged pool : List ℕ) (a b : World) → ReadyWith up d a
    → Keeps d.oldest_receive d.oldest_transmit a b
    → IsDriver (with_staged d staged pool) → AreStored b.memory d.layout (receive_tail d) staged
    → All (Stands d.layout b.memory) d.handed_out
    → ReadyWith up (with_staged d staged pool) b
ready-kept {up} d staged pool a b ready keeps driver stored stand =
    let before = a.adapter.receive_ring in
    let behind = b.adapter.receive_ring in
    record {
      driver_is = driver;
      law = keeps.law;
      lies = subst (λ (n : ℕ). size_of d.layout ≤ n) (sym keeps.size) ready.lies;
      receive = knows-carried before behind 0 d.layout.rx (receive_tail d) keeps.receives ready.receive;
      transmit = transmit-kept up d.oldest_receive d.layout d.oldest_transmit d.sending a b keeps ready.transmit;
      slots = record {
        names =
            ap (λ (ring : RingRegisters). map (named_address b.memory) (outstanding (ring_of ring) d.oldest_receive)) keeps.receives.others
            ∙ map-same (named_address b.memory) (named_address a.memory) (outstanding (receive_ring a) d.oldest_receive) keeps.addresses
            ∙ ready.slots.names;
        stored = stored;
      };
      stand = stand;
    }

pub keeps-happening : {up : Bool} (d : DriverState) (a b : World) (past : Past) → ReadyWith up d a → Happens a b past
    → Keeps d.oldest_receive d.oldest_transmit a b
keeps-happening {up} d a b past ready happens =
    let o = d.oldest_receive in
    let p = d.oldest_transmit in
    let steady = happens.steady in
    let between = happens.between o p ready.law.sound in
    let own = drivers_side_stays o p a b past ready.law.sound happens in
    record {
      law = record {
        sound = between.sound;
        runs = between.runs ready.law.runs;
        fit = between.fits receive_buffer_bytes ready.law.fit;
        whole = between.whole receive_buffer_bytes ready.law.whole;
      };
      size = steady.size;
      filter = steady.registers.filter;
      control = steady.registers.transmit_control;
      receives = steady.receive_ring;
      transmits = steady.transmit_ring;
      addresses = each-outstanding (receive_ring a) o (λ slot. named_address b.memory slot
          ≡ named_address a.memory slot) ready.law.sound.receive_slots.slot own.addresses;
      sources =
          each-outstanding (transmit_ring a) p (λ slot. data_of b.memory slot ≡ data_of a.memory slot) ready.law.sound.transmit_slots.slot
          (λ slot below. ap (λ (desc : TxDesc). area_at desc.address desc.length) (own.requests slot below).fields);
      none_to_send = λ none. (append-empty past.put (frames_to_send b) (between.transmit.sends ∙ none)).1;
    }
