-- The adapter doesn't use a receive buffer that no outstanding slot has.
use Rattle.std.proofs.Common.{inl, true, false, Bool, ◌≡◌, ◌≢◌, ◌≤◌, ◌<◌, ◌+◌, ◌*◌, ◌∷◌, [], ℕ, zero, suc, List, length, take, drop, map}
use Rattle.std.proofs.Common.{refl, sym, ap, subst, ◌∙◌, arith}
use Rattle.std.specs.List.{All}
use Rattle.std.proofs.lemmas.List.Elements.{All-cons, All-map}
use Rattle.dma_memory.specs.Areas.{AreApart, Area, area_at, bytes_in}
use Rattle.dma_memory.specs.AreaLaws.{apart-inside}
use Rattle.dma_memory.specs.HostMemory.{LiesIn, bytes_at}
use Rattle.dma_memory.specs.Layout.{Counts, ReceiveBuffer, ReceiveRing, TransmitBuffer, TransmitRing, area_of, receive_buffer_bytes}
use Rattle.dma_memory.specs.LayoutLaws.{layout_begins, place-below_size, places-apart}
use Rattle.dma_memory.specs.Owners.{copies}
use Rattle.dma_memory.specs.OwnersLaws.{copies-cons, copies-itself}
use Rattle.descriptors.specs.declared.ring.Ring.{Ring}
use Rattle.descriptors.specs.Ring.{count_of, slots_from}
use Rattle.rx_engine.specs.Descriptors.{named_address}
use Rattle.adapter_model.specs.HostAreas.{IsForeign, areas, data_of, ring_area}
use Rattle.adapter_model.specs.Slots.{outstanding}
use Rattle.adapter_model.specs.World.{World, receive_ring, transmit_ring}
use Rattle.adapter_model.specs.KnownRing.{KnowsRing}
use Rattle.bus.specs.SpareMemory.{IsSpare}
use Rattle.bus.proofs.IdleRings.{outstanding-none}
use Rattle.bus.proofs.Lists.{all-head, all-none, all-tail, all-unmapped}
use Rattle.bus.proofs.Rings.{slots-below}
use Rattle.bus.proofs.SpareMemory.{spare-apart, spare-foreign}
use Rattle.bus.proofs.Owners.{all-copies, elsewhere-number, outstanding-number}
use Rattle.bus.proofs.Places.{outstanding-known}
use Rattle.bus.specs.DriverState.{DriverState, HandedOut, buffer_at, piece_numbers, transmit_slot}
use Rattle.bus.specs.ReadyDrivers.{ReadyWith, Stands, TransmitIs, transmit_side}

pub known-area : (ring : Ring) (base n tail : ℕ) → KnowsRing ring base n tail → ring_area ring ≡ area_at base (16 * n)
known-area ring base n tail knows =
    ap (λ (address : ℕ). area_at address (16 * count_of ring)) knows.begins ∙ ap (λ (count : ℕ). area_at base (16 * count)) knows.slots

-- The transmit ring, and the data of its outstanding slots, are apart from this area.
record IsAway (p : ℕ) (world : World) (area : Area) : Type 0 where
  ring : AreApart (ring_area (transmit_ring world)) area
  sources : All (λ slot. AreApart (data_of world.memory slot) area) (outstanding (transmit_ring world) p)

transmit-away : (up : Bool) (counts : Counts) (p sending : ℕ) (world : World) (number : ℕ) → number < counts.buffers
    → TransmitIs up counts p sending (transmit_side world)
    → IsAway p world (area_of counts (ReceiveBuffer number))
transmit-away true counts p sending world number known side =
    let area = area_of counts (ReceiveBuffer number) in
    let slots = slots_from counts.tx p sending in
    record {
      ring = subst (λ (other : Area). AreApart other area) (sym (known-area _ _ _ _ side.knows))
          (places-apart counts TransmitRing (ReceiveBuffer number) tt known (λ same. absurd (cc)));
      sources =
          subst (λ (list : List ℕ). All (λ slot. AreApart (data_of world.memory slot) area) list)
          (sym (outstanding-known (transmit_ring world) (16 * counts.rx) counts.tx p sending side.knows side.oldest_slot side.room))
          (All-map (λ slot. AreApart (data_of world.memory slot) area) (transmit_slot counts) slots (λ k d below.
          apart-inside _ (area_of counts (TransmitBuffer _)) area (side.sources k d below)
          (places-apart counts (TransmitBuffer _) (ReceiveBuffer number) (slots-below counts.tx p sending side.oldest_slot k d below) known
          (λ same. absurd (cc)))));
    }
transmit-away false counts p sending world number known side =
    let area = area_of counts (ReceiveBuffer number) in
    let none : outstanding (transmit_ring world) p
    ≡ [] = subst (λ (oldest : ℕ). outstanding (transmit_ring world) oldest ≡ []) side.last (outstanding-none (transmit_ring world)) in
    let behind = layout_begins counts in
    let before : (transmit_ring world).base + 16 * count_of (transmit_ring world) ≤ area.address = omega
    (arith, side.ends, behind.behind_rings) in
    record {
      ring = inl before;
      sources = subst (λ (list : List ℕ). All (λ slot. AreApart (data_of world.memory slot) area) list) (sym none) (all-none _);
    }

buffer-spare : {up : Bool} (d : DriverState) (world : World) (number : ℕ) → ReadyWith up d world → number < d.layout.buffers
    → copies number d.buffers ≡ 0
    → IsSpare receive_buffer_bytes d.oldest_receive d.oldest_transmit world (area_of d.layout (ReceiveBuffer number))
buffer-spare {up} d world number ready known free =
    let area = area_of d.layout (ReceiveBuffer number) in
    let Away : ℕ → Type 0 = λ address. AreApart (area_at address receive_buffer_bytes) area in
    let each : All Away (map (buffer_at d.layout) d.buffers) = All-map Away (buffer_at d.layout) d.buffers
    (all-copies (λ m. Away (buffer_at d.layout m)) d.buffers (λ m some.
    let differ : m ≢ number = λ same. absurd (omega (arith, some, free, ap (λ (k : ℕ). copies k d.buffers) same)) in
    places-apart d.layout (ReceiveBuffer m) (ReceiveBuffer number) (outstanding-number d m ready.driver_is some) known
    (λ same. differ (cc)))) in
    let away = transmit-away up d.layout d.oldest_transmit d.sending world number known ready.transmit in
    record {
      receive_slots = subst (λ (other : Area). AreApart other area) (sym (known-area _ _ _ _ ready.receive))
          (places-apart d.layout ReceiveRing (ReceiveBuffer number) tt known (λ same. absurd (cc)));
      transmit_slots = away.ring;
      buffers = all-unmapped Away (named_address world.memory) (outstanding (receive_ring world) d.oldest_receive)
          (subst (λ (list : List ℕ). All Away list) (sym ready.slots.names) each);
      sources = away.sources;
    }

pub buffer-lies : {up : Bool} (d : DriverState) (world : World) (number : ℕ) → ReadyWith up d world → number < d.layout.buffers
    → LiesIn world.memory (buffer_at d.layout number) receive_buffer_bytes
buffer-lies {up} d world number ready known = let ends = place-below_size d.layout (ReceiveBuffer number) known in omega
    (arith, ends, ready.lies)

-- Memory contains this buffer. The buffer is apart from all areas in the conditions of the bus law, and the adapter may not write the
-- buffer.
pub record IsAside (d : DriverState) (world : World) (number : ℕ) : Type 0 where
  pub lies : LiesIn world.memory (buffer_at d.layout number) receive_buffer_bytes
  pub apart : All (λ other. AreApart other (area_of d.layout (ReceiveBuffer number))) (areas d.oldest_receive world)
  pub foreign : IsForeign world (area_of d.layout (ReceiveBuffer number))

pub buffer-aside : {up : Bool} (d : DriverState) (world : World) (number : ℕ) → ReadyWith up d world → number < d.layout.buffers
    → copies number d.buffers ≡ 0 → IsAside d world number
buffer-aside {up} d world number ready known free =
    let o = d.oldest_receive in
    let p = d.oldest_transmit in
    let spare = buffer-spare d world number ready known free in
    record {
      lies = buffer-lies d world number ready known;
      apart = spare-apart receive_buffer_bytes o p world _ ready.law.sound ready.law.fit spare;
      foreign = spare-foreign receive_buffer_bytes o p world _ ready.law.sound ready.law.fit spare;
    }

pub front-same : (memory memory' : List ℕ) (address n size : ℕ) → n ≤ size → bytes_at memory' address size ≡ bytes_at memory address size
    → bytes_at memory' address n ≡ bytes_at memory address n
front-same memory memory' address n size short same =
    sym (take-shorter n size (drop address memory') short) ∙ ap (take n) same ∙ take-shorter n size (drop address memory) short
  where
    take-shorter : (i j : ℕ) (xs : List ℕ) → i ≤ j → take i (take j xs) ≡ take i xs
    take-shorter zero j xs below = refl
    take-shorter (suc i) zero xs below = absurd (omega (arith, below))
    take-shorter (suc i) (suc j) [] below = refl
    take-shorter (suc i) (suc j) (x ∷ xs) below = ap (λ (list : List ℕ). x ∷ list) (take-shorter i j xs (omega (arith, below)))

-- If each buffer without an outstanding slot has the same bytes in both worlds, the pieces that others hold are still in their buffers.
pub stand-kept : {up : Bool} (d : DriverState) (a b : World) → ReadyWith up d a
    → ((number : ℕ) → number < d.layout.buffers → copies number d.buffers ≡ 0
    → bytes_in b.memory (area_of d.layout (ReceiveBuffer number)) ≡ bytes_in a.memory (area_of d.layout (ReceiveBuffer number)))
    → All (Stands d.layout b.memory) d.handed_out
stand-kept {up} d a b ready same = each d.handed_out (λ k. omega arith) ready.stand
  where
    Before : HandedOut → Type 0
    Before = Stands d.layout a.memory

    Behind : HandedOut → Type 0
    Behind = Stands d.layout b.memory

    each : (list : List HandedOut) → ((k : ℕ) → copies k (piece_numbers list) ≤ copies k (piece_numbers d.handed_out)) → All Before list
        → All Behind list
    each [] among stand = all-none Behind
    each (one ∷ list) among stand =
        let elsewhere = elsewhere-number d one.number ready.driver_is
        (omega (arith, among one.number, copies-itself one.number (piece_numbers list))) in
        let stands = all-head Before one list stand in
        All-cons Behind one list
        (record {
          bytes = front-same a.memory b.memory (buffer_at d.layout one.number) (length one.bytes) receive_buffer_bytes stands.short
              (same one.number elsewhere.known elsewhere.free) ∙ stands.bytes;
          short = stands.short;
        })
        (each list (λ k. omega (arith, among k, copies-cons k one.number (piece_numbers list))) (all-tail Before one list stand))
