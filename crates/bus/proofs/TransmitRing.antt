-- Writes of the transmit ring's registers while the transmit side is off.
use Rattle.std.proofs.Common.{Bool, false, ◌≡◌, ◌<◌, ◌++◌, ◌∷◌, [], ℕ, List, length, map, inl, inr, refl, sym, ap, subst, ◌∙◌, arith}
use Rattle.std.specs.List.{All, take_while}
use Rattle.std.proofs.lemmas.List.Elements.{All-cons, All-map}
use Rattle.std.proofs.lemmas.List.Kept.{AllPairs-cons}
use Rattle.dma_memory.specs.Areas.{AreApart, AreSeparate, Area, area_at}
use Rattle.dma_memory.specs.AreaLaws.{apart-inside, apart-sym, inside-apart, lies-inside}
use Rattle.dma_memory.specs.HostMemory.{LiesIn}
use Rattle.dma_memory.specs.Layout.{ReceiveBuffer, ReceiveRing, TransmitRing, area_of, receive_buffer_bytes}
use Rattle.dma_memory.specs.LayoutLaws.{place-below_size, places-apart}
use Rattle.rx_engine.specs.Descriptors.{named_address}
use Rattle.adapter_model.specs.HostAreas.{data_of, frame_areas, offered_buffers, ring_area, work_areas}
use Rattle.adapter_model.specs.HostFrames.{named, piece_in}
use Rattle.adapter_model.specs.Rings.{new_ring, ring_of}
use Rattle.adapter_model.specs.Slots.{finished, is_done, outstanding}
use Rattle.adapter_model.specs.World.{World, receive_ring, transmit_ring}
use Rattle.adapter_model.specs.declared.ring.RingRegisters.{RingRegisters}
use Rattle.bus.proofs.IdleRings.{offered-none, outstanding-none, none-to_send}
use Rattle.bus.proofs.KeptPieces.{cut-kept}
use Rattle.bus.proofs.RegisterSetting.{transmit_ring_can_be_set}
use Rattle.bus.proofs.Lists.{all-head, all-none, all-tail, all-unmapped, all-weaker, pairs-head, pairs-tail}
use Rattle.bus.proofs.SpareMemory.{spare-apart}
use Rattle.bus.specs.RegisterSetting.{TransmitRingSet, with_transmit_ring}
use Rattle.bus.specs.SpareMemory.{IsSpare}
use Rattle.bus.specs.Beginnings.{TransmitRingIsWritten}
use Rattle.bus.specs.DriverState.{DriverState, buffer_at}
use Rattle.bus.specs.ReadyDrivers.{ReadyWith}
use Rattle.bus.proofs.Buffers.{known-area}
use Rattle.bus.proofs.Owners.{all-copies, outstanding-number}
use Rattle.bus.proofs.StepsWithoutFrames.{goes-rests}
use Rattle.bus.proofs.AlikeWorlds.{same-driver}

-- Separate areas

separate-replaced : (memory : List ℕ) (first old area : Area) (rest : List Area) → AreSeparate memory (first ∷ old ∷ rest)
    → LiesIn memory area.address area.size
    → AreApart first area → All (AreApart area) rest → AreSeparate memory (first ∷ area ∷ rest)
separate-replaced memory first old area rest separate lies apart away =
    let Lies : Area → Type 0 = λ other. LiesIn memory other.address other.size in
    let behind = all-tail Lies first (old ∷ rest) separate.lie in
    let from_first = pairs-head AreApart first (old ∷ rest) separate.apart in
    let rest_apart = pairs-tail AreApart old rest (pairs-tail AreApart first (old ∷ rest) separate.apart) in
    record {
      lie = All-cons Lies first (area ∷ rest) (all-head Lies first (old ∷ rest) separate.lie)
          (All-cons Lies area rest lies (all-tail Lies old rest behind));
      apart =
          AllPairs-cons AreApart first (area ∷ rest)
          (All-cons (AreApart first) area rest apart (all-tail (AreApart first) old rest from_first))
          (AllPairs-cons AreApart area rest away rest_apart);
    }

pub outstanding-buffers : {up : Bool} (driver : DriverState) (world : World) (area : Area) → ReadyWith up driver world
    → ((number : ℕ) → number < driver.layout.buffers → AreApart (area_of driver.layout (ReceiveBuffer number)) area)
    → All (λ slot. AreApart (area_at (named_address world.memory slot) receive_buffer_bytes) area)
    (outstanding (receive_ring world) driver.oldest_receive)
outstanding-buffers driver world area ready away =
    let counts = driver.layout in
    let Away : ℕ → Type 0 = λ address. AreApart (area_at address receive_buffer_bytes) area in
    let each : All Away (map (buffer_at counts) driver.buffers) = All-map Away (buffer_at counts) driver.buffers
    (all-copies (λ number. Away (buffer_at counts number)) driver.buffers (λ number some.
    away number (outstanding-number driver number ready.driver_is some))) in
    all-unmapped Away (named_address world.memory) (outstanding (receive_ring world) driver.oldest_receive)
    (subst (λ (list : List ℕ). All Away list) (sym ready.slots.names) each)

-- A transmit side that is off

pub none-outstanding : (driver : DriverState) (world : World) → ReadyWith false driver world
    → outstanding (transmit_ring world) driver.oldest_transmit ≡ []
none-outstanding driver world ready = subst (λ (oldest : ℕ). outstanding (transmit_ring world) oldest ≡ []) ready.transmit.last
    (outstanding-none (transmit_ring world))

-- the areas that don't belong to the transmit ring
abbrev pub received_areas : ℕ → World → List Area
received_areas oldest world = map (named world.memory) (finished oldest world)
    ++ (work_areas world.memory world.adapter.receiver.work ++ offered_buffers world)

pub areas-idle : (oldest : ℕ) (world : World) → (transmit_ring world).head ≡ (transmit_ring world).tail
    → frame_areas oldest world ≡ received_areas oldest world
areas-idle oldest world idle = ap (λ (slots : List ℕ). map (data_of world.memory) slots ++ received_areas oldest world)
    (offered-none (transmit_ring world) idle)

-- The transmit ring may be set to any area that is apart from the other areas, if TDH equals TDT.
ring-set : (driver : DriverState) (ring : RingRegisters) (world : World) → ReadyWith false driver world → ring.head ≡ ring.tail
    → LiesIn world.memory (ring_area (ring_of ring)).address (ring_area (ring_of ring)).size
    → AreApart (ring_area (receive_ring world)) (ring_area (ring_of ring))
    → All (AreApart (ring_area (ring_of ring))) (received_areas driver.oldest_receive world)
    → TransmitRingSet driver.oldest_receive world (with_transmit_ring ring world)
ring-set driver ring world ready idle lies apart away =
    let o = driver.oldest_receive in
    let r = ring_area (receive_ring world) in
    let before = subst (λ (list : List Area). AreSeparate world.memory (r ∷ ring_area (transmit_ring world) ∷ list))
    (areas-idle o world ready.transmit.idle) ready.law.sound.separate in
    let after = separate-replaced world.memory r (ring_area (transmit_ring world)) (ring_area (ring_of ring))
    (received_areas o world) before lies apart away in
    transmit_ring_can_be_set o driver.oldest_transmit ring world ready.law.sound ready.transmit.empty idle
    (subst (λ (list : List Area). AreSeparate world.memory (r ∷ ring_area (ring_of ring) ∷ list))
    (sym (areas-idle o (with_transmit_ring ring world) idle)) after)

-- The place of the transmit ring is apart from all areas of the receive side. This is true also if the ring has no slots, as after a reset.
pub place-away : (driver : DriverState) (world : World) → ReadyWith false driver world
    → All (λ other. AreApart other (area_of driver.layout TransmitRing)) (received_areas driver.oldest_receive world)
place-away driver world ready =
    let o = driver.oldest_receive in
    let area = area_of driver.layout TransmitRing in
    let bare = with_transmit_ring new_ring world in
    let set = ring-set driver new_ring world ready refl (omega arith) (inr (omega arith)) (λ k d below. inl (omega arith)) in
    let Apart : Area → Type 0 = λ other. AreApart other area in
    let spare : IsSpare receive_buffer_bytes o 0 bare area = record {
      receive_slots = subst Apart (sym (known-area _ _ _ _ ready.receive))
          (places-apart driver.layout ReceiveRing TransmitRing tt tt (λ same. absurd (cc)));
      transmit_slots = inl (omega arith);
      buffers = outstanding-buffers driver world area ready
          (λ number known. places-apart driver.layout (ReceiveBuffer number) TransmitRing known tt (λ same. absurd (cc)));
      sources = subst (λ (slots : List ℕ). All (λ slot. AreApart (data_of world.memory slot) area) slots) (sym set.none_outstanding)
          (all-none _);
    } in
    let all = spare-apart receive_buffer_bytes o 0 bare area set.sound (set.fits receive_buffer_bytes ready.law.fit) spare in
    let behind = all-tail Apart (ring_area (transmit_ring bare)) (frame_areas o bare)
    (all-tail Apart (ring_area (receive_ring bare)) (ring_area (transmit_ring bare) ∷ frame_areas o bare) all) in
    subst (λ (list : List Area). All Apart list) (areas-idle o bare refl) behind

pub transmit_ring_is_written : TransmitRingIsWritten
transmit_ring_is_written driver ring world ready idle inside =
    let counts = driver.layout in
    let o = driver.oldest_receive in
    let b = with_transmit_ring ring world in
    let place = area_of counts TransmitRing in
    let area = ring_area (ring_of ring) in
    let ends = place-below_size counts TransmitRing tt in
    let received : AreApart (ring_area (receive_ring world)) place = subst (λ (other : Area). AreApart other place)
    (sym (known-area _ _ _ _ ready.receive)) (places-apart counts ReceiveRing TransmitRing tt tt (λ same. absurd (cc))) in
    let away = all-weaker (λ other. AreApart other place) (AreApart area) (received_areas o world)
    (λ other apart. apart-inside area place other inside (apart-sym other place apart)) (place-away driver world ready) in
    let set = ring-set driver ring world ready idle (lies-inside world.memory area place inside (omega (arith, ends, ready.lies)))
    (inside-apart (ring_area (receive_ring world)) area place inside received) away in
    goes-rests driver ring.tail driver.sending world b
    (record {
      driver_is = same-driver driver ring.tail driver.sending driver.missed driver.exact ready.driver_is;
      law = record {
        sound = set.sound;
        runs = set.runs ready.law.runs;
        fit = set.fits receive_buffer_bytes ready.law.fit;
        whole = cut-kept receive_buffer_bytes o world b ready.law.whole.sized set.finished_same (λ k d below. refl) refl ready.law.whole;
      };
      lies = ready.lies;
      receive = ready.receive;
      transmit = record {
        ends = omega (arith, inside.to);
        idle = idle;
        last = refl;
        nothing = ready.transmit.nothing;
        empty =
            ready.transmit.empty;
      };
      slots = record { names = ready.slots.names; stored = ready.slots.stored };
      stand = ready.stand;
    })
    (record {
      to_send = set.none_to_send
          ∙ sym (none-to_send world.memory (transmit_ring world) world.adapter.transmitter.buffer ready.transmit.empty ready.transmit.idle);
      held = set.held;
      pieces_same = ap (map (piece_in world.memory)) set.finished_same;
      frees = omega (
        arith,
        ready.transmit.nothing,
        ap length
            (ap (take_while (is_done world.memory)) (none-outstanding driver world ready)),
        ap length
            (ap (take_while (is_done world.memory)) set.none_outstanding),
      );
      causes = refl;
      missed_packets = refl;
    })
