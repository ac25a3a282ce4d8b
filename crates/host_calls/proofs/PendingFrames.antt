-- Bounds of the numbers of frames that a ready host has to send and that it holds. The areas from which these frames
-- are read are in memory.
use Rattle.std.proofs.Common.{◌≡◌, ◌≤◌, ◌<◌, ◌+◌, ◌++◌, [], ℕ, None, Some, List, Option, arith, inl, length, length-append}
use Rattle.std.proofs.Common.{subst, sym, ap}
use Rattle.std.specs.List.{All}
use Rattle.std.specs.Prelude.{vec_capacity}
use Rattle.std.specs.Option.{ForSome}
use Rattle.std.proofs.lemmas.List.{length-map}
use Rattle.dma_memory.specs.Areas.{Area, descriptor_area}
use Rattle.dma_memory.specs.AreaLaws.{lies-inside}
use Rattle.dma_memory.specs.HostMemory.{LiesIn}
use Rattle.descriptors.specs.Frames.{IsLegal}
use Rattle.descriptors.specs.Ring.{address_of, offered_places}
use Rattle.rx_engine.specs.Descriptors.{named_address}
use Rattle.rx_engine.specs.Pieces.{frames_of}
use Rattle.rx_engine.specs.RoomLaws.{count-fits}
use Rattle.rx_engine.specs.declared.engine.TheConstants.{MOST_FRAMES}
use Rattle.rx_engine.specs.declared.engine.Work.{Work}
use Rattle.adapter.specs.HostAreas.{ring_area, work_areas}
use Rattle.adapter.specs.HostFrames.{finished_pieces, frames_held, frames_to_send, piece_in, pieces_in_slots}
use Rattle.adapter.specs.Pending.{CanReadHeld, CanReadSending}
use Rattle.adapter.specs.QueuedFrames.{CanBeCopied}
use Rattle.adapter.specs.Running.{CanTransmit}
use Rattle.adapter.specs.Slots.{finished, slots_in_work, offered, outstanding, slot_of_work}
use Rattle.adapter.specs.State.{IsAdapter}
use Rattle.adapter.specs.World.{World, receive_ring, transmit_ring}
use Rattle.adapter.proofs.EachArea.{OfAreas, of-areas}
use Rattle.adapter.proofs.Lists.{all-head, all-left, all-unmapped, all-weaker}
use Rattle.adapter.proofs.Rings.{dealt-right, outstanding-inside}
use Rattle.adapter.proofs.FramesCounted.{slots_have_frames}
use Rattle.adapter.specs.DriverState.{DriverState, buffer_at}
use Rattle.adapter.specs.ReadyDrivers.{Ready}
use Rattle.packet_socket.specs.HostCalls.{HostReady}
use Rattle.packet_socket.specs.HostState.{HostState}
use Rattle.stations.specs.Stations.{StationState, world_at}
use Rattle.host_calls.specs.BeforeReset.{IsBeforeReset}
use Rattle.host_calls.specs.Networks.{NetworkState, nth_host}
use Rattle.host_calls.specs.declared.resetting.GivenUp.{GivenUp}
use Rattle.host_calls.proofs.HostsOfNetworks.{HasHost, ready-before, stations-are}
use Rattle.host_calls.specs.declared.network.Network.TheInside.{Inside}
use Rattle.dma_memory.specs.Layout.{Counts}
use Rattle.host_calls.proofs.PiecesLeft.{ending-most, held-counted}
use Rattle.host_calls.proofs.SocketCounts.{ended-few}

lying : (d : DriverState) (w : World) → Ready d w → OfAreas (λ area. LiesIn w.memory area.address area.size) d.oldest_receive w
lying d w ready = of-areas (λ area. LiesIn w.memory area.address area.size) d.oldest_receive w ready.law.sound.separate.lie

copied : (memory : List ℕ) (descriptor : ℕ) → CanTransmit memory descriptor → CanBeCopied memory descriptor
copied memory descriptor can = record { lies = can.lies; short = can.most }

pub can-read_sending : {d : DriverState} {w : World} → Ready d w → CanReadSending w
can-read_sending {d} {w} ready =
    let ring = transmit_ring w in
    let knows = ready.transmit.knows in
    record {
      ring = (lying d w ready).sent;
      slot = inl (subst (λ (n : ℕ). ring.head < n) (sym knows.slots) knows.head_slot);
      queued = all-weaker (λ slot. CanTransmit w.memory (address_of ring slot)) (λ slot. CanBeCopied w.memory (address_of ring slot))
          (offered_places ring) (λ slot can. copied w.memory (address_of ring slot) can)
          (all-unmapped (CanTransmit w.memory) (address_of ring) (offered_places ring) ready.law.runs.transmittable);
    }

-- The piece in progress

of-slot : (P : ℕ → Type 0) (work : Option Work) → All P (slot_of_work work) → ForSome work (λ work. P work.descriptor)
of-slot P None all = λ one is. absurd (cc is)
of-slot P (Some work) all = λ one is.
    let same : work ≡ one = cc is in subst (λ (w : Work). P w.descriptor) same (all-head P work.descriptor [] all)

of-place : (P : Area → Type 0) (memory : List ℕ) (work : Option Work) → All P (work_areas memory work)
    → ForSome work (λ work. P (record { address = named_address memory work.descriptor; size = work.length }))
of-place P memory None all = λ one is. absurd (cc is)
of-place P memory (Some work) all = λ one is.
    let same : work ≡ one = cc is in
    subst (λ (w : Work). P (record { address = named_address memory w.descriptor; size = w.length })) same
    (all-head P (record { address = named_address memory work.descriptor; size = work.length }) [] all)

pub can-read_held : {d : DriverState} {w : World} → Ready d w → CanReadHeld d.oldest_receive w
can-read_held {d} {w} ready =
    let ring = receive_ring w in
    let o = d.oldest_receive in
    let slots = ready.law.sound.receive_slots in
    let lie = lying d w ready in
    let inside = all-left (λ slot. LiesIn w.memory slot 16) (slots_in_work w) (offered ring)
    (dealt-right w.memory ring o (slots_in_work w) (λ slot. LiesIn w.memory slot 16) slots
    (all-weaker _ (λ slot. LiesIn w.memory slot 16) (outstanding ring o)
    (λ slot within. lies-inside w.memory (descriptor_area slot) (ring_area ring) within lie.received)
    (outstanding-inside ring o slots.slot))) in
    let whole = ready.law.whole in
    record {
      ring = lie.received;
      slot = slots.slot;
      finished = lie.names;
      work = of-slot (λ slot. LiesIn w.memory slot 16) w.adapter.receiver.work inside;
      piece = of-place (λ area. LiesIn w.memory area.address area.size) w.memory w.adapter.receiver.work lie.work;
      short = record {
        frames = all-weaker IsLegal (λ frame. length frame ≤ 1518) (frames_of (pieces_in_slots o w)) (λ frame legal. legal.most)
            whole.legal;
        rest = omega (arith, whole.short);
      };
    }

pub sending-at_most : {d : DriverState} {w : World} → Ready d w → length (frames_to_send w) + 1 ≤ d.layout.tx
sending-at_most {d} {w} ready = (slots_have_frames d w ready).most

pub held-in_room : {d : DriverState} {w : World} → Ready d w → IsAdapter w.adapter
    → length (frames_held d.oldest_receive w) ≤ d.layout.rx + MOST_FRAMES
held-in_room {d} {w} ready adapter =
    let ring = receive_ring w in
    let o = d.oldest_receive in
    omega (
      arith,
      ready.driver_is.room,
      ap length ready.law.sound.receive_slots.classes,
      ap length ready.slots.names,
      length-append (finished o w) (slots_in_work w ++ offered ring),
      length-append (slots_in_work w) (offered ring),
      length-map (outstanding ring o) (named_address w.memory),
      length-map d.buffers (buffer_at d.layout),
      ended-few [] (finished_pieces o w),
      length-map (finished o w) (piece_in w.memory),
      held-counted o w,
      ending-most w.adapter.receiver.work,
      count-fits w.adapter.receiver.buffer adapter.receiver.frames adapter.receiver.room,
    )

-- A host of a network, found by its number

-- what is known of the host that was found with number k
pub record IsFound (n : NetworkState) (stations : List StationState) (k : ℕ) (h : HostState) : Type 0 where
  pub is : h ≡ nth_host n k
  pub same : n.stations ≡ stations
  pub ready : HostReady h (world_at stations k)
  pub adapter : IsAdapter (world_at stations k).adapter

pub found-host : {inside : Inside} {n : NetworkState} {k : ℕ} {h : HostState} → HasHost inside n k h
    → HostReady (nth_host n k) (world_at n.stations k) → IsAdapter (world_at n.stations k).adapter → IsFound n inside.stations k h
found-host {k = k} here ready adapter =
    let same = stations-are here.shown here.have in
    record {
      is = here.is;
      same = same;
      ready = ready-before here ready;
      adapter = subst (λ (list : List StationState). IsAdapter (world_at list k).adapter) same adapter;
    }

-- The number of held frames, if there are `most` places for the slots and for the frames in the packet buffer.
pub held-within : {n : NetworkState} {stations : List StationState} {k oldest : ℕ} {h : HostState} {layout : Counts} (most : ℕ)
    → IsFound n stations k h → layout ≡ h.driver.layout → oldest ≡ h.driver.oldest_receive → layout.rx + MOST_FRAMES ≤ most
    → length (frames_held oldest (world_at stations k)) ≤ most
held-within {stations = stations} {k} most found layout_is oldest_is fits =
    let few = held-in_room found.ready.ready found.adapter in
    omega (
      arith,
      few,
      fits,
      ap (λ (counts : Counts). counts.rx) layout_is,
      ap (λ (o : ℕ). length (frames_held o (world_at stations k))) oldest_is,
    )

-- `IsBeforeReset` of host k holds if it holds of the host that was found and of the machine's world
pub found-before : {n : NetworkState} {stations : List StationState} {k : ℕ} {h : HostState} (found : GivenUp) → IsFound n stations k h
    → found.sending.items ≡ frames_to_send (world_at stations k)
    → found.holding.items ≡ frames_held h.driver.oldest_receive (world_at stations k)
    → h.driver.layout.rx + MOST_FRAMES ≤ vec_capacity found.holding
    → IsBeforeReset (nth_host n k) (world_at n.stations k) found
found-before {n} {stations} {k} found is sending holding room =
    subst (λ (list : List StationState). IsBeforeReset (nth_host n k) (world_at list k) found) (sym is.same)
    (subst (λ (host : HostState). IsBeforeReset host (world_at stations k) found) is.is
    (record { sending = sending; holding = holding; room = room }))
