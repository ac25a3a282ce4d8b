-- The end of a drain: the bounds of its steps, and when no frame is held.
use Rattle.std.proofs.Common.{◌≡◌, ◌≢◌, ◌≤◌, ◌<◌, ◌+◌, ◌*◌, ◌^◌, ◌++◌, ◌∷◌, []}
use Rattle.std.proofs.Common.{ℕ, zero, suc, None, Some, List, Option, bit_and}
use Rattle.std.proofs.Common.{length, map}
use Rattle.std.proofs.Common.{refl, sym, ap, subst, ◌∙◌, arith, replicate, length-append, ⊎_elim}
use Rattle.std.proofs.lemmas.List.{append-nil, length-map}
use Rattle.registers.specs.Bits.{HasBit, Meet}
use Rattle.registers.specs.Interrupts.{Interrupts}
use Rattle.registers.specs.Laws.{HasBit-intersection, HasBit-zero}
use Rattle.registers.specs.Places.{rxt0}
use Rattle.descriptors.specs.Ring.{address_of, offered_places}
use Rattle.descriptors.specs.RingLaws.{places-none}
use Rattle.dma_memory.specs.OwnersLaws.{length-one_owner}
use Rattle.rx_engine.specs.Descriptors.{named_address}
use Rattle.rx_engine.specs.Pieces.{frames_of}
use Rattle.rx_engine.specs.RoomLaws.{count-fits}
use Rattle.rx_engine.specs.declared.engine.TheConstants.{MOST_FRAMES}
use Rattle.rx_engine.specs.declared.engine.Work.{Work}
use Rattle.adapter.specs.HostFrames.{finished_pieces, frames_held, frames_to_send, piece_in, pieces_in_slots}
use Rattle.adapter.specs.Slots.{finished, slots_in_work, offered, outstanding, slot_of_work}
use Rattle.adapter.specs.State.{IsAdapter}
use Rattle.adapter.specs.World.{World, receive_ring}
use Rattle.adapter.specs.bus_types.event.Event.{Event}
use Rattle.adapter.specs.Trails.{Trail}
use Rattle.driver.specs.declared.receiver.Received.{Received}
use Rattle.driver.specs.Parts.{buffers_of}
use Rattle.adapter.specs.Calls.{driver_in, frames_ended}
use Rattle.adapter.specs.DriverState.{DriverState, buffer_at, piece_numbers, owners}
use Rattle.adapter.specs.ReadyDrivers.{Ready}
use Rattle.packet_socket.proofs.QueuedPieces.{entries-fit, waiting-numbers}
use Rattle.packet_socket.specs.HostCalls.{Given, driver_of, given_for, held_for_socket, socket_frames, waiting_frame}
use Rattle.packet_socket.specs.HostCalls.{without_socket}
use Rattle.packet_socket.specs.HostState.{HostState, all_of, queue_at}
use Rattle.packet_socket.specs.QueueLaws.{queue-within}
use Rattle.stations.specs.Stations.{StationState, backlog_at, wire_at, world_at}
use Rattle.stations.proofs.HostTrails.{trail-of}
use Rattle.stations.specs.AtomicRuns.{past_at}
use Rattle.host_calls.proofs.Laws.{frames-move}
use Rattle.host_calls.specs.Happenings.{Moved, missed, put, reached, toward}
use Rattle.host_calls.specs.DrainedHosts.{CanBeDrained, Drains, DrainsInto, HoldsNothing, count_adapter_steps, count_frames, count_held}
use Rattle.host_calls.specs.DrainedHosts.{count_pieces, pieces_left}
use Rattle.host_calls.specs.ConnectedHosts.{connected}
use Rattle.host_calls.specs.DrainSteps.{StepsInto, StepsOn, count_line, count_pending, count_steps, outlet}
use Rattle.host_calls.proofs.AdapterSteps.{MovesNone, work-none}
use Rattle.host_calls.proofs.JoinedSteps.{moves-missed, moves-put, moves-reached, moves-toward, nothing-stored}
use Rattle.host_calls.proofs.PiecesLeft.{asked-most, count_ending, ending-most, finished-few, held-counted, pieces-append}
use Rattle.host_calls.proofs.PiecesLeft.{pieces-within, queued-least}
use Rattle.host_calls.proofs.SocketCounts.{ended-few}

none-long : {X : Type 0} (xs : List X) → length xs ≡ 0 → xs ≡ []
none-long [] none = refl
none-long (x ∷ xs) none = absurd (omega (arith, none))

is-empty : {X : Type 0} (xs : List X) → (xs ≢ [] → ⊥) → xs ≡ []
is-empty [] none = refl
is-empty (x ∷ xs) none = absurd (none (λ same. absurd (cc same)))

-- The number of owners

buffers-counted : (h : HostState) (world : World) → CanBeDrained h world
    → length h.driver.pool + (length h.driver.buffers + length (buffers_of (all_of h.queues))) ≡ h.driver.layout.buffers
buffers-counted h world stands =
    let d = driver_of h world in
    let all = length-one_owner h.driver.layout.buffers (owners d) stands.ready.ready.driver_is.one_owner in
    let handed = ap length (waiting-numbers h.driver.layout world.memory (all_of h.queues)) in
    omega (
      arith,
      all,
      length-append d.pool (d.buffers ++ (d.staged ++ piece_numbers d.handed_out)),
      length-append d.buffers (d.staged ++ piece_numbers d.handed_out),
      length-append d.staged (piece_numbers d.handed_out),
      ap length stands.offered,
      handed,
    )

slots-counted : (h : HostState) (world : World) → CanBeDrained h world
    → length h.driver.buffers
    ≡ length (finished h.driver.oldest_receive world) + (length (slots_in_work world) + length (offered (receive_ring world)))
slots-counted h world stands =
    let ring = receive_ring world in
    let o = h.driver.oldest_receive in
    let classes = ap length stands.ready.ready.law.sound.receive_slots.classes in
    let names = ap length stands.ready.ready.slots.names in
    omega (
      arith,
      classes,
      names,
      length-append (finished o world) (slots_in_work world ++ offered ring),
      length-append (slots_in_work world) (offered ring),
      length-map (outstanding ring o) (named_address world.memory),
      length-map h.driver.buffers (buffer_at h.driver.layout),
    )

pub held-at_most : (h : HostState) (world : World) → CanBeDrained h world → IsAdapter world.adapter
    → count_frames h world ≤ h.driver.layout.buffers + MOST_FRAMES
held-at_most h world stands adapter =
    omega (
      arith,
      buffers-counted h world stands,
      entries-fit (all_of h.queues) stands.ready.sizes,
      slots-counted h world stands,
      ended-few [] (finished_pieces h.driver.oldest_receive world),
      length-map (finished h.driver.oldest_receive world) (piece_in world.memory),
      held-counted h.driver.oldest_receive world,
      ending-most world.adapter.receiver.work,
      count-fits world.adapter.receiver.buffer adapter.receiver.frames adapter.receiver.room,
    )

-- The end of a drain

positive : (n number : ℕ) → HasBit n number → 0 < n
positive zero number set = absurd (HasBit-zero number set)
positive (suc n) number set = omega arith

none-ended : (h : HostState) (world : World) → CanBeDrained h world → ¬ (Meet world.adapter.causes.recorded world.adapter.causes.mask)
    → frames_ended (driver_in h.driver world) ≡ []
none-ended h world stands quiet = ⊎_elim
    (λ (none : frames_ended (driver_in h.driver world) ≡ []). none)
    (λ (asked : HasBit world.adapter.causes.recorded rxt0).
    let both = (HasBit-intersection world.adapter.causes.recorded world.adapter.causes.mask rxt0).1 (asked, stands.work.enabled) in
    absurd (quiet (positive (bit_and world.adapter.causes.recorded world.adapter.causes.mask) rxt0 both))) stands.work.asked

finished-most : (h : HostState) (world : World) → CanBeDrained h world → frames_ended (driver_in h.driver world) ≡ []
    → length (finished h.driver.oldest_receive world) ≤ 5
finished-most h world stands none =
    omega (
      arith,
      finished-few _ world stands.ready.ready none,
      length-map (finished h.driver.oldest_receive world) (piece_in world.memory),
    )

-- A slot is offered: at most five slots are finished, the driver has at least 8 slots and 8 buffers, and it refills the
-- ring.
some-offered : (h : HostState) (world : World) → CanBeDrained h world → frames_ended (driver_in h.driver world) ≡ []
    → world.adapter.receiver.work ≡ None → all_of h.queues ≡ [] → world.adapter.receive_ring.head ≢ world.adapter.receive_ring.tail
some-offered h world stands none free empty same =
    let ring = receive_ring world in
    let allowed = stands.ready.ready.driver_is.allowed in
    let nowhere = length-map (offered_places ring) (address_of ring) in
    let room = ap length (places-none ring same) in
    let slots = slots-counted h world stands in
    let work = (work-none world.adapter.receiver.work free).0 in
    let few : length h.driver.buffers ≤ 5 = omega (arith, slots, nowhere, room, work, finished-most h world stands none) in
    ⊎_elim
    (λ (free_none : h.driver.pool ≡ []).
    let all = buffers-counted h world stands in
    let queued : length (buffers_of (all_of h.queues)) ≡ 0 = ap (λ (list : List Received). length (buffers_of list)) empty in
    absurd (omega (arith, all, ap length free_none, few, queued, allowed.rx.least, allowed.buffers.least)))
    (λ (full : length h.driver.buffers + 1 ≡ h.driver.layout.rx). absurd (omega (arith, full, few, allowed.rx.least)))
    stands.refilled

holds-none : (h : HostState) (world : World) → count_frames h world ≡ 0 → HoldsNothing h world
holds-none h world none = record {
  held = none-long (frames_held h.driver.oldest_receive world) (omega (arith, none));
  queued = none-long (all_of h.queues) (omega (arith, none));
}

-- If the line isn't asserted, no frame ends in finished slots; then a slot is offered, so `MovesNone` implies that the
-- packet buffer is empty.
pub nothing-left : (number : ℕ) (a b : List StationState) (h : HostState) → CanBeDrained h (world_at a number) → MovesNone number a b h
    → (world_at a number).adapter.receiver.work ≡ None
    → ¬ (Meet (world_at a number).adapter.causes.recorded (world_at a number).adapter.causes.mask) → all_of h.queues ≡ []
    → HoldsNothing h (world_at b number)
nothing-left number a b h stands moves free quiet empty =
    let world = world_at a number in
    let o = h.driver.oldest_receive in
    let none = none-ended h world stands quiet in
    let slot = some-offered h world stands none free empty in
    let buffer : world.adapter.receiver.buffer ≡ [] =
    is-empty world.adapter.receiver.buffer (λ some. moves.takes.answers (record {
      enabled = stands.enabled;
      ready = record { running = stands.ready.ready.law.runs.receiver_runs; free = free; frames = some };
      offered = slot;
    })) in
    let ends = ap (λ (work : Option Work). count_ending work) free in
    holds-none h (world_at b number)
    (omega (arith, moves.on.counts.held, held-counted o world, ap length none, ends, ap length buffer, ap length empty))

-- What a drain did

line-few : (causes : Interrupts) → count_line causes ≤ 1
line-few causes = omega arith

steps-most : (h : HostState) (world : World) → CanBeDrained h world → count_steps h world ≤ 4 * count_held h world + 1
steps-most h world stands =
    let o = h.driver.oldest_receive in
    let engine = world.adapter.receiver in
    let in_slots = frames_of (pieces_in_slots o world) in
    omega (
      arith,
      asked-most _ world (count_line world.adapter.causes) stands.ready.ready (line-few world.adapter.causes),
      held-counted o world,
      length-append in_slots engine.buffer,
      pieces-append in_slots engine.buffer,
      (pieces-within in_slots stands.ready.ready.law.whole.legal).0,
      queued-least (all_of h.queues) stands.ready.sizes,
    )

pub steps-fit : (h : HostState) (world : World) → CanBeDrained h world → IsAdapter world.adapter → count_steps h world + 1 < 2 ^ 64
steps-fit h world stands adapter =
    let engine = world.adapter.receiver in
    omega (
      arith,
      asked-most _ world (count_line world.adapter.causes) stands.ready.ready (line-few world.adapter.causes),
      (pieces-within engine.buffer adapter.receiver.frames).1,
      held-counted h.driver.oldest_receive world,
      held-at_most h world stands adapter,
      stands.ready.ready.driver_is.allowed.buffers.most,
    )

none-asked : (d : DriverState) (world : World) → Ready d world → frames_held d.oldest_receive world ≡ [] → count_adapter_steps world ≡ 0
none-asked d world ready none =
    let engine = world.adapter.receiver in
    let counted = held-counted d.oldest_receive world in
    let empty = ap length none in
    let buffer : engine.buffer ≡ [] = none-long engine.buffer (omega (arith, counted, empty)) in
    omega (
      arith,
      counted,
      empty,
      asked-most d world 0 ready (omega arith),
      work-asks engine.work,
      ap (pieces_left engine.moved) buffer,
      ap count_pieces buffer,
    )
  where
    work-asks : (work : Option Work) → 3 * length (slot_of_work work) ≤ count_pending work 0
    work-asks None = omega arith
    work-asks (Some work) = omega arith

nothing-waits : (h : HostState) (socket : ℕ) (world : World) → HoldsNothing h world → held_for_socket h socket world ≡ []
nothing-waits h socket world none =
    let queue : queue_at h.queues socket ≡ [] =
    none-long (queue_at h.queues socket) (let within = queue-within h.queues socket in omega (arith, within, ap length none.queued)) in
    ap (λ (list : List Received). map (waiting_frame h.driver.layout world.memory) list
    ++ socket_frames h.kinds socket (frames_held h.driver.oldest_receive world)) queue
    ∙ ap (socket_frames h.kinds socket) none.held

pub drains : (steps number : ℕ) (a b : List StationState) (h h' : HostState) (given : List Given)
    → StepsOn steps number given (connected h a) (connected h' b)
    → HoldsNothing h' (world_at b number) → CanBeDrained h (world_at a number) → IsAdapter (world_at a number).adapter
    → Drains steps number given (connected h a) (connected h' b)
drains steps number a b h h' given on none stands adapter =
    let one = world_at a number in
    let two = world_at b number in
    let past = past_at number on.played in
    let moves = frames-move number number on.played a b on.leads in
    let stored : past.stored ≡ [] = nothing-stored number number on.played a b on.moves.count on.leads on.moves.moved in
    let gone : past.put ≡ [] = sym moves.put ∙ ap (put number) on.moves.moved ∙ moves-put number on.moves.count number in
    let lost : past.missed ≡ 0 = sym moves.missed ∙ ap (missed number) on.moves.moved ∙ moves-missed number on.moves.count number in
    let flows = on.runs.flows.driver in
    let small = adapter.registers.counters.missed in
    let accounts = on.runs.flows.accounts in
    let behind = held-counted h'.driver.oldest_receive two in
    let asked = none-asked _ two flows.ready none.held in
    let empty = ap length none.held in
    let most = steps-most h one stands in
    let counted = without_socket h.kinds (frames_held h.driver.oldest_receive one) in
    let without : without_socket h'.kinds (frames_held h'.driver.oldest_receive two) ≡ 0 = ap (without_socket h'.kinds) none.held in
    let without_stored : without_socket h.kinds past.stored ≡ 0 = ap (without_socket h.kinds) stored in
    record {
      steps_are = record { at_most = omega (arith, on.counts.most, most); at_least = omega (arith, on.counts.least, asked) };
      all_given = λ socket.
          sym (append-nil (given_for socket given))
          ∙ ap (λ (list : List (List ℕ)). given_for socket given ++ list) (sym (nothing-waits h' socket two none))
          ∙ accounts.sockets socket
          ∙ ap (λ (list : List (List ℕ)). held_for_socket h socket one ++ socket_frames h.kinds socket list) stored
          ∙ append-nil (held_for_socket h socket one);
      nothing_left = none;
      unclaimed = record {
        least = accounts.least;
        most = let all = accounts.most in omega (arith, all, without, without_stored);
        exactly = λ below. let all = accounts.exactly below in omega (arith, all, without, without_stored);
      };
      keeps = record {
        to_send =
            ap (λ (list : List (List ℕ)). list ++ frames_to_send two) (sym gone) ∙ flows.sends ∙ append-nil (frames_to_send one);
        lines = λ k.
            let there = frames-move number k on.played a b on.leads in
            ap (λ (list : List (List ℕ)). list ++ backlog_at b k)
            (sym (moves-reached k on.moves.count number) ∙ ap (reached k) (sym on.moves.moved))
            ∙ there.waits
            ∙ ap (λ (list : List (List ℕ)). backlog_at a k ++ list)
            (ap (toward (wire_at a) k) on.moves.moved ∙ moves-toward (wire_at a) k on.moves.count number)
            ∙ append-nil (backlog_at a k);
        others = λ k other.
            subst (λ (list : List Event). Trail list (world_at a k) (world_at b k)) (on.moves.alone k other)
            (trail-of number k on.played a b on.leads);
      };
      misses = record {
        sum = λ fits. let all = flows.misses.counted (omega (arith, small, lost)) (omega (arith, fits, lost)) in omega (arith, all, lost);
        sticks = λ much. flows.misses.sticks (omega (arith, small, lost)) (omega (arith, much, lost));
        exact = λ exact below fits. (
          flows.misses.stays_exact exact (omega (arith, below, lost)) (omega (arith, fits, lost)),
          omega (arith, flows.misses.at_most, flows.misses.sum, below, lost),
        );
      };
      by = record {
        played = on.played;
        leads = on.leads;
        only = on.only;
        taken = on.taken;
        runs = on.runs;
        stay = on.stay;
        moved = on.moves.moved ∙ ap (λ (n : ℕ). replicate n (Moved number)) (omega (arith, on.moves.buffered, behind, empty));
      };
    }

pub drains-into : {steps number room left : ℕ} {a b : List StationState} {h h' : HostState} {before behind : List Given}
    → StepsInto steps number (outlet before room) (outlet behind left) (connected h a) (connected h' b)
    → HoldsNothing h' (world_at b number)
    → CanBeDrained h (world_at a number) → IsAdapter (world_at a number).adapter
    → DrainsInto steps number before behind (connected h a) (connected h' b)
drains-into {steps} {number} {a = a} {b} {h} {h'} into none stands adapter = record {
  given = into.given;
  appended = into.appended;
  drains = drains steps number a b h h' into.given into.on none stands adapter;
}

pub all-wait_for_none : (queues : List (List Received)) (n : ℕ) → length queues ≤ n
    → ((k : ℕ) → k < n → queue_at queues k ≡ []) → all_of queues ≡ []
all-wait_for_none [] n fits none = refl
all-wait_for_none (queue ∷ later) zero fits none = absurd (omega (arith, fits))
all-wait_for_none (queue ∷ later) (suc n) fits none =
    ap (λ (list : List Received). list ++ all_of later) (none 0 (omega arith))
    ∙ all-wait_for_none later n (omega (arith, fits)) (λ k below. none (suc k) (omega (arith, below)))
