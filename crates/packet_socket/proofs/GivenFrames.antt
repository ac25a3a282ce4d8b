-- A host returns the oldest frame of a queue.
use Rattle.std.proofs.Common.{Bool, true, false, cond, inl, inr, ◌≡◌, ◌≢◌, ◌<◌, ◌+◌, ◌++◌, ◌∷◌, [], ℕ, List, length, map, take}
use Rattle.std.proofs.Common.{refl, sym, ap, subst, ◌∙◌, arith}
use Rattle.std.specs.Prelude.{◌==◌, IfNone, None, Option, Some}
use Rattle.std.specs.List.{All, flat_map}
use Rattle.std.proofs.lemmas.Bool.Decides.{eqb_tells}
use Rattle.std.proofs.lemmas.Grind.{common_steps, flat_map-append}
use Rattle.std.proofs.lemmas.List.{append-nil, get_or-set_other}
use Rattle.std.proofs.lemmas.Simd.{map-map}
use Rattle.dma_memory.specs.Layout.{Counts}
use Rattle.adapter.proofs.Lists.{all-head, all-right, all-without}
use Rattle.descriptors.specs.Frames.{longest_frame}
use Rattle.adapter.specs.Pasts.{Past, joined}
use Rattle.adapter.specs.bus_types.bus.Bus.{Ghosts}
use Rattle.adapter.specs.bus_types.event.Access.{Access}
use Rattle.adapter.proofs.DriverAccesses.{ran_by-join}
use Rattle.adapter.proofs.Intervals.{work_kept}
use Rattle.adapter.specs.Calls.{GoesTo, IsRefilled, Ran, at, driver_did, driver_in, only, stores_from, tail_write}
use Rattle.adapter.specs.DriverState.{DriverState, HandedOut, frame_of, holding, next_receive, piece_numbers, with_owners}
use Rattle.adapter.specs.ReadyDrivers.{ReadyWith, Stands}
use Rattle.driver.specs.RefillSteps.{Refills}
use Rattle.driver.specs.Parts.{AreFrames, IsFrameSize, IsWholeFrame, buffers_in, part_loads, parts_of}
use Rattle.driver.specs.declared.receiver.Received.{Received}
use Rattle.packet_socket.specs.HostActs.{OverBus}
use Rattle.packet_socket.specs.HostEffects.{ReturnsFrame}
use Rattle.packet_socket.specs.HostCalls.{Given, HostMoment, IsReadyHost, LeavesQueue, driver_at, driver_of, given_for}
use Rattle.packet_socket.specs.HostCalls.{waiting_frame, waiting_frames, waiting_piece, waiting_pieces}
use Rattle.packet_socket.specs.HostState.{HostState, SocketsState, all_of, queue_at}
use Rattle.packet_socket.specs.InsideHost.{host_with}
use Rattle.packet_socket.specs.declared.socket_kind.SocketKind.{SocketKind}
use Rattle.packet_socket.proofs.DriverActs.{last-stage}
use Rattle.packet_socket.proofs.Accounts.{accounts}
use Rattle.packet_socket.proofs.QueueParts.{Splits}
use Rattle.packet_socket.proofs.WaitingFrames.{AreLong, AreSame, IsLong, all-long, all-same, ends-as, parts-waiting, queue-frames-same}
use Rattle.adapter.proofs.Places.{place-below}
use Rattle.packet_socket.proofs.DriversAccesses.{receives-last, receives-of_driver}

given-here : (socket : ℕ) (frame : List ℕ) (other : ℕ) (goes : Bool) → (socket == other) ≡ goes
    → given_for other (record { socket = socket; frame = frame } ∷ []) ≡ cond goes (frame ∷ []) []
given-here socket frame other goes is =
    let one : Given = record { socket = socket; frame = frame } in
    ap (λ (b : Bool). map (λ (g : Given). g.frame) (cond b (one ∷ []) [])) is ∙ by-cases goes
  where
    by-cases : (b : Bool)
        → map (λ (g : Given). g.frame) (cond b (record { socket = socket; frame = frame } ∷ []) []) ≡ cond b (frame ∷ []) []
    by-cases true = refl
    by-cases false = refl

pub gives-others : (d d' : DriverState) (before after : SocketsState) → d' ≡ with_owners d d'.buffers [] d'.pool []
    → after.kinds ≡ before.kinds → after.unclaimed ≡ before.unclaimed
    → host_with d' after ≡ record (host_with d before) { driver = with_owners d d'.buffers [] d'.pool []; queues = after.queues }
gives-others d d' before after driver kinds unclaimed =
    let made = with_owners d d'.buffers [] d'.pool [] in
    ap (λ (now : DriverState). host_with now after) driver
    ∙ ap (λ (list : List SocketKind). let host : HostState = record
    { driver = made; kinds = list; queues = after.queues; unclaimed = after.unclaimed } in host) kinds
    ∙ ap (λ (n : ℕ). let host : HostState = record
    { driver = made; kinds = before.kinds; queues = after.queues; unclaimed = n } in host) unclaimed

pub if-none : {X : Type 0} {P : Type 0} (found : Option X) → found ≡ None → IfNone found P → P
if-none None is p = p
if-none (Some x) is p = absurd (cc)

pub front-long : (size : ℕ) (bytes : List ℕ) → length bytes ≡ longest_frame → IsFrameSize size → length (take size bytes) ≡ size
front-long size bytes long legal = let fits = legal.most in grind (arith, common_steps)

pub host-receives : {up : Bool} {B : Type 0} (bus : Ghosts B)
    → ((a b c : B) (first later : Past) → bus.happened a b first → bus.happened b c later → bus.happened a c (joined first later))
    → (old new : HostMoment B) (b : B) (socket size : ℕ) (received : Received) (bytes : List ℕ) → IsReadyHost bus up old
    → Splits old.host.queues socket received (queue_at new.host.queues socket) → LeavesQueue old.host new.host socket size received
    → Ran bus up (only (part_loads old.host.driver.layout received.parts)) (driver_at bus old) (at b (driver_at bus old).driver)
    → ((first pieces later : List HandedOut)
    → ReadyWith up (holding (first ++ (pieces ++ later)) old.host.driver) (bus.world old.bus)
    → parts_of pieces ≡ received.parts → bytes ≡ frame_of pieces)
    → ((first pieces later : List HandedOut) → piece_numbers pieces ≡ buffers_in received.parts
    → ReadyWith up (holding (first ++ (pieces ++ later)) old.host.driver) (bus.world b)
    → Refills bus up (at b (holding (first ++ (pieces ++ later)) old.host.driver)) (at new.bus (holding (first ++ later) new.host.driver)))
    → length bytes ≡ size → socket < length old.host.kinds → IsRefilled new.host.driver
    → new.host ≡ record old.host {
      driver = with_owners old.host.driver new.host.driver.buffers [] new.host.driver.pool [];
      queues =
          new.host.queues;
    }
    → ReturnsFrame socket bytes old.host new.host (OverBus bus up (record { socket = socket; frame = bytes } ∷ []) [] old new)
    (bus.world old.bus)
host-receives {up} bus joins old new b socket size received bytes is parts leaves reads shows gives size_is known refilled changed =
    let a = old.bus in
    let c = new.bus in
    let h = old.host in
    let h' = new.host in
    let host = is.ready in
    let d = driver_of h (bus.world a) in
    let counts = h.driver.layout in
    let m = (bus.world a).memory in
    let mc = (bus.world c).memory in
    let waiting : Received → List HandedOut = waiting_pieces counts m in
    let frame : Received → List ℕ = waiting_frame counts m in
    let first = flat_map waiting parts.first in
    let later = flat_map waiting parts.last in
    let pieces = waiting received in
    let long : AreLong counts m (parts.first ++ received ∷ parts.last) = subst (AreLong counts m) parts.before
    (all-long h (bus.world a) host) in
    let Long : Received → Type 0 = λ r. All (IsLong counts m) r.parts in
    let whole : Long received = all-head Long received parts.last (all-right Long parts.first (received ∷ parts.last) long) in
    let split : d ≡ holding (first ++ (pieces ++ later)) h.driver =
    ap (λ (list : List HandedOut). holding list h.driver) (ap (flat_map waiting) parts.before
    ∙ flat_map-append waiting parts.first (received ∷ parts.last)) in
    let d2 = holding (first ++ (pieces ++ later)) h.driver in
    let ready : ReadyWith up d2 (bus.world a) = subst (λ (s : DriverState). ReadyWith up s (bus.world a)) split host.ready in
    let loads : List Access = part_loads counts received.parts in
    let reads2 : Ran bus up (only loads) (at a d2) (at b d2) = subst
    (λ (s : DriverState). Ran bus up (only loads) (at a s) (at b s)) split reads in
    let numbers : piece_numbers pieces ≡ buffers_in received.parts =
    map-map (λ (one : HandedOut). one.number) (waiting_piece counts m) received.parts in
    let refills = gives first pieces later numbers reads2.goes.flows.ready in
    let e = holding (first ++ later) h'.driver in
    let stores : List Access = stores_from counts (next_receive h.driver) refills.numbers
    ++ tail_write (next_receive h'.driver) (h.driver.staged ++ refills.numbers) in
    let both : Ran bus up (only (loads ++ stores)) (at a d2) (at c e) =
    ran_by-join bus joins loads stores a b c d2 d2 e [] [] [] [] reads2 refills.ran in
    let from : Ran bus up (only (loads ++ stores)) (at a d) (at c e) = subst
    (λ (s : DriverState). Ran bus up (only (loads ++ stores)) (at a s) (at c e)) (sym split) both in
    let same_layout : h'.driver.layout ≡ counts = from.goes.flows.layout in
    let left = parts.first ++ parts.last in
    let all : all_of h'.queues ≡ left = ap all_of leaves.others ∙ parts.behind in
    let stand : All (Stands counts mc) (flat_map waiting left) =
    subst (λ (k : Counts). All (Stands k mc) (flat_map waiting left)) same_layout
    (subst (λ (list : List HandedOut). All (Stands h'.driver.layout mc) list)
    (sym (flat_map-append waiting parts.first parts.last)) from.goes.flows.ready.stand) in
    let same : AreSame counts m mc left = all-same counts m mc left (all-without Long parts.first received parts.last long) stand in
    let end : e ≡ driver_of h' (bus.world c) =
    sym (ends-as h' (bus.world c) counts m left all same_layout same
    ∙ ap (λ (list : List HandedOut). holding list h'.driver) (flat_map-append waiting parts.first parts.last)) in
    let queue_frames : (s : ℕ) → waiting_frames h' s (bus.world c) ≡ map frame (queue_at h'.queues s) = λ s.
    ap (λ (k : Counts). map (waiting_frame k mc) (queue_at h'.queues s)) same_layout
    ∙ queue-frames-same counts m mc h'.queues (subst (AreSame counts m mc) (sym all) same) s in
    let shown : bytes ≡ frame received = shows first pieces later ready (parts-waiting counts m received.parts whole) in
    let front : waiting_frames h socket (bus.world a) ≡ bytes ∷ waiting_frames h' socket (bus.world c) =
    ap (map frame) leaves.oldest
    ∙ ap (λ (list : List (List ℕ)). frame received ∷ list) (sym (queue_frames socket))
    ∙ ap (λ (list : List ℕ). list ∷ waiting_frames h' socket (bus.world c)) (sym shown) in
    let given : List Given = record { socket = socket; frame = bytes } ∷ [] in
    let others : (s : ℕ) → s ≢ socket → waiting_frames h' s (bus.world c) ≡ waiting_frames h s (bus.world a) = λ s differ.
    queue_frames s
    ∙ ap (λ (queues : List (List Received)). map frame (queue_at queues s)) leaves.others
    ∙ ap (map frame) (get_or-set_other h.queues socket s (queue_at h'.queues socket) [] differ) in
    let moved : (s : ℕ) → given_for s given ++ waiting_frames h' s (bus.world c) ≡ waiting_frames h s (bus.world a) ++ [] = λ s.
    elim (eqb_tells socket s) [
      | inl is ↦
          ap (λ (list : List (List ℕ)). list ++ waiting_frames h' s (bus.world c)) (given-here socket bytes s true is.0)
          ∙ subst (λ (t : ℕ). bytes ∷ waiting_frames h' t (bus.world c) ≡ waiting_frames h t (bus.world a)) is.1 (sym front)
          ∙ sym (append-nil (waiting_frames h s (bus.world a)))
      | inr not ↦
          ap (λ (list : List (List ℕ)). list ++ waiting_frames h' s (bus.world c)) (given-here socket bytes s false not.0)
          ∙ others s (λ is. not.1 (sym is))
          ∙ sym (append-nil (waiting_frames h s (bus.world a)))
    ] in
    let driver : GoesTo up (driver_in d (bus.world a)) (driver_in (driver_of h' (bus.world c)) (bus.world c)) (driver_did [] []) from.past =
    subst (λ (last : DriverState). GoesTo up (driver_in d (bus.world a)) (driver_in last (bus.world c)) (driver_did [] []) from.past) end
    from.goes in
    let below : next_receive h'.driver < counts.rx = subst (λ (k : Counts). next_receive h'.driver < k.rx) same_layout
    (place-below h'.driver.layout.rx h'.driver.oldest_receive (length h'.driver.buffers + length h'.driver.staged)
    from.goes.flows.ready.driver_is.oldest_slot) in
    record {
      known = known;
      received = received;
      leaves = subst (λ (n : ℕ). LeavesQueue h h' socket n received) (sym size_is) leaves;
      others = changed;
      offered = refills.numbers;
      newest = refills.offered;
      runs = record {
        past = from.past;
        stages = last-stage c from.reports from.only front;
        own = receives-of_driver counts h.driver h'.driver received.parts refills.numbers below;
        last_writes = receives-last h.driver h'.driver received.parts refills.numbers;
        changed = record {
          sizes = subst AreFrames (sym all)
              (all-without IsWholeFrame parts.first received parts.last (subst AreFrames parts.before host.sizes));
          driver = driver;
          accounts =
              accounts h (bus.world a) h' (bus.world c) given [] from.past.stored leaves.kinds from.goes.flows.holds moved
              (record {
                least = omega (arith, leaves.unclaimed);
                most = omega (arith, leaves.unclaimed);
                exactly = λ below. omega (arith, leaves.unclaimed);
              });
        };
        follows = from.follows;
        work = λ work. let behind = work_kept d (driver_of h' (bus.world c)) (bus.world a) (bus.world c) [] [] from.past driver
            (record { enabled = work.enabled; asked = work.asked }) in record { enabled = behind.enabled; asked = behind.asked };
        refilled = λ before. refilled;
        offered = λ before. ap (λ (host : HostState). host.driver.staged) changed;
      };
    }
