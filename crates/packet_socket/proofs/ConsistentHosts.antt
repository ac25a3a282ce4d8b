-- A host remains consistent in its calls, over any bus.
use Rattle.std.proofs.Common.{◌≡◌, ◌+◌, ◌<◌, ◌≤◌, ◌++◌, ◌∷◌, [], ℕ, Bool, List, length, replicate, sym, ap, subst, ◌∙◌}
use Rattle.std.proofs.Common.{length-append, arith}
use Rattle.std.specs.List.{All, flat_map, slice_set}
use Rattle.std.proofs.lemmas.List.{length-replicate, length-set}
use Rattle.std.proofs.lemmas.List.Elements.{All-append, All-filter}
use Rattle.std.proofs.lemmas.List.Sorted.{All-permutation, sum_by-IsPermutation}
use Rattle.dma_memory.specs.Owners.{HasNoSecondOwner, HaveSameNumbers, copies}
use Rattle.dma_memory.specs.OwnersLaws.{copies-append, known_from_no_second, length-no_second}
use Rattle.dma_memory.specs.Layout.{Counts}
use Rattle.adapter.specs.World.{World}
use Rattle.adapter.proofs.Lists.{all-head, all-none, all-right, all-without}
use Rattle.adapter.proofs.Owners.{all-copies}
use Rattle.adapter.specs.DriverState.{DriverState, HandedOut, holding, owners}
use Rattle.adapter.specs.ReadyDrivers.{ReadyWith}
use Rattle.driver.specs.HandlerSteps.{IfHandled, IfNotMine, ServesReceiver}
use Rattle.driver.specs.Parts.{AreFrames, IsWholeFrame, buffers_in, buffers_of}
use Rattle.driver.specs.declared.interrupt.Handled.{Handled}
use Rattle.driver.specs.declared.interrupt.Handled.TheVariants.{NotMine}
use Rattle.driver.specs.declared.interrupt.Handled.TheVariants as answers
use Rattle.driver.specs.declared.receiver.Received.{Received}
use Rattle.packet_socket.specs.HostCalls.{HostReadyWith, HostServes, Queues, driver_of, waiting_pieces}
use Rattle.packet_socket.specs.HostState.{SocketsState, all_of, host_owners, queue_at}
use Rattle.packet_socket.specs.InsideHost.{AreOfHost, host_with}
use Rattle.packet_socket.specs.SocketKinds.{has_socket}
use Rattle.packet_socket.specs.Sorting.{Sorts}
use Rattle.packet_socket.specs.declared.socket_kind.SocketKind.{SocketKind}
use Rattle.packet_socket.proofs.QueueParts.{Splits, none-wait, splits}
use Rattle.packet_socket.proofs.QueuedPieces.{buffers-append, buffers-first, copies-joined, entries-fit}

pub entry-splits : (driver : DriverState) (before after : SocketsState) (socket count : ℕ) (received : Received) → AreOfHost driver before
    → socket < count → count ≡ length before.kinds
    → queue_at before.queues socket ≡ received ∷ queue_at after.queues socket
    → Splits before.queues socket received (queue_at after.queues socket)
entry-splits driver before after socket count received host below size is = splits before.queues socket received
    (queue_at after.queues socket) (omega (arith, below, size, host.count)) is

-- The buffers of an entry

pub record CanComeBack (driver : DriverState) (received : Received) : Type 0 where
  pub known : All (λ number. number < driver.layout.buffers) (buffers_in received.parts)
  pub one_owner : HasNoSecondOwner driver.layout.buffers (buffers_in received.parts ++ owners driver)
  pub whole : IsWholeFrame received

middle-copies : (k : ℕ) (first last : List Received) (received : Received)
    → copies k (buffers_of (first ++ received ∷ last)) ≡ copies k (buffers_in received.parts) + copies k (buffers_of (first ++ last))
middle-copies k first last received =
    omega (arith, buffers-append k first (received ∷ last), buffers-first k received last, buffers-append k first last)

pub can-come-back : (driver : DriverState) (sockets : SocketsState) (socket : ℕ) (received : Received) (later : List Received)
    → AreOfHost driver sockets
    → Splits sockets.queues socket received later → CanComeBack driver received
can-come-back driver sockets socket received later host parts =
    let all = owners driver ++ buffers_of (all_of sockets.queues) in
    let n = driver.layout.buffers in
    let numbers = buffers_in received.parts in
    let left = buffers_of (parts.first ++ parts.last) in
    let sum : (k : ℕ) → copies k all ≡ copies k (owners driver) + (copies k numbers + copies k left) = λ k.
    omega (
      arith,
      copies-append k (owners driver) (buffers_of (all_of sockets.queues)),
      ap (λ (list : List Received). copies k (buffers_of list)) parts.before,
      middle-copies k parts.first parts.last received,
    ) in
    record {
      known = all-copies (λ number. number < n) numbers
          (λ k some. known_from_no_second n k all host.owners (omega (arith, sum k, some)));
      one_owner = λ k. omega (arith, sum k, host.owners k, copies-append k numbers (owners driver));
      whole = all-head IsWholeFrame received parts.last
          (all-right IsWholeFrame parts.first (received ∷ parts.last) (subst AreFrames parts.before host.sizes));
    }

-- After the buffers of an entry returned to the driver, each buffer has the same number of owners.
pub stays-owners : (driver driver' : DriverState) (before after : SocketsState) (socket : ℕ) (received : Received)
    → (parts : Splits before.queues socket received (queue_at after.queues socket))
    → after ≡ record before { queues = slice_set before.queues socket (queue_at after.queues socket) }
    → HaveSameNumbers (buffers_in received.parts ++ owners driver) (owners driver')
    → HaveSameNumbers (host_owners (host_with driver before)) (host_owners (host_with driver' after))
stays-owners driver driver' before after socket received parts others numbers =
    let left : all_of after.queues ≡ parts.first ++ parts.last = ap (λ (s : SocketsState). all_of s.queues) others ∙ parts.behind in
    λ k. omega (
      arith,
      numbers k,
      copies-append k (owners driver) (buffers_of (all_of before.queues)),
      copies-append k (owners driver') (buffers_of (all_of after.queues)),
      copies-append k (buffers_in received.parts) (owners driver),
      ap (λ (list : List Received). copies k (buffers_of list)) parts.before,
      ap (λ (list : List Received). copies k (buffers_of list)) left,
      middle-copies k parts.first parts.last received,
    )

pub stays-host : (driver driver' : DriverState) (before after : SocketsState) (socket : ℕ) (received : Received) → AreOfHost driver before
    → (parts : Splits before.queues socket received (queue_at after.queues socket))
    → after ≡ record before { queues = slice_set before.queues socket (queue_at after.queues socket) }
    → driver'.layout ≡ driver.layout → HaveSameNumbers (buffers_in received.parts ++ owners driver) (owners driver')
    → AreOfHost driver' after
stays-host driver driver' before after socket received host parts others counts numbers =
    let left : all_of after.queues ≡ parts.first ++ parts.last = ap (λ (s : SocketsState). all_of s.queues) others ∙ parts.behind in
    record {
      room = ap (λ (s : SocketsState). s.room) others ∙ host.room ∙ ap (λ (c : Counts). c.buffers) (sym counts);
      count =
          ap (λ (s : SocketsState). length s.queues) others
          ∙ length-set before.queues socket (queue_at after.queues socket)
          ∙ host.count
          ∙ ap (λ (s : SocketsState). length s.kinds) (sym others);
      owners = subst (λ (c : Counts). HasNoSecondOwner c.buffers (owners driver' ++ buffers_of (all_of after.queues))) (sym counts) (λ k.
          omega (arith, host.owners k, stays-owners driver driver' before after socket received parts others numbers k));
      sizes = subst AreFrames (sym left)
          (all-without IsWholeFrame parts.first received parts.last (subst AreFrames parts.before host.sizes));
    }

-- Frames were shown to the sockets

pub kept-are-frames : (before after : SocketsState) (shown kept : List Received) → Sorts before after shown kept → AreFrames shown
    → AreFrames kept
kept-are-frames before after shown kept sorts sizes =
    subst AreFrames (sym sorts.claimed)
    (All-filter (λ (r : Received). has_socket before.kinds r.ether_type) IsWholeFrame shown sizes)

pub kept-copies : (k : ℕ) (kinds : List SocketKind) (before after : List (List Received)) (kept : List Received)
    → Queues kinds before after kept
    → copies k (buffers_of (all_of after)) ≡ copies k (buffers_of (all_of before)) + copies k (buffers_of kept)
kept-copies k kinds before after kept queues =
    let count : Received → ℕ = λ r. copies k (buffers_in r.parts) in
    copies-joined k (all_of after)
    ∙ sum_by-IsPermutation count (all_of before ++ kept) (all_of after) queues.all
    ∙ sym (copies-joined k (all_of before ++ kept))
    ∙ buffers-append k (all_of before) kept

pub has-room : (driver driver' : DriverState) (before : SocketsState) (kept : List Received) → AreOfHost driver before → AreFrames kept
    → HaveSameNumbers (owners driver) (owners driver' ++ buffers_of kept) → length (all_of before.queues) + length kept ≤ before.room
has-room driver driver' before kept host sizes numbers =
    let waiting = buffers_of (all_of before.queues) in
    let once : HasNoSecondOwner driver.layout.buffers (waiting ++ buffers_of kept) = λ k.
    omega (
      arith,
      host.owners k,
      numbers k,
      copies-append k (owners driver) waiting,
      copies-append k (owners driver') (buffers_of kept),
      copies-append k waiting (buffers_of kept),
    ) in
    omega (
      arith,
      length-no_second driver.layout.buffers (waiting ++ buffers_of kept) once,
      length-append waiting (buffers_of kept),
      entries-fit (all_of before.queues) host.sizes,
      entries-fit kept sizes,
      host.room,
    )

-- A host handles an interrupt

pub served-queues : (n : ℕ) (driver driver' : DriverState) (before after : SocketsState) → AreOfHost driver before
    → (serves : ServesReceiver (record { took = Sorts }) before after driver driver' n)
    → Queues before.kinds before.queues after.queues serves.receiver.kept
served-queues n driver driver' before after host serves =
    let shows = serves.receiver in
    shows.shown.queues (has-room driver driver' before shows.kept host
    (kept-are-frames before after shows.received shows.kept shows.shown shows.frames.sizes) serves.owners)

served-owners : (n : ℕ) (driver driver' : DriverState) (before after : SocketsState) → AreOfHost driver before
    → ServesReceiver (record { took = Sorts }) before after driver driver' n
    → HaveSameNumbers (host_owners (host_with driver before)) (host_owners (host_with driver' after))
served-owners n driver driver' before after host serves = λ k.
    omega (
      arith,
      serves.owners k,
      copies-append k (owners driver) (buffers_of (all_of before.queues)),
      copies-append k (owners driver') (buffers_of serves.receiver.kept),
      copies-append k (owners driver') (buffers_of (all_of after.queues)),
      kept-copies k before.kinds before.queues after.queues serves.receiver.kept (served-queues n driver driver' before after host serves),
    )

served-host : (n : ℕ) (driver driver' : DriverState) (before after : SocketsState) → AreOfHost driver before
    → ServesReceiver (record { took = Sorts }) before after driver driver' n → driver'.layout ≡ driver.layout
    → AreOfHost driver' after
served-host n driver driver' before after host serves counts =
    let shows = serves.receiver in
    let queues = served-queues n driver driver' before after host serves in
    record {
      room = shows.shown.room ∙ host.room ∙ ap (λ (c : Counts). c.buffers) (sym counts);
      count = shows.shown.count ∙ host.count ∙ ap (λ (kinds : List SocketKind). length kinds) (sym shows.shown.kinds);
      owners = subst (λ (c : Counts). HasNoSecondOwner c.buffers (owners driver' ++ buffers_of (all_of after.queues))) (sym counts) (λ k.
          omega (arith, host.owners k, served-owners n driver driver' before after host serves k));
      sizes =
          All-permutation IsWholeFrame (all_of before.queues ++ shows.kept) (all_of after.queues) queues.all
          (All-append IsWholeFrame (all_of before.queues) shows.kept host.sizes
          (kept-are-frames before after shows.received shows.kept shows.shown shows.frames.sizes));
    }

pub handled-host : (result : Handled) (driver driver' : DriverState) (before after : SocketsState) → AreOfHost driver before
    → IfNotMine result ((driver' ≡ driver) × (after ≡ before))
    → IfHandled result (ServesReceiver (record { took = Sorts }) before after driver driver') → driver'.layout ≡ driver.layout
    → AreOfHost driver' after
handled-host NotMine driver driver' before after host stays serves counts = subst (λ (s : SocketsState). AreOfHost driver' s)
    (sym stays.1) (subst (λ (d : DriverState). AreOfHost d before) (sym stays.0) host)
handled-host (answers.Handled taken) driver driver' before after host stays serves counts =
    served-host taken driver driver' before after host serves counts

pub sorts-all : (result : Handled) (driver driver' : DriverState) (before after : SocketsState) → AreOfHost driver before
    → IfHandled result (ServesReceiver (record { took = Sorts }) before after driver driver')
    → IfHandled result (HostServes (host_with driver before) (host_with driver' after))
sorts-all NotMine driver driver' before after host serves = tt
sorts-all (answers.Handled taken) driver driver' before after host serves =
    let shows = serves.receiver in
    record {
      runs = serves.runs;
      ring = serves.ring;
      shown = shows.received;
      frames = shows.frames;
      sorted = record {
        kinds = shows.shown.kinds;
        queues = subst (Queues before.kinds before.queues after.queues) shows.shown.claimed
            (served-queues taken driver driver' before after host serves);
        unclaimed = shows.shown.unclaimed;
      };
      owners = served-owners taken driver driver' before after host serves;
    }

pub new-host : (driver : DriverState) (sockets : SocketsState) (kinds : List SocketKind) (room : ℕ)
    → sockets ≡ record { kinds = kinds; queues = replicate (length kinds) []; room = room; unclaimed = 0 } → room ≡ driver.layout.buffers
    → HasNoSecondOwner driver.layout.buffers (owners driver)
    → AreOfHost driver sockets
new-host driver sockets kinds room is size owns =
    let none : all_of sockets.queues ≡ [] = ap (λ (s : SocketsState). all_of s.queues) is ∙ none-wait (length kinds) in
    record {
      room = ap (λ (s : SocketsState). s.room) is ∙ size;
      count = ap (λ (s : SocketsState). length s.queues) is ∙ length-replicate (length kinds) []
          ∙ ap (λ (s : SocketsState). length s.kinds) (sym is);
      owners = λ k. omega (
        arith,
        owns k,
        copies-append k (owners driver) (buffers_of (all_of sockets.queues)),
        ap
            (λ (list : List Received). copies k (buffers_of list)) none,
      );
      sizes = subst AreFrames (sym none) (all-none IsWholeFrame);
    }

pub new-ready : {up : Bool} (driver : DriverState) (sockets : SocketsState) (kinds : List SocketKind) (room : ℕ) (world : World)
    → sockets ≡ record { kinds = kinds; queues = replicate (length kinds) []; room = room; unclaimed = 0 } → driver.handed_out ≡ []
    → ReadyWith up driver world
    → HostReadyWith up (host_with driver sockets) world
new-ready {up} driver sockets kinds room world is out ready =
    let none : all_of sockets.queues ≡ [] = ap (λ (s : SocketsState). all_of s.queues) is ∙ none-wait (length kinds) in
    let same : driver_of (host_with driver sockets) world ≡ driver =
    ap (λ (list : List Received). holding (flat_map (waiting_pieces driver.layout world.memory) list) driver) none
    ∙ ap (λ (list : List HandedOut). holding list driver) (sym out) in
    record {
      sizes = subst AreFrames (sym none) (all-none IsWholeFrame);
      ready = subst (λ (d : DriverState). ReadyWith up d world) (sym same) ready;
    }
