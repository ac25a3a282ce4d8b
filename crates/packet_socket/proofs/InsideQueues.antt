-- Queues, as `Sockets` stores them.
use Rattle.std.proofs.Common.{◌≡◌, ◌-◌, ◌<◌, ◌++◌, ◌∷◌, [], ℕ, zero, suc, Some, Option, List, length, map, drop, replicate, refl}
use Rattle.std.proofs.Common.{sym, ap, subst, ◌∙◌, length-append, arith}
use Rattle.std.specs.List.{All, slice_get, slice_index_or, slice_set}
use Rattle.std.specs.Option.{IfSome}
use Rattle.std.proofs.lemmas.List.{length-map, map-set}
use Rattle.circular_buffer.specs.Buffer.{Buffer, buffer, keep_last}
use Rattle.driver.specs.declared.receiver.Received.{Received}
use Rattle.packet_socket.specs.InsideSockets.{items_of}
use Rattle.packet_socket.specs.SocketKinds.{socket_of}
use Rattle.packet_socket.specs.HostState.{SocketsState, queue_at}
use Rattle.packet_socket.specs.Sorting.{Sorts}
use Rattle.packet_socket.specs.SortingLaws.{sorts-kept}
use Rattle.packet_socket.specs.declared.socket_kind.SocketKind.{SocketKind}

pub queue-found : (queues : List (Buffer Received)) (socket : ℕ) (queue : Buffer Received) → socket < length queues
    → queue ≡ slice_index_or queues socket queue
    → queue_at (map items_of queues) socket ≡ queue.items
queue-found [] socket queue below is = absurd (omega (arith, below))
queue-found (first ∷ later) zero queue below is = ap items_of (sym is)
queue-found (first ∷ later) (suc socket) queue below is = queue-found later socket queue (omega (arith, below)) is

queue-new : (queues : List (Buffer Received)) (socket : ℕ) (queue : Buffer Received) → socket < length queues
    → queue_at (map items_of (slice_set queues socket queue)) socket ≡ queue.items
queue-new [] socket queue below = absurd (omega (arith, below))
queue-new (first ∷ later) zero queue below = refl
queue-new (first ∷ later) (suc socket) queue below = queue-new later socket queue (omega (arith, below))

-- The oldest frame leaves a queue

first-is : (items : List Received) → IfSome (slice_get items 0) (λ received. items ≡ received ∷ drop 1 items)
first-is [] = tt
first-is (first ∷ later) = refl

pub oldest-leaves : (queues : List (Buffer Received)) (socket : ℕ) (queue queue' : Buffer Received) (result : Option Received)
    → socket < length queues → queue ≡ slice_index_or queues socket queue
    → queue' ≡ buffer (drop 1 queue.items) queue.capacity → result ≡ slice_get queue.items 0
    → IfSome result (λ received. queue_at (map items_of queues) socket
    ≡ received ∷ queue_at (map items_of (slice_set queues socket queue')) socket)
oldest-leaves queues socket queue queue' result below is new value =
    let before : queue.items ≡ queue_at (map items_of queues) socket = sym (queue-found queues socket queue below is) in
    let behind : drop 1 queue.items ≡ queue_at (map items_of (slice_set queues socket queue')) socket = ap items_of (sym new)
    ∙ sym (queue-new queues socket queue' below) in
    subst (λ (found : Option Received). IfSome found (λ received. queue_at (map items_of queues) socket
    ≡ received ∷ queue_at (map items_of (slice_set queues socket queue')) socket)) (sym value)
    (subst (λ (list : List Received). IfSome (slice_get queue.items 0)
    (λ received. list ≡ received ∷ queue_at (map items_of (slice_set queues socket queue')) socket)) before
    (subst (λ (list : List Received). IfSome (slice_get queue.items 0) (λ received. queue.items ≡ received ∷ list)) behind
    (first-is queue.items)))

pub others_stay : (queues : List (Buffer Received)) (socket : ℕ) (queue : Buffer Received) → socket < length queues
    → map items_of (slice_set queues socket queue)
    ≡ slice_set (map items_of queues) socket (queue_at (map items_of (slice_set queues socket queue)) socket)
others_stay queues socket queue below = map-set items_of queues socket queue
    ∙ ap (slice_set (map items_of queues) socket) (sym (queue-new queues socket queue below))

-- A frame goes to the end of a queue

last-kept : (capacity : ℕ) (items : List Received) (received : Received) → length items < capacity
    → keep_last capacity (items ++ received ∷ []) ≡ items ++ received ∷ []
last-kept capacity items received below =
    let none : length (items ++ received ∷ []) - capacity ≡ 0 = omega (arith, below, length-append items (received ∷ [])) in
    ap (λ (n : ℕ). drop n (items ++ received ∷ [])) none

pub newest-comes : (kinds : List SocketKind) (queues : List (Buffer Received)) (room unclaimed socket : ℕ) (received : Received)
    (queue queue' : Buffer Received)
    → socket_of kinds received.ether_type ≡ Some socket → socket < length queues → queue ≡ slice_index_or queues socket queue
    → All (λ (q : Buffer Received). q.capacity ≡ room) queues
    → queue' ≡ buffer (keep_last queue.capacity (queue.items ++ received ∷ [])) queue.capacity
    → Sorts (record { kinds = kinds; queues = map items_of queues; room = room; unclaimed = unclaimed })
    (record { kinds = kinds; queues = map items_of (slice_set queues socket queue'); room = room; unclaimed = unclaimed }) (received ∷ [])
    (received ∷ [])
newest-comes kinds queues room unclaimed socket received queue queue' is below found rooms new =
    let lists = map items_of queues in
    let before : SocketsState = record { kinds = kinds; queues = lists; room = room; unclaimed = unclaimed } in
    let size : length lists ≡ length queues = length-map queues items_of in
    let same : queue_at lists socket ≡ queue.items = queue-found queues socket queue below found in
    let capacity : queue.capacity ≡ room = ap (λ (q : Buffer Received). q.capacity) found ∙ rooms socket queue below in
    subst (λ (list : List (List Received)). Sorts before (record { kinds = kinds; queues = list; room = room; unclaimed = unclaimed })
    (received ∷ []) (received ∷ [])) (sym (map-set items_of queues socket queue'))
    (sorts-kept kinds lists room unclaimed socket received queue'.items is (omega (arith, below, size))
    (λ fits. ap items_of new ∙ last-kept queue.capacity queue.items received (omega (arith, fits, capacity, ap length same))
    ∙ ap (λ (list : List Received). list ++ received ∷ []) (sym same)))

-- The queues of a new host are empty

pub all-empty : (n room : ℕ) → map items_of (replicate n (buffer [] room)) ≡ replicate n []
all-empty zero room = refl
all-empty (suc n) room = ap (λ (list : List (List Received)). [] ∷ list) (all-empty n room)
