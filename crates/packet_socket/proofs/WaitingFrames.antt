-- The pieces of queued frames are in memory, and are the same in another memory in which they are still in their buffers.
use Rattle.std.proofs.Common.{Bool, ◌≡◌, ◌<◌, ◌≤◌, ◌∷◌, [], ℕ, zero, suc, List, length, map, refl, ap, subst, ◌∙◌, arith}
use Rattle.std.specs.List.{All, flat_map, slice_index_or}
use Rattle.std.proofs.lemmas.List.Elements.{All-cons, All-map}
use Rattle.dma_memory.specs.HostMemory.{bytes_at}
use Rattle.dma_memory.specs.Laws.{length-bytes_at}
use Rattle.dma_memory.specs.Layout.{Counts, receive_buffer_bytes}
use Rattle.adapter.specs.World.{World}
use Rattle.adapter.proofs.Lists.{all-head, all-left, all-none, all-right, all-tail, all-unmapped, map-same}
use Rattle.adapter.proofs.Buffers.{buffer-lies}
use Rattle.adapter.proofs.Owners.{all-copies, elsewhere-number}
use Rattle.adapter.specs.DriverState.{HandedOut, buffer_at, frame_of, holding, piece_numbers}
use Rattle.adapter.specs.ReadyDrivers.{Stands}
use Rattle.driver.specs.Parts.{IsWholeFrame, part_of, parts_of}
use Rattle.driver.specs.declared.parts.Part.{Part}
use Rattle.driver.specs.declared.receiver.Received.{Received}
use Rattle.packet_socket.specs.HostCalls.{HostReadyWith, driver_of, waiting_frame, waiting_piece, waiting_pieces}
use Rattle.packet_socket.specs.HostState.{HostState, all_of, queue_at}
use Rattle.packet_socket.proofs.QueuedPieces.{all-pieces, joined-same}

pub queue-all : (P : Received → Type 0) (queues : List (List Received)) (socket : ℕ) → All P (all_of queues)
    → All P (queue_at queues socket)
queue-all P [] socket all = all-none P
queue-all P (queue ∷ later) zero all = all-left P queue (all_of later) all
queue-all P (queue ∷ later) (suc socket) all = queue-all P later socket (all-right P queue (all_of later) all)

-- A read of this piece from memory returns `part.length` bytes.
abbrev pub IsLong : Counts → List ℕ → Part → Type 0
IsLong counts memory part = length (bytes_at memory (buffer_at counts part.buffer) part.length) ≡ part.length

-- This size is at most the size of a receive buffer.
abbrev Fits : ℕ → Type 0
Fits size = size ≤ receive_buffer_bytes

abbrev pub AreLong : Counts → List ℕ → List Received → Type 0
AreLong counts memory list = All (λ (received : Received). All (IsLong counts memory) received.parts) list

pub all-long : {up : Bool} (h : HostState) (a : World) → HostReadyWith up h a → AreLong h.driver.layout a.memory (all_of h.queues)
all-long h a host =
    let d = driver_of h a in
    let counts = h.driver.layout in
    let list = all_of h.queues in
    let number : HandedOut → ℕ = λ one. one.number in
    let Known : ℕ → Type 0 = λ m. m < counts.buffers in
    let Fits : ℕ → Type 0 = λ n. n ≤ receive_buffer_bytes in
    let numbers : All Known (piece_numbers d.handed_out) = all-copies Known (piece_numbers d.handed_out)
    (λ m some. (elsewhere-number d m host.ready.driver_is (omega (arith, some))).known) in
    let known = all-pieces (λ (one : HandedOut). Known one.number) (waiting_pieces counts a.memory) list
    (all-unmapped Known number d.handed_out numbers) in
    λ k r below.
    let received = slice_index_or list k r in
    let there = all-unmapped (λ (one : HandedOut). Known one.number) (waiting_piece counts a.memory) received.parts (known k r below) in
    let fits = all-unmapped Fits (λ (part : Part). part.length) received.parts (host.sizes k r below).fits in
    λ i p within.
    let lies = buffer-lies d a _ host.ready (there i p within) in
    let short = fits i p within in
    length-bytes_at a.memory _ _ (omega (arith, lies, short))

-- The pieces of these queued frames are the same in both memories.
abbrev pub AreSame : Counts → (memory memory' : List ℕ) → List Received → Type 0
AreSame counts memory memory' list =
    All (λ (received : Received). waiting_pieces counts memory' received ≡ waiting_pieces counts memory received) list

piece-same : (counts : Counts) (memory memory' : List ℕ) (part : Part) → IsLong counts memory part
    → Stands counts memory' (waiting_piece counts memory part)
    → waiting_piece counts memory' part ≡ waiting_piece counts memory part
piece-same counts memory memory' part long stands =
    let was = bytes_at memory (buffer_at counts part.buffer) part.length in
    let same : bytes_at memory' (buffer_at counts part.buffer) part.length ≡ was =
    subst (λ (n : ℕ). bytes_at memory' (buffer_at counts part.buffer) n ≡ was) long stands.bytes in
    ap (λ (list : List ℕ). let one : HandedOut = record { number = part.buffer; bytes = list } in one) same

pub all-same : (counts : Counts) (memory memory' : List ℕ) (list : List Received) → AreLong counts memory list
    → All (Stands counts memory') (flat_map (waiting_pieces counts memory) list) → AreSame counts memory memory' list
all-same counts memory memory' list long stand =
    let P = Stands counts memory' in
    let each = all-pieces P (waiting_pieces counts memory) list stand in
    λ k r below.
    let received = slice_index_or list k r in
    let there = all-unmapped P (waiting_piece counts memory) received.parts (each k r below) in
    map-same (waiting_piece counts memory') (waiting_piece counts memory) received.parts
    (λ i p within. piece-same counts memory memory' (slice_index_or received.parts i p) (long k r below i p within) (there i p within))

pub all-long-after : (counts : Counts) (memory memory' : List ℕ) (list : List Received) → AreLong counts memory list
    → AreSame counts memory memory' list → AreLong counts memory' list
all-long-after counts memory memory' list long same k r below =
    let parts = (slice_index_or list k r).parts in
    pairwise parts (waiting_piece counts memory) (waiting_piece counts memory') (same k r below) (long k r below)
  where
    pairwise : (parts : List Part) (f g : Part → HandedOut) → map g parts ≡ map f parts
        → All (λ (part : Part). length (f part).bytes ≡ part.length) parts
        → All (λ (part : Part). length (g part).bytes ≡ part.length) parts
    pairwise [] f g is all = all-none (λ (part : Part). length (g part).bytes ≡ part.length)
    pairwise (part ∷ later) f g is all =
        let first : g part ≡ f part = cc (is) in
        let rest : map g later ≡ map f later = cc (is) in
        All-cons (λ (p : Part). length (g p).bytes ≡ p.length) part later
        (ap (λ (one : HandedOut). length one.bytes) first ∙ all-head (λ (p : Part). length (f p).bytes ≡ p.length) part later all)
        (pairwise later f g rest (all-tail (λ (p : Part). length (f p).bytes ≡ p.length) part later all))

pub ends-as : (h : HostState) (b : World) (counts : Counts) (memory : List ℕ) (list : List Received) → all_of h.queues ≡ list
    → h.driver.layout ≡ counts
    → AreSame counts memory b.memory list → driver_of h b ≡ holding (flat_map (waiting_pieces counts memory) list) h.driver
ends-as h b counts memory list all is same =
    ap (λ (c : Counts). holding (flat_map (waiting_pieces c b.memory) (all_of h.queues)) h.driver) is
    ∙ ap (λ (l : List Received). holding (flat_map (waiting_pieces counts b.memory) l) h.driver) all
    ∙ ap (λ (l : List HandedOut). holding l h.driver)
    (joined-same (waiting_pieces counts b.memory) (waiting_pieces counts memory) list same)

pub queue-frames-same : (counts : Counts) (memory memory' : List ℕ) (queues : List (List Received))
    → AreSame counts memory memory' (all_of queues)
    → (socket : ℕ) → map (waiting_frame counts memory') (queue_at queues socket)
    ≡ map (waiting_frame counts memory) (queue_at queues socket)
queue-frames-same counts memory memory' queues same socket =
    let queue = queue_at queues socket in
    let each = queue-all (λ (r : Received). waiting_pieces counts memory' r ≡ waiting_pieces counts memory r) queues socket same in
    map-same (waiting_frame counts memory') (waiting_frame counts memory) queue (λ k r below. ap frame_of (each k r below))

-- Pieces read from memory.

pub read-pieces : (counts : Counts) (memory : List ℕ) (pieces : List HandedOut) → All (Stands counts memory) pieces
    → map (waiting_piece counts memory) (parts_of pieces) ≡ pieces
read-pieces counts memory [] stand = refl
read-pieces counts memory (one ∷ later) stand =
    let P = Stands counts memory in
    let first : waiting_piece counts memory (part_of one) ≡ one =
    ap (λ (list : List ℕ). let piece : HandedOut = record { number = one.number; bytes = list } in piece)
    (all-head P one later stand).bytes in
    let rest = read-pieces counts memory later (all-tail P one later stand) in
    rw (first, rest) refl

pub read-long : (counts : Counts) (memory : List ℕ) (pieces : List HandedOut) → All (Stands counts memory) pieces
    → All (IsLong counts memory) (parts_of pieces)
read-long counts memory pieces stand =
    All-map (IsLong counts memory) part_of pieces (λ k one below. ap length (stand k one below).bytes)

pub read-stands : (counts : Counts) (memory : List ℕ) (received : Received) → All (IsLong counts memory) received.parts
    → IsWholeFrame received → All (Stands counts memory) (waiting_pieces counts memory received)
read-stands counts memory received long whole =
    let fits = all-unmapped (λ (n : ℕ). n ≤ receive_buffer_bytes) (λ (part : Part). part.length) received.parts whole.fits in
    All-map (Stands counts memory) (waiting_piece counts memory) received.parts (λ k part below.
    let p = slice_index_or received.parts k part in
    record {
      bytes = ap (λ (n : ℕ). bytes_at memory (buffer_at counts p.buffer) n) (long k part below);
      short = omega (arith, long k part below, fits k part below);
    })

pub parts-waiting : (counts : Counts) (memory : List ℕ) (parts : List Part) → All (IsLong counts memory) parts
    → parts_of (map (waiting_piece counts memory) parts) ≡ parts
parts-waiting counts memory [] long = refl
parts-waiting counts memory (part ∷ later) long =
    let first : part_of (waiting_piece counts memory part) ≡ part =
    ap (λ (n : ℕ). let p : Part = record { buffer = part.buffer; length = n } in p) (all-head (IsLong counts memory) part later long) in
    let rest = parts-waiting counts memory later (all-tail (IsLong counts memory) part later long) in
    rw (first, rest) refl
