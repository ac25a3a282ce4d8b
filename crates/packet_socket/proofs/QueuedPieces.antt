-- The pieces of queued frames.
use Rattle.std.proofs.Common.{◌≡◌, ◌≤◌, ◌<◌, ◌+◌, ◌++◌, ◌∷◌, [], ◌∙◌}
use Rattle.std.proofs.Common.{ℕ, List, length, map, refl, sym, ap, length-append, arith}
use Rattle.std.specs.List.{All, flat_map, sum, sum_by}
use Rattle.std.proofs.lemmas.List.Sums.{sum_by-cons}
use Rattle.std.proofs.lemmas.Grind.{flat_map-append}
use Rattle.std.proofs.lemmas.List.{length-map, map-append}
use Rattle.std.proofs.lemmas.List.Elements.{All-append, All-cons}
use Rattle.std.proofs.lemmas.Simd.{map-map}
use Rattle.dma_memory.specs.Layout.{Counts}
use Rattle.dma_memory.specs.Owners.{copies}
use Rattle.dma_memory.specs.OwnersLaws.{copies-append}
use Rattle.adapter.proofs.Lists.{all-head, all-left, all-none, all-right, all-tail}
use Rattle.adapter.specs.DriverState.{HandedOut, piece_numbers}
use Rattle.driver.specs.Parts.{AreFrames, IsWholeFrame, buffers_in, buffers_of, lengths_in, part_of, parts_of, pieces_of, received_of}
use Rattle.driver.specs.declared.parts.Part.{Part}
use Rattle.driver.specs.declared.receiver.Received.{Received}
use Rattle.packet_socket.specs.HostCalls.{waiting_piece, waiting_pieces}

pub all-pieces : {X Y : Type 0} (P : Y → Type 0) (f : X → List Y) (xs : List X) → All P (flat_map f xs) → All (λ x. All P (f x)) xs
all-pieces P f [] all = all-none (λ x. All P (f x))
all-pieces P f (x ∷ xs) all =
    All-cons (λ y. All P (f y)) x xs (all-left P (f x) (flat_map f xs) all) (all-pieces P f xs (all-right P (f x) (flat_map f xs) all))

pub all-joined : {X Y : Type 0} (P : Y → Type 0) (f : X → List Y) (xs : List X) → All (λ x. All P (f x)) xs → All P (flat_map f xs)
all-joined P f [] all = all-none P
all-joined P f (x ∷ xs) all =
    All-append P (f x) (flat_map f xs) (all-head (λ y. All P (f y)) x xs all) (all-joined P f xs (all-tail (λ y. All P (f y)) x xs all))

pub joined-same : {X Y : Type 0} (f g : X → List Y) (xs : List X) → All (λ x. f x ≡ g x) xs → flat_map f xs ≡ flat_map g xs
joined-same f g [] same = refl
joined-same f g (x ∷ xs) same =
    let first : f x ≡ g x = all-head (λ y. f y ≡ g y) x xs same in
    let rest : flat_map f xs ≡ flat_map g xs = joined-same f g xs (all-tail (λ y. f y ≡ g y) x xs same) in
    rw (first, rest) refl

-- The buffers of queued frames

pub buffers-append : (k : ℕ) (xs ys : List Received)
    → copies k (buffers_of (xs ++ ys)) ≡ copies k (buffers_of xs) + copies k (buffers_of ys)
buffers-append k xs ys =
    ap (copies k) (flat_map-append (λ (received : Received). buffers_in received.parts) xs ys)
    ∙ copies-append k (buffers_of xs) (buffers_of ys)

pub buffers-first : (k : ℕ) (received : Received) (later : List Received)
    → copies k (buffers_of (received ∷ later)) ≡ copies k (buffers_in received.parts) + copies k (buffers_of later)
buffers-first k received later = copies-append k (buffers_in received.parts) (buffers_of later)

pub copies-joined : (k : ℕ) (list : List Received)
    → copies k (buffers_of list) ≡ sum_by (λ (received : Received). copies k (buffers_in received.parts)) list
copies-joined k [] = refl
copies-joined k (received ∷ later) =
    omega (
      arith,
      buffers-first k received later,
      copies-joined k later,
      sum_by-cons (λ (r : Received). copies k (buffers_in r.parts)) received later,
    )

pub waiting-numbers : (counts : Counts) (memory : List ℕ) (list : List Received)
    → piece_numbers (flat_map (waiting_pieces counts memory) list) ≡ buffers_of list
waiting-numbers counts memory [] = refl
waiting-numbers counts memory (received ∷ later) =
    let number : HandedOut → ℕ = λ one. one.number in
    map-append number (waiting_pieces counts memory received) (flat_map (waiting_pieces counts memory) later)
    ∙ ap (λ (numbers : List ℕ). numbers ++ piece_numbers (flat_map (waiting_pieces counts memory) later))
    (map-map number (waiting_piece counts memory) received.parts)
    ∙ ap (λ (numbers : List ℕ). buffers_in received.parts ++ numbers) (waiting-numbers counts memory later)

pub received-numbers : (list : List (List HandedOut)) → buffers_of (map received_of list) ≡ piece_numbers (pieces_of list)
received-numbers [] = refl
received-numbers (pieces ∷ later) =
    let number : HandedOut → ℕ = λ one. one.number in
    let buffer : Part → ℕ = λ part. part.buffer in
    ap (λ (numbers : List ℕ). buffers_in (parts_of pieces) ++ numbers) (received-numbers later)
    ∙ ap (λ (numbers : List ℕ). numbers ++ piece_numbers (pieces_of later)) (map-map buffer part_of pieces)
    ∙ sym (map-append number pieces (pieces_of later))

-- A whole frame has at least one piece, so the number of entries is at most the number of their buffers.
has-pieces : (received : Received) → IsWholeFrame received → 0 < length received.parts
has-pieces received whole = some received.parts received.len whole.size.least whole.sum
  where
    some : (parts : List Part) (n : ℕ) → 60 ≤ n → n ≡ sum (lengths_in parts) → 0 < length parts
    some [] n least none = let no_bytes : n ≡ 0 = none in absurd (omega (arith, least, no_bytes))
    some (part ∷ later) n least is = omega arith

pub entries-fit : (list : List Received) → AreFrames list → length list ≤ length (buffers_of list)
entries-fit [] frames = omega arith
entries-fit (received ∷ later) frames =
    omega (
      arith,
      has-pieces received (all-head IsWholeFrame received later frames),
      entries-fit later (all-tail IsWholeFrame received later frames),
      length-append (buffers_in received.parts) (buffers_of later),
      length-map received.parts (λ (part : Part). part.buffer),
    )
