-- A run of slots that contains a frame is taken. After that, others hold its pieces.
use Rattle.std.proofs.Common.{⊎_elim, ◌≡◌, ◌≤◌, ◌<◌, ◌*◌, ◌⊎◌, ◌++◌, ◌∷◌, [], ◌∙◌}
use Rattle.std.proofs.Common.{Bool, ℕ, suc, List, length, map, take, drop, refl, sym, ap, subst}
use Rattle.std.proofs.Common.{length-append, arith, slice_index, sum}
use Rattle.std.specs.List.{All, concat}
use Rattle.std.proofs.Math.Seq.{drop-append_seam, take-append_seam}
use Rattle.std.proofs.lemmas.List.{append-nil, get_or_append_left, map-append}
use Rattle.std.proofs.lemmas.List.Sums.{sum_by-cons}
use Rattle.dma_memory.specs.Layout.{receive_buffer_bytes}
use Rattle.rx_filter.specs.Addresses.{ether_type}
use Rattle.rx_engine.specs.Pieces.{Piece, frames_from, parts}
use Rattle.rx_engine.specs.Pieces.Piece.{Last, Part}
use Rattle.adapter.specs.Pasts.{nothing}
use Rattle.adapter.specs.bus_types.bus.Bus.{Ghosts}
use Rattle.adapter.proofs.Lists.{all-head, all-left}
use Rattle.adapter.proofs.DriverAccesses.{ran_by-same}
use Rattle.adapter.proofs.ReceiveAccesses.{ran_by-takes}
use Rattle.adapter.specs.Calls.{Ran, at, call_did}
use Rattle.adapter.specs.DriverState.{DriverState, HandedOut, frame_of, piece_numbers}
use Rattle.adapter.specs.ReadyDrivers.{ReadyWith}
use Rattle.adapter.specs.ReceiveSteps.{AreOfFrame, after_slots}
use Rattle.descriptors.specs.Frames.{longest_frame}
use Rattle.driver.specs.HandlerSteps.{AreOfOneFrame, HasEtherType, IsSublist, LeavesRing, part_none, part_with, part_without}
use Rattle.driver.specs.Looks.{FindsFrame}
use Rattle.driver.specs.Parts.{buffers_in, buffers_of, lengths_in, parts_of, pieces_of, received_of}
use Rattle.driver.specs.declared.look.Run.{Run}
use Rattle.driver.specs.declared.parts.Part as parts
use Rattle.driver.specs.declared.receiver.Received.{Received}

-- Pieces that others hold, as parts

pub buffers-pieces : (pieces : List HandedOut) → buffers_in (parts_of pieces) ≡ piece_numbers pieces
buffers-pieces [] = refl
buffers-pieces (one ∷ later) = ap (λ (list : List ℕ). one.number ∷ list) (buffers-pieces later)

-- the bytes of each piece
abbrev bytes_of : List HandedOut → List (List ℕ)
bytes_of pieces = map (λ (one : HandedOut). one.bytes) pieces

-- the parts with these buffers and these sizes, in order
abbrev zipped : List ℕ → List ℕ → List parts.Part
zipped [] sizes = []
zipped (number ∷ numbers) [] = []
zipped (number ∷ numbers) (size ∷ sizes) = record { buffer = number; length = size } ∷ zipped numbers sizes

zipped-parts : (list : List parts.Part) → zipped (buffers_in list) (lengths_in list) ≡ list
zipped-parts [] = refl
zipped-parts (part ∷ later) = ap (λ (rest : List parts.Part). part ∷ rest) (zipped-parts later)

zipped-pieces : (pieces : List HandedOut) → zipped (piece_numbers pieces) (map length (bytes_of pieces)) ≡ parts_of pieces
zipped-pieces [] = refl
zipped-pieces (one ∷ later) =
    ap (λ (rest : List parts.Part). record { buffer = one.number; length = length one.bytes } ∷ rest) (zipped-pieces later)

parts-same : (pieces : List HandedOut) (list : List parts.Part) → piece_numbers pieces ≡ buffers_in list
    → map length (bytes_of pieces) ≡ lengths_in list → parts_of pieces ≡ list
parts-same pieces list numbers sizes =
    sym (zipped-pieces pieces) ∙ ap (λ (xs : List ℕ). zipped xs (map length (bytes_of pieces))) numbers
    ∙ ap (zipped (buffers_in list)) sizes ∙ zipped-parts list

pub length-frame : (pieces : List HandedOut) → length (frame_of pieces) ≡ sum (lengths_in (parts_of pieces))
length-frame [] = refl
length-frame (one ∷ later) = omega (
  arith,
  length-append one.bytes (frame_of later),
  length-frame later,
  sum_by-cons (λ (n : ℕ). n) (length one.bytes) (lengths_in (parts_of later)),
)

type-first : (first rest : List ℕ) → 14 ≤ length first → ether_type first ≡ ether_type (first ++ rest)
type-first first rest long =
    let at : (i : ℕ) → i < 14 → slice_index first i ≡ slice_index (first ++ rest) i = λ i below.
    sym (get_or_append_left first rest 0 i (omega (arith, long, below))) in
    omega (arith, at 12 (omega arith), at 13 (omega arith))

pub received-same : (first : HandedOut) (later : List HandedOut) (list : List parts.Part) (size type : ℕ) → parts_of (first ∷ later) ≡ list
    → size ≡ sum (lengths_in list) → type ≡ ether_type first.bytes → 14 ≤ length first.bytes
    → received_of (first ∷ later) ≡ record { parts = list; len = size; ether_type = type }
received-same first later list size type same is read long =
    let pieces = first ∷ later in
    let shape : List parts.Part → ℕ → ℕ → Received = λ ps n t. record { parts = ps; len = n; ether_type = t } in
    let long_is : length (frame_of pieces) ≡ size = length-frame pieces ∙ ap (λ (ps : List parts.Part). sum (lengths_in ps)) same ∙ sym
    is in
    ap (λ (ps : List parts.Part). shape ps (length (frame_of pieces)) (ether_type (frame_of pieces))) same
    ∙ ap (λ (n : ℕ). shape list n (ether_type (frame_of pieces))) long_is
    ∙ ap (shape list size) (sym (read ∙ type-first first.bytes (frame_of later) long))

first-type : (pieces : List HandedOut) (seen : List (List ℕ)) (last : List ℕ) → bytes_of pieces ≡ seen ++ last ∷ [] → AreOfFrame seen last
    → HasEtherType pieces
first-type [] seen last is frame = absurd (omega (arith, ap length is, length-append seen (last ∷ [])))
first-type (one ∷ later) [] last is frame =
    let same : one.bytes ≡ last = cc in
    omega (arith, ap length same, frame.legal.least)
first-type (one ∷ later) (bytes ∷ seen) last is frame =
    let same : one.bytes ≡ bytes = cc in
    omega (arith, ap length same, all-head (λ (xs : List ℕ). length xs ≡ receive_buffer_bytes) bytes seen frame.full)

-- Pieces in which no frame ends

pub only-parts : (begun : List ℕ) (pieces : List Piece) → frames_from begun pieces ≡ [] → (seen : List (List ℕ)) × (pieces ≡ parts seen)
only-parts begun [] none = ([], refl)
only-parts begun (Part bytes ∷ later) none =
    let rest = only-parts (begun ++ bytes) later none in
    (bytes ∷ rest.0, ap (λ (list : List Piece). Part bytes ∷ list) rest.1)
only-parts begun (Last bytes ∷ later) none = absurd (omega (arith, ap length none))

-- The run leaves the ring

one-frame : (seen : ℕ) (numbers : List ℕ) → length numbers ≡ suc seen → receive_buffer_bytes * seen ≤ longest_frame → AreOfOneFrame numbers
one-frame seen numbers many few = record { least = omega (arith, many); most = omega (arith, many, few) }

pub record TakesRun {B : Type 0} (bus : Ghosts B) (up : Bool) (run : Run) (list : List parts.Part) (others : List ℕ) (b : B)
    (d : DriverState)
    : Type 0 where
  pub pieces : List HandedOut
  pub same : parts_of pieces ≡ list
  pub type_is : HasEtherType pieces
  pub group : AreOfOneFrame (piece_numbers pieces)
  pub ran : Ran bus up (call_did [] (frame_of pieces ∷ []) []) (at b d) (at b (after_slots d run.count others (d.handed_out ++ pieces)))

pub takes-run : {up : Bool} {B : Type 0} (bus : Ghosts B) → ((b : B) → bus.happened b b nothing)
    → (b c : B) (d1 d2 d : DriverState) (run : Run) (list : List parts.Part) → length (buffers_in list) ≡ run.count
    → LeavesRing run list d1 d2 → d.buffers ≡ d1.buffers
    → FindsFrame bus run up (at b d) (at c d) → ReadyWith up d (bus.world c) → TakesRun bus up run list d2.buffers c d
takes-run {up} bus stays b c d1 d2 d run list many leaves same finds ready =
    let seen = finds.seen in
    let last = finds.last in
    let k = suc (length seen) in
    let taken = ran_by-takes bus stays c d seen last finds.later ready finds.pieces in
    let pieces = taken.pieces in
    let numbers = buffers_in list in
    let count : run.count ≡ k = omega (arith, finds.is_run.count) in
    let size : k ≡ length numbers = omega (arith, many, count) in
    let split : d.buffers ≡ numbers ++ d2.buffers = same ∙ leaves.first in
    let front : take k d.buffers ≡ numbers =
    ap (take k) split ∙ ap (λ (i : ℕ). take i (numbers ++ d2.buffers)) size ∙ take-append_seam numbers d2.buffers in
    let back : drop k d.buffers ≡ d2.buffers =
    ap (drop k) split ∙ ap (λ (i : ℕ). drop i (numbers ++ d2.buffers)) size ∙ drop-append_seam numbers d2.buffers in
    let held = d.handed_out ++ pieces in
    let sizes : map length (bytes_of pieces) ≡ lengths_in list =
    ap (map length) taken.bytes ∙ sym finds.is_run.lengths ∙ sym leaves.lengths in
    record {
      pieces = pieces;
      same = parts-same pieces list (taken.numbers ∙ front) sizes;
      type_is = first-type pieces seen last taken.bytes taken.is;
      group = one-frame (length seen) (piece_numbers pieces) (ap length taken.numbers ∙ taken.size) taken.few;
      ran =
          ran_by-same bus [] [] c c d _ _ _ _ [] refl
          (ap (λ (rest : List ℕ). after_slots d k rest held) back
          ∙ ap (λ (n : ℕ). after_slots d n d2.buffers held) (sym count))
          (ap (λ (bytes : List ℕ). bytes ∷ []) (sym taken.frame)) taken.ran;
    }

-- Others hold the pieces of the frames that the receiver kept

pub record IsKept (P : HandedOut → Type 0) (held pieces : List HandedOut) (kept : List Received) : Type 0 where
  pub entries : List (List HandedOut)
  pub same : map received_of entries ≡ kept
  pub part : IsSublist entries (pieces ∷ [])
  pub numbers : piece_numbers (pieces_of entries) ≡ buffers_of kept
  pub stand : All P (held ++ pieces_of entries)

pub is-kept : (P : HandedOut → Type 0) (held pieces : List HandedOut) (received : Received) (kept : List Received)
    → received_of pieces ≡ received → (kept ≡ []) ⊎ (kept ≡ received ∷ []) → All P (held ++ pieces) → IsKept P held pieces kept
is-kept P held pieces received kept is whether stand =
    ⊎_elim
    (λ (none : kept ≡ []). subst (IsKept P held pieces) (sym none)
    (record {
      entries = [];
      same = refl;
      part = part_without part_none;
      numbers = refl;
      stand = subst (All P) (sym (append-nil held)) (all-left P held pieces stand);
    }))
    (λ (some : kept ≡ received ∷ []).
    subst (IsKept P held pieces) (ap (λ (r : Received). r ∷ []) is ∙ sym some)
    (record {
      entries = pieces ∷ [];
      same = refl;
      part = part_with part_none;
      numbers = ap piece_numbers (append-nil pieces) ∙ sym (buffers-pieces pieces) ∙ sym (append-nil (buffers_in (parts_of pieces)));
      stand = subst (λ (list : List HandedOut). All P (held ++ list)) (sym (append-nil pieces)) stand;
    }))
    whether

pub concat-numbers : (taken : List (List HandedOut)) → concat (map piece_numbers taken) ≡ piece_numbers (pieces_of taken)
concat-numbers [] = refl
concat-numbers (pieces ∷ later) =
    ap (λ (rest : List ℕ). piece_numbers pieces ++ rest) (concat-numbers later)
    ∙ sym (map-append (λ (one : HandedOut). one.number) pieces (pieces_of later))
