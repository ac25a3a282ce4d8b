-- A frame is read piece by piece.
use Rattle.std.proofs.Common.{◌≡◌, ◌≤◌, ◌<◌, ◌+◌, ◌-◌, ◌++◌, ◌∷◌, [], ◌∙◌}
use Rattle.std.proofs.Common.{Bool, ℕ, List, length, map, take, drop, get_or, sym, ap, subst}
use Rattle.std.proofs.Common.{append_assoc, length-append, length-drop, arith, sum}
use Rattle.std.specs.List.{All}
use Rattle.std.proofs.lemmas.List.{append-nil, drop-drop, drop_more, get_or-map, length-map, length-take-le, map-append, take-append-drop}
use Rattle.std.proofs.lemmas.List.{take_all, take_more}
use Rattle.std.proofs.lemmas.List.Sums.{sum_by-append, sum_by_push}
use Rattle.dma_memory.specs.HostMemory.{bytes_at}
use Rattle.dma_memory.specs.Layout.{Counts}
use Rattle.adapter.proofs.Lists.{all-head, all-right}
use Rattle.adapter.specs.Keeping.{view_of}
use Rattle.adapter.specs.Law.{Acts}
use Rattle.adapter.specs.Pasts.{Past, joined}
use Rattle.adapter.specs.bus_types.bus.Bus.{Ghosts}
use Rattle.adapter.specs.bus_types.event.Access.{Access}
use Rattle.adapter.specs.bus_types.event.Access.TheVariants.{Loads}
use Rattle.adapter.proofs.Calls.{ran-on}
use Rattle.adapter.proofs.ReceiveAccesses.{frame-read, ran_by-reads}
use Rattle.adapter.specs.Calls.{Ran, at, only}
use Rattle.adapter.specs.DriverState.{DriverState, HandedOut, buffer_at, frame_of}
use Rattle.adapter.specs.ReadyDrivers.{ReadyWith}
use Rattle.driver.specs.Parts.{IsWholeFrame, lengths_in, part_loads, part_of, parts_of}
use Rattle.driver.specs.declared.parts.Part.{Part}
use Rattle.driver.specs.declared.receiver.Received.{Received}

-- The next piece of a frame

pub record IsNext (parts : List Part) (i : ℕ) (part : Part) : Type 0 where
  pub split : parts ≡ take i parts ++ part ∷ drop (i + 1) parts
  pub more : take (i + 1) parts ≡ take i parts ++ part ∷ []

pub is-next : (parts : List Part) (i : ℕ) (part : Part) → i < length parts → part ≡ get_or parts i part → IsNext parts i part
is-next parts i part below is = record {
  split = sym (take-append-drop i parts)
      ∙ ap (λ (list : List Part). take i parts ++ list) (drop_more parts i part below)
      ∙ ap (λ (one : Part). take i parts ++ one ∷ drop (i + 1) parts) (sym is);
  more = take_more parts i part below ∙ ap (λ (one : Part). take i parts ++ one ∷ []) (sym is);
}

pub all-values : (P : ℕ → Type 0) (value : Part → ℕ) (parts : List Part) (i : ℕ) (part : Part) → IsNext parts i part
    → All P (map value parts) → P (value part)
all-values P value parts i part next all =
    let later = drop (i + 1) parts in
    let values = ap (map value) next.split ∙ map-append value (take i parts) (part ∷ later) in
    all-head P (value part) (map value later)
    (all-right P (map value (take i parts)) (value part ∷ map value later) (subst (All P) values all))

-- the number of bytes in the first i pieces
abbrev pub bytes_before : List Part → ℕ → ℕ
bytes_before parts i = sum (lengths_in (take i parts))

pub bytes-next : (parts : List Part) (i : ℕ) (part : Part) → IsNext parts i part
    → bytes_before parts (i + 1) ≡ bytes_before parts i + part.length
bytes-next parts i part next =
    let size : Part → ℕ = λ one. one.length in
    ap (λ (list : List Part). sum (lengths_in list)) next.more
    ∙ ap sum (map-append size (take i parts) (part ∷ []))
    ∙ sum_by_push (λ (n : ℕ). n) (lengths_in (take i parts)) part.length

pub bytes-most : (parts : List Part) (i : ℕ) → bytes_before parts i ≤ sum (lengths_in parts)
bytes-most parts i =
    let size : Part → ℕ = λ one. one.length in
    let halves : sum (lengths_in parts) ≡ sum (lengths_in (take i parts)) + sum (lengths_in (drop i parts)) =
    ap (λ (list : List Part). sum (lengths_in list)) (sym (take-append-drop i parts))
    ∙ ap sum (map-append size (take i parts) (drop i parts))
    ∙ sum_by-append (λ (n : ℕ). n) (lengths_in (take i parts)) (lengths_in (drop i parts)) in
    omega (arith, halves)

pub loads-next : (counts : Counts) (parts : List Part) (i : ℕ) (part : Part) → IsNext parts i part
    → part_loads counts (take i parts) ++ Loads (buffer_at counts part.buffer) part.length ∷ [] ≡ part_loads counts (take (i + 1) parts)
loads-next counts parts i part next =
    sym (ap (part_loads counts) next.more
    ∙ map-append (λ (one : Part). Loads (buffer_at counts one.buffer) one.length) (take i parts) (part ∷ []))

-- The next piece is one that others hold

pub record IsHeldNext (pieces : List HandedOut) (i : ℕ) (part : Part) : Type 0 where
  pub one : HandedOut
  pub split : pieces ≡ take i pieces ++ one ∷ drop (i + 1) pieces
  pub number : one.number ≡ part.buffer
  pub size : length one.bytes ≡ part.length
  pub frame : frame_of (take (i + 1) pieces) ≡ frame_of (take i pieces) ++ one.bytes

frame-push : (pieces : List HandedOut) (one : HandedOut) → frame_of (pieces ++ one ∷ []) ≡ frame_of pieces ++ one.bytes
frame-push [] one = append-nil one.bytes
frame-push (first ∷ pieces) one = ap (λ (rest : List ℕ). first.bytes ++ rest) (frame-push pieces one)
    ∙ sym (append_assoc first.bytes (frame_of pieces) one.bytes)

pub held-next : (pieces : List HandedOut) (parts : List Part) (i : ℕ) (part : Part) → parts_of pieces ≡ parts → i < length parts
    → part ≡ get_or parts i part → IsHeldNext pieces i part
held-next pieces parts i part are below is =
    let none : HandedOut = record { number = 0; bytes = [] } in
    let one = get_or pieces i none in
    let inside : i < length pieces = omega (arith, below, ap length are, length-map pieces part_of) in
    let same : part ≡ part_of one = is ∙ ap (λ (list : List Part). get_or list i part) (sym are)
    ∙ get_or-map part_of pieces i none part inside in
    record {
      one = one;
      split = sym (take-append-drop i pieces) ∙ ap (λ (list : List HandedOut). take i pieces ++ list) (drop_more pieces i none inside);
      number = ap (λ (p : Part). p.buffer) (sym same);
      size = ap (λ (p : Part). p.length) (sym same);
      frame = ap frame_of (take_more pieces i none inside) ∙ frame-push (take i pieces) one;
    }

pub held-among : (first pieces later : List HandedOut) (i : ℕ) (part : Part) → (next : IsHeldNext pieces i part)
    → first ++ (pieces ++ later) ≡ (first ++ take i pieces) ++ next.one ∷ (drop (i + 1) pieces ++ later)
held-among first pieces later i part next =
    ap (λ (list : List HandedOut). first ++ (list ++ later)) next.split
    ∙ ap (λ (list : List HandedOut). first ++ list) (append_assoc (take i pieces) (next.one ∷ drop (i + 1) pieces) later)
    ∙ sym (append_assoc first (take i pieces) (next.one ∷ (drop (i + 1) pieces ++ later)))

-- The place of the next piece in the bytes of the frame

pub read-fits : (received : Received) (i read n : ℕ) (part : Part) → IsWholeFrame received → IsNext received.parts i part
    → read ≡ bytes_before received.parts i → n ≡ part.length → read + n ≤ 1518
read-fits received i read n part whole next before size =
    omega (
      arith,
      before,
      size,
      bytes-next received.parts i part next,
      bytes-most received.parts (i + 1),
      whole.sum,
      whole.size.most,
    )

pub part-long : (into : List ℕ) (read n : ℕ) → read + n ≤ length into → length (take (read + n - read) (drop read into)) ≡ n
part-long into read n fits =
    length-take-le (read + n - read) (drop read into) (omega (arith, length-drop read into, fits)) ∙ omega arith

pub copied-long : (into loaded : List ℕ) (read k : ℕ) → read + k ≤ length into → length loaded ≡ k
    → length (take read into ++ (loaded ++ drop k (drop read into))) ≡ length into
copied-long into loaded read k fits size =
    omega (
      arith,
      fits,
      size,
      length-append (take read into) (loaded ++ drop k (drop read into)),
      length-append loaded (drop k (drop read into)),
      length-take-le read into (omega (arith, fits)),
      length-drop read into,
      length-drop k (drop read into),
    )

pub rest-next : (into into' first : List ℕ) (read n : ℕ) → drop (read + n) into' ≡ drop (read + n) into → drop read into ≡ drop read first
    → drop (read + n) into' ≡ drop (read + n) first
rest-next into into' first read n kept before =
    kept ∙ sym (drop-drop n read into) ∙ ap (drop n) before ∙ drop-drop n read first

-- One more load over a bus

pub reads-next : {up : Bool} {B : Type 0} (bus : Ghosts B)
    → ((a b c : B) (first later : Past) → bus.happened a b first → bus.happened b c later → bus.happened a c (joined first later))
    → (d : DriverState) (parts : List Part) (i address n : ℕ) (part : Part) (bytes : List ℕ) (a b c : B) → IsNext parts i part
    → address ≡ buffer_at d.layout part.buffer → n ≡ part.length
    → Acts (view_of bus) b c (Loads address n)
    (λ before after. (bytes ≡ bytes_at before.memory address n) × (after ≡ before))
    → Ran bus up (only (part_loads d.layout (take i parts))) (at a d) (at b d)
    → Ran bus up (only (part_loads d.layout (take (i + 1) parts))) (at a d) (at c d)
reads-next {up} bus joins d parts i address n part bytes a b c next place size acts ran =
    let access : Loads address n ≡ Loads (buffer_at d.layout part.buffer) part.length =
    ap (λ (start : ℕ). Loads start n) place ∙ ap (Loads (buffer_at d.layout part.buffer)) size in
    let one = ran_by-reads bus b c d address n bytes acts ran.goes.flows.ready in
    let last = subst (λ (load : Access). Ran bus up (only (load ∷ [])) (at b d) (at c d)) access one in
    subst (λ (list : List Access). Ran bus up (only list) (at a d) (at c d)) (loads-next d.layout parts i part next)
    (ran-on bus joins ran last)

pub frame-next : {up : Bool} {B : Type 0} (bus : Ghosts B) (d : DriverState) (first pieces later : List HandedOut) (parts : List Part)
    (i address n : ℕ) (part : Part) (bytes front : List ℕ) (b c : B) → d.handed_out ≡ first ++ (pieces ++ later) → parts_of pieces ≡ parts
    → i < length parts → part ≡ get_or parts i part → address ≡ buffer_at d.layout part.buffer → n ≡ part.length
    → Acts (view_of bus) b c (Loads address n)
    (λ before after. (bytes ≡ bytes_at before.memory address n) × (after ≡ before))
    → ReadyWith up d (bus.world b) → front ≡ frame_of (take i pieces) → front ++ bytes ≡ frame_of (take (i + 1) pieces)
frame-next bus d first pieces later parts i address n part bytes front b c holds are below is place size acts ready before =
    let next = held-next pieces parts i part are below is in
    let one = next.one in
    let start : address ≡ buffer_at d.layout one.number + 0 = omega (arith, place, ap (buffer_at d.layout) next.number) in
    let long : n ≡ length one.bytes = size ∙ sym next.size in
    let loaded : bytes ≡ take n (drop 0 one.bytes) =
    frame-read bus b c d (first ++ take i pieces) (drop (i + 1) pieces ++ later) one address 0 n bytes acts ready
    (holds ∙ held-among first pieces later i part next) start (omega (arith, long)) in
    ap (λ (xs : List ℕ). xs ++ bytes) before
    ∙ ap (λ (xs : List ℕ). frame_of (take i pieces) ++ xs) (loaded ∙ take_all n one.bytes (omega (arith, long)))
    ∙ sym next.frame
