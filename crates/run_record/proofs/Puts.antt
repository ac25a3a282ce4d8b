-- Frames that are added to the recorded frames, and how `write_trace` writes the frames of one trace.
use Rattle.std.proofs.Common.{◌≡◌, ◌<◌, ◌≤◌, ◌++◌, ◌∷◌, [], ℕ, Bool, true, false, List, Option, Some, length, drop, take}
use Rattle.std.proofs.Common.{if◌then◌else◌, option_map, slice_get, sum_by, suc, unwrap_or, zero}
use Rattle.std.proofs.Common.{refl, sym, ap, subst, ◌∙◌, append_assoc, append-nil, arith, length-append, length-take}
use Rattle.std.specs.Borrow.{Bor}
use Rattle.std.specs.Io.KnownBytes.{Appends, append_known}
use Rattle.std.specs.List.{AllByRecursion, flat_map}
use Rattle.std.proofs.lemmas.List.{drop-append-le, length-drop, length-map, nil_from_length, take-append-le, take_at}
use Rattle.std.proofs.lemmas.List.Sums.{sum_by-append, sum_by-cons}
use Rattle.std.proofs.lemmas.Option.{slice_get-map}
use Rattle.pcap_trace.specs.Devices.{AppendsFront, Grows}
use Rattle.pcap_trace.specs.Format.{Timed, file_header, packet_of, written}
use Rattle.pcap_trace.specs.declared.unit.Unit.{Unit}
use Rattle.pcap_trace.proofs.Flushed.{GoesOut, goes-ends, goes-header, goes-more, goes-stops}
use Rattle.pcap_trace.proofs.Packets.{written-append, written-push}
use Rattle.scenario.specs.SoFar.{hosts_of}
use Rattle.run_record.specs.Kept.{KeptFrame, frames_where, is_of_socket, numbered_frame}
use Rattle.run_record.specs.KeptView.{HasKeptSize, frame_with, kept_frames_from, length_in}
use Rattle.run_record.specs.Puts.{frames_on_wire, is_on_wire, names_in}
use Rattle.run_record.specs.Traces.{is_in_trace, texts_in}
use Rattle.run_record.specs.declared.kept.FrameInfo.{FrameInfo}
use Rattle.run_record.specs.declared.kept.Traces.{Traces}
use Rattle.run_record.specs.declared.kept.Traces.TheVariants as traces

-- One more frame.

frames-more : (infos : List FrameInfo) (bytes : List ℕ) (info : FrameInfo) (frame : List ℕ) → sum_by length_in infos ≡ length bytes
    → info.length ≡ length frame
    → kept_frames_from (infos ++ info ∷ []) (bytes ++ frame) ≡ kept_frames_from infos bytes ++ frame_with info frame ∷ []
frames-more [] bytes info frame all is =
    let none : bytes ≡ [] = nil_from_length bytes (sym all) in
    let whole : take info.length frame ≡ frame = ap (λ (n : ℕ). take n frame) is ∙ ap (take (length frame)) (sym (append-nil frame))
    ∙ take_at frame [] (length frame) refl in
    ap (λ (xs : List ℕ). frame_with info (take info.length (xs ++ frame)) ∷ []) none
    ∙ ap (λ (xs : List ℕ). frame_with info xs ∷ []) whole
frames-more (first ∷ infos) bytes info frame all is =
    let parts = sum_by-cons length_in first infos in
    let fits : first.length ≤ length bytes = omega (arith, parts, all) in
    let rest : sum_by length_in infos ≡ length (drop first.length bytes) = omega (arith, parts, all, length-drop first.length bytes) in
    ap (λ (xs : List ℕ). frame_with first xs ∷ kept_frames_from (infos ++ info ∷ []) (drop first.length (bytes ++ frame)))
    (take-append-le first.length bytes frame fits)
    ∙ ap (λ (xs : List ℕ). frame_with first (take first.length bytes) ∷ kept_frames_from (infos ++ info ∷ []) xs)
    (drop-append-le first.length bytes frame fits)
    ∙ ap (λ (all : List KeptFrame). frame_with first (take first.length bytes) ∷ all)
    (frames-more infos (drop first.length bytes) info frame rest is)

pub put_more : (puts : List KeptFrame) (info : FrameInfo) (frame : List ℕ) (infos more : List FrameInfo) (bytes longer : List ℕ)
    → puts ≡ kept_frames_from infos bytes → sum_by length_in infos ≡ length bytes → info.length ≡ length frame → more ≡ infos ++ info ∷ []
    → longer ≡ bytes ++ frame → kept_frames_from more longer ≡ puts ++ frame_with info frame ∷ []
put_more puts info frame infos more bytes longer is all size more_is longer_is =
    ap (λ (xs : List FrameInfo). kept_frames_from xs longer) more_is
    ∙ ap (kept_frames_from (infos ++ info ∷ [])) longer_is
    ∙ frames-more infos bytes info frame all size
    ∙ ap (λ (all : List KeptFrame). all ++ frame_with info frame ∷ []) (sym is)

-- The stored frames still have their lengths (`HasKeptBytes`).

pub kept-same : (infos more : List FrameInfo) (bytes longer : List ℕ) → sum_by length_in infos ≡ length bytes
    → AllByRecursion HasKeptSize infos → more ≡ infos → longer ≡ bytes
    → (sum_by length_in more ≡ length longer) × AllByRecursion HasKeptSize more
kept-same infos more bytes longer size short more_is longer_is = (
  ap (sum_by length_in) more_is ∙ size ∙ sym (ap length longer_is),
  subst (AllByRecursion HasKeptSize) (sym more_is) short,
)

short-more : (infos : List FrameInfo) (info : FrameInfo) → AllByRecursion HasKeptSize infos → HasKeptSize info
    → AllByRecursion HasKeptSize (infos ++ info ∷ [])
short-more [] info short fits = (fits, tt)
short-more (first ∷ infos) info short fits = (short.0, short-more infos info short.1 fits)

pub kept-more : (infos more : List FrameInfo) (info : FrameInfo) (bytes longer frame : List ℕ) → sum_by length_in infos ≡ length bytes
    → AllByRecursion HasKeptSize infos → info.length ≡ length frame → length frame ≤ 1518 → more ≡ infos ++ info ∷ []
    → longer ≡ bytes ++ frame → (sum_by length_in more ≡ length longer) × AllByRecursion HasKeptSize more
kept-more infos more info bytes longer frame size short is fits more_is longer_is =
    let all = sum_by-append length_in infos (info ∷ []) in
    let one = sum_by-cons length_in info [] in
    let both : sum_by length_in (infos ++ info ∷ []) ≡ length (bytes ++ frame) =
    omega (arith, all, one, size, is, length-append bytes frame) in
    kept-same (infos ++ info ∷ []) more (bytes ++ frame) longer both (short-more infos info short (omega (arith, is, fits))) more_is
    longer_is

-- Writing.

-- The invariant of the loop: `front`, the first of the frames that pass the test, were written or wait in the block. `infos` and `bytes`
-- are the remaining frames and their bytes.
pub record HasKept (unit : Unit) (test : ℕ → ℕ → Bool) (all : List KeptFrame) (infos : List FrameInfo) (bytes : List ℕ)
    (before now : Option (List ℕ)) (waiting : List ℕ) : Type 0 where
  pub front : List Timed
  pub parts : frames_where test all ≡ front ++ frames_where test (kept_frames_from infos bytes)
  pub size : sum_by length_in infos ≡ length bytes
  pub short : AllByRecursion HasKeptSize infos
  pub goes : GoesOut before now waiting (written unit front)

module _ (test : ℕ → ℕ → Bool) where
  pub puts-first : (unit : Unit) (all : List KeptFrame) (infos list : List FrameInfo) (bytes slice : List ℕ) (before : Option (List ℕ))
      (waiting : List ℕ)
      → all ≡ kept_frames_from infos bytes → list ≡ infos → slice ≡ bytes → sum_by length_in infos ≡ length bytes
      → AllByRecursion HasKeptSize infos → waiting ≡ file_header unit → HasKept unit test all list slice before before waiting
  puts-first unit all infos list bytes slice before waiting is list_is slice_is size short begun = record {
    front = [];
    parts = ap (frames_where test) (is ∙ sym (ap (λ (xs : List FrameInfo). kept_frames_from xs slice) list_is
        ∙ ap (kept_frames_from infos) slice_is));
    size = ap (sum_by length_in) list_is ∙ size ∙ sym (ap length slice_is);
    short = subst (AllByRecursion HasKeptSize) (sym list_is) short;
    goes = goes-header unit before waiting begun;
  }

  abbrev if-here : Bool → Timed → List Timed
  if-here here frame = if here then frame ∷ [] else []

  next : (all : List KeptFrame) (info : FrameInfo) (infos list : List FrameInfo) (frame bytes rest : List ℕ) (here : Bool)
      (front : List Timed)
      → list ≡ info ∷ infos → frame ≡ take info.length bytes → rest ≡ drop info.length bytes → test info.host info.socket ≡ here
      → frames_where test all ≡ front ++ frames_where test (kept_frames_from list bytes)
      → frames_where test all ≡ (front ++ if-here here (numbered_frame info.number frame))
      ++ frames_where test (kept_frames_from infos rest)
  next all info infos list frame bytes rest here front is frame_is rest_is on parts =
      let one : List ℕ → Timed = numbered_frame info.number in
      let later : List ℕ → List Timed = λ xs. frames_where test (kept_frames_from infos xs) in
      parts
      ∙ ap (λ (xs : List FrameInfo). front ++ frames_where test (kept_frames_from xs bytes)) is
      ∙ ap (λ (b : Bool). front ++ (if-here b (one (take info.length bytes)) ++ later (drop info.length bytes))) on
      ∙ ap (λ (xs : List ℕ). front ++ (if-here here (one xs) ++ later (drop info.length bytes))) (sym frame_is)
      ∙ ap (λ (xs : List ℕ). front ++ (if-here here (one frame) ++ later xs)) (sym rest_is)
      ∙ sym (append_assoc front (if-here here (one frame)) (later rest))

  left : (info : FrameInfo) (infos list : List FrameInfo) (bytes rest : List ℕ) → list ≡ info ∷ infos → rest ≡ drop info.length bytes
      → sum_by length_in list ≡ length bytes → sum_by length_in infos ≡ length rest
  left info infos list bytes rest is rest_is size =
      let sizes : sum_by length_in (info ∷ infos) ≡ length bytes = sym (ap (sum_by length_in) is) ∙ size in
      let parts = sum_by-cons length_in info infos in
      let behind : sum_by length_in infos ≡ length (drop info.length bytes) =
      omega (arith, sizes, parts, length-drop info.length bytes) in
      behind ∙ sym (ap length rest_is)

  -- the remaining bytes contain the next frame
  pub puts-fits : (unit : Unit) (all : List KeptFrame) (info : FrameInfo) (infos list : List FrameInfo) (bytes : List ℕ)
      (before now : Option (List ℕ)) (waiting : List ℕ)
      → list ≡ info ∷ infos → HasKept unit test all list bytes before now waiting → info.length ≤ length bytes
  puts-fits unit all info infos list bytes before now waiting is has =
      let sizes : sum_by length_in (info ∷ infos) ≡ length bytes = sym (ap (sum_by length_in) is) ∙ has.size in
      let parts = sum_by-cons length_in info infos in
      omega (arith, sizes, parts)

  -- the next frame has at most 1,518 bytes
  pub puts-short : (unit : Unit) (all : List KeptFrame) (info : FrameInfo) (infos list : List FrameInfo) (frame bytes : List ℕ)
      (before now : Option (List ℕ)) (waiting : List ℕ)
      → list ≡ info ∷ infos → frame ≡ take info.length bytes → HasKept unit test all list bytes before now waiting → length frame ≤ 1518
  puts-short unit all info infos list frame bytes before now waiting is frame_is has =
      let short : info.length ≤ 1518 = (subst (AllByRecursion HasKeptSize) is has.short).0 in
      let size : length frame ≡ length (take info.length bytes) = ap length frame_is in
      omega (arith, short, size, length-take info.length bytes)

  pub puts-written : (unit : Unit) (all : List KeptFrame) (info : FrameInfo) (infos list : List FrameInfo) (frame bytes rest : List ℕ)
      (before now later : Option (List ℕ)) (waiting more : List ℕ)
      → list ≡ info ∷ infos → frame ≡ take info.length bytes → rest ≡ drop info.length bytes → test info.host info.socket ≡ true
      → HasKept unit test all list bytes before now waiting
      → Appends (append_known now waiting) (append_known later more) (packet_of unit (numbered_frame info.number frame)) → Grows now later
      → HasKept unit test all infos rest before later more
  puts-written unit all info infos list frame bytes rest before now later waiting more is frame_is rest_is on has went grown =
      let one = numbered_frame info.number frame in
      record {
        front = has.front ++ one ∷ [];
        parts = next all info infos list frame bytes rest true has.front is frame_is rest_is on has.parts;
        size = left info infos list bytes rest is rest_is has.size;
        short = (subst (AllByRecursion HasKeptSize) is has.short).1;
        goes = subst (GoesOut before later more) (sym (written-push unit has.front one))
            (goes-more before now later waiting more (written unit has.front) (packet_of unit one) has.goes went grown);
      }

  -- a frame that doesn't pass the test is skipped
  pub puts-passed : (unit : Unit) (all : List KeptFrame) (info : FrameInfo) (infos list : List FrameInfo) (bytes rest : List ℕ)
      (before now : Option (List ℕ)) (waiting : List ℕ)
      → list ≡ info ∷ infos → rest ≡ drop info.length bytes → test info.host info.socket ≡ false
      → HasKept unit test all list bytes before now waiting → HasKept unit test all infos rest before now waiting
  puts-passed unit all info infos list bytes rest before now waiting is rest_is on has = record {
    front = has.front;
    parts = next all info infos list (take info.length bytes) bytes rest false has.front is refl rest_is on has.parts
        ∙ ap (λ (front : List Timed). front ++ frames_where test (kept_frames_from infos rest)) (append-nil has.front);
    size = left info infos list bytes rest is rest_is has.size;
    short = (subst (AllByRecursion HasKeptSize) is has.short).1;
    goes = has.goes;
  }

  pub puts-stops : (unit : Unit) (all : List KeptFrame) (infos : List FrameInfo) (bytes : List ℕ) (before now later : Option (List ℕ))
      (waiting : List ℕ) → HasKept unit test all infos bytes before now waiting → AppendsFront now later waiting
      → AppendsFront before later (written unit (frames_where test all))
  puts-stops unit all infos bytes before now later waiting has front =
      let rest = frames_where test (kept_frames_from infos bytes) in
      subst (λ (bytes : List ℕ). AppendsFront before later bytes) (sym (ap (written unit) has.parts ∙ written-append unit has.front rest))
      (goes-stops before now later waiting (written unit has.front) (flat_map (packet_of unit) rest) has.goes front)

  pub puts-ends : (unit : Unit) (all : List KeptFrame) (infos : List FrameInfo) (bytes : List ℕ) (before now later : Option (List ℕ))
      (waiting : List ℕ) → infos ≡ [] → HasKept unit test all infos bytes before now waiting → Appends now later waiting
      → Appends before later (written unit (frames_where test all))
  puts-ends unit all infos bytes before now later waiting none has went =
      subst (Appends before later) (sym (ap (written unit) (has.parts
      ∙ ap (λ (xs : List FrameInfo). has.front ++ frames_where test (kept_frames_from xs bytes)) none ∙ append-nil has.front)))
      (goes-ends before now later waiting (written unit has.front) has.goes went)

-- Texts.

item_at : {X : Type 0} (xs : List X) (place : ℕ) → place < length xs → (x : X) × (slice_get xs place ≡ Some x)
item_at [] place below = absurd (omega (arith, below))
item_at (x ∷ xs) zero below = (x, refl)
item_at (x ∷ xs) (suc place) below = item_at xs place (omega (arith, below))

pub text_at : (traces : Traces) (frames : List KeptFrame) (trace : ℕ) → trace < length (texts_in traces frames)
    → slice_get (texts_in traces frames) trace ≡ Some (frames_where (is_in_trace traces trace) frames)
text_at (traces.Sockets sockets) frames trace below =
    let text : ℕ × ℕ → List Timed = λ place. frames_where (is_of_socket place.0 place.1) frames in
    let test : Option (ℕ × ℕ) → ℕ → ℕ → Bool = λ found host socket.
    unwrap_or (option_map (λ (place : ℕ × ℕ). is_of_socket place.0 place.1 host socket) found) false in
    let size = length-map sockets.now text in
    let place = item_at sockets.now trace (omega (arith, below, size)) in
    slice_get-map text sockets.now trace ∙ ap (option_map text) place.1
    ∙ ap (λ (found : Option (ℕ × ℕ)). Some (frames_where (test found) frames)) (sym place.1)
text_at (traces.Wires plans names) frames trace below =
    let hosts = hosts_of plans.now in
    let text : List ℕ → List Timed = λ wire. frames_on_wire hosts wire frames in
    let name : Bor (List ℕ) → List ℕ = λ wire. wire.now in
    let test : Option (Bor (List ℕ)) → ℕ → ℕ → Bool = λ found host socket.
    unwrap_or (option_map (λ (wire : Bor (List ℕ)). is_on_wire hosts wire.now host socket) found) false in
    let size = length-map (names_in names.now) text in
    let named = length-map names.now name in
    let place = item_at names.now trace (omega (arith, below, size, named)) in
    slice_get-map text (names_in names.now) trace
    ∙ ap (option_map text) (slice_get-map name names.now trace ∙ ap (option_map name) place.1)
    ∙ ap (λ (found : Option (Bor (List ℕ))). Some (frames_where (test found) frames)) (sym place.1)
