-- Frames are taken one by one.
use Rattle.std.proofs.Common.{◌≡◌, ◌<◌, ◌+◌, ◌++◌, ◌∷◌, [], ◌∙◌}
use Rattle.std.proofs.Common.{Bool, IsTrue, true, ℕ, List, length, map, refl, sym, ap, subst}
use Rattle.std.proofs.Common.{append_assoc, length-append, length-take, sum, arith}
use Rattle.std.specs.List.{concat}
use Rattle.std.proofs.lemmas.Grind.{flat_map-append}
use Rattle.std.proofs.lemmas.List.{append-nil, length-map, map-append}
use Rattle.std.specs.List.{All}
use Rattle.std.proofs.lemmas.List.Elements.{All-append, All-cons}
use Rattle.adapter.proofs.Lists.{all-head, all-none}
use Rattle.dma_memory.specs.Layout.{Counts}
use Rattle.dma_memory.specs.Owners.{copies}
use Rattle.dma_memory.specs.OwnersLaws.{copies-append}
use Rattle.descriptors.specs.RingLaws.{place}
use Rattle.adapter.specs.Keeping.{Keeps}
use Rattle.adapter.specs.Pasts.{Past, joined, nothing}
use Rattle.adapter.specs.bus_types.bus.Bus.{Ghosts}
use Rattle.adapter.specs.bus_types.event.Access.{Access}
use Rattle.adapter.proofs.DriverAccesses.{ran_by-itself, ran_by-join, ran_by-same, ran_by-stays}
use Rattle.adapter.proofs.Calls.{ready-on}
use Rattle.adapter.proofs.ReceiveAccesses.{takes-push}
use Rattle.adapter.proofs.TakenSlots.{buffers_can_come_back}
use Rattle.adapter.specs.Calls.{Ran, WhereReady, at, ether_type_load, only, receive_loads, takes_from}
use Rattle.adapter.specs.DriverState.{DriverState, HandedOut, frame_of, holding, piece_numbers}
use Rattle.adapter.specs.ReadyDrivers.{ReadyWith, Stands}
use Rattle.adapter.specs.ReceiveSteps.{after_slots}
use Rattle.driver.specs.HandlerSteps.{AreOfOneFrame, PassesOn, HandsOver, HasEtherType, IsTaken, LeavesRing, Scene, TakesFrames, TakesSlots}
use Rattle.driver.specs.HandlerSteps.{WhereReadyIn, WhereTaken, part_none, run_buffers, run_with, scene, whole_frames}
use Rattle.driver.specs.Looks.{FindsFrame, IsLookedRun}
use Rattle.driver.specs.Parts.{AreFrames, FillBuffers, FitIntoBuffers, IsFrameSize, IsWholeFrame, buffers_in, buffers_of, joined_frames}
use Rattle.driver.specs.Parts.{lengths_in, parts_of, pieces_of, received_of}
use Rattle.driver.specs.declared.look.Run.{Run}
use Rattle.driver.specs.declared.parts.Part.{Part}
use Rattle.driver.specs.declared.receiver.Received.{Received}
use Rattle.driver.specs.declared.receiver.Receiver.{Ghosts as OfReceiver}
use Rattle.driver.proofs.ShownRuns.{part-append, slots-next, slots-none}
use Rattle.driver.proofs.TakenRuns.{buffers-pieces, concat-numbers, is-kept, length-frame, takes-run}

-- Runs were taken, n of them whole. Over a bus that obeys the law, for a driver that is ready, n frames were taken and shown.
pub record Walks {B R : Type 0} (bus : Ghosts B) (receivers : OfReceiver R) (n : ℕ) (old new : Scene B R) : Type 0 where
  pub slots : TakesSlots receivers n old.receiver new.receiver old.driver new.driver
  pub takes : WhereReadyIn bus old new (TakesFrames bus receivers n)

pub walks-none : {B R : Type 0} (bus : Ghosts B) (receivers : OfReceiver R)
    → ((b : B) → bus.happened b b nothing) → ((r : R) → receivers.took r r [] []) → (b : B) (r : R) (d : DriverState)
    → Walks bus receivers 0 (scene b d r) (scene b d r)
walks-none bus receivers stays waits b r d = record {
  slots = slots-none receivers waits r d;
  takes = λ up held is. record {
    frames = record {
      taken = [];
      kept = [];
      shown = waits r;
      part = part_none;
      count = refl;
      groups = all-none AreOfOneFrame;
      each = all-none IsTaken;
    };
    oldest = refl;
    bad = refl;
    ran = subst (λ (list : List HandedOut). Ran bus up (only []) (at b (holding held d)) (at b (holding list d)))
        (sym (append-nil held))
        (ran_by-stays bus stays b (holding held d) is.ready);
  };
}

-- One more frame: a run that was found leaves the ring and is passed on

-- The lengths of the parts sum to a legal size. Each part fits into a buffer, and each part except the last fills its buffer.
record IsWholeRun (list : List Part) : Type 0 where
  size : IsFrameSize (sum (lengths_in list))
  fits : FitIntoBuffers (lengths_in list)
  fill : FillBuffers (lengths_in list)

whole-run : (received : List Received) (list : List Part) → map (λ (one : Received). one.parts) received ≡ list ∷ []
    → AreFrames received → FillBuffers (lengths_in list) → IsWholeRun list
whole-run [] list same frames fill = absurd (cc)
whole-run (one ∷ later) list same frames fill =
    let is : one.parts ≡ list = cc in
    let whole = all-head IsWholeFrame one later frames in
    record {
      size = subst (λ (ps : List Part). IsFrameSize (sum (lengths_in ps))) is (subst IsFrameSize whole.sum whole.size);
      fits = subst (λ (ps : List Part). FitIntoBuffers (lengths_in ps)) is whole.fits;
      fill = fill;
    }

is-taken : (pieces : List HandedOut) → IsWholeRun (parts_of pieces) → IsTaken pieces
is-taken pieces run = record {
  whole = record { size = subst IsFrameSize (sym (length-frame pieces)) run.size; sum = length-frame pieces; fits = run.fits };
  fill = run.fill;
}

-- Over a bus that obeys the law, the frame of the run is taken and shown to the receiver.
takes-next : {up : Bool} {B R : Type 0} (bus : Ghosts B) (receivers : OfReceiver R)
    → ((b : B) → bus.happened b b nothing)
    → ((a b c : B) (first later : Past) → bus.happened a b first → bus.happened b c later → bus.happened a c (joined first later))
    → ((a b c : R) (shown kept later more : List Received) → receivers.took a b shown kept → receivers.took b c later more
    → receivers.took a c (shown ++ later) (kept ++ more))
    → (a b c e : B) (r s t : R) (d1 d2 d3 d4 : DriverState) (n slots : ℕ) (run : Run) (parts : List Part) (held : List HandedOut)
    → d2.oldest_receive ≡ place d1.layout.rx d1.oldest_receive slots → slots + length d2.buffers ≡ length d1.buffers
    → d2.layout ≡ d1.layout → length (buffers_in parts) ≡ run.count → LeavesRing run parts d2 d3
    → d4 ≡ record d3 { pool = d4.pool; bad = d4.bad } → IsWholeRun parts
    → (before : TakesFrames bus receivers n up (scene a (holding held d1) r) (scene b (holding held d2) s))
    → FindsFrame bus run up (at b (holding (held ++ pieces_of before.frames.kept) d2))
    (at c (holding (held ++ pieces_of before.frames.kept) d2))
    → ((pieces : List HandedOut) → ReadyWith up (holding ((held ++ pieces_of before.frames.kept) ++ pieces) d3) (bus.world c)
    → parts_of pieces ≡ parts → HasEtherType pieces
    → HandsOver bus receivers pieces up (scene c (holding ((held ++ pieces_of before.frames.kept) ++ pieces) d3) s)
    (scene e (holding ((held ++ pieces_of before.frames.kept) ++ pieces) d4) t))
    → TakesFrames bus receivers (n + 1) up (scene a (holding held d1) r) (scene e (holding held d4) t)
takes-next {up} bus receivers stays joins also a b c e r s t d1 d2 d3 d4 n slots run parts held oldest_is outstanding known size leaves
    given legal before finds over =
    let held2 = held ++ pieces_of before.frames.kept in
    let take = takes-run bus stays b c d2 d3 (holding held2 d2) run parts size leaves refl finds finds.ran.goes.flows.ready in
    let pieces = take.pieces in
    let held3 = held2 ++ pieces in
    let end : after_slots (holding held2 d2) run.count d3.buffers held3 ≡ holding held3 d3 = ap (holding held3) (sym leaves.others) in
    let taking = ran_by-same bus [] [] c c (holding held2 d2) _ (holding held3 d3) _ _ [] refl end refl take.ran in
    let hands = over pieces taking.goes.flows.ready take.same take.type_is in
    let looked = hands.ran in
    let kept = is-kept (Stands d3.layout (bus.world e).memory) held2 pieces
    (received_of pieces) hands.shows.kept refl hands.shows.whether looked.goes.flows.ready.stand in
    let more = pieces_of kept.entries in
    let held4 = held2 ++ more in
    let number_of : HandedOut → ℕ = λ x. x.number in
    let moves : (k : ℕ) → copies k d4.pool + copies k (piece_numbers held4) ≡ copies k d3.pool + copies k (piece_numbers held3) = λ k.
    omega (
      arith,
      hands.shows.buffers k,
      copies-append k (buffers_in (parts_of pieces)) d3.pool,
      ap (copies k) (buffers-pieces pieces),
      copies-append k d4.pool (buffers_of hands.shows.kept),
      ap (copies k) kept.numbers,
      ap (copies k) (map-append number_of held2 more),
      copies-append k (piece_numbers held2) (piece_numbers more),
      ap (copies k) (map-append number_of held2 pieces),
      copies-append k (piece_numbers held2) (piece_numbers pieces),
    ) in
    let comes = ran_by-itself bus stays e (holding held3 d3) _ [] []
    (buffers_can_come_back up (holding held3 d3) d4.pool held4 (bus.world e) looked.goes.flows.ready moves kept.stand) in
    let two = ran_by-join bus joins _ _ a b c (holding held d1) (holding held2 d2) (holding held2 d2) _ _ [] [] before.ran finds.ran in
    let three = ran_by-join bus joins _ _ a c c (holding held d1) (holding held2 d2) (holding held3 d3) _ _ [] [] two taking in
    let four = ran_by-join bus joins _ _ a c e (holding held d1) (holding held3 d3) (holding held3 d3) _ _ [] [] three looked in
    let five = ran_by-join bus joins _ _ a e e (holding held d1) (holding held3 d3) _ _ _ [] [] four comes in
    let lists = map piece_numbers before.frames.taken in
    let numbers = piece_numbers (pieces_of before.frames.taken) in
    let same : buffers_in parts ≡ piece_numbers pieces = ap buffers_in (sym take.same) ∙ buffers-pieces pieces in
    let first : d2.buffers ≡ piece_numbers pieces ++ d3.buffers = leaves.first ∙ ap (λ (list : List ℕ). list ++ d3.buffers) same in
    let many : length (concat lists) ≡ slots = omega (
      arith,
      outstanding,
      ap length (concat-numbers before.frames.taken),
      ap length before.oldest,
      length-append numbers d2.buffers,
    ) in
    let slot : d2.oldest_receive ≡ place d1.layout.rx d1.oldest_receive (length (concat lists)) =
    oldest_is ∙ ap (place d1.layout.rx d1.oldest_receive) (sym many) in
    let counts : d3.layout ≡ d1.layout = ap (λ (d : DriverState). d.layout) leaves.others ∙ known in
    let all = takes_from d1.layout d1.oldest_receive in
    let from = place d1.layout.rx d1.oldest_receive (length (concat lists)) in
    let loads = receive_loads d2.layout d2.oldest_receive run.count in
    let load = ether_type_load d3.layout (piece_numbers pieces) in
    let accesses : ((((all lists ++ loads) ++ []) ++ load) ++ []) ≡ all (map piece_numbers (before.frames.taken ++ pieces ∷ [])) =
    append-nil (((all lists ++ loads) ++ []) ++ load)
    ∙ ap (λ (list : List Access). list ++ load) (append-nil (all lists ++ loads))
    ∙ append_assoc (all lists) loads load
    ∙ ap (λ (layout : Counts). all lists ++ (receive_loads layout d2.oldest_receive run.count ++ load)) known
    ∙ ap (λ (place : ℕ). all lists ++ (receive_loads d1.layout place run.count ++ load)) slot
    ∙ ap (λ (k : ℕ). all lists ++ (receive_loads d1.layout from k ++ load)) (sym size ∙ ap length same)
    ∙ ap (λ (layout : Counts). all lists ++ (receive_loads d1.layout from (length (piece_numbers pieces))
    ++ ether_type_load layout (piece_numbers pieces))) counts
    ∙ sym (takes-push d1.layout d1.oldest_receive lists (piece_numbers pieces))
    ∙ ap all (sym (map-append piece_numbers before.frames.taken (pieces ∷ []))) in
    let shape : ℕ → DriverState = λ bad. record d3 { pool = d4.pool; bad = bad } in
    let last : holding held4 (shape d3.bad) ≡ holding (held ++ pieces_of (before.frames.kept ++ kept.entries)) d4 =
    ap (λ (bad : ℕ). holding held4 (shape bad)) (sym hands.bad) ∙ ap (holding held4) (sym given)
    ∙ ap (λ (list : List HandedOut). holding list d4) (append_assoc held (pieces_of before.frames.kept) more
    ∙ ap (λ (list : List HandedOut). held ++ list) (sym (flat_map-append (λ (x : List HandedOut). x) before.frames.kept kept.entries))) in
    let frames : (((joined_frames before.frames.taken ++ []) ++ frame_of pieces ∷ []) ++ []) ++ []
    ≡ joined_frames (before.frames.taken ++ pieces ∷ []) =
    append-nil _ ∙ append-nil _
    ∙ ap (λ (list : List (List ℕ)). list ++ frame_of pieces ∷ []) (append-nil (joined_frames before.frames.taken))
    ∙ sym (map-append frame_of before.frames.taken (pieces ∷ [])) in
    let shown : map received_of before.frames.taken ++ received_of pieces ∷ []
    ≡ map received_of (before.frames.taken ++ pieces ∷ []) = sym (map-append received_of before.frames.taken (pieces ∷ [])) in
    let has : map received_of before.frames.kept ++ hands.shows.kept ≡ map received_of (before.frames.kept ++ kept.entries) =
    ap (λ (list : List Received). map received_of before.frames.kept ++ list) (sym kept.same)
    ∙ sym (map-append received_of before.frames.kept kept.entries) in
    let left : d3.buffers ≡ d4.buffers = ap (λ (d : DriverState). d.buffers) (sym given) in
    let pushed : pieces_of before.frames.taken ++ pieces ≡ pieces_of (before.frames.taken ++ pieces ∷ []) =
    ap (λ (list : List HandedOut). pieces_of before.frames.taken ++ list) (sym (append-nil pieces))
    ∙ sym (flat_map-append (λ (x : List HandedOut). x) before.frames.taken (pieces ∷ [])) in
    record {
      frames = record {
        taken = before.frames.taken ++ pieces ∷ [];
        kept = before.frames.kept ++ kept.entries;
        shown =
            subst (λ (list : List Received). receivers.took r t list (map received_of (before.frames.kept ++ kept.entries))) shown
            (subst (λ (list : List Received). receivers.took r t (map received_of before.frames.taken ++ received_of pieces ∷ []) list) has
            (also r s t (map received_of before.frames.taken) (map received_of before.frames.kept)
            (received_of pieces ∷ []) hands.shows.kept before.frames.shown hands.shows.shown));
        part = part-append before.frames.part kept.part;
        count = omega (arith, length-append before.frames.taken (pieces ∷ []), before.frames.count);
        groups = subst (All AreOfOneFrame) (sym (map-append piece_numbers before.frames.taken (pieces ∷ [])))
            (All-append AreOfOneFrame (map piece_numbers before.frames.taken) (piece_numbers pieces ∷ []) before.frames.groups
            (All-cons AreOfOneFrame (piece_numbers pieces) [] take.group (all-none AreOfOneFrame)));
        each =
            All-append IsTaken before.frames.taken (pieces ∷ []) before.frames.each
            (All-cons IsTaken pieces [] (is-taken pieces (subst IsWholeRun (sym take.same) legal)) (all-none IsTaken));
      };
      oldest =
          before.oldest
          ∙ ap (λ (list : List ℕ). numbers ++ list) (first ∙ ap (λ (list : List ℕ). piece_numbers pieces ++ list) left)
          ∙ sym (append_assoc numbers (piece_numbers pieces) d4.buffers)
          ∙ ap (λ (list : List ℕ). list ++ d4.buffers)
          (sym (map-append number_of (pieces_of before.frames.taken) pieces) ∙ ap piece_numbers pushed);
      bad = hands.bad ∙ ap (λ (d : DriverState). d.bad) leaves.others ∙ before.bad;
      ran = ran_by-same bus _ _ a e (holding held d1) (holding held4 (shape d3.bad)) _ _ _ [] accesses last frames five;
    }

-- A run that was found has left the ring.

run-size : (outstanding : ℕ) (run : Run) (parts : List Part) (d d' : DriverState) → IsLookedRun outstanding run → LeavesRing run parts d d'
    → length (buffers_in parts) ≡ run.count
run-size outstanding run parts d d' looked leaves =
    omega (
      arith,
      length-map parts (λ (part : Part). part.buffer),
      length-map parts (λ (part : Part). part.length),
      ap length leaves.lengths,
      length-take run.count run.lengths,
      looked.most,
      looked.room,
    )

pub run-left : (outstanding : ℕ) (run : Run) (parts : List Part) (d d' : DriverState) → IsLookedRun outstanding run
    → LeavesRing run parts d d' → length d'.buffers < length d.buffers
run-left outstanding run parts d d' looked leaves =
    omega (
      arith,
      ap length leaves.first,
      length-append (buffers_in parts) d'.buffers,
      run-size outstanding run parts d d' looked leaves,
      looked.least,
    )

pub walks-next : {B R : Type 0} (bus : Ghosts B) (receivers : OfReceiver R)
    → ((b : B) → bus.happened b b nothing)
    → ((a b c : B) (first later : Past) → bus.happened a b first → bus.happened b c later → bus.happened a c (joined first later))
    → ((a b c : R) (shown kept later more : List Received) → receivers.took a b shown kept → receivers.took b c later more
    → receivers.took a c (shown ++ later) (kept ++ more))
    → (a b c e : B) (r s t : R) (d1 d2 d3 d4 : DriverState) (n m outstanding : ℕ) (run : Run) (parts : List Part) (whole : Bool)
    → n + length (whole_frames (run_with parts whole ∷ [])) ≡ m → Keeps bus a b → Keeps bus b c
    → Walks bus receivers n (scene a d1 r) (scene b d2 s)
    → IsLookedRun outstanding run
    → WhereReady bus (at b d2) (at c d2) (FindsFrame bus run) → LeavesRing run parts d2 d3
    → d4 ≡ record d3 { pool = d4.pool; bad = d4.bad } → PassesOn receivers.took s t (run_with parts whole) d3 d4 → whole ≡ run.whole
    → WhereTaken bus parts whole (scene c d3 s) (scene e d4 t) (HandsOver bus receivers)
    → Walks bus receivers m (scene a d1 r) (scene e d4 t)
walks-next bus receivers stays joins also a b c e r s t d1 d2 d3 d4 n m outstanding run parts whole more keeps1 keeps2 walks looked finds
    leaves given hands whole_is over =
    let size = run-size outstanding run parts d2 d3 looked leaves in
    let slots = walks.slots in
    let others = slots.others in
    record {
      slots = slots-next receivers also r s t d1 d2 d3 d4 n m run parts whole more size looked.least looked.most
          (λ is. subst FillBuffers (sym leaves.lengths) (looked.full (subst IsTrue whole_is is))) slots leaves given hands;
      takes = λ up held is.
          let before = walks.takes up held is in
          let later = held ++ pieces_of before.frames.kept in
          let there = ready-on bus (at a (holding held d1)) (at b (holding later d2)) keeps1 is before.ran in
          let found = finds up later there in
          let shown : whole ≡ true = whole_is ∙ found.is_run.whole in
          let frames = hands.shows.receiver.frames in
          let sizes = whole-run hands.shows.receiver.received parts
          (frames.parts ∙ ap (λ (b : Bool). whole_frames (run_with parts b ∷ [])) shown) frames.sizes
          (subst FillBuffers (sym leaves.lengths) (looked.full (subst IsTrue (sym found.is_run.whole) refl))) in
          subst (λ (k : ℕ). TakesFrames bus receivers k up (scene a (holding held d1) r) (scene e (holding held d4) t))
          (ap (λ (b : Bool). n + length (whole_frames (run_with parts b ∷ []))) (sym shown) ∙ more)
          (takes-next bus receivers stays joins also a b c e r s t d1 d2 d3 d4 n (length (run_buffers slots.runs)) run parts held
          slots.next (omega (arith, ap length slots.oldest, length-append (run_buffers slots.runs) d2.buffers))
          (ap (λ (d : DriverState). d.layout) others)
          size leaves given sizes before found
          (λ pieces ready same type_is. over up later pieces shown same type_is
          (record { honest = keeps2.honest there.honest; ready = ready })));
    }
