-- Runs are passed on, one by one: each whole run is shown to the receiver, and the buffers of other runs return to the pool.
use Rattle.std.proofs.Common.{Bool, true, false, not, cond, inl, inr, ◌≡◌, ◌≤◌, ◌<◌, ◌+◌, ◌⊎◌, ◌++◌, ◌∷◌, [], ℕ, List, length, map}
use Rattle.std.proofs.Common.{IsTrue, refl, sym, ap, subst, ◌∙◌, append_assoc, length-append, arith}
use Rattle.std.specs.List.{All, filter}
use Rattle.std.proofs.lemmas.Grind.{flat_map-append}
use Rattle.std.proofs.lemmas.List.{append-nil, length-map, map-append}
use Rattle.std.proofs.lemmas.List.Elements.{All-append, All-cons, filter-append}
use Rattle.std.proofs.lemmas.List.Sums.{count_by-le-length, length-filter, sum_by-append}
use Rattle.descriptors.specs.RingLaws.{place}
use Rattle.adapter.proofs.Places.{place-add}
use Rattle.dma_memory.specs.Owners.{HasNoSecondOwner, HaveSameNumbers, copies}
use Rattle.dma_memory.specs.OwnersLaws.{copies-append, copies-itself, known_from_no_second}
use Rattle.adapter.proofs.Lists.{all-head, all-none, all-tail}
use Rattle.adapter.proofs.Owners.{all-copies, owners-count}
use Rattle.adapter.specs.Calls.{OffersAll, missed_added}
use Rattle.adapter.specs.DriverState.{DriverState, HandedOut, holding, piece_numbers, owners, with_owners}
use Rattle.driver.specs.Answers.{ReceiverAnswers}
use Rattle.driver.specs.Growth.{GrowsBy, grows-join}
use Rattle.driver.specs.HandlerSteps.{
  PassesOn,
  IsSublist,
  IsRun,
  LeavesRing,
  RunOfSlots,
  ServesReceiver,
  ServesRing,
  Shows,
  ShowsAll,
}
use Rattle.driver.specs.HandlerSteps.{ShowsRuns, TakesSlots}
use Rattle.driver.specs.HandlerSteps.{bad_runs, part_none, part_with, part_without, run_buffers, run_with, whole_frames}
use Rattle.driver.specs.Parts.{FillBuffers, IsWholeFrame, buffers_in, buffers_of, lengths_in}
use Rattle.driver.specs.RefillSteps.{OffersAfter}
use Rattle.driver.specs.declared.look.Run.{Run}
use Rattle.driver.specs.declared.parts.Part.{Part}
use Rattle.driver.specs.declared.receiver.Received.{Received}
use Rattle.driver.specs.declared.receiver.Receiver.{Ghosts as OfReceiver}

-- The result of a receiver

pub answer-owners : {R : Type 0} (took : R → R → List Received → List Received → Type 0) (before after : R) (received : Received)
    (back : List Part) (n : ℕ) (others : List ℕ) → ReceiverAnswers took before after received back
    → HasNoSecondOwner n (buffers_in received.parts ++ others) → HasNoSecondOwner n (buffers_in back ++ others)
answer-owners took before after received back n others (inl kept) once = λ k.
    omega (
      arith,
      once k,
      copies-append k (buffers_in received.parts) others,
      ap (λ (list : List Part). copies k (buffers_in list ++ others)) kept.0,
    )
answer-owners took before after received back n others (inr returned) once =
    subst (λ (list : List Part). HasNoSecondOwner n (buffers_in list ++ others)) (sym returned.0) once

pub answer-shown : {R : Type 0} (took : R → R → List Received → List Received → Type 0) (before after : R) (received : Received)
    (back : List Part) (pool pool' : List ℕ) → ReceiverAnswers took before after received back
    → HaveSameNumbers (buffers_in back ++ pool) pool'
    → Shows took before after received pool pool'
answer-shown took before after received back pool pool' (inl kept) given = record {
  kept = received ∷ [];
  shown = kept.1;
  whether = inr refl;
  buffers = λ k.
      omega (
        arith,
        given k,
        ap (λ (list : List Part). copies k (buffers_in list ++ pool)) kept.0,
        copies-append k (buffers_in received.parts) pool,
        copies-append k pool' (buffers_in received.parts ++ []),
        ap (copies k) (append-nil (buffers_in received.parts)),
      );
}
answer-shown took before after received back pool pool' (inr returned) given = record {
  kept = [];
  shown = returned.1;
  whether = inl refl;
  buffers = λ k.
      ap (λ (list : List Part). copies k (buffers_in list ++ pool)) (sym returned.0) ∙ given k ∙ ap (copies k) (sym (append-nil pool'));
}

-- A run is passed on

kept-part : (received : Received) (kept : List Received) → (kept ≡ []) ⊎ (kept ≡ received ∷ []) → IsSublist kept (received ∷ [])
kept-part received kept (inl none) = subst (λ (list : List Received). IsSublist list (received ∷ [])) (sym none) (part_without part_none)
kept-part received kept (inr one) = subst (λ (list : List Received). IsSublist list (received ∷ [])) (sym one) (part_with part_none)

pub hands-shown : {R : Type 0} (took : R → R → List Received → List Received → Type 0) (before after : R) (received : Received)
    (d d' : DriverState) → IsWholeFrame received → Shows took before after received d.pool d'.pool → d'.bad ≡ d.bad
    → PassesOn took before after (run_with received.parts true) d d'
hands-shown took before after received d d' whole shows bad = record {
  shows = record {
    receiver = record {
      received = received ∷ [];
      frames = record { parts = refl; sizes = All-cons IsWholeFrame received [] whole (all-none IsWholeFrame) };
      kept = shows.kept;
      shown = shows.shown;
      part = kept-part received shows.kept shows.whether;
    };
    buffers = λ k. ap (λ (list : List ℕ). copies k (list ++ d.pool)) (append-nil (buffers_in received.parts)) ∙ shows.buffers k;
  };
  bad = record { least = omega (arith, bad); most = omega (arith, bad); exactly = λ below. omega (arith, bad) };
}

-- If none of these runs is whole, `ShowsRuns` holds for them, with a receiver that doesn't change.
abbrev shows-no_frame : {R : Type 0} (took : R → R → List Received → List Received → Type 0) → ((r : R) → took r r [] []) → (r : R)
    (runs : List RunOfSlots) → [] ≡ whole_frames runs → ShowsRuns took r r runs
shows-no_frame took stays r runs none = record {
  received = [];
  frames = record { parts = none; sizes = all-none IsWholeFrame };
  kept = [];
  shown = stays r;
  part = part_none;
}

pub hands-bad : {R : Type 0} (took : R → R → List Received → List Received → Type 0) → ((r : R) → took r r [] []) → (r : R)
    (parts : List Part) (d d' : DriverState) → GrowsBy d.bad d'.bad 1 → HaveSameNumbers (buffers_in parts ++ d.pool) d'.pool
    → PassesOn took r r (run_with parts false) d d'
hands-bad took stays r parts d d' bad back = record {
  shows = record {
    receiver = shows-no_frame took stays r (run_with parts false ∷ []) refl;
    buffers = λ k.
        ap (λ (list : List ℕ). copies k (list ++ d.pool)) (append-nil (buffers_in parts)) ∙ back k
        ∙ ap (copies k) (sym (append-nil d'.pool));
  };
  bad = bad;
}

pub known-all : (n : ℕ) (numbers others : List ℕ) → HasNoSecondOwner n (numbers ++ others) → All (λ number. number < n) numbers
known-all n numbers others once =
    all-copies (λ (number : ℕ). number < n) numbers
    (λ m some. known_from_no_second n m (numbers ++ others) once (omega (arith, some, copies-append m numbers others)))

-- Several runs are passed on

pub shows-none : {R : Type 0} (took : R → R → List Received → List Received → Type 0) → ((r : R) → took r r [] []) → (r : R)
    (pool : List ℕ) → ShowsAll took r r [] pool pool
shows-none took stays r pool = record {
  receiver = shows-no_frame took stays r [] refl;
  buffers = λ k. ap (copies k) (sym (append-nil pool));
}

run-buffers-append : (runs later : List RunOfSlots) → run_buffers (runs ++ later) ≡ run_buffers runs ++ run_buffers later
run-buffers-append runs later = flat_map-append (λ (run : RunOfSlots). buffers_in run.parts) runs later

whole-frames-append : (runs later : List RunOfSlots) → whole_frames (runs ++ later) ≡ whole_frames runs ++ whole_frames later
whole-frames-append runs later =
    let whole : RunOfSlots → Bool = λ run. run.whole in
    let parts : RunOfSlots → List Part = λ run. run.parts in
    ap (map parts) (filter-append whole runs later) ∙ map-append parts (filter whole runs) (filter whole later)

pub part-append : {X : Type 0} {some all later more : List X} → IsSublist some all → IsSublist later more
    → IsSublist (some ++ later) (all ++ more)
part-append part_none behind = behind
part-append (part_with first) behind = part_with (part-append first behind)
part-append (part_without first) behind = part_without (part-append first behind)

shows-more : {R : Type 0} (took : R → R → List Received → List Received → Type 0)
    → ((a b c : R) (shown kept later more : List Received) → took a b shown kept → took b c later more
    → took a c (shown ++ later) (kept ++ more))
    → (r s t : R) (runs later : List RunOfSlots) (pool1 pool2 pool3 : List ℕ) → ShowsAll took r s runs pool1 pool2
    → ShowsAll took s t later pool2 pool3 → ShowsAll took r t (runs ++ later) pool1 pool3
shows-more took also r s t runs later pool1 pool2 pool3 one two =
    let parts : Received → List Part = λ r. r.parts in
    let first = one.receiver in
    let second = two.receiver in
    record {
      receiver = record {
        received = first.received ++ second.received;
        frames = record {
          parts =
              map-append parts first.received second.received
              ∙ ap (λ (list : List (List Part)). list ++ map parts second.received) first.frames.parts
              ∙ ap (λ (list : List (List Part)). whole_frames runs ++ list) second.frames.parts
              ∙ sym (whole-frames-append runs later);
          sizes = All-append IsWholeFrame first.received second.received first.frames.sizes second.frames.sizes;
        };
        kept = first.kept ++ second.kept;
        shown = also r s t first.received first.kept second.received second.kept first.shown second.shown;
        part = part-append first.part second.part;
      };
      buffers = λ k.
          omega (
            arith,
            one.buffers k,
            two.buffers k,
            copies-append k (run_buffers runs) pool1,
            copies-append k pool2 (buffers_of first.kept),
            copies-append k (run_buffers later) pool2,
            copies-append k pool3 (buffers_of second.kept),
            ap (copies k) (run-buffers-append runs later),
            copies-append k (run_buffers runs) (run_buffers later),
            copies-append k (run_buffers (runs ++ later)) pool1,
            ap (copies k) (flat_map-append (λ (x : Received). buffers_in x.parts) first.kept second.kept),
            copies-append k (buffers_of first.kept) (buffers_of second.kept),
            copies-append k pool3 (buffers_of (first.kept ++ second.kept)),
          );
    }

-- Runs leave the ring

pub slots-none : {R : Type 0} (receivers : OfReceiver R) → ((r : R) → receivers.took r r [] []) → (r : R) (d : DriverState)
    → TakesSlots receivers 0 r r d d
slots-none receivers stays r d = record {
  others = refl;
  runs = [];
  are_runs = all-none IsRun;
  oldest = refl;
  next = refl;
  count = refl;
  bad = record { least = omega arith; most = omega arith; exactly = λ below. omega arith };
  shows = shows-none receivers.took stays r d.pool;
}

-- A run leaves the ring, from d2 to d3, and is passed on, from d3 to d4.
pub slots-next : {R : Type 0} (receivers : OfReceiver R)
    → ((a b c : R) (shown kept later more : List Received) → receivers.took a b shown kept → receivers.took b c later more
    → receivers.took a c (shown ++ later) (kept ++ more))
    → (r s t : R) (d1 d2 d3 d4 : DriverState) (n m : ℕ) (run : Run) (parts : List Part) (whole : Bool)
    → n + length (whole_frames (run_with parts whole ∷ [])) ≡ m → length (buffers_in parts) ≡ run.count → 1 ≤ run.count → run.count ≤ 6
    → (IsTrue whole → FillBuffers (lengths_in parts)) → TakesSlots receivers n r s d1 d2 → LeavesRing run parts d2 d3
    → d4 ≡ record d3 { pool = d4.pool; bad = d4.bad }
    → PassesOn receivers.took s t (run_with parts whole) d3 d4 → TakesSlots receivers m r t d1 d4
slots-next receivers also r s t d1 d2 d3 d4 n m run parts whole more size some few full slots leaves given hands =
    let rx = d1.layout.rx in
    let o = d1.oldest_receive in
    let one = run_with parts whole in
    let runs = slots.runs ++ one ∷ [] in
    let before = length (run_buffers slots.runs) in
    let shape : ℕ → List ℕ
    → DriverState = λ oldest buffers. record d1 { oldest_receive = oldest; buffers = buffers; pool = d4.pool; bad = d4.bad } in
    let left : d4.buffers ≡ d3.buffers = ap (λ (d : DriverState). d.buffers) given in
    let pool : d3.pool ≡ d2.pool = ap (λ (d : DriverState). d.pool) leaves.others in
    let bad : d3.bad ≡ d2.bad = ap (λ (d : DriverState). d.bad) leaves.others in
    let numbers : run_buffers runs ≡ run_buffers slots.runs ++ buffers_in parts =
    run-buffers-append slots.runs (one ∷ []) ∙ ap (λ (list : List ℕ). run_buffers slots.runs ++ list) (append-nil (buffers_in parts)) in
    let many : before + run.count ≡ length (run_buffers runs) =
    omega (arith, size, ap length numbers, length-append (run_buffers slots.runs) (buffers_in parts)) in
    let place_is : d4.oldest_receive ≡ place rx o (length (run_buffers runs)) =
    ap (λ (d : DriverState). d.oldest_receive) given
    ∙ ap (λ (d : DriverState). d.oldest_receive) leaves.others
    ∙ ap (λ (d : DriverState). place d.layout.rx d2.oldest_receive run.count) slots.others
    ∙ ap (λ (slot : ℕ). place rx slot run.count) slots.next
    ∙ sym (place-add rx o before run.count)
    ∙ ap (place rx o) many in
    record {
      others =
          given
          ∙ ap (λ (d : DriverState). let s : DriverState = record d { pool = d4.pool; bad = d4.bad } in s) leaves.others
          ∙ ap (λ (d : DriverState). let s : DriverState = record d
          { oldest_receive = place d2.layout.rx d2.oldest_receive run.count; buffers = d3.buffers; pool = d4.pool; bad = d4.bad } in s)
          slots.others
          ∙ ap (λ (oldest : ℕ). shape oldest d3.buffers)
          (sym (ap (λ (d : DriverState). d.oldest_receive) given ∙ ap (λ (d : DriverState). d.oldest_receive) leaves.others))
          ∙ ap (shape d4.oldest_receive) (sym left);
      runs = runs;
      are_runs =
          All-append IsRun slots.runs (one ∷ []) slots.are_runs
          (All-cons IsRun one [] (record { least = omega (arith, long, some); most = omega (arith, long, few); full = full })
          (all-none IsRun));
      oldest =
          slots.oldest
          ∙ ap (λ (list : List ℕ). run_buffers slots.runs ++ list)
          (leaves.first ∙ ap (λ (list : List ℕ). buffers_in parts ++ list) (sym left))
          ∙ sym (append_assoc (run_buffers slots.runs) (buffers_in parts) d4.buffers)
          ∙ ap (λ (list : List ℕ). list ++ d4.buffers) (sym numbers);
      next = place_is;
      count =
          omega (
            arith,
            more,
            slots.count,
            ap length (whole-frames-append slots.runs (one ∷ [])),
            length-append (whole_frames slots.runs) (whole_frames (one ∷ [])),
          );
      bad = subst (GrowsBy d1.bad d4.bad) (sym (sum_by-append (λ (x : RunOfSlots). cond (not x.whole) 1 0) slots.runs (one ∷ [])))
          (grows-join d1.bad d2.bad d4.bad (bad_runs slots.runs) (bad_runs (one ∷ [])) slots.bad
          (subst (λ (k : ℕ). GrowsBy k d4.bad (bad_runs (one ∷ []))) bad hands.bad));
      shows = shows-more receivers.took also r s t slots.runs (one ∷ []) d1.pool d2.pool d4.pool slots.shows
          (subst (λ (list : List ℕ). ShowsAll receivers.took s t (one ∷ []) list d4.pool) pool hands.shows);
    }
  where
    long : length parts ≡ run.count
    long = omega (arith, size, length-map parts (λ (part : Part). part.buffer))

pub runs-few : (runs : List RunOfSlots) → All IsRun runs → length runs ≤ length (run_buffers runs)
runs-few [] all = omega arith
runs-few (run ∷ later) all =
    let one = all-head IsRun run later all in
    omega (
      arith,
      one.least,
      runs-few later (all-tail IsRun run later all),
      length-append (buffers_in run.parts) (run_buffers later),
      length-map run.parts (λ (part : Part). part.buffer),
    )

whole-few : (runs : List RunOfSlots) → All IsRun runs → length (whole_frames runs) ≤ length (run_buffers runs)
whole-few runs all =
    let whole : RunOfSlots → Bool = λ run. run.whole in
    omega (
      arith,
      length-map (filter whole runs) (λ (run : RunOfSlots). run.parts),
      length-filter whole runs,
      count_by-le-length whole runs,
      runs-few runs all,
    )

pub served-few : (n : ℕ) (d d' : DriverState) (runs : List RunOfSlots) → ServesRing d d' runs n → n ≤ length d.buffers
served-few n d d' runs ring =
    omega (
      arith,
      ring.count,
      whole-few runs ring.leave.are_runs,
      ap length ring.leave.oldest,
      length-append (run_buffers runs) ring.leave.rest,
    )

pub slots-owners : {R : Type 0} (receivers : OfReceiver R) (n : ℕ) (before after : R) (d d' : DriverState)
    → (slots : TakesSlots receivers n before after d d') → HaveSameNumbers (owners d) (owners d' ++ buffers_of slots.shows.receiver.kept)
slots-owners receivers n before after d d' slots = λ k.
    let later : DriverState = record d { oldest_receive = d'.oldest_receive; buffers = d'.buffers; pool = d'.pool; bad = d'.bad } in
    let kept = buffers_of slots.shows.receiver.kept in
    omega (
      arith,
      owners-count k d,
      owners-count k later,
      ap (λ (s : DriverState). copies k (owners s)) slots.others,
      ap (copies k) slots.oldest,
      copies-append k (run_buffers slots.runs) d'.buffers,
      slots.shows.buffers k,
      copies-append k (run_buffers slots.runs) d.pool,
      copies-append k d'.pool kept,
      copies-append k (owners d') kept,
    )

-- After runs left the ring, the ring is refilled

none-held : (held : List HandedOut) → ((k : ℕ) → copies k (piece_numbers held) ≡ 0) → held ≡ []
none-held [] none = refl
none-held (one ∷ later) none = absurd (omega (arith, none one.number, copies-itself one.number (piece_numbers later)))

pub served : {R : Type 0} (receivers : OfReceiver R) (n misses : ℕ) (before after : R) (d between d' : DriverState)
    → TakesSlots receivers n before after (missed_added misses d) between → OffersAll between d' → OffersAfter between d'
    → HaveSameNumbers (owners between) (owners d') → ServesReceiver receivers before after d d' n
served receivers n misses before after d between d' takes offers order same =
    let kept = buffers_of takes.shows.receiver.kept in
    let shape : DriverState → DriverState = λ s. record d
    { oldest_receive = s.oldest_receive; buffers = s.buffers; staged = []; pool = s.pool; missed = s.missed; exact = s.exact; bad = s.bad }
    in
    let made : DriverState = with_owners (record (missed_added misses d)
    { oldest_receive = between.oldest_receive; buffers = between.buffers; pool = between.pool; bad = between.bad }) d'.buffers [] d'.pool []
    in
    let is : d' ≡ made = offers.others ∙ ap (λ (s : DriverState). with_owners s d'.buffers [] d'.pool []) takes.others in
    let staged : d'.staged ≡ [] = ap (λ (s : DriverState). s.staged) is in
    let out : d'.handed_out ≡ [] = ap (λ (s : DriverState). s.handed_out) is in
    let none : d.handed_out ≡ [] = none-held d.handed_out (λ k.
    omega (
      arith,
      same k,
      owners-count k between,
      owners-count k d',
      ap (λ (s : DriverState). copies k (piece_numbers s.handed_out)) takes.others,
      ap (copies k) order.newest,
      copies-append k between.buffers (between.staged ++ order.offered),
      copies-append k between.staged order.offered,
      order.pool k,
      copies-append k order.offered d'.pool,
      ap (copies k) staged,
      ap (λ (list : List HandedOut). copies k (piece_numbers list)) out,
    )) in
    record {
      runs = takes.runs;
      ring = record {
        misses = record {
          misses = misses;
          missed = ap (λ (s : DriverState). s.missed) is;
          exact = ap (λ (s : DriverState). s.exact) is;
        };
        count = takes.count;
        leave = record {
          are_runs = takes.are_runs;
          rest = between.buffers;
          offered = order.offered;
          oldest = takes.oldest;
          newest = order.newest ∙ ap (λ (s : DriverState). between.buffers ++ (s.staged ++ order.offered)) takes.others;
          next = ap (λ (s : DriverState). s.oldest_receive) offers.others ∙ takes.next;
        };
        bad = subst (λ (k : ℕ). GrowsBy d.bad k (bad_runs takes.runs)) (sym (ap (λ (s : DriverState). s.bad) offers.others)) takes.bad;
        refilled = offers.refilled;
        none_out = none;
        one_owner = offers.one_owner;
        others = is ∙ ap (λ (list : List HandedOut). holding list made) (sym none) ∙ ap shape (sym is);
      };
      receiver = takes.shows.receiver;
      owners = λ k.
          omega (
            arith,
            slots-owners receivers n before after (missed_added misses d) between takes k,
            same k,
            copies-append k (owners between) kept,
            copies-append k (owners d') kept,
          );
    }
