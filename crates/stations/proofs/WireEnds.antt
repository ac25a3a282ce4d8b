-- The states of the ends of wires, by the logs and by the ends' cursors.
use Rattle.std.proofs.Common.{◌≡◌, ◌≢◌, ◌<◌, ◌+◌, ◌-◌, ◌↔◌, zero, suc, Bool, IsTrue, ℕ, List, Some, [], ◌∷◌, ◌++◌, length, length-append}
use Rattle.std.proofs.Common.{drop, take, option_map, slice_get, slice_set, slice_index_or, refl, sym, ap, subst, ◌∙◌, arith}
use Rattle.std.proofs.lemmas.List.{get_or-set_other, get_or-set_same, get_or_append_left, get_or_default, take-append-drop}
use Rattle.std.proofs.lemmas.Option.{same_Some, slice_get-get_or, slice_get_within}
use Rattle.std.proofs.Math.Seq.{drop-append-add}
use Rattle.stations.specs.Ends.{EndState, HaveRoom}
use Rattle.stations.specs.LogReaders.{OthersHaveRoom, end_at}
use Rattle.stations.specs.WireLogs.{LogEntry, entry_frame, frames_of_others, last_of_others}
use Rattle.stations.specs.WiresView.{HaveLogs, ReadsLog, end_of, ends_from, log_of}
use Rattle.stations.specs.declared.wires.End.{End}
use Rattle.stations.proofs.ClosedLogs.{frames-append}
use Rattle.stations.proofs.WireReaders.{has-end_at}

get-from : (logs : List (List LogEntry)) (n : ℕ) (es : List End) (k : ℕ)
    → slice_get (ends_from logs n es) k ≡ option_map (end_of logs (n + k)) (slice_get es k)
get-from logs n [] k = refl
get-from logs n (e ∷ es) zero = let same : n ≡ n + 0 = omega arith in ap (λ (m : ℕ). Some (end_of logs m e)) same
get-from logs n (e ∷ es) (suc k) =
    let same : suc n + k ≡ n + suc k = omega arith in
    get-from logs (suc n) es k ∙ ap (λ (m : ℕ). option_map (end_of logs m) (slice_get es k)) same

pub get-end : (logs : List (List LogEntry)) (es : List End) (k : ℕ)
    → slice_get (ends_from logs 0 es) k ≡ option_map (end_of logs k) (slice_get es k)
get-end logs es k =
    let same : 0 + k ≡ k = omega arith in
    get-from logs 0 es k ∙ ap (λ (m : ℕ). option_map (end_of logs m) (slice_get es k)) same

length-from : (logs : List (List LogEntry)) (n : ℕ) (es : List End) → length (ends_from logs n es) ≡ length es
length-from logs n [] = refl
length-from logs n (e ∷ es) = ap suc (length-from logs (suc n) es)

length-ends : (logs : List (List LogEntry)) (es : List End) (ss : List EndState) → ends_from logs 0 es ≡ ss → length ss ≡ length es
length-ends logs es ss shown = ap (λ (l : List EndState). length l) (sym shown) ∙ length-from logs 0 es

pub below-ends : {logs : List (List LogEntry)} {es : List End} {ss : List EndState} {k : ℕ} → ends_from logs 0 es ≡ ss → HaveLogs logs es
    → k < length ss → k < length es
below-ends {logs} {es} {ss} shown have below = omega (arith, below, length-ends logs es ss shown)

-- The k-th end in the code is `e`.
pub record Found (logs : List (List LogEntry)) (es : List End) (ss : List EndState) (k : ℕ) (e : End) : Type 0 where
  pub shown : ends_from logs 0 es ≡ ss
  pub have : HaveLogs logs es
  pub has : slice_get es k ≡ Some e

pub found-at : {logs : List (List LogEntry)} {es : List End} {ss : List EndState} {k : ℕ} {e : End} → ends_from logs 0 es ≡ ss
    → HaveLogs logs es → k < length ss → e ≡ slice_index_or es k e → Found logs es ss k e
found-at {es = es} {k = k} {e = e} shown have below is = record {
  shown = shown;
  have = have;
  has = slice_get-get_or es k e (below-ends shown have below) ∙ ap (λ (x : End). Some x) (sym is);
}

shown-end : (logs : List (List LogEntry)) (es : List End) (ss : List EndState) (k : ℕ) (e : End) (end : EndState)
    → ends_from logs 0 es ≡ ss → slice_get es k ≡ Some e → slice_get ss k ≡ Some end → end_of logs k e ≡ end
shown-end logs es ss k e end shown has is =
    same_Some (end_of logs k e) end
    (ap (option_map (end_of logs k)) (sym has) ∙ sym (get-end logs es k) ∙ ap (λ (l : List EndState). slice_get l k) shown ∙ is)

pub shows-end : {logs : List (List LogEntry)} {es : List End} {ss : List EndState} {k : ℕ} {e : End} {end : EndState}
    → Found logs es ss k e → slice_get ss k ≡ Some end → end_of logs k e ≡ end
shows-end {logs} {es} {ss} {k} {e} {end} found is = shown-end logs es ss k e end found.shown found.has is

pub log-below : {logs : List (List LogEntry)} {es : List End} {ss : List EndState} {k : ℕ} {e : End} → Found logs es ss k e
    → e.log < length logs
log-below {k = k} {e = e} found = found.have.there k e found.has

pub found-log : {logs : List (List LogEntry)} {es : List End} {ss : List EndState} {k : ℕ} {e : End} {log : List LogEntry}
    → Found logs es ss k e → log ≡ slice_index_or logs e.log log → log ≡ log_of logs e
found-log {logs} {e = e} {log = log} found is = is ∙ get_or_default logs e.log log [] (log-below found)

-- The frames that wait at the end are read from its log.
pub line-read : {logs : List (List LogEntry)} {es : List End} {ss : List EndState} {k : ℕ} {e : End} {log : List LogEntry} {end : EndState}
    → Found logs es ss k e → log ≡ slice_index_or logs e.log log → slice_get ss k ≡ Some end
    → frames_of_others k (drop e.cursor log) ≡ end.backlog
line-read {k = k} {e = e} found is shown-end =
    ap (λ (l : List LogEntry). frames_of_others k (drop e.cursor l)) (found-log found is)
    ∙ ap (λ (s : EndState). s.backlog) (shows-end found shown-end)

module _ (logs : List (List LogEntry)) (es : List End) (ss : List EndState) (shown : ends_from logs 0 es ≡ ss) where
  -- The ends as counted by the code have room exactly if the ends in contracts have room.
  pub room-shown : (sender wire : ℕ) → ((k : ℕ) (e : End) → slice_get es k ≡ Some e → ReadsLog (log_of logs e) k e)
      → OthersHaveRoom (length es) sender wire es ↔ HaveRoom ss sender wire
  room-shown sender wire reads = (forth, back)
    where
      forth : OthersHaveRoom (length es) sender wire es → HaveRoom ss sender wire
      forth room k end is other on =
          let below : k < length es = omega (arith, length-ends logs es ss shown, slice_get_within ss k end is) in
          let e = end_at es k in
          let has = has-end_at es k below in
          let same = shown-end logs es ss k e end shown has is in
          let counts = (reads k e has).counts in
          let lines = ap (λ (s : EndState). length s.backlog) same in
          let free = room k below other (ap (λ (s : EndState). s.wire) same ∙ on) in
          omega (arith, free, counts, lines)

      back : HaveRoom ss sender wire → OthersHaveRoom (length es) sender wire es
      back room k below other on =
          let e = end_at es k in
          let has = has-end_at es k below in
          let is : slice_get ss k ≡ Some (end_of logs k e) =
          ap (λ (l : List EndState). slice_get l k) (sym shown) ∙ get-end logs es k ∙ ap (option_map (end_of logs k)) has in
          let counts = (reads k e has).counts in
          let free = room k (end_of logs k e) is other on in
          omega (arith, free, counts)

-- Whether the other ends of an end's wire have room, as counted by the code and in contracts.
pub has-room : {logs : List (List LogEntry)} {es all : List End} {ss : List EndState} {sender : ℕ} {e : End} {free : Bool}
    → Found logs es ss sender e → all ≡ es → IsTrue free ↔ OthersHaveRoom (length all) sender e.wire all
    → (end : EndState) → slice_get ss sender ≡ Some end → IsTrue free ↔ HaveRoom ss sender end.wire
has-room {logs} {es} {all} {ss} {sender} {e} {free} found same tells end is =
    let told = subst (λ (ends : List End). IsTrue free ↔ OthersHaveRoom (length ends) sender e.wire ends) same tells in
    let shown = room-shown logs es ss found.shown sender e.wire found.have.reads in
    subst (λ (wire : ℕ). IsTrue free ↔ HaveRoom ss sender wire) (ap (λ (s : EndState). s.wire) (shows-end found is))
    ((λ yes. shown.0 (told.0 yes)), (λ room. told.1 (shown.1 room)))

-- The frame of the entry at a place.
pub entry-read : {log all : List LogEntry} {place : ℕ} (other : LogEntry) → all ≡ log → place < length log
    → entry_frame place log ≡ (slice_index_or all place other).1
entry-read {log} {place = place} other same below =
    ap (λ (e : LogEntry). e.1)
    (sym (ap (λ (entries : List LogEntry). slice_index_or entries place other) same ∙ get_or_default log place other (0, []) below))

pub waits-last : (log : List LogEntry) (k cursor : ℕ) → last_of_others k (length (frames_of_others k (drop cursor log))) log
    ≡ frames_of_others k (drop cursor log)
waits-last log k cursor =
    let earlier = frames_of_others k (take cursor log) in
    let waiting = frames_of_others k (drop cursor log) in
    let all : frames_of_others k log ≡ earlier ++ waiting =
    ap (frames_of_others k) (sym (take-append-drop cursor log)) ∙ frames-append k (take cursor log) (drop cursor log) in
    let count : length (frames_of_others k log) - length waiting ≡ length earlier + 0 =
    omega (arith, ap (λ (l : List (List ℕ)). length l) all, length-append earlier waiting) in
    ap (λ (n : ℕ). drop n (frames_of_others k log)) count
    ∙ ap (drop (length earlier + 0)) all
    ∙ drop-append-add earlier waiting 0

-- A log is replaced or appended

pub log-set_other : (logs : List (List LogEntry)) (log : ℕ) (l : List LogEntry) (e : End) → e.log ≢ log
    → log_of (slice_set logs log l) e ≡ log_of logs e
log-set_other logs log l e other = get_or-set_other logs log e.log l [] other

pub log-set_same : (logs : List (List LogEntry)) (log : ℕ) (l : List LogEntry) (e : End) → log < length logs → e.log ≡ log
    → log_of (slice_set logs log l) e ≡ l
log-set_same logs log l e there on = ap (λ (n : ℕ). slice_index_or (slice_set logs log l) n []) on ∙ get_or-set_same logs log l [] there

pub log-more : (logs more : List (List LogEntry)) (e : End) → e.log < length logs → log_of (logs ++ more) e ≡ log_of logs e
log-more logs more e there = get_or_append_left logs more [] e.log there
