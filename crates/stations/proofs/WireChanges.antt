-- The ends of wires after a put, a delivery, and a new end.
use Rattle.std.proofs.Common.{◌≡◌, ◌≢◌, ◌<◌, ◌≤◌, ◌+◌, ◌-◌, ◌==◌, ◌&&◌, not, Bool, true, false, ℕ, List, Option, Some, None}
use Rattle.std.proofs.Common.{[], ◌∷◌, ◌++◌, length, drop, map, take}
use Rattle.std.proofs.Common.{if◌then◌else◌, option_map, slice_get, slice_set, slice_index_or, inl, inr, refl, sym, ap, ◌∙◌, subst, arith}
use Rattle.std.proofs.Common.{append-nil, length-append}
use Rattle.std.proofs.lemmas.Bool.Decides.{eqb_tells}
use Rattle.std.proofs.lemmas.List.{length-set, take_all}
use Rattle.std.proofs.Math.ListN.{drop_of_length-le}
use Rattle.std.proofs.lemmas.Option.{same_Some, slice_get_within}
use Rattle.circular_buffer.proofs.Places.{slice_get-set_other, slice_get-set_same}
use Rattle.stations.specs.Ends.{EndState, HaveRoom, end_after_put}
use Rattle.stations.specs.LogReaders.{IsReader, MakesRoom, PutsFrame, with_waiting}
use Rattle.stations.specs.WireLogs.{LogEntry, entry_frame, frames_of_others}
use Rattle.stations.specs.WiresView.{HaveLogs, ReadsLog, end_of, ends_from, log_of, unread}
use Rattle.stations.specs.declared.wires.End.{End}
use Rattle.stations.proofs.ClosedLogs.{frames-appended}
use Rattle.stations.proofs.Hosts.{set-itself}
use Rattle.stations.proofs.Places.{same-places}
use Rattle.stations.proofs.WireEnds.{Found, found-log, get-end, log-set_other, log-set_same, room-shown, shows-end}
use Rattle.stations.proofs.WireReaders.{is-end_at}
use Rattle.stations.proofs.Spreading.{same-length}

-- An end of this wire, at which these frames wait.
abbrev pub line_at : ℕ → List (List ℕ) → EndState
line_at wire frames = record { wire = wire; backlog = frames }

equal : (a b : ℕ) → a ≡ b → (a == b) ≡ true
equal a b is = elim (eqb_tells a b) [ inl same ↦ same.0 | inr differs ↦ absurd (differs.1 is) ]

differ : (a b : ℕ) → a ≢ b → (a == b) ≡ false
differ a b other = elim (eqb_tells a b) [ inl same ↦ absurd (other same.1) | inr differs ↦ differs.0 ]

-- The ends before and after a change

-- The k-th end reads the same log as before the change, has a cursor in this log, and counts the frames that wait.
pub record Stays (es : List End) (logs' : List (List LogEntry)) (k : ℕ) (end : End) : Type 0 where
  pub old : End
  pub was : slice_get es k ≡ Some old
  pub wire : end.wire ≡ old.wire
  pub log : end.log ≡ old.log
  pub reads : ReadsLog (log_of logs' end) k end

pub still-logs : (logs logs' : List (List LogEntry)) (es es' : List End) → HaveLogs logs es → length logs ≤ length logs'
    → ((k : ℕ) (end : End) → slice_get es' k ≡ Some end → Stays es logs' k end) → HaveLogs logs' es'
still-logs logs logs' es es' have more each = record {
  there = λ k end is. (let s = each k end is in let old = have.there k s.old s.was in omega (arith, old, s.log, more));
  reads = λ k end is. (each k end is).reads;
  one = λ j k d e of_d of_e.
      let one = each j d of_d in
      let two = each k e of_e in
      let was = have.one j k one.old two.old one.was two.was in (
        λ same. one.log ∙ was.0 (sym one.wire ∙ same ∙ two.wire) ∙ sym two.log,
        λ same. one.wire ∙ was.1 (sym one.log ∙ same ∙ two.log) ∙ sym two.wire,
      );
}

pub no-change : (logs : List (List LogEntry)) (es : List End) → HaveLogs logs es → (k : ℕ) (end : End) → slice_get es k ≡ Some end
    → Stays es logs k end
no-change logs es have k end is = record { old = end; was = is; wire = refl; log = refl; reads = have.reads k end is }

-- A delivery

module _ (logs : List (List LogEntry)) (es : List End) (host : ℕ) (e : End) (has : slice_get es host ≡ Some e) (new : End)
    (wire : new.wire ≡ e.wire) (log : new.log ≡ e.log) where
  pub set-shown : ends_from logs 0 (slice_set es host new) ≡ slice_set (ends_from logs 0 es) host (end_of logs host new)
  set-shown = same-places (ends_from logs 0 (slice_set es host new)) (slice_set (ends_from logs 0 es) host (end_of logs host new))
      (λ k. get-end logs (slice_set es host new) k ∙ elim (eqb_tells k host) [
        | inl same ↦ rw (same.1) (ap (option_map (end_of logs host)) (slice_get-set_same es host new (slice_get_within es host e has))
            ∙ sym (slice_get-set_same (ends_from logs 0 es) host (end_of logs host new)
            (slice_get_within (ends_from logs 0 es) host (end_of logs host e)
            (get-end logs es host ∙ ap (option_map (end_of logs host)) has))))
        | inr differs ↦ ap (option_map (end_of logs k)) (slice_get-set_other es host k new differs.1)
            ∙ sym (get-end logs es k)
            ∙ sym (slice_get-set_other (ends_from logs 0 es) host k (end_of logs host new) differs.1)
      ])

  pub set-logs : HaveLogs logs es → ReadsLog (log_of logs e) host new → HaveLogs logs (slice_set es host new)
  set-logs have reads = still-logs logs logs es (slice_set es host new) have (omega arith) (λ k end is. elim (eqb_tells k host) [
    | inl same ↦ (let at : end ≡ new =
        same_Some end new (sym is ∙ ap (slice_get (slice_set es host new)) same.1
        ∙ slice_get-set_same es host new (slice_get_within es host e has)) in
        record {
          old = e;
          was = ap (slice_get es) same.1 ∙ has;
          wire = ap (λ (x : End). x.wire) at ∙ wire;
          log = ap (λ (x : End). x.log) at ∙ log;
          reads = subst (λ (n : ℕ). ReadsLog (log_of logs end) n end) (sym same.1)
              (subst (λ (x : End). ReadsLog (log_of logs x) host x) (sym at)
              (subst (λ (n : ℕ). ReadsLog (slice_index_or logs n []) host new) (sym log) reads));
        })
    | inr differs ↦ no-change logs es have k end (sym (slice_get-set_other es host k new differs.1) ∙ is)
  ])

-- A put

pub waits-yes : (log sender k : ℕ) (end : End) → k ≢ sender → end.log ≡ log
    → with_waiting log sender k end ≡ record end { waiting = end.waiting + 1 }
waits-yes log sender k end other on =
    ap (λ (b : Bool). if not b && (end.log == log) then record end { waiting = end.waiting + 1 } else end) (differ k sender other)
    ∙ ap (λ (b : Bool). if b then record end { waiting = end.waiting + 1 } else end) (equal end.log log on)

pub waits-own : (log sender k : ℕ) (end : End) → k ≡ sender → with_waiting log sender k end ≡ end
waits-own log sender k end same =
    ap (λ (b : Bool). if not b && (end.log == log) then record end { waiting = end.waiting + 1 } else end) (equal k sender same)

pub waits-off : (log sender k : ℕ) (end : End) → end.log ≢ log → with_waiting log sender k end ≡ end
waits-off log sender k end off = by_case (not (k == sender))
  where
    by_case : (b : Bool) → (if b && (end.log == log) then record end { waiting = end.waiting + 1 } else end) ≡ end
    by_case true = ap (λ (c : Bool). if c then record end { waiting = end.waiting + 1 } else end) (differ end.log log off)
    by_case false = refl

line-yes : (sender wire : ℕ) (frames : List (List ℕ)) (k : ℕ) (end : EndState) → k ≢ sender → end.wire ≡ wire
    → end_after_put sender wire frames k end ≡ record end { backlog = end.backlog ++ frames }
line-yes sender wire frames k end other on =
    ap (λ (b : Bool). if not b && (end.wire == wire) then record end { backlog = end.backlog ++ frames } else end) (differ k sender other)
    ∙ ap (λ (b : Bool). if b then record end { backlog = end.backlog ++ frames } else end) (equal end.wire wire on)

line-own : (sender wire : ℕ) (frames : List (List ℕ)) (k : ℕ) (end : EndState) → k ≡ sender → end_after_put sender wire frames k end ≡ end
line-own sender wire frames k end same =
    ap (λ (b : Bool). if not b && (end.wire == wire) then record end { backlog = end.backlog ++ frames } else end) (equal k sender same)

line-off : (sender wire : ℕ) (frames : List (List ℕ)) (k : ℕ) (end : EndState) → end.wire ≢ wire
    → end_after_put sender wire frames k end ≡ end
line-off sender wire frames k end off = by_case (not (k == sender))
  where
    by_case : (b : Bool) → (if b && (end.wire == wire) then record end { backlog = end.backlog ++ frames } else end) ≡ end
    by_case true = ap (λ (c : Bool). if c then record end { backlog = end.backlog ++ frames } else end) (differ end.wire wire off)
    by_case false = refl

module _ (logs : List (List LogEntry)) (es : List End) (have : HaveLogs logs es) (sender : ℕ) (s : End) (has : slice_get es sender ≡ Some s)
    (room : (k : ℕ) (end : End) → slice_get es k ≡ Some end → k ≢ sender → end.wire ≡ s.wire → end.waiting < 64)
    (frame : List ℕ) (before longer : List LogEntry) (new : List End) (puts : PutsFrame s.log sender frame before longer es new)
    (was : before ≡ log_of logs s) where
  abbrev pub logs-put : List (List LogEntry)
  logs-put = slice_set logs s.log longer

  -- The k-th end after the put.
  abbrev pub end-put : (k : ℕ) → End → End
  end-put k end = with_waiting s.log sender k (record end { cursor = puts.makes.cursors k end })

  there : s.log < length logs
  there = have.there sender s has

  read-other : (k : ℕ) → k ≢ sender → frames_of_others k ((sender, frame) ∷ []) ≡ frame ∷ []
  read-other k other = ap (λ (b : Bool). map (λ (entry : LogEntry). entry.1) (if not b then (sender, frame) ∷ [] else []))
      (differ sender k (λ same. other (sym same)))

  read-own : (k : ℕ) → k ≡ sender → frames_of_others k ((sender, frame) ∷ []) ≡ []
  read-own k same = ap (λ (b : Bool). map (λ (entry : LogEntry). entry.1) (if not b then (sender, frame) ∷ [] else []))
      (equal sender k (sym same))

  -- After the put, the unread frames of an end that reads the log are those before, and then the frame, unless this
  -- end's host sent it.
  reads-more : (k : ℕ) (end : End) → slice_get es k ≡ Some end → end.log ≡ s.log
      → frames_of_others k (drop (puts.makes.cursors k end) longer) ≡ unread logs k end ++ frames_of_others k ((sender, frame) ∷ [])
  reads-more k end is on =
      ap (λ (l : List LogEntry). frames_of_others k (drop (puts.makes.cursors k end) l)) puts.appended
      ∙ frames-appended k (puts.makes.cursors k end) puts.after (sender, frame) (puts.makes.below k end is on)
      ∙ ap (λ (frames : List (List ℕ)). frames ++ frames_of_others k ((sender, frame) ∷ []))
      (puts.makes.same k end is on
      ∙ ap (λ (log : List LogEntry). frames_of_others k (drop end.cursor log)) (was ∙ ap (λ (n : ℕ). slice_index_or logs n []) (sym on)))

  -- After the put, the k-th end reads its log (`ReadsLog`), and shows the state that `end_after_put` states.
  pub record PutAt (k : ℕ) (end : End) : Type 0 where
    pub wire : (end-put k end).wire ≡ end.wire
    pub log : (end-put k end).log ≡ end.log
    pub reads : ReadsLog (log_of logs-put (end-put k end)) k (end-put k end)
    pub shows : end_of logs-put k (end-put k end) ≡ end_after_put sender s.wire (frame ∷ []) k (end_of logs k end)

  -- An end that reads in the log.
  put-on : (k : ℕ) (end : End) → slice_get es k ≡ Some end → end.log ≡ s.log → (n : ℕ) (added : List (List ℕ))
      → end-put k end ≡ record end { cursor = puts.makes.cursors k end; waiting = n }
      → n ≡ end.waiting + length added → n ≤ 64 → frames_of_others k ((sender, frame) ∷ []) ≡ added
      → end_after_put sender s.wire (frame ∷ []) k (end_of logs k end) ≡ record { wire = end.wire; backlog = unread logs k end ++ added }
      → PutAt k end
  put-on k end is on n added at count most what shown =
      let e' : End = record end { cursor = puts.makes.cursors k end; waiting = n } in
      let log : log_of logs-put e' ≡ longer = log-set_same logs s.log longer e' there on in
      let line : frames_of_others k (drop e'.cursor longer) ≡ unread logs k end ++ added =
      reads-more k end is on ∙ ap (λ (frames : List (List ℕ)). unread logs k end ++ frames) what in
      let old = have.reads k end is in
      let reads : ReadsLog longer k e' = record {
        cursor = omega (
          arith,
          puts.makes.below k end is on,
          length-append puts.after ((sender, frame) ∷ []),
          ap (λ (l : List LogEntry). length l) puts.appended,
        );
        counts = omega (
          arith,
          count,
          old.counts,
          ap (λ (frames : List (List ℕ)). length frames) line,
          length-append (unread logs k end) added,
        );
        most = most;
      } in
      record {
        wire = ap (λ (x : End). x.wire) at;
        log = ap (λ (x : End). x.log) at;
        reads = subst (λ (x : End). ReadsLog (log_of logs-put x) k x) (sym at)
            (subst (λ (l : List LogEntry). ReadsLog l k e') (sym log) reads);
        shows = ap (end_of logs-put k) at
            ∙ ap (λ (l : List LogEntry). line_at e'.wire (frames_of_others k (drop e'.cursor l))) log
            ∙ ap (λ (frames : List (List ℕ)). line_at e'.wire frames) line
            ∙ sym shown;
      }

  put-off : (k : ℕ) (end : End) → slice_get es k ≡ Some end → end.log ≢ s.log → PutAt k end
  put-off k end is off =
      let at : end-put k end ≡ end =
      waits-off s.log sender k (record end { cursor = puts.makes.cursors k end }) off
      ∙ ap (λ (n : ℕ). let e : End = record end { cursor = n } in e) (puts.makes.others k end off) in
      let log : log_of logs-put end ≡ log_of logs end = log-set_other logs s.log longer end off in
      record {
        wire = ap (λ (x : End). x.wire) at;
        log = ap (λ (x : End). x.log) at;
        reads = subst (λ (x : End). ReadsLog (log_of logs-put x) k x) (sym at)
            (subst (λ (l : List LogEntry). ReadsLog l k end) (sym log) (have.reads k end is));
        shows = ap (end_of logs-put k) at
            ∙ ap (λ (l : List LogEntry). line_at end.wire (frames_of_others k (drop end.cursor l))) log
            ∙ sym (line-off sender s.wire (frame ∷ []) k (end_of logs k end) (λ on. off ((have.one k sender end s is has).0 on)));
      }

  put-at : (k : ℕ) (end : End) → slice_get es k ≡ Some end → PutAt k end
  put-at k end is = elim (eqb_tells end.log s.log) [
    | inl on ↦ elim (eqb_tells k sender) [
      | inl same ↦ put-on k end is on.1 end.waiting []
          (waits-own s.log sender k (record end { cursor = puts.makes.cursors k end }) same.1)
          (omega arith) (have.reads k end is).most (read-own k same.1)
          (line-own sender s.wire (frame ∷ []) k (end_of logs k end) same.1
          ∙ ap (λ (frames : List (List ℕ)). line_at end.wire frames) (sym (append-nil (unread logs k end))))
      | inr differs ↦ (let of_wire = (have.one k sender end s is has).1 on.1 in
          put-on k end is on.1 (end.waiting + 1) (frame ∷ [])
          (waits-yes s.log sender k (record end { cursor = puts.makes.cursors k end }) differs.1 on.1)
          (omega arith) (let free = room k end is differs.1 of_wire in omega (arith, free)) (read-other k differs.1)
          (line-yes sender s.wire (frame ∷ []) k (end_of logs k end) differs.1 of_wire))
    ]
    | inr off ↦ put-off k end is off.1
  ]

  pub of-each : (k : ℕ) → slice_get new k ≡ option_map (end-put k) (slice_get es k)
  of-each k = puts.each k ∙ ap (option_map (with_waiting s.log sender k)) (puts.makes.each k) ∙ twice (slice_get es k)
    where
      twice : (o : Option End) → option_map (with_waiting s.log sender k)
          (option_map (λ (end : End). record end { cursor = puts.makes.cursors k end }) o)
          ≡ option_map (end-put k) o
      twice None = refl
      twice (Some end) = refl

  pub length-put : length new ≡ length es
  length-put = same-length end-put es new of-each

  pub put-logs : HaveLogs logs-put new
  put-logs = still-logs logs logs-put es new have (let same = length-set logs s.log longer in omega (arith, same))
      (λ k end is. from k end (slice_get es k) refl (sym (of-each k) ∙ is))
    where
      from : (k : ℕ) (end : End) (o : Option End) → slice_get es k ≡ o → option_map (end-put k) o ≡ Some end → Stays es logs-put k end
      from k end None at is = absurd (let bad : None ≡ Some end = is in cc)
      from k end (Some old) at is =
          let put = put-at k old at in
          let same : end-put k old ≡ end = same_Some (end-put k old) end is in
          record {
            old = old;
            was = at;
            wire = ap (λ (x : End). x.wire) (sym same) ∙ put.wire;
            log = ap (λ (x : End). x.log) (sym same) ∙ put.log;
            reads = subst (λ (x : End). ReadsLog (log_of logs-put x) k x) same put.reads;
          }

  pub put-shown : (k : ℕ) → slice_get (ends_from logs-put 0 new) k
      ≡ option_map (end_after_put sender s.wire (frame ∷ []) k) (slice_get (ends_from logs 0 es) k)
  put-shown k =
      get-end logs-put new k ∙ ap (option_map (end_of logs-put k)) (of-each k)
      ∙ from (slice_get es k) refl
      ∙ ap (option_map (end_after_put sender s.wire (frame ∷ []) k)) (sym (get-end logs es k))
    where
      from : (o : Option End) → slice_get es k ≡ o → option_map (end_of logs-put k) (option_map (end-put k) o)
          ≡ option_map (end_after_put sender s.wire (frame ∷ []) k) (option_map (end_of logs k) o)
      from None at = refl
      from (Some end) at = ap (λ (x : EndState). Some x) (put-at k end at).shows

pub room_made : (log sender : ℕ) (before after : List LogEntry) (old made : List End) → MakesRoom log before after old made
    → ((k : ℕ) (end : End) → slice_get old k ≡ Some end → k ≢ sender → end.log ≡ log → end.waiting < 64)
    → (k : ℕ) (end : End) → slice_get made k ≡ Some end → k ≢ sender → end.log ≡ log → end.waiting < 64
room_made log sender before after old made makes room k end is other on = from (slice_get old k) refl (sym (makes.each k) ∙ is)
  where
    from : (o : Option End) → slice_get old k ≡ o
        → option_map (λ (e : End). record e { cursor = makes.cursors k e }) o ≡ Some end → end.waiting < 64
    from None at there = absurd (let bad : None ≡ Some end = there in cc)
    from (Some e) at there =
        let same = same_Some (record e { cursor = makes.cursors k e }) end there in
        let free = room k e at other (ap (λ (x : End). x.log) same ∙ on) in
        let count = ap (λ (x : End). x.waiting) same in
        omega (arith, free, count)

-- The preconditions of a put

pub same-end : {logs : List (List LogEntry)} {es : List End} {ss : List EndState} {k : ℕ} {e other : End} → Found logs es ss k e
    → Found logs es ss k other → e ≡ other
same-end {e = e} {other = other} found again = same_Some e other (sym found.has ∙ again.has)

pub puts-there : {logs : List (List LogEntry)} {es : List End} {ss : List EndState} {k : ℕ} {e : End} → Found logs es ss k e
    → IsReader e.log es k
puts-there {es = es} {k = k} {e = e} found = record {
  there = slice_get_within es k e found.has;
  reads = ap (λ (x : End). x.log) (is-end_at es k e found.has);
}

pub puts-reads : {logs : List (List LogEntry)} {es : List End} {ss : List EndState} {sender : ℕ} {e : End} {log : List LogEntry}
    → Found logs es ss sender e → log ≡ slice_index_or logs e.log log → (k : ℕ) (end : End) → slice_get es k ≡ Some end
    → end.log ≡ e.log → ReadsLog log k end
puts-reads {logs} found is k end at on =
    subst (λ (l : List LogEntry). ReadsLog l k end)
    (ap (λ (n : ℕ). slice_index_or logs n []) on ∙ sym (found-log found is)) (found.have.reads k end at)

-- The other ends of the sender's wire have room.
abbrev pub MayPut : (ss : List EndState) (sender : ℕ) → Type 0
MayPut ss sender = (end : EndState) → slice_get ss sender ≡ Some end → HaveRoom ss sender end.wire

is-shown : {logs : List (List LogEntry)} {es : List End} {ss : List EndState} {k : ℕ} {e : End} → Found logs es ss k e
    → slice_get ss k ≡ Some (end_of logs k e)
is-shown {logs} {es} {k = k} found =
    ap (λ (l : List EndState). slice_get l k) (sym found.shown) ∙ get-end logs es k ∙ ap (option_map (end_of logs k)) found.has

pub puts-room : {logs : List (List LogEntry)} {es : List End} {ss : List EndState} {sender : ℕ} {e : End} → Found logs es ss sender e
    → MayPut ss sender → (k : ℕ) (end : End) → slice_get es k ≡ Some end → k ≢ sender → end.wire ≡ e.wire → end.waiting < 64
puts-room {logs} {es} {ss} {sender} {e} found may k end at other same =
    let one = is-end_at es k end at in
    subst (λ (x : End). x.waiting < 64) one
    ((room-shown logs es ss found.shown sender e.wire found.have.reads).1 (may (end_of logs sender e) (is-shown found)) k
    (slice_get_within es k end at) other (ap (λ (x : End). x.wire) one ∙ same))

-- The ends and the logs after a put.
pub record HavePut (logs : List (List LogEntry)) (es : List End) (ss : List EndState) (sender : ℕ) (frame : List ℕ) (new : List End)
    : Type 0 where
  pub count : length new ≡ length es
  pub have : HaveLogs logs new
  pub shown : (end : EndState) → slice_get ss sender ≡ Some end → (k : ℕ)
      → slice_get (ends_from logs 0 new) k ≡ option_map (end_after_put sender end.wire (frame ∷ []) k) (slice_get ss k)

pub have-put : {logs : List (List LogEntry)} {es : List End} {ss : List EndState} {sender : ℕ} {e : End} {frame : List ℕ}
    {before longer : List LogEntry} {new : List End} → Found logs es ss sender e → MayPut ss sender
    → before ≡ slice_index_or logs e.log before → PutsFrame e.log sender frame before longer es new
    → HavePut (slice_set logs e.log longer) es ss sender frame new
have-put {logs} {es} {ss} {sender} {e} {frame} {before} {longer} {new} found may is puts =
    let room = puts-room found may in
    let was = found-log found is in
    record {
      count = length-put logs es found.have sender e found.has room frame before longer new puts was;
      have = put-logs logs es found.have sender e found.has room frame before longer new puts was;
      shown = λ end is k. put-shown logs es found.have sender e found.has room frame before longer new puts was k
          ∙ ap (λ (l : List EndState). option_map (end_after_put sender e.wire (frame ∷ []) k) (slice_get l k)) found.shown
          ∙ ap (λ (on : EndState). option_map (end_after_put sender on.wire (frame ∷ []) k) (slice_get ss k)) (shows-end found is);
    }

pub written-back : (new es : List End) (n : ℕ) → length new ≡ length es → n ≡ length es → take n (new ++ drop (length new) es) ≡ new
written-back new es n same count =
    ap (λ (l : List End). take n (new ++ l)) (drop_of_length-le es (omega (arith, same)))
    ∙ ap (take n) (append-nil new)
    ∙ take_all n new (omega (arith, same, count))

-- The end after the frame at the next waiting place was delivered
module _ (log : List LogEntry) (host : ℕ) (e : End) (place : ℕ) (below : place < length log)
    (first : frames_of_others host (drop e.cursor log) ≡ entry_frame place log ∷ frames_of_others host (drop (place + 1) log)) where
  abbrev pub read-on : End
  read-on = record e { cursor = place + 1; waiting = e.waiting - 1 }

  pub had-one : ReadsLog log host e → 1 ≤ e.waiting
  had-one reads =
      let count = reads.counts in
      omega (arith, count, ap (λ (l : List (List ℕ)). length l) first)

  pub reads-on : ReadsLog log host e → ReadsLog log host read-on
  reads-on reads = record {
    cursor = omega (arith, below);
    counts = (let count = reads.counts in omega (arith, count, ap (λ (l : List (List ℕ)). length l) first));
    most = (let most = reads.most in omega (arith, most));
  }

  pub line-on : frames_of_others host (drop (place + 1) log) ≡ drop 1 (frames_of_others host (drop e.cursor log))
  line-on = sym (ap (drop 1) first)

-- The ends and the logs after a host has read a frame.
pub record HasRead (logs : List (List LogEntry)) (es : List End) (ss : List EndState) (host : ℕ) (e new : End) : Type 0 where
  pub waits : 1 ≤ e.waiting
  pub have : HaveLogs logs (slice_set es host new)
  pub shown : (end : EndState) → slice_get ss host ≡ Some end
      → ends_from logs 0 (slice_set es host new) ≡ slice_set ss host (record end { backlog = drop 1 end.backlog })

pub has-read : {logs : List (List LogEntry)} {es : List End} {ss : List EndState} {host place : ℕ} {first e : End} {log : List LogEntry}
    → Found logs es ss host first → Found logs es ss host e → log ≡ slice_index_or logs first.log log → place < length log
    → frames_of_others host (drop first.cursor log) ≡ entry_frame place log ∷ frames_of_others host (drop (place + 1) log)
    → HasRead logs es ss host e (record e { cursor = place + 1; waiting = e.waiting - 1 })
has-read {logs} {es} {ss} {host} {place} {first} {e} {log} was found is below oldest =
    let same = same-end was found in
    let at = found-log was is ∙ ap (log_of logs) same in
    let next = subst (λ (x : End). frames_of_others host (drop x.cursor log)
    ≡ entry_frame place log ∷ frames_of_others host (drop (place + 1) log)) same oldest in
    let new = read-on log host e place below next in
    let reads = subst (λ (l : List LogEntry). ReadsLog l host e) (sym at) (found.have.reads host e found.has) in
    record {
      waits = had-one log host e place below next reads;
      have = set-logs logs es host e found.has new refl refl found.have
          (subst (λ (l : List LogEntry). ReadsLog l host new) at (reads-on log host e place below next reads));
      shown = λ end is.
          let old = shows-end found is in
          let line : frames_of_others host (drop (place + 1) (log_of logs new)) ≡ drop 1 end.backlog =
          ap (λ (l : List LogEntry). frames_of_others host (drop (place + 1) l)) (sym at)
          ∙ line-on log host e place below next
          ∙ ap (λ (l : List LogEntry). drop 1 (frames_of_others host (drop e.cursor l))) at
          ∙ ap (λ (s : EndState). drop 1 s.backlog) old in
          set-shown logs es host e found.has new refl refl
          ∙ ap (λ (l : List EndState). slice_set l host
          (line_at e.wire (frames_of_others host (drop (place + 1) (log_of logs new))))) found.shown
          ∙ ap (λ (frames : List (List ℕ)). slice_set ss host (line_at e.wire frames)) line
          ∙ ap (λ (wire : ℕ). slice_set ss host (line_at wire (drop 1 end.backlog))) (ap (λ (s : EndState). s.wire) old);
    }

-- If no frame waits, the end doesn't change.
pub stays-empty : (ss : List EndState) (host : ℕ) (end : EndState) → slice_get ss host ≡ Some end → end.backlog ≡ []
    → ss ≡ slice_set ss host (record end { backlog = drop 1 end.backlog })
stays-empty ss host end is none =
    sym (set-itself ss host end is)
    ∙ ap (λ (l : List (List ℕ)). slice_set ss host (record end { backlog = l })) (none ∙ ap (drop 1) (sym none))
