-- `HaveLogs` for more logs, and for a new end of a wire.
use Rattle.std.proofs.Common.{◌≡◌, ◌+◌, ◌<◌, ◌⊎◌, ◌↔◌, zero, suc, ℕ, List, Option, Some, None, [], ◌∷◌, ◌++◌, length, drop}
use Rattle.std.proofs.Common.{option_map, slice_get, slice_index_or, inl, inr, refl, sym, ap, ◌∙◌, subst, arith, length-append}
use Rattle.std.specs.Prelude.{Err, Ok, OnErr, Result}
use Rattle.std.proofs.lemmas.List.{get_or_default}
use Rattle.std.proofs.lemmas.Option.{same_Some, slice_get_within}
use Rattle.std.proofs.Math.ListN.{drop_of_length-le}
use Rattle.stations.specs.Ends.{EndState}
use Rattle.stations.specs.LogReaders.{IsLogFor, KeepsLogs, end_at}
use Rattle.stations.specs.WireLogs.{LogEntry, frames_of_others}
use Rattle.stations.specs.WiresView.{HaveLogs, ReadsLog, end_of, ends_from, log_of}
use Rattle.stations.specs.declared.wires.End.{End}
use Rattle.stations.proofs.Places.{same-places}
use Rattle.stations.proofs.WireChanges.{line_at, still-logs}
use Rattle.stations.proofs.WireEnds.{get-end, log-more}
use Rattle.stations.proofs.WireReaders.{has-end_at, is-end_at}

pub on_err : {T E : Type 0} (result : Result T E) (P : Type 0) → P → OnErr result P
on_err (Ok value) P holds = tt
on_err (Err error) P holds = holds

-- Each end reads a log that exists, and two ends are ends of one wire exactly if they read one log.
pub logs-there : {logs : List (List LogEntry)} {es : List End} → HaveLogs logs es → (k : ℕ) → k < length es
    → (end_at es k).log < length logs
logs-there {es = es} have k below = have.there k (end_at es k) (has-end_at es k below)

pub one-log : {logs : List (List LogEntry)} {es : List End} → HaveLogs logs es → (j k : ℕ) → j < length es → k < length es
    → (end_at es j).wire ≡ (end_at es k).wire ↔ ((end_at es j).log ≡ (end_at es k).log)
one-log {es = es} have j k one two =
    have.one j k (end_at es j) (end_at es k) (has-end_at es j one) (has-end_at es k two)

-- More logs than before
module _ (logs more : List (List LogEntry)) (es : List End) (have : HaveLogs logs es) where
  pub more-logs : HaveLogs (logs ++ more) es
  more-logs = still-logs logs (logs ++ more) es es have (omega (arith, length-append logs more)) (λ k end is. record {
    old = end;
    was = is;
    wire = refl;
    log = refl;
    reads = subst (λ (l : List LogEntry). ReadsLog l k end) (sym (log-more logs more end (have.there k end is))) (have.reads k end is);
  })

  pub more-shown : ends_from (logs ++ more) 0 es ≡ ends_from logs 0 es
  more-shown = same-places (ends_from (logs ++ more) 0 es) (ends_from logs 0 es)
      (λ k. get-end (logs ++ more) es k ∙ at k (slice_get es k) refl ∙ sym (get-end logs es k))
    where
      at : (k : ℕ) (o : Option End) → slice_get es k ≡ o → option_map (end_of (logs ++ more) k) o ≡ option_map (end_of logs k) o
      at k None is = refl
      at k (Some end) is =
          ap (λ (l : List LogEntry). Some (line_at end.wire (frames_of_others k (drop end.cursor l))))
          (log-more logs more end (have.there k end is))

-- The next end

from-append : (es : List End) (new : End) (k : ℕ) (end : End) → slice_get (es ++ new ∷ []) k ≡ Some end
    → (slice_get es k ≡ Some end) ⊎ (end ≡ new)
from-append [] new zero end is = inr (same_Some end new (sym is))
from-append [] new (suc k) end is = absurd (let bad : None ≡ Some end = is in cc)
from-append (e ∷ es) new zero end is = inl is
from-append (e ∷ es) new (suc k) end is = from-append es new k end is

pub append-shown : (logs : List (List LogEntry)) (n : ℕ) (es : List End) (new : End)
    → ends_from logs n (es ++ new ∷ []) ≡ ends_from logs n es ++ end_of logs (n + length es) new ∷ []
append-shown logs n [] new = let same : n ≡ n + 0 = omega arith in ap (λ (k : ℕ). end_of logs k new ∷ []) same
append-shown logs n (e ∷ es) new =
    let same : suc n + length es ≡ n + suc (length es) = omega arith in
    ap (λ (l : List EndState). end_of logs n e ∷ l)
    (append-shown logs (suc n) es new ∙ ap (λ (k : ℕ). ends_from logs (suc n) es ++ end_of logs k new ∷ []) same)

module _ (logs : List (List LogEntry)) (es : List End) (have : HaveLogs logs es) (wire log : ℕ) (is_for : IsLogFor wire es logs log)
    (new : End) (on : new.wire ≡ wire) (reads : new.log ≡ log) (at_end : new.cursor ≡ length (log_of logs new))
    (none : new.waiting ≡ 0) where
  nothing : drop new.cursor (log_of logs new) ≡ []
  nothing = drop_of_length-le (log_of logs new) (omega (arith, at_end))

  pub append-logs : HaveLogs logs (es ++ new ∷ [])
  append-logs = record {
    there = λ k end is. elim (from-append es new k end is) [
      | inl old ↦ have.there k end old
      | inr same ↦ (let there = is_for.there in let at = ap (λ (x : End). x.log) same in omega (arith, there, at, reads))
    ];
    reads = λ k end is. elim (from-append es new k end is) [
      | inl old ↦ have.reads k end old
      | inr same ↦ subst (λ (x : End). ReadsLog (log_of logs x) k x) (sym same) (record {
        cursor = omega (arith, at_end);
        counts = none ∙ sym (ap (λ (l : List LogEntry). length (frames_of_others k l)) nothing);
        most = omega (arith, none);
      })
    ];
    one = λ j k d e of_d of_e. elim (from-append es new j d of_d) [
      | inl old ↦ elim (from-append es new k e of_e) [
        | inl other ↦ have.one j k d e old other
        | inr same ↦ (let one = old-new j d old in (
          λ wires. one.0 (wires ∙ ap (λ (x : End). x.wire) same) ∙ sym (ap (λ (x : End). x.log) same),
          λ logs'. one.1 (logs' ∙ ap (λ (x : End). x.log) same) ∙ sym (ap (λ (x : End). x.wire) same),
        ))
      ]
      | inr same ↦ elim (from-append es new k e of_e) [
        | inl old ↦ (let one = old-new k e old in (
          λ wires. ap (λ (x : End). x.log) same ∙ sym (one.0 (sym wires ∙ ap (λ (x : End). x.wire) same)),
          λ logs'. ap (λ (x : End). x.wire) same ∙ sym (one.1 (sym logs' ∙ ap (λ (x : End). x.log) same)),
        ))
        | inr other ↦ (λ wires. ap (λ (x : End). x.log) (same ∙ sym other), λ logs'. ap (λ (x : End). x.wire) (same ∙ sym other))
      ]
    ];
  }
    where
      old-new : (k : ℕ) (end : End) → slice_get es k ≡ Some end → end.wire ≡ new.wire ↔ (end.log ≡ new.log)
      old-new k end is =
          let at = is-end_at es k end is in
          let one = is_for.one k (slice_get_within es k end is) in (
            λ wires. sym (ap (λ (x : End). x.log) at) ∙ one.0 (ap (λ (x : End). x.wire) at ∙ wires ∙ on) ∙ sym reads,
            λ logs'. sym (ap (λ (x : End). x.wire) at) ∙ one.1 (ap (λ (x : End). x.log) at ∙ logs' ∙ reads) ∙ sym on,
          )

  pub connected-shown : ends_from logs 0 (es ++ new ∷ []) ≡ ends_from logs 0 es ++ record { wire = wire; backlog = [] } ∷ []
  connected-shown =
      append-shown logs 0 es new
      ∙ ap (λ (frames : List (List ℕ)). ends_from logs 0 es ++ record { wire = new.wire; backlog = frames } ∷ [])
      (ap (λ (l : List LogEntry). frames_of_others (0 + length es) l) nothing)
      ∙ ap (λ (w : ℕ). ends_from logs 0 es ++ record { wire = w; backlog = [] } ∷ []) on

-- The logs and the ends after an end of the wire was appended, at which no frame waits.
pub record Connected (logs : List (List LogEntry)) (ends : List End) (ss : List EndState) (wire : ℕ) : Type 0 where
  pub have : HaveLogs logs ends
  pub shown : ends_from logs 0 ends ≡ ss ++ record { wire = wire; backlog = [] } ∷ []

pub connects : {old logs : List (List LogEntry)} {es given ends : List End} {ss : List EndState} {wire log cursor : ℕ}
    {entries : List LogEntry} → ends_from old 0 es ≡ ss → HaveLogs old es → KeepsLogs old logs → given ≡ es
    → IsLogFor wire given logs log → entries ≡ slice_index_or logs log entries → cursor ≡ length entries
    → ends ≡ es ++ record { wire = wire; log = log; cursor = cursor; waiting = 0 } ∷ [] → Connected logs ends ss wire
connects {old} {logs} {es} {given} {ends} {ss} {wire} {log} {cursor} {entries} shown have kept same reads index long pushed =
    let new : End = record { wire = wire; log = log; cursor = cursor; waiting = 0 } in
    let more = subst (λ (l : List (List LogEntry)). HaveLogs l es) (sym kept.is) (more-logs old kept.more es have) in
    let is_for = subst (λ (l : List End). IsLogFor wire l logs log) same reads in
    let at_end : cursor ≡ length (log_of logs new) =
    long ∙ ap (λ (l : List LogEntry). length l) (index ∙ get_or_default logs log entries [] is_for.there) in
    record {
      have = subst (HaveLogs logs) (sym pushed) (append-logs logs es more wire log is_for new refl refl at_end refl);
      shown = ap (ends_from logs 0) pushed
          ∙ connected-shown logs es more wire log is_for new refl refl at_end refl
          ∙ ap (λ (l : List EndState). l ++ record { wire = wire; backlog = [] } ∷ [])
          (ap (λ (l : List (List LogEntry)). ends_from l 0 es) kept.is ∙ more-shown old kept.more es have ∙ shown);
    }
