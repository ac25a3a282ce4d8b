-- `MakesRoom` for a log that had room, and for a full log after `close_up`.
use Rattle.std.proofs.Common.{◌≡◌, ◌≢◌, ◌<◌, ◌≤◌, ◌-◌, ◌==◌, Bool, true, false, ℕ, List, Option, Some, None, [], length, drop}
use Rattle.std.proofs.Common.{if◌then◌else◌, option_map, slice_get, inl, inr, refl, sym, ap, ◌∙◌, subst, arith}
use Rattle.std.specs.Prelude.{filter}
use Rattle.std.proofs.lemmas.Bool.Decides.{eqb_tells}
use Rattle.std.proofs.lemmas.List.{length-drop, length-map}
use Rattle.std.proofs.lemmas.Option.{same_Some, slice_get-get_or, slice_get_within}
use Rattle.stations.specs.LogReaders.{IsLeastCursor, IsReader, IsSlowest, MakesRoom, end_at, moved_cursor}
use Rattle.stations.specs.WireLogs.{LogEntry, closed_up, frames_of_others, is_of_other, log_entries}
use Rattle.stations.specs.WiresView.{ReadsLog}
use Rattle.stations.specs.declared.wires.End.{End}
use Rattle.stations.proofs.ClosedLogs.{few, kept-waits, long, others-read, slowest-reads, two-read}

pub is-end_at : (ends : List End) (k : ℕ) (end : End) → slice_get ends k ≡ Some end → end_at ends k ≡ end
is-end_at ends k end is =
    same_Some (end_at ends k) end (sym (slice_get-get_or ends k (end_at [] k) (slice_get_within ends k end is)) ∙ is)

pub has-end_at : (ends : List End) (k : ℕ) → k < length ends → slice_get ends k ≡ Some (end_at ends k)
has-end_at ends k below = slice_get-get_or ends k (end_at [] k) below

pub had_room : (log : ℕ) (before : List LogEntry) (ends : List End)
    → ((k : ℕ) (end : End) → slice_get ends k ≡ Some end → end.log ≡ log → ReadsLog before k end) → length before < log_entries
    → MakesRoom log before before ends ends
had_room log before ends reads room = record {
  room = room;
  cursors = λ k end. end.cursor;
  each = λ k. same (slice_get ends k);
  others = λ k end other. refl;
  below = λ k end is on. (reads k end is on).cursor;
  same = λ k end is on. refl;
}
  where
    same : (o : Option End) → o ≡ option_map (λ (end : End). record end { cursor = end.cursor }) o
    same None = refl
    same (Some end) = refl

module _ (log : ℕ) (before : List LogEntry) (ends : List End) (reader second : ℕ)
    (reads : (k : ℕ) (end : End) → slice_get ends k ≡ Some end → end.log ≡ log → ReadsLog before k end)
    (slow : IsSlowest (length ends) log ends reader) (next : IsLeastCursor (length ends) log reader (length before) ends second) where
  abbrev pub first : ℕ
  first = (end_at ends reader).cursor

  reads-at : (k : ℕ) → IsReader log ends k → ReadsLog before k (end_at ends k)
  reads-at k is = reads k (end_at ends k) (has-end_at ends k is.there) is.reads

  pub in_order : first ≤ second
  in_order = elim next.found [
    | inl none ↦ (let there = (reads-at reader slow.is).cursor in omega (arith, none, there))
    | inr other ↦ (let least = slow.least other.k other.is.there other.is.reads in omega (arith, least, other.at))
  ]

  abbrev pub after : List LogEntry
  after = closed_up reader first second before

  counted : (k : ℕ) (entries : List LogEntry) → length (frames_of_others k entries) ≡ length (filter (is_of_other k) entries)
  counted k entries = length-map (filter (is_of_other k) entries) (λ (entry : LogEntry). entry.1)

  waits-at : (k : ℕ) → IsReader log ends k → length (filter (is_of_other k) (drop (end_at ends k).cursor before)) ≤ 64
  waits-at k is =
      let one = reads-at k is in
      omega (arith, one.counts, one.most, counted k (drop (end_at ends k).cursor before))

  pub few-kept : length after < log_entries
  few-kept =
      let waits = kept-waits reader first second before in_order next.most in
      let own = waits-at reader slow.is in
      elim next.found [
        | inl none ↦ (omega (arith, waits, own, none, length-drop second before))
        | inr other ↦ (let count = λ (n : ℕ). length (filter (is_of_other other.k) (drop n before)) ≤ 64 in
            let theirs = subst count other.at (waits-at other.k other.is) in
            omega (arith, waits, own, theirs, two-read reader other.k (λ same. other.other (sym same)) (drop second before)))
      ]

  abbrev pub dropped : ℕ
  dropped = length before - length after

  abbrev pub cursor-after : End → ℕ
  cursor-after end = if end.log == log then end.cursor - dropped else end.cursor

  pub made_room : (new : List End) → ((k : ℕ) → slice_get new k ≡ option_map (moved_cursor log dropped) (slice_get ends k))
      → MakesRoom log before after ends new
  made_room new each = record {
    room = few-kept;
    cursors = λ k end. cursor-after end;
    each = λ k. each k ∙ set-anew (slice_get ends k);
    others = λ k end other. not-read end other;
    below = λ k end is on. (let there = (reads k end is on).cursor in omega (arith, read end on, there, shorter));
    same = λ k end is on. ap (λ (n : ℕ). frames_of_others k (drop n after)) (read end on) ∙ same-frames k end is on;
  }
    where
      shorter : length after ≤ length before
      shorter = omega (
        arith,
        long reader first second before in_order next.most,
        few reader first second before in_order next.most,
        next.most,
      )

      read : (end : End) → end.log ≡ log → cursor-after end ≡ end.cursor - dropped
      read end on = elim (eqb_tells end.log log) [
        | inl same ↦ ap (λ (b : Bool). if b then end.cursor - dropped else end.cursor) same.0
        | inr differs ↦ absurd (differs.1 on)
      ]

      not-read : (end : End) → end.log ≢ log → cursor-after end ≡ end.cursor
      not-read end other = elim (eqb_tells end.log log) [
        | inl same ↦ absurd (other same.1)
        | inr differs ↦ ap (λ (b : Bool). if b then end.cursor - dropped else end.cursor) differs.0
      ]

      set-anew : (o : Option End) → option_map (moved_cursor log dropped) o
          ≡ option_map (λ (end : End). record end { cursor = cursor-after end }) o
      set-anew None = refl
      set-anew (Some end) = ap (λ (e : End). Some e) (by_case (end.log == log))
        where
          by_case : (b : Bool) → (if b then record end { cursor = end.cursor - dropped } else end)
              ≡ record end { cursor = (if b then end.cursor - dropped else end.cursor) }
          by_case true = refl
          by_case false = refl

      same-frames : (k : ℕ) (end : End) → slice_get ends k ≡ Some end → end.log ≡ log
          → frames_of_others k (drop (end.cursor - dropped) after) ≡ frames_of_others k (drop end.cursor before)
      same-frames k end is on = elim (eqb_tells k reader) [
        | inl same ↦ subst (λ (n : ℕ). frames_of_others n (drop (end.cursor - dropped) after) ≡ frames_of_others n (drop end.cursor before))
            (sym same.1)
            (subst (λ (n : ℕ). frames_of_others reader (drop (n - dropped) after) ≡ frames_of_others reader (drop n before))
            (ap (λ (e : End). e.cursor) (ap (end_at ends) (sym same.1) ∙ is-end_at ends k end is))
            (slowest-reads reader first second before in_order next.most))
        | inr differs ↦ ap (frames_of_others k) (others-read reader first second before in_order next.most end.cursor
            (let at = is-end_at ends k end is in
            subst (λ (e : End). second ≤ e.cursor) at
            (next.least k (slice_get_within ends k end is) differs.1 (ap (λ (e : End). e.log) at ∙ on))))
      ]
