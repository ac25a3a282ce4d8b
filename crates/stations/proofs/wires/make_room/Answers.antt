use Rattle.std.proofs.Common.{◌≡◌, ◌-◌, ℕ, List, length, option_map, slice_get, ap, sym, subst, ◌∙◌, arith}
use Rattle.stations.specs.LogReaders.{IsLeastCursor, MakesRoom, moved_cursor}
use Rattle.stations.specs.WireLogs.{LogEntry}
use Rattle.stations.proofs.WireReaders.{had_room, in_order, made_room}
use Rattle.stations.proofs.wires.make_room.Goals as goal

pub returns-then-entries-lt-LOG_ENTRIES : goal.returns-then-entries-lt-LOG_ENTRIES
returns-then-entries-lt-LOG_ENTRIES c = had_room c.args.log c.args.wire_log.now c.args.ends.now c.requires.reads (omega arith)

pub close_up-requires-clause-order : goal.close_up-requires-clause-order
close_up-requires-clause-order c =
    let ends = c.args.ends.now in
    let reader = c.slowest-reader.result in
    let second = c.least_cursor-second.result in
    in_order c.args.log c.args.wire_log.now ends reader second c.requires.reads c.slowest-reader.ensures
    (subst (λ (limit : ℕ). IsLeastCursor (length ends) c.args.log reader limit ends second) c.len-entries.ensures.value
    c.least_cursor-second.ensures)

pub returns : goal.returns
returns c =
    let log = c.args.log in
    let before = c.args.wire_log.now in
    let ends = c.args.ends.now in
    let reader = c.slowest-reader.result in
    let second = c.least_cursor-second.result in
    let next = subst (λ (limit : ℕ). IsLeastCursor (length ends) log reader limit ends second) c.len-entries.ensures.value
    c.least_cursor-second.ensures in
    let dropped = ap (λ (n : ℕ). n - c.len.result) c.len-entries.ensures.value
    ∙ ap (λ (n : ℕ). length before - n) (c.len.ensures.value ∙ ap (λ (l : List LogEntry). length l) c.close_up.ensures) in
    subst (λ (after : List LogEntry). MakesRoom log before after ends c.move_cursors.new.ends) (sym c.close_up.ensures)
    (made_room log before ends reader second c.requires.reads c.slowest-reader.ensures next c.move_cursors.new.ends
    (λ k. subst (λ (n : ℕ). slice_get c.move_cursors.new.ends k ≡ option_map (moved_cursor log n) (slice_get ends k)) dropped
    (c.move_cursors.ensures k)))
