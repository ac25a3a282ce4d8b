use Rattle.std.proofs.Common.{◌≡◌, ◌<◌, ◌+◌, Some, arith, slice_get, sym, ◌∙◌}
use Rattle.stations.specs.LogReaders.{end_at, with_waiting}
use Rattle.stations.specs.declared.wires.End.{End}
use Rattle.stations.proofs.ChangedItems.{changed-all, changed-none, changed-one, not-yet}
use Rattle.stations.proofs.Hosts.{set-itself}
use Rattle.stations.proofs.WireChanges.{room_made, waits-off, waits-own, waits-yes}
use Rattle.stations.proofs.WireReaders.{has-end_at}
use Rattle.stations.proofs.wires.put_frame.Goals as goal
use Rattle.stations.proofs.wires.put_frame.Goals.{then-number-sender+then-ends-number, else-number-sender}
use Rattle.stations.proofs.wires.put_frame.Goals.{else-number-sender-via-then-number-sender+else-ends-number}
use Rattle.stations.proofs.wires.put_frame.Goals.{else-number-sender-via-else-number-sender}

pub loop-number-init : goal.loop-number-init
loop-number-init c = changed-none (with_waiting c.args.log c.args.sender) c.make_room.new.ends

pub overflow_add-ends : goal.overflow_add-ends
overflow_add-ends c =
    let ends = c.loop-number.ends in
    let made = c.make_room.new.ends in
    let n = c.loop-number.number in
    let end = end_at ends n in
    let has : slice_get made n ≡ Some end =
    sym (not-yet (with_waiting c.args.log c.args.sender) made ends n c.loop-number.invariant) ∙ has-end_at ends n (omega arith) in
    let free : end.waiting < 64 =
    room_made c.args.log c.args.sender c.args.wire_log.now c.make_room.new.wire_log c.args.ends.now made c.make_room.ensures
    c.requires.room n end has c.if-number-sender.true c.if-ends-number.true in
    omega (arith, free)

pub loop-number-preserved : goal.loop-number-preserved
loop-number-preserved c =
    let log = c.args.log in
    let sender = c.args.sender in
    let ends = c.loop-number.ends in
    let n = c.loop-number.number in
    let end = end_at ends n in
    let has : slice_get ends n ≡ Some end = has-end_at ends n (omega arith) in
    let more = changed-one (with_waiting log sender) c.make_room.new.ends ends n c.loop-number.invariant c.if-number-sender.ends end in
    elim c.if-number-sender.branch [
      | then-number-sender+then-ends-number w ↦ (let counted : End = record end { waiting = end.waiting + 1 } in
          more counted (omega arith) has (sym (waits-yes log sender n end w.if-number-sender.true w.if-ends-number.true)) w.ends-is)
      | else-number-sender w ↦ (let stays : end ≡ with_waiting log sender n end = elim w.else-number-sender.branch [
        | else-number-sender-via-then-number-sender+else-ends-number w' ↦ sym (waits-off log sender n end w'.if-ends-number.false)
        | else-number-sender-via-else-number-sender w' ↦ sym (waits-own log sender n end w'.if-number-sender.false)
      ] in more end (omega arith) has stays (w.ends-is ∙ sym (set-itself ends n end has)))
    ]

pub returns : goal.returns
returns c = record {
  after = c.make_room.new.wire_log;
  made = c.make_room.new.ends;
  makes = c.make_room.ensures;
  appended = c.append.ensures;
  each = changed-all (with_waiting c.args.log c.args.sender) c.make_room.new.ends c.loop-number.ends c.loop-number.number
      c.loop-number.invariant (omega arith);
}
