use Rattle.std.proofs.Common.{◌<◌, List, length, ap, arith, subst, sym, ◌∙◌}
use Rattle.stations.specs.WireLogs.{LogEntry}
use Rattle.stations.proofs.ClosedLogs.{ClosesUp, closes-all, closes-none, drops, keeps-behind, keeps-of_other, tells-other, tells-own}
use Rattle.stations.proofs.wire_log.WireLog.close_up.Goals as goal
use Rattle.stations.proofs.wire_log.WireLog.close_up.Goals.{then-place-second, then-place-second-via-then-place-second}
use Rattle.stations.proofs.wire_log.WireLog.close_up.Goals.{then-place-second-via-else-place-second+then-index-reader}
use Rattle.stations.proofs.wire_log.WireLog.close_up.Goals.{else-place-second+else-index-reader}

pub loop-place-init : goal.loop-place-init
loop-place-init c =
    subst (λ (ys : List LogEntry). ClosesUp c.args.reader c.args.first c.args.second c.args.self.now ys 0 c.args.first)
    (sym c.self.view_is)
    (closes-none c.args.reader c.args.first c.args.second c.args.self.now c.requires.order
    (omega (arith, c.requires.order, c.requires.there)))

pub returns : goal.returns
returns c = c.truncate.ensures.items
    ∙ closes-all c.args.reader c.args.first c.args.second c.args.self.now c.loop-place.self-inside.entries.items c.loop-place.kept
    c.loop-place.place c.loop-place.invariant
    (omega (arith, c.len-place-end.ensures, c.self.inside.entries.ok.0, ap (λ (l : List LogEntry). length l) c.self.view_is))

pub loop-place-preserved : goal.loop-place-preserved
loop-place-preserved c =
    let r = c.args.reader in
    let f = c.args.first in
    let s = c.args.second in
    let xs = c.args.self.now in
    let ys = c.loop-place.self-inside.entries.items in
    let k = c.loop-place.kept in
    let i = c.loop-place.place in
    let h = c.loop-place.invariant in
    let below : i < length ys = omega (arith, h.long, ap (λ (l : List LogEntry). length l) c.self.view_is) in
    elim c.if-place-second.branch [
      | then-place-second w ↦ elim w.then-place-second.branch [
        | then-place-second-via-then-place-second w' ↦ rw (w.self-inside-is, w.kept-is)
            (keeps-behind r f s xs ys k i h below w.swap.new.self.items w.swap.ensures.by_index c.requires.order (omega arith))
        | then-place-second-via-else-place-second+then-index-reader w' ↦ rw (w.self-inside-is, w.kept-is)
            (keeps-of_other r f s xs ys k i h below w.swap.new.self.items w.swap.ensures.by_index w'.if-place-second.false
            (tells-other r ys i w'.index.result.now below w'.index.ensures w'.if-index-reader.true))
      ]
      | else-place-second+else-index-reader w ↦ rw (w.self-inside-is, w.kept-is) (drops r f s xs ys k i h below w.if-place-second.false
          (tells-own r ys i w.index.result.now below w.index.ensures w.if-index-reader.false))
    ]
