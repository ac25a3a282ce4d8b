use Rattle.std.proofs.Common.{arith}
use Rattle.run_record.proofs.NotedDrains.{one_counted, one_got}
use Rattle.run_record.proofs.record.note_drained.Goals as goal

pub loop-one-preserved : goal.loop-one-preserved
loop-one-preserved c = (
  one_counted c.args.host c.loop-one.one-index c.args.given.now c.one-item.result c.args.hosts.now c.loop-one.hosts c.count.new.hosts
      (omega arith) c.one-item.is c.loop-one.invariant.0 c.count.ensures,
  one_got c.args.host c.args.number c.loop-one.one-index c.args.given.now c.one-item.result c.as_slice.result.now c.args.returned.now
      c.loop-one.returned c.push.new.self (omega arith) c.one-item.is c.as_slice.ensures.value c.loop-one.invariant.1
      c.in_ok-push.ensures,
)
