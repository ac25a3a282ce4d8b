use Rattle.run_record.proofs.Noting.{counted_there, counts_nowhere}
use Rattle.run_record.proofs.record.count.Goals as goal

pub returns-then-host-hosts : goal.returns-then-host-hosts
returns-then-host-hosts c =
    counted_there c.args.hosts.now c.args.host c.args.passage _ c.with.result c.if-host-hosts.true c.with.ensures

pub returns-else-host-hosts : goal.returns-else-host-hosts
returns-else-host-hosts c = counts_nowhere c.args.hosts.now c.args.host c.args.passage c.if-host-hosts.false
