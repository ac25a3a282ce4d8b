use Rattle.std.proofs.Common.{◌≡◌, fold, take, flat_map}
use Rattle.tx_engine.specs.Hashed.{report_writes}
use Rattle.tx_engine.proofs.engine.feed_reports.Given as goal

abbrev pub invariant-loop-report : goal.invariant-loop-report
invariant-loop-report g l = l.hasher ≡ fold g.H.Hasher.write l.initial.hasher (flat_map report_writes (take l.report-index l.reports))
