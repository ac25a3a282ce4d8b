use Rattle.std.proofs.Common.{rules}
use Rattle.adapter.specs.Outcomes.{with_frame}
use Rattle.run_record.proofs.Noting.{told_passage}
use Rattle.run_record.proofs.record.note_outcome.Goals.{in-Put, in-Delivered-default-Stored, in-Delivered-default-Off, in-Delivered}
use Rattle.run_record.proofs.record.note_outcome.Goals as goal

pub returns : goal.returns
returns c = λ frame.
    let passage = c.match-outcome.passage in
    told_passage c.args.host (with_frame frame c.args.outcome.now) passage c.args.hosts.now c.count.new.hosts
    (elim c.match-outcome.branch [
      | in-Put w ↦ search rules
      | in-Delivered-default-Stored w ↦ search rules
      | in-Delivered-default-Off w ↦ search rules
      | in-Delivered w ↦ search rules
    ])
    c.count.ensures
