use Rattle.std.proofs.Common.{◌||◌, arith, rules}
use Rattle.network_plan.specs.Answers.{answer_with}
use Rattle.run_record.proofs.RecordLaws.{line-noted, records-reply}
use Rattle.run_record.proofs.record.RecordRunObserver.answer.Goals as goal

pub returns : goal.returns
returns c = λ begin ticks heard of_ticks.
    let old = c.args.self.now in
    let given = answer_with c.args.frame.now c.args.answer in
    records-reply c.args.event.now given c.args.accesses ticks begin old
    (record old { log = c.end.new.self; failed = old.failed || c.is_err.result })
    c.note_answer.new.self c.saturating_add-self.result heard of_ticks (search (rules, arith))
    (line-noted c.args.event.now given c.args.accesses old c.end.new.self c.is_err.result c.end.result c.is_err.ensures.value c.end.ensures)
    c.note_answer.ensures
