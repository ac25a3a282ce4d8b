use Rattle.std.proofs.Common.{◌≡◌, List, Ok, arith, rules, subst, sym}
use Rattle.host_calls.specs.Happenings.{Happening}
use Rattle.network_plan.specs.Answers.{FrameAnswer, answer_with}
use Rattle.network_plan.specs.declared.reply.Answer.TheVariants as answer
use Rattle.run_record.specs.Tallies.{TalliesGrow, given_up_of}
use Rattle.wire.specs.Runs.{accepted_by_answer}
use Rattle.run_record.proofs.NotedEvents.{given-accepted}
use Rattle.run_record.proofs.RecordLaws.{answer-of, given-up-gives, hosts-answer}
use Rattle.run_record.proofs.record.Record.note_answer.Goals as goal

pub returns-in-Sent-Ok : goal.returns-in-Sent-Ok
returns-in-Sent-Ok c =
    let given : FrameAnswer = answer_with c.args.frame.now c.args.answer.now in
    let sent : given ≡ answer.Sent (Ok tt) = search rules in
    let happened : FrameAnswer → List Happening = accepted_by_answer c.in-Send.host c.in-Send.frame.now in
    answer-of c.args.event.now given c.in-Send.is
    (hosts-answer (happened given) c.args.self.now c.as_mut_slice.result.now c.count.new.hosts (search rules) (search (rules, arith))
    (given-accepted c.args.self.now.number c.in-Send.host c.in-Send.frame.now given)
    (subst (λ (one : FrameAnswer). TalliesGrow (happened one) c.as_mut_slice.result.now c.count.new.hosts) (sym sent) c.count.ensures))

pub returns-in-Reset : goal.returns-in-Reset
returns-in-Reset c =
    let given = answer_with c.args.frame.now c.args.answer.now in
    answer-of c.args.event.now given c.in-Reset.is
    (hosts-answer (given_up_of c.in-Reset.host given) c.args.self.now c.as_mut_slice-in-Reset.result.now c.note_reset.new.hosts
    (search rules) (search (rules, arith)) (given-up-gives c.args.self.now.number c.in-Reset.host given)
    (c.note_reset.ensures c.args.frame.now))
