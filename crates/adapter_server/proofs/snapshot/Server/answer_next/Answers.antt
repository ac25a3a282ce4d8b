use Rattle.std.proofs.Common.{[], refl}
use Rattle.adapter_server.specs.Answers.{AnswersLine, Does, Refuses}
use Rattle.adapter_server.specs.declared.snapshot.Server.{Server}
use Rattle.server_output.proofs.Writing.{appends_none}
use Rattle.adapter_server.proofs.Printing.{answer_so, nothing_written, replied}
use Rattle.adapter_server.proofs.ReadRequests.{answers_read, answers_refused}
use Rattle.adapter_server.proofs.snapshot.Server.answer_next.Goals as goal

pub returns-in-End : goal.returns-in-End
returns-in-End g c =
    rw c.in-End.is (record { text = []; holds = (refl, refl); written = appends_none (g.W.Write.contents c.args.out.now) })

pub returns-in-Ok : goal.returns-in-Ok
returns-in-Ok g c =
    let line = c.args.line.now in
    let a = c.args.self.now in
    let request = c.in-Ok.request in
    rw c.in-Whole.is
    (answer_so c.answer.result (Does request line a) (AnswersLine line a) (λ (b : Server). b) c.answer.new.self _ _
    (λ b text does. answers_read line request a b text c.in-Ok.ensures does) c.answer.ensures)

pub returns-in-Err-Refused : goal.returns-in-Err-Refused
returns-in-Err-Refused g c =
    let line = c.args.line.now in
    let a = c.args.self.now in
    let refusal = c.in-Err-Refused.refusal in
    rw c.in-Whole.is
    (answer_so c.refuse.result (Refuses refusal a) (AnswersLine line a) (λ (b : Server). b) a _ _
    (λ b text refuses. answers_refused line refusal a b text (rw c.in-Err-Refused.field-0-is at c.in-Err-Refused.ensures) refuses)
    (replied c.refuse.result _ a _ _ (rw c.in-Err-Refused.field-0-is at c.refuse.ensures)))

pub returns-in-Err-Memory : goal.returns-in-Err-Memory
returns-in-Err-Memory g c = rw c.in-Whole.is (nothing_written (AnswersLine c.args.line.now c.args.self.now) _)

pub returns-in-Long : goal.returns-in-Long
returns-in-Long g c =
    let a = c.args.self.now in
    rw c.in-Long.is (replied c.refuse-in-Long.result _ a _ _ c.refuse-in-Long.ensures)
