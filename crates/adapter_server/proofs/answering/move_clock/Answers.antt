use Rattle.server_output.specs.Texts.{decimal_line}
use Rattle.adapter_server.specs.Answers.{Answered, SettlesUntil}
use Rattle.adapter_server.specs.Tasks.{Performs}
use Rattle.adapter_server.specs.declared.session.Session.{Session}
use Rattle.adapter_server.specs.declared.task.Task.TheVariants as tasks
use Rattle.adapter_server.proofs.Printing.{answer_so, replied}
use Rattle.adapter_server.proofs.Tasks.{settles}
use Rattle.adapter_server.proofs.answering.move_clock.Goals as goal

pub returns-in_default : goal.returns-in_default
returns-in_default g c = rw c.in_default.is (replied c.refuse.result _ c.args.session.now _ _ c.refuse.ensures)

pub returns : goal.returns
returns g c =
    let a = c.args.session.now in
    let said = c.args.said.now in
    let time = c.in-Some.time in
    rw c.in-Some.is
    (answer_so c.perform-done.result (Performs (tasks.SetClock time) said a)
    (λ b. Answered (SettlesUntil time said a b) (decimal_line time)) (λ (b : Session). record b { clock = time })
    c.perform-done.new.session _ _ (settles time said a) c.perform-done.ensures)
