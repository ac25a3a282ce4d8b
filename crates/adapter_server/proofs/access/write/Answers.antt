use Rattle.std.proofs.Common.{◌∙◌, sym}
use Rattle.server_output.specs.Texts.{ok_line}
use Rattle.adapter_server.specs.Answers.{AccessServed, Answered}
use Rattle.adapter_server.specs.Sessions.{writing_access}
use Rattle.adapter_server.specs.Tasks.{Performs, task_said}
use Rattle.adapter_server.specs.declared.session.Session.{Session}
use Rattle.adapter_server.specs.declared.task.Task.TheVariants as tasks
use Rattle.adapter_server.proofs.Places.{place_takes}
use Rattle.adapter_server.proofs.Printing.{answer_so, replied}
use Rattle.adapter_server.proofs.Tasks.{writes}
use Rattle.adapter_server.proofs.access.write.Goals as goal

pub access-requires : goal.access-requires
access-requires g c =
    place_takes c.in-Ok.place c.args.session.now c.args.address c.args.bytes.now (sym c.place_of.ensures ∙ c.in-Ok.is)

pub returns-in-Ok : goal.returns-in-Ok
returns-in-Ok g c =
    let a = c.args.session.now in
    let place = c.in-Ok.place in
    let task = tasks.Write place c.args.address c.args.bytes in
    let said = task_said task c.args.said.now a in
    rw (← c.place_of.ensures, c.in-Ok.is)
    (answer_so c.access.result (Performs task said a)
    (λ b. Answered (AccessServed (writing_access place c.args.address c.args.bytes.now) said a b) ok_line) (λ (b : Session). b)
    c.access.new.session _ _ (writes place c.args.address c.args.bytes said a) c.access.ensures)

pub returns-in-Err : goal.returns-in-Err
returns-in-Err g c =
    let a = c.args.session.now in
    rw (← c.place_of.ensures, c.in-Err.is) (replied c.refuse.result _ a _ _ c.refuse.ensures)
