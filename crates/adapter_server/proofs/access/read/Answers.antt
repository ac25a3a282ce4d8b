use Rattle.std.proofs.Common.{◌≡◌, ◌∙◌, Ok, ap, refl, sym}
use Rattle.server_requests.specs.Widths.{wanted_size}
use Rattle.adapter_server.specs.Answers.{ReadsAt}
use Rattle.adapter_server.specs.Sessions.{place_in}
use Rattle.adapter_server.specs.Tasks.{Performs, task_said}
use Rattle.adapter_server.specs.declared.session.AccessPlace.TheVariants.{Memory, Register}
use Rattle.adapter_server.specs.declared.session.Session.{Session}
use Rattle.adapter_server.specs.declared.task.Task.TheVariants as tasks
use Rattle.adapter_server.proofs.Places.{register_place}
use Rattle.adapter_server.proofs.Printing.{answer_none, answer_so, replied}
use Rattle.adapter_server.proofs.Tasks.{reads}
use Rattle.adapter_server.proofs.access.read.Goals as goal

pub access-requires : goal.access-requires
access-requires g c =
    let place : place_in c.args.session.now c.args.address (wanted_size c.args.wanted) ≡ Ok (Register c.in-Ok-Register.offset) =
    ap (place_in c.args.session.now c.args.address) (sym c.size-size.ensures) ∙ sym c.place_of.ensures ∙ c.in-Ok-Register.is
    ∙ ap Ok c.in-Ok-Register.field-0-is in
    (sym (register_place c.args.session.now c.args.address (wanted_size c.args.wanted) c.in-Ok-Register.offset place), refl)

pub returns-in-Ok-Register : goal.returns-in-Ok-Register
returns-in-Ok-Register g c =
    let a = c.args.session.now in
    let place = Register c.in-Ok-Register.offset in
    let task = tasks.Read place c.args.address c.args.wanted in
    let said = task_said task c.args.said.now a in
    rw (← c.size-size.ensures, ← c.place_of.ensures, c.in-Ok-Register.is, c.in-Ok-Register.field-0-is)
    (answer_so c.access.result (Performs task said a) (ReadsAt (Ok place) c.args.wanted c.args.address said a) (λ (b : Session). b)
    c.access.new.session _ _ (reads place c.args.address c.args.wanted said a) c.access.ensures)

pub returns-in_err-bytes-in-Ok-Memory : goal.returns-in_err-bytes-in-Ok-Memory
returns-in_err-bytes-in-Ok-Memory g c = answer_none c.from_residual.result _ _ _ c.from_residual.ensures.0

pub returns-in_ok-bytes-in-Ok-Memory : goal.returns-in_ok-bytes-in-Ok-Memory
returns-in_ok-bytes-in-Ok-Memory g c =
    let a = c.args.session.now in
    let task = tasks.Read Memory c.args.address c.args.wanted in
    let said = task_said task c.args.said.now a in
    rw (← c.size-size.ensures, ← c.place_of.ensures, c.in-Ok-Memory.is, c.in-Ok-Memory.field-0-is)
    (answer_so c.access-in-Ok-Memory.result (Performs task said a) (ReadsAt (Ok Memory) c.args.wanted c.args.address said a)
    (λ (b : Session). b) c.access-in-Ok-Memory.new.session _ _ (reads Memory c.args.address c.args.wanted said a)
    c.access-in-Ok-Memory.ensures)

pub returns-in-Err : goal.returns-in-Err
returns-in-Err g c =
    let a = c.args.session.now in
    rw (← c.size-size.ensures, ← c.place_of.ensures, c.in-Err.is) (replied c.refuse.result _ a _ _ c.refuse.ensures)
