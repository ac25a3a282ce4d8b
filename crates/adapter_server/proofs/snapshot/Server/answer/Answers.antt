use Rattle.std.proofs.Common.{◌≡◌, List, Option, ap, rules}
use Rattle.std.specs.Prelude.{Result, ℕ}
use Rattle.adapter_server.specs.Answers.{AnswersChoice, OnSession, SessionDoes, TellsAnswer, request_said, time_after, with_port_written}
use Rattle.adapter_server.specs.Sessions.{with_setting}
use Rattle.adapter_server.specs.Tasks.{Performs}
use Rattle.server_output.specs.Texts.{Text}
use Rattle.server_requests.specs.declared.request.Request.{Request}
use Rattle.server_requests.specs.declared.request.Request.TheVariants as requests
use Rattle.adapter_server.specs.declared.session.Session.{Session}
use Rattle.adapter_server.specs.declared.snapshot.Server.{Server}
use Rattle.adapter_server.specs.declared.task.Task.TheVariants as tasks
use Rattle.adapter_server.proofs.Printing.{answer_so, changed, lifted}
use Rattle.adapter_server.proofs.Tasks.{chooses}
use Rattle.adapter_server.proofs.snapshot.Server.answer.Goals as goal

-- The session answers the request, and the saved copy doesn't change.
on_session : {T E : Type 0} (result : Result T E) (request : Request) (said : Text) (a : Server) (b : Session)
    (before after : Option (List ℕ))
    → TellsAnswer result before after (SessionDoes request (request_said request said a.session) a.session) b
    → TellsAnswer result before after (OnSession (SessionDoes request (request_said request said a.session)) a) (record a { session = b })
on_session result request said a b before after tells =
    lifted result (SessionDoes request (request_said request said a.session)) a b before after tells

pub returns-in-Read : goal.returns-in-Read
returns-in-Read g c =
    rw c.in-Read.is (on_session c.read.result (requests.Read c.in-Read.wanted c.in-Read.address) c.args.said.now c.args.self.now
    c.read.new.session _ _ c.read.ensures)

pub returns-in-Write : goal.returns-in-Write
returns-in-Write g c =
    rw c.in-Write.is (on_session c.write.result (requests.Write c.in-Write.address c.in-Write.bytes) c.args.said.now c.args.self.now
    c.write.new.session _ _ (rw c.as_slice.ensures at c.write.ensures))

pub returns-in-Look : goal.returns-in-Look
returns-in-Look g c =
    rw c.in-Look.is (on_session c.look.result (requests.Look c.in-Look.what) c.args.said.now c.args.self.now c.look.new.session _ _
    c.look.ensures)

pub returns-in-WritePort : goal.returns-in-WritePort
returns-in-WritePort g c =
    let arm = c.in-WritePort in
    let a = c.args.self.now.session in
    let b : Session = record a { function = c.write_port.new.self } in
    rw arm.is (on_session c.say.result (requests.WritePort arm.width arm.port arm.value) c.args.said.now c.args.self.now b _ _
    (changed c.say.result (with_port_written arm.width arm.port arm.value) a b _ _
    (ap (λ function. record a { function = function }) c.write_port.ensures) c.say.ensures))

pub returns-in-Set : goal.returns-in-Set
returns-in-Set g c =
    let setting = c.in-Set.setting in
    rw c.in-Set.is (on_session c.say-in-Set.result (requests.Set setting) c.args.said.now c.args.self.now c.set.new.self _ _
    (changed c.say-in-Set.result (with_setting setting) c.args.self.now.session c.set.new.self _ _ c.set.ensures c.say-in-Set.ensures))

pub returns-in-Step : goal.returns-in-Step
returns-in-Step g c =
    rw c.in-Step.is (on_session c.perform.result (requests.Step c.in-Step.kind) c.args.said.now c.args.self.now c.perform.new.session _ _
    c.perform.ensures)

pub returns-in-Arrive : goal.returns-in-Arrive
returns-in-Arrive g c =
    rw c.in-Arrive.is (on_session c.perform-in-Arrive.result (requests.Arrive c.in-Arrive.frame) c.args.said.now c.args.self.now
    c.perform-in-Arrive.new.session _ _ (rw c.as_slice-in-Arrive.ensures at c.perform-in-Arrive.ensures))

pub returns-in-Settle : goal.returns-in-Settle
returns-in-Settle g c =
    rw c.in-Settle.is (on_session c.perform-in-Settle.result requests.Settle c.args.said.now c.args.self.now
    c.perform-in-Settle.new.session _ _ c.perform-in-Settle.ensures)

pub returns-in-Offer : goal.returns-in-Offer
returns-in-Offer g c =
    rw c.in-Offer.is (on_session c.perform-in-Offer.result (requests.Offer c.in-Offer.frame) c.args.said.now c.args.self.now
    c.perform-in-Offer.new.session _ _ (rw c.as_slice-in-Offer.ensures at c.perform-in-Offer.ensures))

pub returns-in-Choose : goal.returns-in-Choose
returns-in-Choose g c =
    let a = c.args.self.now.session in
    let said = c.args.said.now in
    let limit = c.in-Choose.limit in
    let result = c.perform-in-Choose.result in
    let b = c.perform-in-Choose.new.session in
    rw c.in-Choose.is (on_session result (requests.Choose limit) said c.args.self.now b _ _
    (answer_so result (Performs (tasks.Choose limit) said a) (AnswersChoice limit said a) (λ (b : Session). b) b _ _ (chooses limit said a)
    c.perform-in-Choose.ensures))

pub returns-in-ClockStep : goal.returns-in-ClockStep
returns-in-ClockStep g c =
    let nanoseconds = c.in-ClockStep.nanoseconds in
    let time : c.checked_add-time.result ≡ time_after c.args.self.now.session.clock nanoseconds = search rules in
    rw c.in-ClockStep.is (on_session c.move_clock.result (requests.ClockStep nanoseconds) c.args.said.now c.args.self.now
    c.move_clock.new.session _ _ (rw time at c.move_clock.ensures))

pub returns-in-ClockSet : goal.returns-in-ClockSet
returns-in-ClockSet g c =
    rw c.in-ClockSet.is (on_session c.move_clock-in-ClockSet.result (requests.ClockSet c.in-ClockSet.time) c.args.said.now c.args.self.now
    c.move_clock-in-ClockSet.new.session _ _ (rw c.max-time.ensures at c.move_clock-in-ClockSet.ensures))

pub returns-in-Save : goal.returns-in-Save
returns-in-Save g c = rw c.in-Save.is c.save.ensures

pub returns-in-Restore : goal.returns-in-Restore
returns-in-Restore g c = rw c.in-Restore.is c.restore.ensures
