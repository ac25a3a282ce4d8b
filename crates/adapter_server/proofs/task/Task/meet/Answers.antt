use Rattle.std.proofs.Common.{◌≡◌, ◌≢◌, ◌∙◌, [], ℕ, List, Option, Some, ap, codes, refl, subst, sym}
use Rattle.std.specs.Borrow.{Bor}
use Rattle.std.specs.Option.{option_map_or}
use Rattle.access_names.specs.Names.{target_text}
use Rattle.adapter.specs.State.{AdapterState}
use Rattle.played_adapter.specs.Order.{InOrder, Tells}
use Rattle.played_adapter.specs.Playing.{Makes}
use Rattle.played_adapter.specs.declared.choices.Move.{Move}
use Rattle.server_output.specs.Texts.{Text}
use Rattle.server_requests.specs.declared.request.Wanted.{Wanted}
use Rattle.step_schedules.specs.Agendas.{AgendaState, agenda_after}
use Rattle.step_schedules.specs.Events.{EventValue}
use Rattle.step_schedules.specs.Players.{chosen}
use Rattle.step_schedules.specs.Waiting.{due_before}
use Rattle.step_schedules.specs.declared.deviation.Before.{Before}
use Rattle.step_schedules.specs.declared.deviation.Before.TheVariants.{Request}
use Rattle.adapter_server.specs.Sessions.{met_agenda, moves_with, target_in}
use Rattle.adapter_server.specs.Tasks.{task_agenda, task_before, task_moves, task_name, task_wanted, task_word}
use Rattle.adapter_server.specs.declared.session.AccessPlace.{AccessPlace}
use Rattle.adapter_server.specs.declared.task.Task.{Task}
use Rattle.adapter_server.specs.declared.task.Task.TheVariants as tasks
use Rattle.adapter_server.proofs.task.Task.meet.Goals as goal

-- What is defined by the kind and the name of the task's access or request.
named : {X : Type 0} (what : Before → Text → X) (none : X) (task : Task) (adapter : AdapterState) (before : Before) (name : Text)
    → task_before task ≡ Some before → name ≡ task_name task adapter
    → what before name ≡ option_map_or (λ (b : Before). what b (task_name task adapter)) (task_before task) none
named what none task adapter before name is same =
    ap (what before) same
    ∙ sym (ap (λ (b : Option Before). option_map_or (λ (x : Before). what x (task_name task adapter)) b none) is)

-- A task that is no access, no `choose` and doesn't set the clock is a request that begins a round, and uses no number.
is_request : (task : Task) → ((place : AccessPlace) (address : ℕ) (wanted : Wanted) → task ≢ tasks.Read place address wanted)
    → ((place : AccessPlace) (address : ℕ) (bytes : Bor (List ℕ)) → task ≢ tasks.Write place address bytes)
    → ((limit : ℕ) → task ≢ tasks.Choose limit) → ((time : ℕ) → task ≢ tasks.SetClock time) → task_before task ≡ Some Request
is_request (tasks.Read place address wanted) no_read no_write no_choice no_clock = absurd (no_read place address wanted refl)
is_request (tasks.Write place address bytes) no_read no_write no_choice no_clock = absurd (no_write place address bytes refl)
is_request (tasks.Step kind) no_read no_write no_choice no_clock = refl
is_request (tasks.Arrive frame) no_read no_write no_choice no_clock = refl
is_request tasks.Settle no_read no_write no_choice no_clock = refl
is_request (tasks.Offer frame) no_read no_write no_choice no_clock = refl
is_request (tasks.Choose limit) no_read no_write no_choice no_clock = absurd (no_choice limit refl)
is_request (tasks.SetClock time) no_read no_write no_choice no_clock = absurd (no_clock time refl)

-- The name of a task that is no access is its word.
named_by_word : (task : Task) (adapter : AdapterState)
    → ((place : AccessPlace) (address : ℕ) (wanted : Wanted) → task ≢ tasks.Read place address wanted)
    → ((place : AccessPlace) (address : ℕ) (bytes : Bor (List ℕ)) → task ≢ tasks.Write place address bytes)
    → task_word task ≡ task_name task adapter
named_by_word (tasks.Read place address wanted) adapter no_read no_write = absurd (no_read place address wanted refl)
named_by_word (tasks.Write place address bytes) adapter no_read no_write = absurd (no_write place address bytes refl)
named_by_word (tasks.Step kind) adapter no_read no_write = refl
named_by_word (tasks.Arrive frame) adapter no_read no_write = refl
named_by_word tasks.Settle adapter no_read no_write = refl
named_by_word (tasks.Offer frame) adapter no_read no_write = refl
named_by_word (tasks.Choose limit) adapter no_read no_write = refl
named_by_word (tasks.SetClock time) adapter no_read no_write = refl

uses_none : (task : Task) (agenda : Option AgendaState) → ((limit : ℕ) → task ≢ tasks.Choose limit) → 0 ≡ task_wanted task agenda
uses_none (tasks.Read place address wanted) agenda no_choice = refl
uses_none (tasks.Write place address bytes) agenda no_choice = refl
uses_none (tasks.Step kind) agenda no_choice = refl
uses_none (tasks.Arrive frame) agenda no_choice = refl
uses_none tasks.Settle agenda no_choice = refl
uses_none (tasks.Offer frame) agenda no_choice = refl
uses_none (tasks.Choose limit) agenda no_choice = absurd (no_choice limit refl)
uses_none (tasks.SetClock time) agenda no_choice = refl

pub returns-in_default-self : goal.returns-in_default-self
returns-in_default-self g c =
    let task = c.args.self in
    let device = c.args.device.now in
    let adapter = device.machine.world.adapter in
    let agenda = c.in-Some.agenda in
    let arm = c.in_default-self in
    let is : task_before task ≡ Some Request = is_request task arm.not-Read arm.not-Write arm.not-Choose arm.not-SetClock in
    let name : c.as_bytes-in_default-self.result.now ≡ task_name task adapter =
    c.as_bytes-in_default-self.ensures.value ∙ c.word-in_default-self.ensures ∙ named_by_word task adapter arm.not-Read arm.not-Write in
    record {
      moves = subst (λ (moves : List Move). Tells g.O.Observer.heard c.args.observer.now c.meet_request.new.observer
          (InOrder Makes moves device c.meet_request.new.self))
          (named (λ b n. moves_with b n device (Some agenda)) [] task adapter Request c.as_bytes-in_default-self.result.now is name
          ∙ sym (ap (task_moves task device) c.in-Some.is))
          c.meet_request.ensures.plays;
      met = ap Some c.meet_request.ensures.met
          ∙ named (λ b n. met_agenda b n (Some agenda)) (Some agenda) task adapter Request c.as_bytes-in_default-self.result.now is name
          ∙ sym (ap (task_agenda task adapter) c.in-Some.is);
      wanted = uses_none task c.args.agenda.now arm.not-Choose;
    }

pub returns-in-Read : goal.returns-in-Read
returns-in-Read g c =
    let adapter = c.args.device.now.machine.world.adapter in
    let name : c.as_slice.result.now ≡ target_text (target_in c.in-Read.place c.in-Read.address adapter) =
    c.as_slice.ensures ∙ c.name-name.ensures ∙ ap target_text c.target_at.ensures in
    record {
      moves = rw (c.in-Read.is, c.in-Some.is) (rw name at c.meet_access.ensures.plays);
      met = rw (c.in-Read.is, c.in-Some.is) (ap Some (rw name at c.meet_access.ensures.met));
      wanted = rw c.in-Read.is refl;
    }

pub returns-in-Write : goal.returns-in-Write
returns-in-Write g c =
    let adapter = c.args.device.now.machine.world.adapter in
    let name : c.as_slice-in-Write.result.now ≡ target_text (target_in c.in-Write.place c.in-Write.address adapter) =
    c.as_slice-in-Write.ensures ∙ c.name-name-in-Write.ensures ∙ ap target_text c.target_at-in-Write.ensures in
    record {
      moves = rw (c.in-Write.is, c.in-Some.is) (rw name at c.meet_access-in-Write.ensures.plays);
      met = rw (c.in-Write.is, c.in-Some.is) (ap Some (rw name at c.meet_access-in-Write.ensures.met));
      wanted = rw c.in-Write.is refl;
    }

pub returns-in-Choose : goal.returns-in-Choose
returns-in-Choose g c =
    let word : c.as_bytes.result.now ≡ codes "choose" = c.as_bytes.ensures.value ∙ c.word.ensures ∙ ap task_word c.in-Choose.is in
    let event = rw word at c.coming-event.ensures in
    record {
      moves = rw c.in-Choose.is (record {
        told = [];
        holds = (refl, refl);
        hears = g.met.O.Observer.composes.stays c.args.observer.now;
      });
      met = rw (c.in-Choose.is, c.in-Some.is) (ap Some
          (c.count.ensures ∙ ap (λ (event : EventValue). agenda_after event c.in-Some.agenda) event));
      wanted = rw (c.in-Choose.is, c.in-Some.is)
          (c.chosen-wanted.ensures
          ∙ ap (λ (event : EventValue). chosen (due_before event c.in-Some.agenda.deviations)) event);
    }
