-- If a task is performed, its request is answered.
use Rattle.std.proofs.Common.{◌≡◌, ◌++◌, ◌∙◌, [], ℕ, List, Ok, Option, Result, ap, length, refl, subst, sym}
use Rattle.std.specs.Borrow.{Bor}
use Rattle.adapter.specs.bus_types.event.Access.TheVariants.{Loads, Reads}
use Rattle.played_adapter.proofs.Playing.{moves_keep}
use Rattle.played_adapter.specs.Moves.{AfterMoves}
use Rattle.played_adapter.specs.Order.{InOrder, Joins}
use Rattle.played_adapter.specs.Playing.{Makes}
use Rattle.played_adapter.specs.Requests.{ServesAccess, ServesChoice, ServesLoad}
use Rattle.played_adapter.specs.Told.{Told}
use Rattle.played_adapter.specs.declared.choices.Move.{Move}
use Rattle.played_adapter.specs.declared.player.PlayedAdapter.{PlayedAdapter}
use Rattle.server_output.specs.Answers.{answer_line}
use Rattle.server_output.specs.Texts.{Text, decimal_line, ok_line}
use Rattle.server_requests.specs.Widths.{wanted_size}
use Rattle.server_requests.specs.declared.request.Wanted.{Wanted}
use Rattle.adapter_server.specs.Answers.{AccessServed, Answered, AnswersChoice, Played, ReadsAt, SettlesUntil, TellsAnswer}
use Rattle.adapter_server.specs.Sessions.{met_before, moves_before, wanted_number, writing_access}
use Rattle.adapter_server.specs.Tasks.{AnswersAfter, FitsTask, Performs, PlaysTask, task_agenda, task_begun, task_met, task_moves}
use Rattle.adapter_server.specs.Tasks.{number_wanted, task_number, task_wanted}
use Rattle.adapter_server.specs.declared.session.AccessPlace.{AccessPlace}
use Rattle.adapter_server.specs.declared.session.AccessPlace.TheVariants.{Memory, Register}
use Rattle.adapter_server.specs.declared.session.Session.{Session}
use Rattle.adapter_server.specs.declared.task.Task.{Task}
use Rattle.adapter_server.specs.declared.task.Task.TheVariants as tasks

again : (H K : PlayedAdapter → PlayedAdapter → List Told → Type 0) (said : Text) (a b : Session) (line known text : Text)
    (answered : Answered (λ t. Played H said a b t) line text) → line ≡ known → K a.device b.device answered.happens.told
    → Answered (λ t. Played K said a b t) known text
again H K said a b line known text answered same happens = record {
  told = answered.told;
  happens = record {
    told = answered.happens.told;
    happens = happens;
    after = answered.happens.after;
    text_is = answered.happens.text_is;
  };
  text_is = answered.text_is ∙ ap (λ (l : Text). answered.told ++ l) same;
}

after_so : {Later : PlayedAdapter → List Told → Type 0} (K : PlayedAdapter → PlayedAdapter → List Told → Type 0) (moves : List Move)
    (a b : PlayedAdapter) (told : List Told) (after : Joins (InOrder Makes moves a) Later told) → K after.middle b after.rest
    → AfterMoves moves K a b told
after_so K moves a b told after happens = record {
  middle = after.middle;
  first = after.first;
  rest = after.rest;
  happens = after.happens;
  goes_on = happens;
  told_is = after.told_is;
}

no_moves : (H : PlayedAdapter → PlayedAdapter → List Told → Type 0) (a b : PlayedAdapter) (told : List Told)
    → AfterMoves [] H a b told → H a b told
no_moves H a b told after =
    subst (λ (t : List Told). H a b t) (sym (after.told_is ∙ ap (λ (t : List Told). t ++ after.rest) after.happens.1))
    (subst (λ (s : PlayedAdapter). H s b after.rest) after.happens.0 after.goes_on)

pub reads : (place : AccessPlace) (address : ℕ) (wanted : Wanted) (said : Text) (a b : Session) (text : Text)
    → Performs (tasks.Read place address wanted) said a b text → ReadsAt (Ok place) wanted address said a b text
reads (Register offset) address wanted said a b text does =
    let after = does.1.happens.happens in
    let plays = after.goes_on in
    let value = plays.2.0 in
    let access = Reads offset value in (
      value,
      again _ (AfterMoves (moves_before access a) (ServesAccess access)) said (met_before access a) b does.0 _ text does.1
          (plays.1 ∙ ap (answer_line wanted) plays.2.1) (after_so (ServesAccess access) _ _ _ _ after plays.2.2),
    )
reads Memory address wanted said a b text does =
    let after = does.1.happens.happens in
    let plays = after.goes_on in
    let access = Loads address (wanted_size wanted) in (
      plays.0,
      again _ (AfterMoves (moves_before access a) (ServesLoad address (wanted_size wanted) plays.0)) said (met_before access a) b does.0 _
          text
          does.1 plays.1 (after_so (ServesLoad address (wanted_size wanted) plays.0) _ _ _ _ after plays.2),
    )

pub writes : (place : AccessPlace) (address : ℕ) (bytes : Bor (List ℕ)) (said : Text) (a b : Session) (text : Text)
    → Performs (tasks.Write place address bytes) said a b text
    → Answered (AccessServed (writing_access place address bytes.now) said a b) ok_line text
writes (Register offset) address bytes said a b text does =
    let access = writing_access (Register offset) address bytes.now in
    let after = does.1.happens.happens in
    again _ (AfterMoves (moves_before access a) (ServesAccess access)) said (met_before access a) b does.0 _ text does.1 after.goes_on.0
    (after_so (ServesAccess access) _ _ _ _ after after.goes_on.1)
writes Memory address bytes said a b text does =
    let access = writing_access Memory address bytes.now in
    let after = does.1.happens.happens in
    again _ (AfterMoves (moves_before access a) (ServesAccess access)) said (met_before access a) b does.0 _ text does.1 after.goes_on.0
    (after_so (ServesAccess access) _ _ _ _ after after.goes_on.1)

pub chooses : (limit : ℕ) (said : Text) (a b : Session) (text : Text) → Performs (tasks.Choose limit) said a b text
    → AnswersChoice limit said a b text
chooses limit said a b text does =
    let task = tasks.Choose limit in
    let wanted = wanted_number a in
    let plays = no_moves (λ c d told. PlaysTask task does.0 wanted c d told) a.device b.device _ does.1.happens.happens in (
      plays.0,
      again _ (ServesChoice limit wanted plays.0) said (task_met task a) b does.0 _ text does.1 plays.1 plays.2,
    )

pub settles : (time : ℕ) (said : Text) (a b : Session) (text : Text) → Performs (tasks.SetClock time) said a b text
    → Answered (SettlesUntil time said a (record b { clock = time })) (decimal_line time) text
settles time said a b text does =
    let answered = does.1 in
    let played = answered.happens in
    let plays = no_moves (λ c d told. PlaysTask (tasks.SetClock time) does.0 0 c d told) a.device b.device _ played.happens in
    record {
      told = answered.told;
      happens = record {
        moved = plays.0;
        settled = b;
        settles = record { told = played.told; happens = plays.2; after = played.after; text_is = played.text_is };
        after = refl;
      };
      text_is = answered.text_is ∙ ap (λ (l : Text). answered.told ++ l) plays.1;
    }

pub moved_fits : (task : Task) (into : List ℕ) (moves : List Move) (a b : PlayedAdapter) (told : List Told) → InOrder Makes moves a b told
    → FitsTask task into a → FitsTask task into b
moved_fits (tasks.Read (Register offset) address wanted) into moves a b told made fits = fits
moved_fits (tasks.Read Memory address wanted) into moves a b told made fits =
    (fits.0, moves_keep moves a b told address (length into) made ∙ fits.1)
moved_fits (tasks.Write (Register offset) address bytes) into moves a b told made fits = fits
moved_fits (tasks.Write Memory address bytes) into moves a b told made fits =
    moves_keep moves a b told address (length bytes.now) made ∙ fits
moved_fits (tasks.Step kind) into moves a b told made fits = tt
moved_fits (tasks.Arrive frame) into moves a b told made fits = tt
moved_fits tasks.Settle into moves a b told made fits = tt
moved_fits (tasks.Offer frame) into moves a b told made fits = tt
moved_fits (tasks.Choose limit) into moves a b told made fits = tt
moved_fits (tasks.SetClock time) into moves a b told made fits = tt

-- the session after its agenda, if there is one, has met the task
abbrev pub met_by : Task → Session → Session
met_by task session = record session {
  agenda = task_agenda task session.device.machine.world.adapter session.agenda;
  number = task_number task session.number;
}

-- What answers a task after the recorder began the task's event.
abbrev pub AnswersBegun : Task → (said : Text) → Session → Session → Text → Type 0
AnswersBegun task said a b text =
    AnswersAfter (task_moves task a.device a.agenda) (number_wanted task a.number (task_wanted task a.agenda)) task said (met_by task a) b
    text

pub performs : {T E : Type 0} (result : Result T E) (task : Task) (said : Text) (a begun b : Session)
    (before after : Option (List ℕ)) → begun ≡ task_begun task a → TellsAnswer result before after (AnswersBegun task said begun) b
    → TellsAnswer result before after (Performs task said a) b
performs result task said a begun b before after same tells =
    subst (λ (s : Session). TellsAnswer result before after (AnswersBegun task said s) b) same tells
