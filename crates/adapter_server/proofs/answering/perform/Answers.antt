use Rattle.std.proofs.Common.{◌≡◌, ◌++◌, ◌∙◌, None, ap, refl, sym}
use Rattle.std.specs.Prelude.{Err, Option, Result}
use Rattle.played_adapter.specs.Moves.{AfterMoves}
use Rattle.server_output.specs.Answers.{line_of}
use Rattle.server_output.specs.TellingLaws.{written_joins}
use Rattle.server_output.specs.declared.answer_error.AnswerError.{AnswerError}
use Rattle.server_output.specs.declared.answer_error.AnswerError.TheVariants.{Memory}
use Rattle.server_output.proofs.PartsWritten.{keeps_same}
use Rattle.step_schedules.specs.Players.{RecorderState}
use Rattle.adapter_server.specs.Tasks.{PlaysTask, number_wanted, task_moves, task_wanted}
use Rattle.adapter_server.specs.declared.session.Session.{Session}
use Rattle.adapter_server.proofs.Printing.{answer_none, answered, unsaid}
use Rattle.adapter_server.proofs.Tasks.{AnswersBegun, met_by, moved_fits, performs}
use Rattle.adapter_server.proofs.answering.perform.Goals as goal

pub play-requires : goal.play-requires
play-requires g c =
    let moves = c.meet-due.ensures.moves in
    moved_fits c.args.task c.args.into.now _ c.args.session.now.device c.meet-due.new.device moves.told moves.holds c.requires

pub returns-in_err-begin : goal.returns-in_err-begin
returns-in_err-begin g c = answer_none c.from_residual.result _ _ _ c.from_residual.ensures.0

pub returns-in-Ok : goal.returns-in-Ok
returns-in-Ok g c =
    let a = c.args.session.now in
    let begun : Session = record a { kept = record a.kept { recorder = c.begin.new.recorder } } in
    let said = c.args.said.now in
    let task = c.args.task in
    let moves = task_moves task a.device a.agenda in
    let wanted = number_wanted task a.number (task_wanted task a.agenda) in
    let is_wanted : c.take_number-wanted.result ≡ wanted =
    c.take_number-wanted.ensures.number ∙ ap (number_wanted task a.number) c.meet-due.ensures.wanted in
    let line = line_of c.in-Ok.answer in
    let first = c.meet-due.new.observer in
    let last = c.play.new.observer in
    let meets = c.meet-due.ensures.moves in
    let plays = rw is_wanted at c.in-Ok.ensures.plays in
    let contents = g.W.Write.contents in
    rw (
      c.out-1.given.1 (sym (c.end.ensures.lent ∙ plays.hears.0 ∙ meets.hears.0)),
      ap (λ lines. lines.kept.now) c.end.ensures.state,
      c.meet-due.ensures.met,
      c.take_number-wanted.ensures.taken,
    )
    (performs c.end.result task said a begun _ _ _
    (ap (λ (r : Option RecorderState). record a { kept = record a.kept { recorder = r } }) c.in_ok-begin.ensures)
    (answered (AfterMoves moves (λ d e told. PlaysTask task line wanted d e told)) said (met_by task begun) c.play.new.device
    (meets.told ++ plays.told)
    (record {
      middle = c.meet-due.new.device;
      first = meets.told;
      rest = plays.told;
      happens = meets.holds;
      goes_on = plays.holds;
      told_is = refl;
    }) line (AnswersBegun task said begun) (λ (b : Session). b)
    (λ b text plays. (line, record { told = text; happens = plays; text_is = refl })) c.end.result last.said.now last.kept.now
    last.stopped (contents c.args.out.now) (contents last.out.now) (contents c.end.new.self.out.now)
    (written_joins said first.said.now last.said.now begun.kept first.kept.now last.kept.now None first.stopped last.stopped
    (contents c.args.out.now) (contents first.out.now) (contents last.out.now) meets.told plays.told meets.hears.2 plays.hears.2)
    c.end.ensures.ends))

pub returns-in-Err : goal.returns-in-Err
returns-in-Err g c =
    let a = c.args.session.now in
    let begun : Session = record a { kept = record a.kept { recorder = c.begin.new.recorder } } in
    let said = c.args.said.now in
    let task = c.args.task in
    let moves = task_moves task a.device a.agenda in
    let wanted = number_wanted task a.number (task_wanted task a.agenda) in
    let is_wanted : c.take_number-wanted.result ≡ wanted =
    c.take_number-wanted.ensures.number ∙ ap (number_wanted task a.number) c.meet-due.ensures.wanted in
    let first = c.meet-due.new.observer in
    let last = c.play.new.observer in
    let meets = c.meet-due.ensures.moves in
    let plays = rw is_wanted at c.in-Err.ensures.plays in
    let line = plays.holds.0 in
    let stopped : Result (Unit {0}) AnswerError = Err Memory in
    let contents = g.W.Write.contents in
    let now = contents last.out.now in
    rw (c.out-in-Err-1.given.1 (sym (plays.hears.0 ∙ meets.hears.0)))
    (performs stopped task said a begun begun (contents c.args.out.now) now
    (ap (λ (r : Option RecorderState). record a { kept = record a.kept { recorder = r } }) c.in_ok-begin.ensures)
    (unsaid (AfterMoves moves (λ d e told. PlaysTask task line wanted d e told)) said (met_by task begun) plays.holds.1
    (meets.told ++ plays.told)
    (record {
      middle = c.meet-due.new.device;
      first = meets.told;
      rest = plays.told;
      happens = meets.holds;
      goes_on = plays.holds.2;
      told_is = refl;
    }) line (AnswersBegun task said begun) (λ (b : Session). b)
    (λ b text plays. (line, record { told = text; happens = plays; text_is = refl })) stopped last.said.now last.kept.now
    last.stopped begun (contents c.args.out.now) now now
    (written_joins said first.said.now last.said.now begun.kept first.kept.now last.kept.now None first.stopped last.stopped
    (contents c.args.out.now) (contents first.out.now) now meets.told plays.told meets.hears.2 plays.hears.2)
    (refl, keeps_same now)))
