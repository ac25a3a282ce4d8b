use Rattle.std.proofs.Common.{None, Option, subst, sym}
use Rattle.std.specs.Prelude.{Err, IfErr, IfOk, IfSome, Ok, OnErr, OnOk, Result}
use Rattle.std.specs.Result.{result_and}
use Rattle.step_schedules.specs.declared.player.Player.{Player}
use Rattle.server_output.specs.Order.{WritesText}
use Rattle.adapter_server.specs.Serving.{FromNew, ServesAll, ServesBegun, ServesFront, ServesPart, ServesSome, ServesTo}
use Rattle.adapter_server.specs.Serving.{new_server, player_of}
use Rattle.server_output.proofs.PartsWritten.{whatever_err}
use Rattle.adapter_server.proofs.FromNew.{from_any, from_new, new_with, read_from}
use Rattle.server_output.specs.declared.answer_error.AnswerError.TheVariants as causes
use Rattle.adapter_server.specs.declared.serve_error.ServeError.TheVariants as errors
use Rattle.adapter_server.proofs.ServedLines.{never_read, serves_none, serves_to}
use Rattle.adapter_server.proofs.ServedParts.{serves_stopped}
use Rattle.adapter_server.proofs.server.serve.Goals as goal

and_ok : {T U E : Type 0} (served : Result U E) (left : T) (P : T → Type 0) (Q : Type 0) → (Q → P left) → OnOk served Q
    → IfOk (result_and served (Ok left)) P
and_ok (Ok value) left P Q so holds = so holds
and_ok (Err error) left P Q so holds = tt

and_if_err : {T U E : Type 0} (served : Result U E) (left : T) (P Q : E → Type 0) → ((error : E) → Q error → P error) → IfErr served Q
    → IfErr (result_and served (Ok left)) P
and_if_err (Ok value) left P Q so holds = tt
and_if_err (Err error) left P Q so holds = so error holds

and_err : {T U E : Type 0} (served : Result U E) (left : T) (P Q : Type 0) → (Q → P) → OnErr served Q
    → OnErr (result_and served (Ok left)) P
and_err (Ok value) left P Q so holds = tt
and_err (Err error) left P Q so holds = so holds

pub returns-clause-ok : goal.returns-clause-ok
unfolding ServesAll
returns-clause-ok g c =
    let left = g.R.Read.remaining c.args.input in
    let before = g.W.Write.contents c.args.output.now in
    let after = g.W.Write.contents c.serve_lines-served.new.output in
    let last = c.serve_lines-served.new.server in
    let options = c.args.options.now in
    let serves : Option Player → Type 0 = λ player.
    IfSome left (λ bytes. FromNew options c.args.player (λ begin. WritesText before after (ServesTo bytes begin player))) in
    rw c.and.ensures
    (and_ok c.serve_lines-served.result c.into_player-left.result serves _
    (λ whole. subst serves (sym c.into_player-left.ensures)
    (from_new options c.args.player c.new_server-server.result left (λ bytes begin. WritesText before after (ServesTo bytes begin
    (player_of last.session.agenda last.session.kept.recorder)))
    (new_with c.args.options.now c.args.player c.in_ok-device.device c.new_server-server.result c.in_ok-device.ensures
    c.new_server-server.ensures) (serves_to left c.new_server-server.result last before after whole)))
    c.serve_lines-served.ensures.ok)

pub returns-in_err-device-clause-read : goal.returns-in_err-device-clause-read
returns-in_err-device-clause-read g c =
    read_from c.from_residual.result errors.Memory _ c.from_residual.ensures.1 (λ read. absurd (never_read causes.Memory read))

pub returns-in_err-device-clause-begun : goal.returns-in_err-device-clause-begun
unfolding ServesPart
returns-in_err-device-clause-begun g c =
    let left = g.R.Read.remaining c.args.input in
    let written = g.W.Write.contents c.args.output.now in
    let options = c.args.options.now in
    let begin = new_server options c.args.player None in
    whatever_err c.from_residual.result _
    (from_any options c.args.player left (λ bytes begin. WritesText written written (ServesBegun bytes begin))
    (serves_stopped left left begin begin written written (serves_none left begin written)))

pub returns-clause-read : goal.returns-clause-read
unfolding ServesSome
returns-clause-read g c =
    let left = g.R.Read.remaining c.args.input in
    let before = g.W.Write.contents c.args.output.now in
    let after = g.W.Write.contents c.serve_lines-served.new.output in
    rw c.and.ensures
    (and_if_err c.serve_lines-served.result c.into_player-left.result _ _
    (λ error front read. from_new c.args.options.now c.args.player c.new_server-server.result left
    (λ bytes begin. WritesText before after (ServesFront bytes begin)) (new_with c.args.options.now c.args.player c.in_ok-device.device
    c.new_server-server.result c.in_ok-device.ensures c.new_server-server.ensures) (front read))
    c.serve_lines-served.ensures.read)

pub returns-clause-begun : goal.returns-clause-begun
unfolding ServesPart
returns-clause-begun g c =
    let left = g.R.Read.remaining c.args.input in
    let before = g.W.Write.contents c.args.output.now in
    let after = g.W.Write.contents c.serve_lines-served.new.output in
    rw c.and.ensures
    (and_err c.serve_lines-served.result c.into_player-left.result _ _
    (from_new c.args.options.now c.args.player c.new_server-server.result left
    (λ bytes begin. WritesText before after (ServesBegun bytes begin)) (new_with c.args.options.now c.args.player c.in_ok-device.device
    c.new_server-server.result c.in_ok-device.ensures c.new_server-server.ensures))
    c.serve_lines-served.ensures.begun)
