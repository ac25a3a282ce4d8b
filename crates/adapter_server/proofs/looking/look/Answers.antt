use Rattle.std.proofs.Common.{◌≡◌, ◌∙◌, [], ap, codes, rules, subst, sym}
use Rattle.std.specs.Prelude.{List, ℕ}
use Rattle.access_names.specs.Names.{target_text}
use Rattle.access_names.specs.declared.engine_fault.EngineFault.{EngineFault}
use Rattle.server_output.specs.Texts.{enabled_line, faults_line, ok_line, rings_line, word_line}
use Rattle.registers.specs.Ports.{port_answer}
use Rattle.adapter_server.specs.Answers.{AnswersEnabled, AnswersFaults, AnswersRings, AnswersTarget, Replies, TellsAnswer}
use Rattle.adapter_server.specs.Answers.{line_number}
use Rattle.adapter_server.specs.Sessions.{place_in, target_at_place}
use Rattle.adapter_server.specs.declared.session.Session.{Session}
use Rattle.adapter_server.proofs.Printing.{answer_so, fetched, replied}
use Rattle.adapter_server.proofs.looking.look.Goals as goal

pub returns-in-Port : goal.returns-in-Port
returns-in-Port g c =
    let a = c.args.session.now in
    rw c.in-Port.is
    (replied c.say_number.result _ a _ _
    (rw (c.from.ensures ∙ c.read_port-value.ensures
    ∙ ap (λ asserted. port_answer c.in-Port.port c.in-Port.width asserted a.function) c.line-asserted.ensures.line) at
    c.say_number.ensures))

pub returns-in-Endianness : goal.returns-in-Endianness
returns-in-Endianness g c =
    rw c.in-Endianness.is (replied c.say_word.result (word_line (codes "little")) c.args.session.now _ _ c.say_word.ensures)

pub returns-in-Line : goal.returns-in-Line
returns-in-Line g c =
    let level : c.from-in-Line.result ≡ line_number c.args.session.now.device = search rules in
    rw c.in-Line.is
    (replied c.say_number-in-Line.result _ c.args.session.now _ _ (rw level at c.say_number-in-Line.ensures))

pub returns-in-Digest : goal.returns-in-Digest
returns-in-Digest g c =
    rw c.in-Digest.is (replied c.say_number-in-Digest.result _ c.args.session.now _ _
    (rw c.digest.ensures at c.say_number-in-Digest.ensures))

pub returns-in-Frames : goal.returns-in-Frames
returns-in-Frames g c =
    let a = c.args.session.now in
    rw c.in-Frames.is
    (fetched c.say_frames.result (λ (put : List (List ℕ)). record a { kept = record a.kept { put = put } }) c.say_frames.new.frames _ _ _
    c.say_frames.ensures.none c.say_frames.ensures.text)

pub returns-in-Faults : goal.returns-in-Faults
returns-in-Faults g c =
    let a = c.args.session.now in
    let with : List EngineFault → Session = λ faults. record a { kept = record a.kept { faults = faults } } in
    let none : c.replace-faults.new.dest ≡ [] = c.replace-faults.ensures.after ∙ c.new.ensures in
    rw c.in-Faults.is
    (subst
    (λ (faults : List EngineFault). TellsAnswer c.say_faults.result (g.W.Write.contents c.args.out.now)
    (g.W.Write.contents c.say_faults.new.out) (AnswersFaults a) (with faults)) (sym none)
    (replied c.say_faults.result (faults_line a.kept.faults) (with []) _ _
    (rw c.replace-faults.ensures.value at c.say_faults.ensures)))

pub returns-in-Intercept : goal.returns-in-Intercept
returns-in-Intercept g c = rw c.in-Intercept.is (replied c.say.result ok_line c.args.session.now _ _ c.say.ensures)

pub returns-in-Enabled : goal.returns-in-Enabled
returns-in-Enabled g c =
    let a = c.args.session.now in
    let line = enabled_line c.enabled_steps.result in
    rw c.in-Enabled.is
    (answer_so c.say_enabled.result (Replies line a) (AnswersEnabled a) (λ (b : Session). b) a _ _
    (λ b text replies. record { enabled = c.enabled_steps.result; steps = c.enabled_steps.ensures; replies = replies })
    (replied c.say_enabled.result line a _ _ c.say_enabled.ensures))

pub returns-in-Ok : goal.returns-in-Ok
returns-in-Ok g c =
    let a = c.args.session.now in
    let named : c.as_slice.result.now ≡ target_text (target_at_place c.in-Ok.place c.in-Target.address a) =
    c.as_slice.ensures ∙ c.name-name.ensures ∙ ap target_text c.target_at.ensures in
    let tells : TellsAnswer c.say_word-in-Ok.result (g.W.Write.contents c.args.out.now) (g.W.Write.contents c.say_word-in-Ok.new.out)
    (AnswersTarget (place_in a c.in-Target.address c.in-Target.count) c.in-Target.address a) a =
    rw (← c.place_of.ensures, c.in-Ok.is) (replied c.say_word-in-Ok.result _ a _ _ (rw named at c.say_word-in-Ok.ensures)) in
    rw c.in-Target.is tells

pub returns-in-Err : goal.returns-in-Err
returns-in-Err g c =
    let a = c.args.session.now in
    let tells : TellsAnswer c.refuse.result (g.W.Write.contents c.args.out.now) (g.W.Write.contents c.refuse.new.out)
    (AnswersTarget (place_in a c.in-Target.address c.in-Target.count) c.in-Target.address a) a =
    rw (← c.place_of.ensures, c.in-Err.is) (replied c.refuse.result _ a _ _ c.refuse.ensures) in
    rw c.in-Target.is tells

pub returns-in-Rings : goal.returns-in-Rings
returns-in-Rings g c =
    let a = c.args.session.now in
    let line = rings_line c.of-receive.result c.of-transmit.result in
    rw c.in-Rings.is
    (answer_so c.say_rings.result (Replies line a) (AnswersRings a) (λ (b : Session). b) a _ _
    (λ b text replies. record {
      receive = c.of-receive.result;
      transmit = c.of-transmit.result;
      receive_is = c.of-receive.ensures.ring;
      transmit_is = c.of-transmit.ensures.ring;
      replies = replies;
    }) (replied c.say_rings.result line a _ _ c.say_rings.ensures))
