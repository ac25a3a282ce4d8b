use Rattle.std.proofs.Common.{arith, drop, length, ◌-◌}
use Rattle.std.proofs.lemmas.List.{length-drop, take_all}
use Rattle.server_output.proofs.PartsWritten.{all_said, keeps_same, said_more, said_none, said_part, says_stop}
use Rattle.server_output.proofs.output.say.Goals as goal

pub loop-turn-init : goal.loop-turn-init
loop-turn-init g c = record { said = said_none c.args.text.now (g.W.Write.contents c.args.out.now); few = omega arith }

pub returns-then-written-text : goal.returns-then-written-text
returns-then-written-text g c =
    all_said c.args.text.now c.loop-turn.written (g.W.Write.contents c.args.out.now) (g.W.Write.contents c.loop-turn.out) (omega arith)
    c.loop-turn.invariant.said

pub loop-turn-preserved : goal.loop-turn-preserved
loop-turn-preserved g c =
    let text = c.args.text.now in
    let rest = drop c.loop-turn.written text in
    record {
      said = said_more text _ c.loop-turn.written c.in_ok-written.field-0 (g.W.Write.contents c.args.out.now)
          (g.W.Write.contents c.loop-turn.out) (g.W.Write.contents c.write_some.new.out) c.loop-turn.invariant.said
          (take_all (length text - c.loop-turn.written) rest (omega (arith, length-drop c.loop-turn.written text)))
          c.in_ok-written.ensures.ok;
      few = omega (arith, c.in_ok-written.ensures.few, length-drop c.loop-turn.written text);
    }

pub returns-in_err-written : goal.returns-in_err-written
returns-in_err-written g c =
    says_stop c.from_residual.result c.args.text.now (g.W.Write.contents c.args.out.now) (g.W.Write.contents c.write_some.new.out)
    c.from_residual.ensures.0
    (said_part c.args.text.now (drop c.loop-turn.written c.args.text.now) (g.W.Write.contents c.args.out.now)
    (g.W.Write.contents c.loop-turn.out) (g.W.Write.contents c.write_some.new.out) c.loop-turn.invariant.said
    c.in_err-written.ensures.err)

pub returns : goal.returns
returns g c =
    said_part c.args.text.now (drop c.loop-turn.written c.args.text.now) (g.W.Write.contents c.args.out.now)
    (g.W.Write.contents c.loop-turn.out) (g.W.Write.contents c.loop-turn.out) c.loop-turn.invariant.said
    (keeps_same (g.W.Write.contents c.loop-turn.out))
