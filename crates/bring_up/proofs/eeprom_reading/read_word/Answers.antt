use Rattle.std.proofs.Common.{arith, refl, ◌+◌, ◌<◌, ◌^◌}
use Rattle.adapter.proofs.Keeping.{keeps-on}
use Rattle.bring_up.proofs.EepromWords.{awaits-read, awaits-write, gave-up, never-slow, start-with, word-read}
use Rattle.bring_up.proofs.eeprom_reading.read_word.Goals as goal

pub loop-init : goal.loop-init
loop-init g c =
    let small : c.args.address < 256 = c.ranges.address.fits in
    let written = start-with c.args.address c.from.result c.from.ensures small in
    record {
      keeps = c.write.ensures.keeps;
      awaits = λ honest.
          awaits-write g.B.Bus c.args.bus.now c.write.new.self c.args.address _ small written
          (c.write.ensures.acts honest);
      first = λ alive honest. refl;
    }

pub loop-preserved : goal.loop-preserved
loop-preserved g c =
    let start = c.args.bus.now in
    let now = c.loop.bus in
    let next = c.read-answer.new.self in
    let value = c.read-answer.result in
    let tells = λ (honest : g.B.Bus.honest start).
    awaits-read g.B.Bus g.met.B.Bus.composes.joins start now next c.args.address (c.loop.counter + 1) value
    (c.loop.invariant.awaits honest) (c.read-answer.ensures.acts (c.loop.invariant.keeps.honest honest)) in
    record {
      keeps = keeps-on g.B.Bus g.met.B.Bus.composes.lent_stays_on start now next c.loop.invariant.keeps c.read-answer.ensures.keeps;
      awaits = λ honest. (tells honest).awaits;
      first = λ alive honest.
          let still = c.loop.invariant.keeps.lively alive in
          absurd (never-slow g.B.Bus start now next c.args.address _ value still c.if-answer-ne0.false (tells honest));
    }

pub returns-then-answer-ne0-clause-reads : goal.returns-then-answer-ne0-clause-reads
returns-then-answer-ne0-clause-reads g c honest =
    let start = c.args.bus.now in
    let now = c.loop.bus in
    let next = c.read-answer.new.self in
    let value = c.read-answer.result in
    let small : c.args.address < 256 = c.ranges.address.fits in
    let fits : value < 2 ^ 32 = c.read-answer.type_inv in
    let tells =
    awaits-read g.B.Bus g.met.B.Bus.composes.joins start now next c.args.address (c.loop.counter + 1) value
    (c.loop.invariant.awaits honest) (c.read-answer.ensures.acts (c.loop.invariant.keeps.honest honest)) in
    word-read g.B.Bus start now next c.args.address _ value small fits c.if-answer-ne0.true tells

pub returns-clause-reads : goal.returns-clause-reads
returns-clause-reads g c honest =
    gave-up g.B.Bus c.args.bus.now c.loop.bus c.args.address (c.loop.counter + 1) (omega arith)
    (c.loop.invariant.awaits honest)
