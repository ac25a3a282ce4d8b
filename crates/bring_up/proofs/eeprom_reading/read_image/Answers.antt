use Rattle.std.proofs.Common.{arith, rules}
use Rattle.adapter.proofs.Keeping.{keeps-here, keeps-on}
use Rattle.bring_up.proofs.EepromImages.{all-read, first-more, first-none, read-failed}
use Rattle.bring_up.proofs.eeprom_reading.read_image.Goals as goal

pub loop-address-init : goal.loop-address-init
loop-address-init g c = record {
  keeps = keeps-here g.B.Bus g.met.B.Bus.composes.lent_stays_here c.args.bus.now;
  size = search rules;
  first = λ honest. first-none g.B.Bus g.met.B.Bus.composes.stays c.args.bus.now _;
}

pub loop-address-preserved : goal.loop-address-preserved
loop-address-preserved g c =
    let kept = c.loop-address.invariant in
    let now = c.loop-address.bus in
    let next = c.read_word.new.bus in
    record {
      keeps = keeps-on g.B.Bus g.met.B.Bus.composes.lent_stays_on c.args.bus.now now next kept.keeps c.read_word.ensures.keeps;
      size = search rules;
      first = λ honest.
          first-more g.B.Bus g.met.B.Bus.composes.joins c.args.bus.now now next c.loop-address.words c.loop-address.address
          c.in_ok-words.field-0 (omega arith) (kept.first honest) (c.in_ok-words.ensures.reads (kept.keeps.honest honest));
    }

pub returns-in_err-words-clause-reads : goal.returns-in_err-words-clause-reads
returns-in_err-words-clause-reads g c honest =
    let kept = c.loop-address.invariant in
    let now = c.loop-address.bus in
    let next = c.read_word.new.bus in
    read-failed g.B.Bus g.met.B.Bus.composes.joins c.args.bus.now now next c.loop-address.words c.loop-address.address _
    c.from_residual.result c.from_residual.ensures.0 (kept.first honest) (c.in_err-words.ensures.reads (kept.keeps.honest honest))

pub returns-clause-reads : goal.returns-clause-reads
returns-clause-reads g c honest =
    all-read g.B.Bus c.args.bus.now c.loop-address.bus c.loop-address.words c.from_words.result
    c.loop-address.address c.loop-address-test.false c.from_words.ensures.words c.from_words.ensures.size
    (c.loop-address.invariant.first honest)
