use Rattle.std.proofs.Common.{◌≡◌, ◌+◌}
use Rattle.adapter.specs.Keeping.{Keeps}
use Rattle.bring_up.proofs.EepromWords.{Awaits}
use Rattle.bring_up.proofs.eeprom_reading.read_word.Given as goal

-- The word was requested, and EERD was read this number of times. Over a lively bus the first read shows DONE.
abbrev pub invariant-loop : goal.invariant-loop
invariant-loop g l = record {
  keeps : Keeps g.B.Bus l.fn.bus l.bus;
  awaits : g.B.Bus.honest l.fn.bus → Awaits g.B.Bus l.fn.bus l.bus l.address (l.counter + 1);
  first : g.B.Bus.lively l.fn.bus → g.B.Bus.honest l.fn.bus → l.counter ≡ 0;
}
