use Rattle.std.proofs.Common.{◌≡◌, length}
use Rattle.adapter.specs.Keeping.{Keeps}
use Rattle.bring_up.proofs.EepromImages.{FirstWords}
use Rattle.bring_up.proofs.eeprom_reading.read_image.Given as goal

-- The words read so far are those of the adapter's EEPROM.
abbrev pub invariant-loop-address : goal.invariant-loop-address
invariant-loop-address g l = record {
  keeps : Keeps g.B.Bus l.fn.bus l.bus;
  size : length l.words ≡ 64;
  first : g.B.Bus.honest l.fn.bus → FirstWords g.B.Bus l.fn.bus l.bus l.words l.address;
}
