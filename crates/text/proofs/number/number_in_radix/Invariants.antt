use Rattle.std.proofs.Common.{◌≡◌, ◌<◌, ◌^◌, take}
use Rattle.std.specs.Str.Parse.{AllDigits, digits_value}
use Rattle.text.proofs.number.number_in_radix.Given as goal

abbrev pub invariant-loop-byte : goal.invariant-loop-byte
invariant-loop-byte l = record {
  all : AllDigits l.radix (take l.byte-index l.bytes);
  value : l.value ≡ digits_value l.radix (take l.byte-index l.bytes);
  small : l.value < 2 ^ 64;
}
