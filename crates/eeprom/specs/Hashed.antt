-- The values that EERD writes to a hasher: its whole state (our choice).
use Rattle.std.specs.Prelude.{◌++◌}
use Rattle.std.specs.Hash.{HashWrites, u8, u16}
use Rattle.eeprom.specs.declared.eerd.ReadState.{ReadState}
use Rattle.eeprom.specs.declared.eerd.ReadState.TheVariants.{Idle, Pending, Done}

-- What EERD feeds: a tag for the state of the read, and then what the state contains.
abbrev pub eerd_writes : ReadState → HashWrites
eerd_writes Idle = u8 0
eerd_writes (Pending address) = u8 1 ++ u8 address
eerd_writes (Done address word) = u8 2 ++ u8 address ++ u16 word
