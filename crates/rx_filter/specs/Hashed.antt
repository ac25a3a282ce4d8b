-- The values that the receive filter writes to a hasher: its whole state (our choice).
use Rattle.std.specs.Prelude.{◌++◌}
use Rattle.std.specs.Hash.{HashWrites, slice, u16, u32}
use Rattle.rx_filter.specs.Registers.{FilterRegisters}

-- What the filter feeds: RCTL, VET and its tables, each table after the number of its words.
abbrev pub filter_writes : FilterRegisters → HashWrites
filter_writes registers = u32 registers.rctl
    ++ u16 registers.vet
    ++ slice u32 registers.ral
    ++ slice u32 registers.rah
    ++ slice u32 registers.mta
    ++ slice u32 registers.vfta
