-- The values that the receive engine writes to a hasher: its whole state (our choice).
use Rattle.std.specs.Prelude.{◌++◌, true, false, Option, Some, None}
use Rattle.std.specs.Hash.{HashWrites, bool, u16, u64}
use Rattle.descriptors.specs.HashedFrames.{frames_writes}
use Rattle.rx_engine.specs.Receiver.{Receiver}
use Rattle.rx_engine.specs.declared.engine.Work.{Work}

-- What the piece in progress feeds: whether there is a piece, and then the piece.
abbrev pub work_writes : Option Work → HashWrites
work_writes None = bool false
work_writes (Some work) = bool true ++ u64 work.descriptor ++ u16 work.length ++ bool work.ends

-- What the receive engine feeds: its whole state.
abbrev pub receiver_writes : Receiver → HashWrites
receiver_writes engine = bool engine.stopped ++ u16 engine.moved ++ work_writes engine.work ++ frames_writes engine.buffer
