-- The values that the transmit engine writes to a hasher: its whole state (our choice).
use Rattle.std.specs.Prelude.{◌++◌, map}
use Rattle.std.specs.List.{flat_map}
use Rattle.std.specs.Hash.{HashWrites, bool, u64}
use Rattle.descriptors.specs.HashedFrames.{frames_writes}
use Rattle.tx_engine.specs.Transmitter.{Queued, Transmitter}
use Rattle.tx_engine.specs.declared.report.Report.{Report}

-- What a report feeds: the address of a frame's descriptor, and RS.
abbrev pub report_writes : Report → HashWrites
report_writes report = u64 report.descriptor ++ bool report.rs

-- What a frame in the packet buffer feeds besides its bytes: the address of its descriptor, and RS.
abbrev pub queued_writes : Queued → HashWrites
queued_writes queued = u64 queued.descriptor ++ bool queued.rs

-- What the transmit engine feeds: whether it is stopped, the number of frames in its buffer, these frames, and then each descriptor's
-- address and RS.
abbrev pub transmitter_writes : Transmitter → HashWrites
transmitter_writes engine = bool engine.stopped
    ++ frames_writes (map (λ queued. queued.frame) engine.buffer)
    ++ flat_map queued_writes engine.buffer
