-- The frames of a drive: those passed to the driver, those received, and the trace (our choice).
use Rattle.std.specs.Prelude.{◌≡◌, ◌++◌, ℕ, List, Option, count_by, length, true}
use Rattle.std.specs.Io.KnownBytes.{Appends}
use Rattle.descriptors.specs.Frames.{is_sendable}
use Rattle.dma_memory.specs.Layout.{Counts}
use Rattle.adapter.specs.bus_types.bus.Bus.{Ghosts}
use Rattle.packet_socket.specs.HostCalls.{HostMoment, IsReadyHost}
use Rattle.pcap_trace.specs.Format.{written}
use Rattle.pcap_trace.specs.declared.unit.Unit.TheVariants.{Micros}
use Rattle.drive.specs.Exchanging.{HostFlows, accepted_of_all, is_illegal, saturated}
use Rattle.drive.specs.Numbering.{timed_by_number}
use Rattle.drive.specs.declared.counts.DriveCounts.{DriveCounts}
use Rattle.drive.specs.declared.counts.DriveRings.{DriveRings}

-- the numbers of descriptors and buffers, as those of a layout
abbrev pub layout_counts : DriveRings → Counts
layout_counts rings = record { rx = rings.rx; tx = rings.tx; buffers = rings.buffers }

-- An adapter was initialized with these rings. Then the driver accepted the frames `accepted`, and the socket returned the frames
-- `received`, over a bus that obeys the bus law.
pub record DrivesLawfully {B : Type 0} (bus : Ghosts B) (rings : DriveRings) (accepted received : List (List ℕ)) (new : B) : Type 0 where
  -- the moment after the initialization
  pub up : HostMoment B
  pub ready : IsReadyHost bus true up
  pub layout : up.host.driver.layout ≡ layout_counts rings
  -- the moment at the end
  pub end : HostMoment B
  pub end_is : end.bus ≡ new
  pub flows : HostFlows bus accepted received up end

-- The first frames of the list, `handed`, were passed to the driver, each once and in order. `sent` counts those that have 14 to 1,518
-- bytes, and `illegal` the others. The frames `received` were received and counted, and the trace of exactly these frames, in order, was
-- written. Counts saturate. Over a bus that obeys the bus law, the driver accepted the frames that `sent` counts, padded, and the socket
-- returned the frames `received`.
pub record Drives {B : Type 0} (bus : Ghosts B) (rings : DriveRings) (frames : List (List ℕ)) (counts : DriveCounts)
    (before after : Option (List ℕ)) (old new : B)
    : Type 0 where
  pub handed : List (List ℕ)
  pub left : List (List ℕ)
  pub parts : frames ≡ handed ++ left
  pub sent_is : counts.sent ≡ saturated (count_by is_sendable handed)
  pub illegal_is : counts.illegal ≡ saturated (count_by is_illegal handed)
  pub received : List (List ℕ)
  pub received_is : counts.received ≡ saturated (length received)
  pub trace : Appends before after (written Micros (timed_by_number 0 received))
  pub lawfully : bus.honest old → DrivesLawfully bus rings (accepted_of_all handed) received new
