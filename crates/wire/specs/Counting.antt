-- The counts of a host (our choice).
use Rattle.std.specs.Prelude.{◌≡◌, ◌↔◌, ◌<◌, IsTrue}
use Rattle.registers.specs.Counting.{greatest_count}
use Rattle.adapter.specs.World.{World}
use Rattle.packet_socket.specs.HostState.{HostState}
use Rattle.wire.specs.Equations.{IsExact, missed_count}
use Rattle.wire.specs.declared.counts.Counts.{Counts}

-- These are the counts of the host: missed frames, and whether their number is exact; RNBC, GPRC and GPTC; and frames
-- without a socket.
pub record AreCounts (host : HostState) (world : World) (counts : Counts) : Type 0 where
  pub missed : counts.missed ≡ missed_count host world
  pub exact : IsTrue counts.exact ↔ IsExact host world
  -- a number of missed frames below MPC's greatest value is exact
  pub small : counts.missed < greatest_count → IsTrue counts.exact
  pub without_descriptor : counts.without_descriptor ≡ world.adapter.no_receive_buffers
  pub received : counts.received ≡ world.adapter.received_packets
  pub transmitted : counts.transmitted ≡ world.adapter.transmitted_packets
  pub unclaimed : counts.unclaimed ≡ host.unclaimed
