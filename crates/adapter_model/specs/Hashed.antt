-- The values that an adapter writes to a hasher: its whole state except the image of the EEPROM, which never changes (our choice).
use Rattle.std.specs.Prelude.{◌++◌}
use Rattle.std.specs.Hash.{HashWrites, u16, u32}
use Rattle.eeprom.specs.Hashed.{eerd_writes}
use Rattle.mdic_phy.specs.Hashed.{mdic_writes, phy_writes}
use Rattle.rx_engine.specs.Hashed.{receiver_writes}
use Rattle.rx_filter.specs.Hashed.{filter_writes}
use Rattle.tx_engine.specs.Hashed.{transmitter_writes}
use Rattle.registers.specs.PacketBuffer.{allocation_shown}
use Rattle.adapter_model.specs.State.{AdapterState}
use Rattle.adapter_model.specs.declared.register_file.RegisterFile.{RegisterFile}
use Rattle.adapter_model.specs.declared.ring.RingRegisters.{RingRegisters}

-- The values that the registers of a ring feed to a hasher: low and high word of the address, length in bytes, head and tail.
abbrev pub ring_writes : RingRegisters → HashWrites
ring_writes ring = u32 ring.base_low ++ u32 ring.base_high ++ u32 ring.length_bytes ++ u16 ring.head ++ u16 ring.tail

-- The values that the register file feeds to a hasher: each register, in this order.
abbrev pub file_writes : RegisterFile → HashWrites
file_writes file = u32 file.ctrl.0
    ++ u32 file.tctl.0
    ++ u32 file.causes.recorded
    ++ u32 file.causes.mask
    ++ u32 file.mpc
    ++ u32 file.gprc
    ++ u32 file.gptc
    ++ u32 file.rnbc
    ++ ring_writes file.receive_ring
    ++ ring_writes file.transmit_ring
    ++ eerd_writes file.eerd
    ++ mdic_writes file.mdic
    ++ filter_writes file.filter

-- The register file, which contains the registers that a reset sets, from the plain data of an adapter.
abbrev pub file_of : AdapterState → RegisterFile
file_of adapter = record {
  ctrl = record { 0 = adapter.device_control };
  eerd = adapter.eerd;
  mdic = adapter.mdic;
  causes = adapter.causes;
  tctl = record { 0 = adapter.transmit_control };
  receive_ring = adapter.receive_ring;
  transmit_ring = adapter.transmit_ring;
  mpc = adapter.missed_packets;
  gprc = adapter.received_packets;
  gptc = adapter.transmitted_packets;
  rnbc = adapter.no_receive_buffers;
  filter = adapter.filter;
}

-- The values that an adapter feeds to a hasher: the value of PBA, the register file, the PHY, and both engines.
abbrev pub adapter_writes : AdapterState → HashWrites
adapter_writes adapter = u32 (allocation_shown adapter.receive_kilobytes)
    ++ file_writes (file_of adapter)
    ++ phy_writes adapter.phy
    ++ receiver_writes adapter.receiver
    ++ transmitter_writes adapter.transmitter
