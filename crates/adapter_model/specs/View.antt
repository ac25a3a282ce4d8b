-- The plain data of an adapter, from its fields and from its register file.
use Rattle.std.specs.Prelude.{ℕ, List}
use Rattle.adapter_model.specs.declared.adapter.Adapter.TheInside.{Inside}
use Rattle.adapter_model.specs.declared.register_file.RegisterFile.{RegisterFile}
use Rattle.mdic_phy.specs.declared.phy.Link.TheVariants.{Never}
use Rattle.adapter_model.specs.Hashed.{file_of}
use Rattle.adapter_model.specs.Registers.{adapter_at_reset, new_adapter}
use Rattle.adapter_model.specs.State.{AdapterState, IsAdapter}

-- The state in which these registers, which are those that a reset sets, replace the adapter's. The other fields don't change.
abbrev pub with_file : RegisterFile → AdapterState → AdapterState
with_file file state = record state {
  device_control = file.ctrl.0;
  eerd = file.eerd;
  mdic = file.mdic;
  causes = file.causes;
  filter = file.filter;
  transmit_control = file.tctl.0;
  receive_ring = file.receive_ring;
  transmit_ring = file.transmit_ring;
  missed_packets = file.mpc;
  received_packets = file.gprc;
  transmitted_packets = file.gptc;
  no_receive_buffers = file.rnbc;
}

-- The plain data of an adapter with these fields: the registers of its file, in place of those after a reset, and its other fields.
abbrev pub state_of : Inside → AdapterState
state_of inside = with_file inside.file (record (adapter_at_reset inside.image inside.phy inside.packet_buffer) {
  receiver = inside.receiver;
  transmitter = inside.transmitter;
})

-- The plain data of the fields meets the invariant of an adapter.
abbrev pub IsConsistent : Inside → Type 0
IsConsistent inside = IsAdapter (state_of inside)

-- The register file after a reset, by the words of the EEPROM. It depends neither on the PHY nor on PBA.
abbrev pub registers_at_reset : List ℕ → RegisterFile
registers_at_reset words = file_of (new_adapter words Never)
