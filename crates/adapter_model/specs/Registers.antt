-- The value that a read of a register returns, and the state after power-on, a reset, a read and a write.
use Rattle.std.specs.Prelude.{◌&&◌, ℕ, Bool, false, List, ◌∷◌, Option, Some, None, bit_and, replicate, slice_index, slice_set}
use Rattle.std.specs.Prelude.{if◌then◌else◌}
use Rattle.eeprom.specs.declared.eerd.ReadState.TheVariants.{Idle}
use Rattle.eeprom.specs.Eerd as eeprom
use Rattle.mdic_phy.specs.declared.phy.Link.{Link}
use Rattle.mdic_phy.specs.Mdic as mdi
use Rattle.mdic_phy.specs.Phy.{PhyState, link_is_up, new_phy}
use Rattle.registers.specs.Bits.{is_set, union, difference}
use Rattle.registers.specs.Kept.{causes_of, status_of_link_up}
use Rattle.registers.specs.Places.{ctrl_rst, ctrl_slu}
use Rattle.rx_filter.specs.Registers.{FilterRegisters}
use Rattle.rx_engine.specs.Receiver.{new_receiver}
use Rattle.tx_engine.specs.Transmitter.{new_transmitter}
use Rattle.adapter_model.specs.declared.register.Register.{Register}
use Rattle.adapter_model.specs.declared.register.Register.TheVariants.{Ctrl, Status, Eerd, Mdic, Vet, Icr, Ics, Ims, Imc, Rctl, Tctl, Pba}
use Rattle.adapter_model.specs.declared.register.Register.TheVariants.{Receive, Transmit, Mpc, Gprc, Gptc, Rnbc, Mta, Ral, Rah, Vfta}
use Rattle.registers.specs.PacketBuffer.{allocation_shown, allocation_written}
use Rattle.adapter_model.specs.Rings.{new_ring, ring_answer, with_ring}
use Rattle.adapter_model.specs.State.{AdapterState}
use Rattle.adapter_model.specs.Table.{row_of, register_at, address_low_at_reset, address_high_at_reset}
use Rattle.rx_filter.specs.declared.filter.TheConstants.{VLAN_TYPE}

-- The receive filter after a reset: RAL(0) and RAH(0) contain the address in the EEPROM, with AV, and VET is the VLAN type of IEEE 802.1Q.
-- The other entries of RAL and RAH, and RCTL, MTA and VFTA, are 0.
abbrev pub filter_at_reset : List ℕ → FilterRegisters
filter_at_reset words = record {
  ral = address_low_at_reset 0 words ∷ replicate 15 0;
  rah = address_high_at_reset 0 words ∷ replicate 15 0;
  mta = replicate 128 0;
  vfta = replicate 128 0;
  rctl = 0;
  vet = VLAN_TYPE;
}

-- An adapter after a reset, by the words of its EEPROM, the state of its PHY, and the kilobytes of PBA.RXA.
abbrev pub adapter_at_reset : List ℕ → PhyState → ℕ → AdapterState
adapter_at_reset words phy kilobytes = record {
  image = words;
  phy = phy;
  receive_kilobytes = kilobytes;
  device_control = 0;
  eerd = Idle;
  mdic = mdi.new_mdic;
  causes = record { recorded = 0; mask = 0 };
  filter = filter_at_reset words;
  transmit_control = 0;
  receive_ring = new_ring;
  transmit_ring = new_ring;
  missed_packets = 0;
  received_packets = 0;
  transmitted_packets = 0;
  no_receive_buffers = 0;
  receiver = new_receiver;
  transmitter = new_transmitter;
}

-- An adapter after power-on, by the words of its EEPROM and the setting of its link. The registers have their reset values, RXA is 48, and
-- the PHY is new.
abbrev pub new_adapter : List ℕ → Link → AdapterState
new_adapter words link = adapter_at_reset words (new_phy link) 48

-- The adapter after a reset by CTRL.RST (our choice). The EEPROM, the PHY and PBA don't change, and every other register has its reset
-- value. Both packet buffers are empty, no piece is in progress, and no engine is stopped.
abbrev pub after_reset : AdapterState → AdapterState
after_reset state = adapter_at_reset state.image state.phy state.receive_kilobytes

-- Whether STATUS shows a link: the link of the PHY is up, and CTRL.SLU, bit 6, is set (our choice).
abbrev pub shows_link : AdapterState → Bool
shows_link state = link_is_up state.phy && is_set state.device_control ctrl_slu

-- What a read of a register returns.
abbrev pub answer : Register → AdapterState → ℕ
answer Ctrl state = state.device_control
answer Status state = if shows_link state then status_of_link_up else 0
answer Eerd state = eeprom.shown state.eerd
answer Mdic state = state.mdic.value
answer Vet state = state.filter.vet
answer Icr state = state.causes.recorded
answer Ics state = 0
answer Ims state = state.causes.mask
answer Imc state = 0
answer Rctl state = state.filter.rctl
answer Tctl state = state.transmit_control
answer Pba state = allocation_shown state.receive_kilobytes
answer (Receive part) state = ring_answer part state.receive_ring
answer (Transmit part) state = ring_answer part state.transmit_ring
answer Mpc state = state.missed_packets
answer Gprc state = state.received_packets
answer Gptc state = state.transmitted_packets
answer Rnbc state = state.no_receive_buffers
answer (Mta word) state = slice_index state.filter.mta word
answer (Ral entry) state = slice_index state.filter.ral entry
answer (Rah entry) state = slice_index state.filter.rah entry
answer (Vfta word) state = slice_index state.filter.vfta word

-- The state after a read of a register. A read of ICR or of a counter clears the register; any other read changes nothing.
abbrev pub read_of : Register → AdapterState → AdapterState
read_of Icr state = record state { causes = record state.causes { recorded = 0 } }
read_of Mpc state = record state { missed_packets = 0 }
read_of Gprc state = record state { received_packets = 0 }
read_of Gptc state = record state { transmitted_packets = 0 }
read_of Rnbc state = record state { no_receive_buffers = 0 }
read_of register state = state

-- The state after this number is stored in a register whose row has kept bits. For any other register, the state doesn't change.
abbrev pub with_register : Register → ℕ → AdapterState → AdapterState
with_register Ctrl number state = record state { device_control = number }
with_register Vet number state = record state { filter = record state.filter { vet = number } }
with_register Rctl number state = record state { filter = record state.filter { rctl = number } }
with_register Tctl number state = record state { transmit_control = number }
with_register (Receive part) number state = record state { receive_ring = with_ring part number state.receive_ring }
with_register (Transmit part) number state = record state { transmit_ring = with_ring part number state.transmit_ring }
with_register (Mta word) number state = record state { filter = record state.filter { mta = slice_set state.filter.mta word number } }
with_register (Ral entry) number state = record state { filter = record state.filter { ral = slice_set state.filter.ral entry number } }
with_register (Rah entry) number state = record state { filter = record state.filter { rah = slice_set state.filter.rah entry number } }
with_register (Vfta word) number state = record state { filter = record state.filter { vfta = slice_set state.filter.vfta word number } }
with_register register number state = state

-- The state after a write of a register whose row has no kept bits. STATUS and the counters ignore the write, and a register with kept bits
-- doesn't change.
abbrev pub by_rule : Register → ℕ → AdapterState → AdapterState
by_rule Eerd value state = record state { eerd = eeprom.eerd_after_write value state.eerd }
by_rule Mdic value state = record state { mdic = mdi.mdic_after_write value }
by_rule Icr value state = record state { causes = record state.causes { recorded = difference state.causes.recorded (causes_of value) } }
by_rule Ics value state = record state { causes = record state.causes { recorded = union state.causes.recorded (causes_of value) } }
by_rule Ims value state = record state { causes = record state.causes { mask = union state.causes.mask (causes_of value) } }
by_rule Imc value state = record state { causes = record state.causes { mask = difference state.causes.mask (causes_of value) } }
by_rule Pba value state = record state { receive_kilobytes = allocation_written value state.receive_kilobytes }
by_rule register value state = state

-- Whether a write resets the adapter: a write of CTRL with RST, bit 26. The other bits of this value are ignored (our choice).
abbrev pub is_reset : Register → ℕ → Bool
is_reset Ctrl value = is_set value ctrl_rst
is_reset register value = false

-- The state after a write that is no reset: by the kept bits of the table's row, or by the register's other rule.
abbrev pub by_row : Option ℕ → Register → ℕ → AdapterState → AdapterState
by_row (Some kept) register value state = with_register register (bit_and value kept) state
by_row None register value state = by_rule register value state

-- The state after a write of a register: after a reset if the write is a reset, else by the register's row.
abbrev pub write_of : Register → ℕ → AdapterState → AdapterState
write_of register value state =
    if is_reset register value then after_reset state else by_row (row_of register).kept register value state

-- Accesses by offset. If no register is at an offset, a read returns 0, and neither a read nor a write changes anything (our choice).

-- What a read of a register returns, or 0 if there is no register.
abbrev pub answer_of : Option Register → AdapterState → ℕ
answer_of (Some register) state = answer register state
answer_of None state = 0

-- The state after a read of a register, or the unchanged state if there is no register.
abbrev pub left_by_read : Option Register → AdapterState → AdapterState
left_by_read (Some register) state = read_of register state
left_by_read None state = state

-- The state after a write of a register, or the unchanged state if there is no register.
abbrev pub left_by_write : Option Register → ℕ → AdapterState → AdapterState
left_by_write (Some register) value state = write_of register value state
left_by_write None value state = state

-- The state after a write of a register that is no reset, or the unchanged state if there is no register.
abbrev pub left_without_reset : Option Register → ℕ → AdapterState → AdapterState
left_without_reset (Some register) value state = by_row (row_of register).kept register value state
left_without_reset None value state = state

-- What a read at an offset returns.
abbrev pub answer_at : ℕ → AdapterState → ℕ
answer_at offset state = answer_of (register_at offset) state

-- The state after a read at an offset.
abbrev pub after_read : ℕ → AdapterState → AdapterState
after_read offset state = left_by_read (register_at offset) state

-- The state after a write at an offset.
abbrev pub after_write : ℕ → ℕ → AdapterState → AdapterState
after_write offset value state = left_by_write (register_at offset) value state
