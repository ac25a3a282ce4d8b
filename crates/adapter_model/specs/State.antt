-- The state of an adapter, as plain data.
use Rattle.std.specs.Prelude.{◌≡◌, ◌≤◌, ℕ, List, length}
use Rattle.eeprom.specs.declared.eerd.ReadState.{ReadState}
use Rattle.mdic_phy.specs.Mdic.{MdicState}
use Rattle.mdic_phy.specs.Phy.{PhyState}
use Rattle.registers.specs.Bits.{IsSubset}
use Rattle.registers.specs.Kept.{all_causes}
use Rattle.registers.specs.Counting.{greatest_count}
use Rattle.registers.specs.Interrupts.{Interrupts}
use Rattle.rx_filter.specs.Registers.{FilterRegisters}
use Rattle.rx_engine.specs.Receiver.{IsReceiver, Receiver}
use Rattle.tx_engine.specs.Transmitter.{Transmitter}
use Rattle.adapter_model.specs.declared.ring.RingRegisters.{RingRegisters}
use Rattle.registers.specs.PacketBuffer.{IsAllocation}

-- The whole state of an adapter, as plain data.
pub record AdapterState : Type 0 where
  -- The words of the EEPROM, which never change.
  pub image : List ℕ
  -- The state of the PHY.
  pub phy : PhyState
  -- PBA.RXA: the size of the receive packet buffer in kilobytes.
  pub receive_kilobytes : ℕ
  -- The value of CTRL.
  pub device_control : ℕ
  -- EERD: the read of the EEPROM that is pending or complete, if there is one.
  pub eerd : ReadState
  -- MDIC: its value, and the pending command, if there is one.
  pub mdic : MdicState
  -- The recorded causes (ICR), and the mask (IMS).
  pub causes : Interrupts
  -- The registers of the receive filter: RAL, RAH, MTA, VFTA, RCTL and VET.
  pub filter : FilterRegisters
  -- The value of TCTL.
  pub transmit_control : ℕ
  -- RDBAL, RDBAH, RDLEN, RDH and RDT.
  pub receive_ring : RingRegisters
  -- TDBAL, TDBAH, TDLEN, TDH and TDT.
  pub transmit_ring : RingRegisters
  -- MPC, the count of missed frames.
  pub missed_packets : ℕ
  -- GPRC, the count of received frames.
  pub received_packets : ℕ
  -- GPTC, the count of transmitted frames.
  pub transmitted_packets : ℕ
  -- RNBC, the count of frames that were stored or missed while RDH equaled RDT.
  pub no_receive_buffers : ℕ
  -- The receive packet buffer, the number of moved bytes of its oldest frame, the piece in progress, and whether a fault has stopped
  -- `RxData`.
  pub receiver : Receiver
  -- The transmit packet buffer, and whether a fault has stopped `TxTake`.
  pub transmitter : Transmitter

-- The four lists have the lengths of the tables RAL, RAH, MTA and VFTA.
pub record HasTables (ral rah mta vfta : List ℕ) : Type 0 where
  -- RAL has 16 entries.
  pub ral_entries : length ral ≡ 16
  -- RAH has 16 entries.
  pub rah_entries : length rah ≡ 16
  -- MTA has 128 words.
  pub mta_words : length mta ≡ 128
  -- VFTA has 128 words.
  pub vfta_words : length vfta ≡ 128

-- Each counter fits into 32 bits.
pub record CountersFit (mpc gprc gptc rnbc : ℕ) : Type 0 where
  -- MPC fits into 32 bits.
  pub missed : mpc ≤ greatest_count
  -- GPRC fits into 32 bits.
  pub received : gprc ≤ greatest_count
  -- GPTC fits into 32 bits.
  pub transmitted : gptc ≤ greatest_count
  -- RNBC fits into 32 bits.
  pub no_buffers : rnbc ≤ greatest_count

-- Each bit that is 1 in `recorded` or in `mask` is the bit of an interrupt cause (`all_causes`).
pub record CausesAlone (recorded mask : ℕ) : Type 0 where
  -- Each bit that is 1 in ICR is the bit of a cause.
  pub recorded_causes : IsSubset recorded all_causes
  -- Each bit that is 1 in IMS is the bit of a cause.
  pub masked_causes : IsSubset mask all_causes

-- The invariant of an adapter's registers.
pub record HasRegisters (state : AdapterState) : Type 0 where
  -- The tables of the receive filter have their sizes (`HasTables`).
  pub tables : HasTables state.filter.ral state.filter.rah state.filter.mta state.filter.vfta
  -- PBA.RXA is an even number from 2 to 48.
  pub allocation : IsAllocation state.receive_kilobytes
  -- Each bit that is 1 in ICR or in IMS is the bit of a cause.
  pub causes : CausesAlone state.causes.recorded state.causes.mask
  -- The counters fit into 32 bits.
  pub counters : CountersFit state.missed_packets state.received_packets state.transmitted_packets state.no_receive_buffers

-- The invariant of every adapter: of its registers, of its receive engine, and of its EEPROM, which has 64 words.
pub record IsAdapter (state : AdapterState) : Type 0 where
  -- The registers meet their invariant (`HasRegisters`).
  pub registers : HasRegisters state
  -- The receive engine meets its invariant (`IsReceiver`).
  pub receiver : IsReceiver state.receiver
  -- The EEPROM has 64 words.
  pub image : length state.image ≡ 64
