-- The reason why a step is a fault: the first that applies. `tx_engine` (`IsFetchable`) and `rx_engine` (`CanMove`) define which steps are
-- faults. That there are faults, and the order of the reasons, are our choice.
use Rattle.std.specs.Prelude.{◌==◌, ◌||◌, ℕ, List, Option, Some, None, if◌then◌else◌, nat_lt, not}
use Rattle.adapter.specs.World.{World, receive_ring, transmit_ring}
use Rattle.adapter.specs.model_types.step.StepKind.{StepKind}
use Rattle.adapter.specs.model_types.step.StepKind.TheVariants.{TxTake, RxData}
use Rattle.descriptors.specs.Frames.{longest_frame}
use Rattle.descriptors.specs.Ring.{address_of}
use Rattle.descriptors.specs.TxFields.{command_bits, tx_dext, tx_eop}
use Rattle.descriptors.specs.declared.ring.Ring.{Ring as DescriptorRing}
use Rattle.descriptors.specs.declared.tx_desc.TxDesc.{TxDesc}
use Rattle.registers.specs.Bits.{is_set}
use Rattle.registers.specs.Places.{rctl_bsex}
use Rattle.tx_engine.specs.Fetching.{transmit_descriptor_at}
use Rattle.access_names.specs.Rings.{has_valid_indices, is_inside}
use Rattle.access_names.specs.declared.engine_fault.Engine.TheVariants.{Transmit, Receive}
use Rattle.access_names.specs.declared.engine_fault.EngineFault.{EngineFault}
use Rattle.access_names.specs.declared.engine_fault.Reason.{Reason}
use Rattle.access_names.specs.declared.engine_fault.Reason.TheVariants.{Ring, Descriptor, Dext, Eop, Length, Buffer}
use Rattle.access_names.specs.declared.engine_fault.Reason.TheVariants.{Bsex}

-- why this transmit descriptor can't be taken; if no other reason applies, the bytes of its frame aren't inside memory
abbrev pub reason_of_descriptor : TxDesc → Reason
reason_of_descriptor desc =
    if is_set (command_bits desc.command) tx_dext then Dext
    else if not (is_set (command_bits desc.command) tx_eop) then Eop
    else if desc.length == 0 || nat_lt longest_frame desc.length then Length
    else Buffer

-- why the descriptor at the head of this transmit ring can't be taken: the first reason that applies
abbrev pub reason_of_take : List ℕ → DescriptorRing → Reason
reason_of_take memory ring =
    if not (has_valid_indices ring) then Ring
    else if not (is_inside memory (address_of ring ring.head) 16) then Descriptor
    else reason_of_descriptor (transmit_descriptor_at memory (address_of ring ring.head))

-- Why no piece can be moved to the buffer of the descriptor at the head of this receive ring, with this value of RCTL. If no other reason
-- applies, the place of the piece isn't inside memory.
abbrev pub reason_of_data : ℕ → List ℕ → DescriptorRing → Reason
reason_of_data control memory ring =
    if not (has_valid_indices ring) then Ring
    else if is_set control rctl_bsex then Bsex
    else if not (is_inside memory (address_of ring ring.head) 16) then Descriptor
    else Buffer

-- the fault of a TxTake, if the outcome is a fault
abbrev pub fault_of_take : World → EngineFault
fault_of_take world = record {
  engine = Transmit;
  index = (transmit_ring world).head;
  reason = reason_of_take world.memory (transmit_ring world);
}

-- the fault of an RxData, if the outcome is a fault
abbrev pub fault_of_data : World → EngineFault
fault_of_data world = record {
  engine = Receive;
  index = (receive_ring world).head;
  reason = reason_of_data world.adapter.filter.rctl world.memory (receive_ring world);
}

-- The result of `fault_of`: why a step of this kind is a fault, if its outcome is a fault. Only a TxTake or an RxData can be a fault.
abbrev pub fault_if_any : StepKind → World → Option EngineFault
fault_if_any TxTake world = Some (fault_of_take world)
fault_if_any RxData world = Some (fault_of_data world)
fault_if_any kind world = None
