use Rattle.bus.proofs.WritableSlots.{drivers_receive_slots_can_be_written, drivers_transmit_slots_can_be_written}
use Rattle.bus.proofs.WritableSlots.{slots_from_tail_belong_to_driver}
use Rattle.bus.proofs.WritableSlots.{tail_slots_belong_to_driver}
use Rattle.bus.proofs.law.drivers_slots_can_be_written.Goals as goal

pub returns : goal.returns
returns c = record {
  received = drivers_receive_slots_can_be_written;
  sent = drivers_transmit_slots_can_be_written;
  from_tail =
      slots_from_tail_belong_to_driver;
  tail = tail_slots_belong_to_driver;
}
