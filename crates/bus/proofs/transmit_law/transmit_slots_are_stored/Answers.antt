-- Each clause is a lemma.
use Rattle.bus.proofs.TransmitSlots.{data_is_stored, descriptor_is_stored, next_slot_belongs_to_driver, slots_keep_bytes}
use Rattle.bus.proofs.transmit_law.transmit_slots_are_stored.Goals as goal

pub returns : goal.returns
returns c =
    record { next = next_slot_belongs_to_driver; data_stored = data_is_stored; descriptor = descriptor_is_stored; stay = slots_keep_bytes }
