-- Lemmas that prove the laws in `src`: for a law that needs several, a set with its name.
use Rattle.bus.proofs.Accesses.{quiet_leaves_adapter, quiet_leaves_interrupts, quiet_leaves_world}
use Rattle.bus.proofs.DriverRegisterWrites.{receive_control_writes, transmit_control_writes, transmit_ring_writes}
use Rattle.bus.proofs.FramesCounted.{slots_have_frames}
use Rattle.bus.proofs.IdleRings.{idle_after_power_on, idle_after_reset, idle_rings_are_sound}
use Rattle.bus.proofs.IdleRings.{other_writes_keep_idle, reads_keep_idle, stores_keep_idle, writes_keep_idle}
use Rattle.bus.proofs.KnownRings.{known_receive_ring_stays, known_transmit_ring_stays}
use Rattle.bus.proofs.OfferedAndFreedSlots.{frame_is_offered, none_is_written_back, slot_is_freed}
use Rattle.bus.proofs.ReceiveControl.{receiver_is_enabled}
use Rattle.bus.proofs.RegisterReads.{causes_are_read, misses_are_read, others_are_read}
use Rattle.bus.proofs.RegisterSetting.{reads_leave_frames, receiver_can_be_set, transmit_ring_can_be_set, transmitter_can_be_set}
use Rattle.bus.proofs.Resets.{drivers_rest, receiver_is_disabled, reset_keeps_sum, rest_keeps_memory}
use Rattle.bus.proofs.TrailCauses.{causes_are_those_of_steps, masks_stay, recorded_causes_stay}
use Rattle.bus.proofs.TrailFaults.{faults_stay, running_engines_met_no_fault}
use Rattle.bus.proofs.TransmitControl.{causes_are_enabled, transmitter_is_enabled}
use Rattle.bus.proofs.TransmitRing.{transmit_ring_is_written}
use Rattle.bus.proofs.TransmitRuns.{sends_end_with_tail, tail_is_moved}

pub ruleset known_rings_stay = (known_receive_ring_stays, known_transmit_ring_stays)

pub ruleset sound_idle_rings = (idle_after_power_on, idle_after_reset, idle_rings_are_sound)

pub ruleset idle_rings_stay_idle = (other_writes_keep_idle, reads_keep_idle, stores_keep_idle, writes_keep_idle)

pub ruleset registers_can_be_set = (reads_leave_frames, receiver_can_be_set, transmit_ring_can_be_set, transmitter_can_be_set)

pub ruleset registers_are_set = (causes_are_enabled, transmitter_is_enabled, receiver_is_enabled, transmit_ring_is_written)

pub ruleset registers_are_read = (causes_are_read, misses_are_read, others_are_read)

pub ruleset registers_are_written = (receive_control_writes, transmit_control_writes, transmit_ring_writes)

pub ruleset drivers_reset = (drivers_rest, receiver_is_disabled, reset_keeps_sum, rest_keeps_memory)

pub ruleset faults_stay_visible = (faults_stay, running_engines_met_no_fault)

pub ruleset causes_of_steps = (causes_are_those_of_steps, masks_stay, recorded_causes_stay)

pub ruleset quiet_accesses_leave_adapters = (quiet_leaves_adapter, quiet_leaves_interrupts, quiet_leaves_world)

pub ruleset frames_are_offered = (frame_is_offered, sends_end_with_tail, tail_is_moved)

pub ruleset slots_are_freed = (slots_have_frames, none_is_written_back, slot_is_freed)
