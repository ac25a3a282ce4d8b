-- The worlds of the buses of `src/sound_buses.rt` (our choice), by the size of their memory and the words of their EEPROM. The memory is
-- all zeros, so each receive descriptor points to the buffer at address 0. Both rings, of eight slots each, are after this buffer.
use Rattle.std.specs.Prelude.{◌+◌, ℕ, List, [], ◌∷◌, replicate}
use Rattle.descriptors.specs.Frames.{shortest_frame}
use Rattle.mdic_phy.specs.declared.phy.Link.TheVariants.{Never}
use Rattle.registers.specs.Places.{alone, rctl_bam, rctl_en, tctl_en, tctl_psp}
use Rattle.rx_engine.specs.declared.arrival.Fate.TheVariants.{Stored}
use Rattle.adapter_model.specs.Registers.{filter_at_reset, new_adapter}
use Rattle.adapter_model.specs.declared.step.StepKind.TheVariants.{RxData, RxDone, TxTake}
use Rattle.adapter_model.specs.declared.outcome.Outcome.TheVariants.{Done, Moved, Took}
use Rattle.bus.specs.SlotOffers.{offering, offering_frame}
use Rattle.bus.specs.StepsAndArrivals.{world_after_arrival, world_after_step}
use Rattle.adapter_model.specs.World.{World, world_after_store}
use Rattle.solo_bus.specs.declared.sound_buses.TheConstants.{RECEIVE_RING, RING_BYTES, TRANSMIT_RING}

-- A world in which both rings are set up, and no slot is offered: RCTL has EN and BAM, with buffers of 2,048 bytes, and TCTL has EN and
-- PSP.
abbrev pub resting : ℕ → List ℕ → World
resting size words = record {
  memory = replicate size 0;
  adapter = record (new_adapter words Never) {
    filter = record (filter_at_reset words) { rctl = alone rctl_en + alone rctl_bam };
    transmit_control = alone tctl_en + alone tctl_psp;
    receive_ring = record { base_low = RECEIVE_RING; base_high = 0; length_bytes = RING_BYTES; head = 0; tail = 0 };
    transmit_ring = record { base_low = TRANSMIT_RING; base_high = 0; length_bytes = RING_BYTES; head = 0; tail = 0 };
  };
}

-- The world `resting` after the first receive slot is offered.
abbrev pub ready : ℕ → List ℕ → World
ready size words = offering (resting size words)

-- A broadcast frame of the shortest legal length. Each byte is 255.
abbrev pub call : List ℕ
call = replicate shortest_frame 255

-- The world `ready` after the frame `call` has arrived and was stored.
abbrev pub called : ℕ → List ℕ → World
called size words = world_after_arrival Stored call (ready size words)

-- The world `called` after RxData has moved the whole frame, so that its piece is in progress.
abbrev pub working : ℕ → List ℕ → World
working size words = world_after_step RxData Moved (called size words)

-- The world `working` after RxDone has finished the slot of the frame.
abbrev pub finished_slot : ℕ → List ℕ → World
finished_slot size words = world_after_step RxDone Done (working size words)

-- A transmit descriptor of a frame of 60 bytes at address 2,304, with EOP, IFCS and RS.
abbrev pub request : List ℕ
request = 0 ∷ 9 ∷ 0 ∷ 0 ∷ 0 ∷ 0 ∷ 0 ∷ 0 ∷ 60 ∷ 0 ∷ 0 ∷ 11 ∷ 0 ∷ 0 ∷ 0 ∷ 0 ∷ []

-- The world `resting` after the descriptor `request` is stored in the first transmit slot.
abbrev pub requested : ℕ → List ℕ → World
requested size words = world_after_store TRANSMIT_RING request (resting size words)

-- The world `requested` after the first transmit slot is offered.
abbrev pub sending : ℕ → List ℕ → World
sending size words = offering_frame (requested size words)

-- The world `sending` after TxTake has taken the frame.
abbrev pub taken : ℕ → List ℕ → World
taken size words = world_after_step TxTake Took (sending size words)
