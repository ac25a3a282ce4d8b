-- The proof of `conditions_can_be_met`: in worlds of `specs/SoundBuses`, the conditions hold, frames fit into buffers, and the engines can
-- run.
use Rattle.std.proofs.Common.{◌≡◌, ◌≤◌, ◌+◌, ◌++◌, ◌∷◌, [], true, ℕ, List, replicate, refl, sym, ap, subst, ◌∙◌, arith}
use Rattle.std.specs.List.{All, take_while}
use Rattle.std.proofs.lemmas.List.Elements.{All-cons}
use Rattle.std.proofs.lemmas.Option.{none-some}
use Rattle.dma_memory.specs.Areas.{Area}
use Rattle.dma_memory.specs.HostMemory.{with_bytes}
use Rattle.descriptors.specs.Ring.{offered_places}
use Rattle.descriptors.specs.Frames.{IsLegal}
use Rattle.rx_engine.specs.Finishing.{finished_bytes}
use Rattle.rx_engine.specs.Laws.{held-after_data, held-after_arrival}
use Rattle.rx_engine.specs.Moving.{is_half_offered}
use Rattle.rx_engine.specs.Receiver.{IsReceiver}
use Rattle.rx_engine.specs.declared.data.Data.TheVariants.{Moved}
use Rattle.rx_engine.specs.declared.engine.Work.{Work}
use Rattle.tx_engine.specs.Fetching.{fetched}
use Rattle.tx_engine.specs.Transmitter.{Queued}
use Rattle.solo_bus.specs.SoundWorlds.{HasFinished, HasFramesInBuffer, HasFramesInRing, HasRings, HasPieceInWork, HasWrittenBack, SomeSound}
use Rattle.adapter_model.specs.HostFrames.{finished_pieces, named}
use Rattle.adapter_model.specs.Rings.{ring_of}
use Rattle.adapter_model.specs.Transmitting.{moved_on}
use Rattle.adapter_model.specs.Slots.{finished, is_done, written_back_slots}
use Rattle.adapter_model.specs.Conditions.{FitBuffers}
use Rattle.bus.specs.Law.{Between}
use Rattle.bus.specs.Pasts.{Past, nothing}
use Rattle.adapter_model.specs.Running.{CanRun, CanTransmit}
use Rattle.solo_bus.specs.SoundBuses.{call, called, ready, requested, resting, sending, working}
use Rattle.adapter_model.specs.World.{receive_ring, transmit_ring, World}
use Rattle.bus.proofs.RxDoneSteps.{between_done, done_adapter}
use Rattle.bus.proofs.IdleRings.{idle_rings_are_sound, offered-none, outstanding-none}
use Rattle.bus.proofs.Lists.{all-none}
use Rattle.bus.proofs.RxDataSteps.{between_moved}
use Rattle.bus.proofs.SlotOffers.{frames_can_be_offered, slots_can_be_offered}
use Rattle.bus.proofs.TxPutSteps.{between_put, put_adapter}
use Rattle.solo_bus.proofs.SoundBuses.{call-legal, called-can_move, called-has_frame, called-last, ready-has_rings, ready-sound}
use Rattle.solo_bus.proofs.SoundBuses.{requested-can_send, requested-idle, resting-can_offer, resting-sound, sending-fields}
use Rattle.solo_bus.proofs.SoundBuses.{sending-has_frames, sending-sound, working-has_work}
use Rattle.bus.proofs.TxTakeSteps.{between_padded, taken}
use Rattle.bus.proofs.StepsBesideRings.{between_quiet, going}
use Rattle.rx_engine.specs.declared.arrival.Fate.TheVariants.{Stored}
use Rattle.bus.specs.StepsAndArrivals.{past_of_arrival}
use Rattle.adapter_model.specs.HostAreas.{buffer_size}

-- The engines can run.

resting-runs : (size : ℕ) (words memory : List ℕ) → CanRun (record (resting size words) { memory = memory })
resting-runs size words memory = record {
  receiver_runs = refl;
  transmitter_runs = refl;
  receive_indices = λ differ. absurd (differ refl);
  transmit_indices = λ differ. absurd (differ refl);
  not_extended = λ set. absurd (omega (arith, set));
  transmittable = subst (λ (slots : List ℕ). All (CanTransmit memory) slots) (sym (offered-none (transmit_ring (resting size words)) refl))
      (all-none (CanTransmit memory));
}

resting-fits : (size : ℕ) (words memory : List ℕ) → FitBuffers 2048 0 (record (resting size words) { memory = memory })
resting-fits size words memory =
    let Fits : ℕ → Type 0 = λ slot. (named memory slot).size ≤ 2048 in
    record {
      large = λ enabled. omega arith;
      finished_fit = subst (λ (slots : List ℕ). All Fits (take_while (is_done memory) slots))
          (sym (outstanding-none (receive_ring (resting size words)))) (all-none Fits);
      work_fits = all-none (λ (area : Area). area.size ≤ 2048);
    }

ready-fits : (size : ℕ) (words : List ℕ) → 4096 ≤ size → FitBuffers 2048 0 (ready size words)
ready-fits size words fits =
    (slots_can_be_offered 0 0 (resting size words) (resting-sound size words fits) (resting-can_offer size words fits)).same.fits
    2048 (λ enabled. omega arith) (resting-fits size words (replicate size 0))

ready-runs : (size : ℕ) (words : List ℕ) → 4096 ≤ size → CanRun (ready size words)
ready-runs size words fits =
    (slots_can_be_offered 0 0 (resting size words) (resting-sound size words fits) (resting-can_offer size words fits)).runs
    (resting-runs size words (replicate size 0))

sending-runs : (size : ℕ) (words : List ℕ) → 4096 ≤ size → CanRun (sending size words)
sending-runs size words fits =
    let w = requested size words in
    (frames_can_be_offered 0 0 w (idle_rings_are_sound w (requested-idle size words fits)) (requested-can_send size words fits)).runs
    (sending-fields size words fits) (resting-runs size words w.memory)

sending-fits : (size : ℕ) (words : List ℕ) → 4096 ≤ size → FitBuffers 2048 0 (sending size words)
sending-fits size words fits =
    let w = requested size words in
    let offered = frames_can_be_offered 0 0 w (idle_rings_are_sound w (requested-idle size words fits))
    (requested-can_send size words fits) in
    offered.received.fits 2048 (resting-fits size words w.memory)

-- The world `called`: a frame has arrived.

ready-receiver : (size : ℕ) (words : List ℕ) → IsReceiver (ready size words).adapter.receiver
ready-receiver size words = record {
  room = omega arith;
  frames = all-none IsLegal;
  begun = omega arith;
  least = λ work none. absurd (none-some work none);
  most = λ work none. absurd (none-some work none);
}

called-between : (size : ℕ) (words : List ℕ) → 4096 ≤ size
    → Between 0 0 (ready size words) (called size words) (past_of_arrival Stored call)
called-between size words fits =
    let w = ready size words in
    let sound = ready-sound size words fits in
    between_quiet 0 0 w (called size words).adapter (past_of_arrival Stored call) refl
    (held-after_arrival Stored call w.memory (finished_pieces 0 w) w.adapter.receiver (ready-receiver size words) sound.begun)
    (going w) sound

called-receiver : (size : ℕ) (words : List ℕ) → IsReceiver (called size words).adapter.receiver
called-receiver size words = record {
  room = omega arith;
  frames = All-cons IsLegal call [] call-legal (all-none IsLegal);
  begun = omega arith;
  least = λ work none. absurd (none-some work none);
  most = λ work none. absurd (none-some work none);
}

working-between : (size : ℕ) (words : List ℕ) → 4096 ≤ size → Between 0 0 (called size words) (working size words) nothing
working-between size words fits =
    let w = called size words in
    let sound = (called-between size words fits).sound in
    between_moved true [] 0 0 0 w (called-has_frame size words) (called-can_move size words fits) (called-last size words)
    (called-receiver size words)
    (held-after_data w.adapter.filter.rctl (receive_ring w) w.adapter.receiver w.memory (finished_pieces 0 w)
    (Moved (is_half_offered (ring_of (moved_on w.adapter.receive_ring)))) sound.begun)
    sound

working-runs : (size : ℕ) (words : List ℕ) → 4096 ≤ size → CanRun (working size words)
working-runs size words fits = (working-between size words fits).runs ((called-between size words fits).runs (ready-runs size words fits))

abbrev work : Work
work = record { descriptor = 2048; length = 60; ends = true }

-- The world `working` after a done step: the slot of the piece is finished.
abbrev done_with : ℕ → List ℕ → World
done_with size words = record
    { memory = with_bytes (working size words).memory (2048 + 8) (finished_bytes 60 true); adapter = done_adapter (working size words) }

done-between : (size : ℕ) (words : List ℕ) → 4096 ≤ size → Between 0 0 (working size words) (done_with size words) nothing
done-between size words fits = between_done 0 0 work (working size words) (omega arith)
    (working-between size words fits).sound

done-finished : (size : ℕ) (words : List ℕ) → 4096 ≤ size → HasFinished (done_with size words)
unfolding offered_places
done-finished size words fits none =
    let sound = (done-between size words fits).sound in
    let all : 2048 ∷ [] ≡ finished 0 (done_with size words) ++ [] = sound.receive_slots.classes in
    let empty : (let one : List ℕ = 2048 ∷ [] in one) ≡ [] = all ∙ ap (λ (slots : List ℕ). slots ++ []) none in
    cc

-- The world `sending` after TxTake: the offered frame is taken.
abbrev took : ℕ → List ℕ → World
took size words = taken true (sending size words)

took-between : (size : ℕ) (words : List ℕ) → 4096 ≤ size → Between 0 0 (sending size words) (took size words) nothing
took-between size words fits =
    between_padded 0 0 (sending size words) (record { head = omega arith; tail = omega arith }) (λ same. absurd (omega (arith, same)))
    (sending-sound size words fits)

took-runs : (size : ℕ) (words : List ℕ) → 4096 ≤ size → CanRun (took size words)
took-runs size words fits = (took-between size words fits).runs (sending-runs size words fits)

-- The entry of the packet buffer for this frame, and the world after TxPut: the frame is put, and its slot is written back.
abbrev fetched_one : ℕ → List ℕ → Queued
fetched_one size words = fetched true (sending size words).memory 2176

abbrev put_with : ℕ → List ℕ → World
put_with size words = record {
  memory = with_bytes (took size words).memory (2176 + 12) (1 ∷ []);
  adapter = put_adapter (fetched_one size words) []
      (took size words);
}

put-between : (size : ℕ) (words : List ℕ) → 4096 ≤ size
    → Between 0 0 (took size words) (put_with size words)
    (let one : Past = record nothing { put = (fetched_one size words).frame ∷ [] } in one)
put-between size words fits = between_put 0 0 (fetched_one size words) [] (took size words) (took-between size words fits).sound

put-written : (size : ℕ) (words : List ℕ) → 4096 ≤ size → HasWrittenBack (put_with size words)
unfolding offered_places
put-written size words fits none =
    let sound = (put-between size words fits).sound in
    let all : 2176 ∷ [] ≡ written_back_slots 0 (put_with size words) ++ [] = sound.transmit_slots.classes in
    let empty : (let one : List ℕ = 2176 ∷ [] in one) ≡ [] = all ∙ ap (λ (slots : List ℕ). slots ++ []) none in
    cc

-- The worlds of `SomeSound`, with 4,096 bytes of memory and an EEPROM of zeros.

abbrev words : List ℕ
words = replicate 64 0

all_in : 4096 ≤ 4096
all_in = omega arith

called-fits : FitBuffers 2048 0 (called 4096 words)
called-fits = (called-between 4096 words all_in).fits 2048 (ready-fits 4096 words all_in)

-- A world at the end of an interval, if frames fit and engines can run at the beginning.
reached : (Has : World → Type 0) (a b : World) (past : Past) → buffer_size b ≡ 2048 → Between 0 0 a b past → FitBuffers 2048 0 a
    → CanRun a → Has b → SomeSound Has
reached Has a b past size between fit can has =
    (b, between.sound, subst (λ (n : ℕ). FitBuffers n 0 b) (sym size) (between.fits 2048 fit), between.runs can, has)

pub rings_can : SomeSound HasRings
rings_can =
    let w = ready 4096 words in
    (w, ready-sound 4096 words all_in, ready-fits 4096 words all_in, ready-runs 4096 words all_in, ready-has_rings 4096 words)

pub work_can : SomeSound HasPieceInWork
work_can = reached HasPieceInWork (called 4096 words) (working 4096 words) nothing refl (working-between 4096 words all_in) called-fits
    ((called-between 4096 words all_in).runs (ready-runs 4096 words all_in)) (working-has_work 4096 words)

pub finished_can : SomeSound HasFinished
finished_can = reached HasFinished (working 4096 words) (done_with 4096 words) nothing refl (done-between 4096 words all_in)
    ((working-between 4096 words all_in).fits 2048 called-fits) (working-runs 4096 words all_in) (done-finished 4096 words all_in)

pub frames_can : SomeSound HasFramesInRing
frames_can = (
  sending 4096 words,
  sending-sound 4096 words all_in,
  sending-fits 4096 words all_in,
  sending-runs 4096 words all_in,
  sending-has_frames 4096 words,
)

pub buffered_can : SomeSound HasFramesInBuffer
buffered_can = reached HasFramesInBuffer (sending 4096 words) (took 4096 words) nothing refl (took-between 4096 words all_in)
    (sending-fits 4096 words all_in) (sending-runs 4096 words all_in) (λ none. absurd (cc))

pub written_can : SomeSound HasWrittenBack
written_can =
    let past : Past = record nothing { put = (fetched_one 4096 words).frame ∷ [] } in
    reached HasWrittenBack (took 4096 words) (put_with 4096 words) past refl (put-between 4096 words all_in)
    ((took-between 4096 words all_in).fits 2048 (sending-fits 4096 words all_in)) (took-runs 4096 words all_in)
    (put-written 4096 words all_in)
