-- The worlds of `specs/SoundBuses`: the conditions hold in each of them, and the calls of `src/sound_buses.rt` result in them.
use Rattle.std.proofs.Common.{◌≡◌, ◌≤◌, ◌+◌, false, inl, inr, ◌++◌, ◌∷◌, [], true, ℕ, Bool, List, length, replicate, slice_index, refl, sym}
use Rattle.std.proofs.Common.{ap, subst, ◌∙◌, arith}
use Rattle.std.specs.List.{All}
use Rattle.std.proofs.lemmas.List.{length-replicate}
use Rattle.std.proofs.lemmas.List.Elements.{All-cons}
use Rattle.std.proofs.lemmas.List.Kept.{AllPairs-cons}
use Rattle.dma_memory.specs.Areas.{AreApart, Area}
use Rattle.registers.specs.Bits.{is_set}
use Rattle.dma_memory.specs.HostMemory.{LiesIn, bytes_at}
use Rattle.dma_memory.specs.Laws.{bytes_at-stored, bytes_at-zeros, length-with_bytes}
use Rattle.descriptors.specs.Ring.{offered_places}
use Rattle.descriptors.specs.RxDesc.{rx_desc_of}
use Rattle.descriptors.specs.TxDesc.{tx_desc_of}
use Rattle.descriptors.specs.TxFields.{command_bits}
use Rattle.tx_engine.specs.Fetching.{IsTransmittable, transmit_descriptor_at, fetched}
use Rattle.tx_engine.specs.ToSend.{to_send}
use Rattle.descriptors.specs.Frames.{IsLegal}
use Rattle.mdic_phy.specs.declared.phy.Link.TheVariants.{Never}
use Rattle.rx_engine.specs.declared.arrival.Fate.{Fate}
use Rattle.rx_engine.specs.declared.arrival.Fate.TheVariants.{Off, Illegal, Filtered, Missed, Stored}
use Rattle.rx_filter.specs.Passing.{AcceptsAddress, AcceptsVlan, Passes}
use Rattle.rx_filter.specs.Registers.{filter_of}
use Rattle.rx_engine.specs.Descriptors as receive
use Rattle.adapter_model.specs.Receiving.{CanMovePiece, DataAnswers, DoneAnswers, HasFrameAndDescriptor, IsFate, is_last_piece}
use Rattle.adapter_model.specs.Steps.{Answers}
use Rattle.adapter_model.specs.Transmitting.{CanTake, HasNothingToTake, TakeAnswers}
use Rattle.adapter_model.specs.declared.step.StepKind.{StepKind}
use Rattle.adapter_model.specs.declared.step.StepKind.TheVariants.{RxData, RxDone, TxTake}
use Rattle.adapter_model.specs.Outcomes.{FrameOutcome}
use Rattle.adapter_model.specs.declared.outcome.Outcome.TheVariants.{Took, Part, Moved, Done, Nothing, Fault}
use Rattle.adapter_model.specs.Registers.{new_adapter}
use Rattle.adapter_model.specs.Table.{array_register_at, register_at}
use Rattle.solo_bus.specs.SoundWorlds.{HasFinished, HasFramesInBuffer, HasFramesInRing, HasRings, HasPieceInWork}
use Rattle.adapter_model.specs.HostAreas.{buffer_of, data_of}
use Rattle.adapter_model.specs.Slots.{finished, is_done}
use Rattle.bus.specs.IdleRings.{IsIdle}
use Rattle.adapter_model.specs.Conditions.{Reports, Sound}
use Rattle.bus.specs.SlotOffers.{CanOffer, CanSend, HasRoom}
use Rattle.solo_bus.specs.SoundBuses.{call, called, ready, finished_slot, request, requested, resting, sending, taken, working}
use Rattle.bus.specs.StepsAndArrivals.{world_after_arrival, world_after_step}
use Rattle.adapter_model.specs.State.{IsAdapter}
use Rattle.adapter_model.specs.World.{World, world_after_write}
use Rattle.bus.proofs.IdleRings.{idle-areas, idle_rings_are_sound, stores_keep_idle}
use Rattle.bus.proofs.StepInstances.{arrivals_happen, steps_happen}
use Rattle.bus.proofs.Lists.{all-none, pairs-none}
use Rattle.bus.proofs.SlotOffers.{frames_can_be_offered, slots_can_be_offered}

-- Descriptors in a memory of zeros.

zeros-at : (size d : ℕ) → d + 16 ≤ size → bytes_at (replicate size 0) d 16 ≡ replicate 16 0
zeros-at size d fits = bytes_at-zeros size d 16 (omega (arith, fits, length-replicate {A = ℕ} size 0))

zeros-open : (size d : ℕ) → d + 16 ≤ size → is_done (replicate size 0) d ≡ false
zeros-open size d fits = ap (λ (bytes : List ℕ). is_set (slice_index bytes 12) 0) (zeros-at size d fits)

zeros-address : (size d : ℕ) → d + 16 ≤ size → receive.named_address (replicate size 0) d ≡ 0
unfolding rx_desc_of
zeros-address size d fits = ap (λ (bytes : List ℕ). (rx_desc_of bytes).address) (zeros-at size d fits)

-- The world after the six writes that set up both rings.
abbrev pub set_up : World → World
set_up world =
    world_after_write 0x400 0xA (world_after_write 0x100 0x8002 (world_after_write 0x3808 128 (world_after_write 0x3800 2176
    (world_after_write 0x2808 128 (world_after_write 0x2800 2048 world)))))

pub set_up-rests : (size : ℕ) (words : List ℕ)
    → set_up (record { memory = replicate size 0; adapter = new_adapter words Never }) ≡ resting size words
unfolding register_at array_register_at
set_up-rests size words = refl

-- The world `resting`.

pub resting-idle : (size : ℕ) (words : List ℕ) → 4096 ≤ size → IsIdle (resting size words)
resting-idle size words fits =
    let r : Area = record { address = 2048; size = 128 } in
    let t : Area = record { address = 2176; size = 128 } in
    let memory = replicate size 0 in
    let long = length-replicate {A = ℕ} size 0 in
    let Lies : Area → Type 0 = λ area. LiesIn memory area.address area.size in
    record {
      work = refl;
      unmoved = refl;
      buffer = refl;
      rings = record {
        receive = refl;
        transmit = refl;
        separate = record {
          lie = All-cons Lies r (t ∷ []) (omega (arith, long, fits)) (All-cons Lies t [] (omega (arith, long, fits)) (all-none Lies));
          apart = AllPairs-cons AreApart r (t ∷ []) (All-cons (AreApart r) t [] (inl (omega arith)) (all-none (AreApart r)))
              (AllPairs-cons AreApart t [] (all-none (AreApart t)) (pairs-none AreApart));
        };
      };
    }

pub resting-sound : (size : ℕ) (words : List ℕ) → 4096 ≤ size → Sound 0 0 (resting size words)
resting-sound size words fits = idle_rings_are_sound (resting size words) (resting-idle size words fits)

unused-room : (base : ℕ) → HasRoom 0 (record { base_low = base; base_high = 0; length_bytes = 128; head = 0; tail = 0 })
unused-room base = record {
  oldest_slot = omega arith;
  head_slot = omega arith;
  tail_slot = omega arith;
  room = λ same. absurd (omega (arith, same));
}

-- The world `ready`: the first receive slot is offered.

pub resting-can_offer : (size : ℕ) (words : List ℕ) → 4096 ≤ size → CanOffer 0 (resting size words)
resting-can_offer size words fits =
    let w = resting size words in
    let memory = replicate size 0 in
    let long = length-replicate {A = ℕ} size 0 in
    let named_zero = zeros-address size 2048 (omega (arith, fits)) in
    let r : Area = record { address = 2048; size = 128 } in
    let t : Area = record { address = 2176; size = 128 } in
    let buffer : Area = record { address = 0; size = 2048 } in
    let Apart : Area → Type 0 = λ area. AreApart area buffer in
    record {
      ring = unused-room 2048;
      fresh = zeros-open size 2048 (omega (arith, fits));
      lies = λ enabled. subst (λ (address : ℕ). LiesIn memory address 2048) (sym named_zero) (omega (arith, long, fits));
      apart = λ enabled.
          subst (λ (list : List Area). All (λ area. AreApart area (buffer_of w 2048)) list)
          (sym (idle-areas w (resting-idle size words fits)))
          (subst (λ (address : ℕ). let there : Area = record { address = address; size = 2048 } in All (λ area. AreApart area there)
          (r ∷ t ∷ [])) (sym named_zero)
          (All-cons Apart r (t ∷ []) (inr (omega arith)) (All-cons Apart t [] (inr (omega arith)) (all-none Apart))));
    }

pub ready-sound : (size : ℕ) (words : List ℕ) → 4096 ≤ size → Sound 0 0 (ready size words)
ready-sound size words fits =
    (slots_can_be_offered 0 0 (resting size words) (resting-sound size words fits) (resting-can_offer size words fits)).same.sound

pub ready-has_rings : (size : ℕ) (words : List ℕ) → HasRings (ready size words)
unfolding offered_places
ready-has_rings size words = record { receives = omega arith; transmits = omega arith; offers = λ none. absurd (cc) }

pub ready-written : (size : ℕ) (words : List ℕ) → world_after_write 0x2818 1 (resting size words) ≡ ready size words
unfolding register_at array_register_at
ready-written size words = refl

-- The world `called`: the broadcast frame arrives, and is stored.

call-passes : (size : ℕ) (words : List ℕ) → Passes (filter_of (ready size words).adapter.filter) call
unfolding filter_of AcceptsAddress AcceptsVlan
call-passes size words = record { address = inr (inr (inr (inr (refl, refl)))); vlan = inl refl }

pub call-legal : IsLegal call
call-legal = record { least = omega arith; most = omega arith }

pub fate-stored : (size : ℕ) (words : List ℕ) (fate : Fate) → IsFate (ready size words).adapter call fate → fate ≡ Stored
fate-stored size words Off is = absurd (is refl)
fate-stored size words Illegal is = absurd (is.1 call-legal)
fate-stored size words Filtered is = absurd (is.2 (call-passes size words))
fate-stored size words Missed is = absurd (omega (arith, is.1))
fate-stored size words Stored is = refl

-- The world `working`: the frame is moved.

pub called-has_frame : (size : ℕ) (words : List ℕ) → HasFrameAndDescriptor (called size words).adapter
called-has_frame size words = record {
  enabled = refl;
  ready = record { running = refl; free = refl; frames = λ none. absurd (cc) };
  offered = λ same. absurd (omega (arith, same));
}

pub called-can_move : (size : ℕ) (words : List ℕ) → 4096 ≤ size → CanMovePiece (called size words).memory (called size words).adapter
called-can_move size words fits =
    let long = length-replicate {A = ℕ} size 0 in
    let named_zero = zeros-address size 2048 (omega (arith, fits)) in
    record {
      indices = record { head = omega arith; tail = omega arith };
      descriptor = omega (arith, long, fits);
      place = subst (λ (address : ℕ). LiesIn (replicate size 0) address 60) (sym named_zero) (omega (arith, long, fits));
      not_extended = λ set. absurd (omega (arith, set));
    }

pub called-last : (size : ℕ) (words : List ℕ) → is_last_piece (called size words).adapter ≡ true
called-last size words = refl

pub data-moved : (size : ℕ) (words : List ℕ) → 4096 ≤ size → (answer : FrameOutcome)
    → DataAnswers (called size words).memory (called size words).adapter answer → answer ≡ Moved
data-moved size words fits Moved answers = refl
data-moved size words fits Nothing answers = absurd (answers (called-has_frame size words))
data-moved size words fits Part answers = let more : true ≡ false = sym (called-last size words) ∙ answers.2 in absurd (cc)
data-moved size words fits Fault answers = absurd (answers.1 (called-can_move size words fits))
data-moved size words fits _ answers = absurd answers

pub working-has_work : (size : ℕ) (words : List ℕ) → HasPieceInWork (working size words)
working-has_work size words none = absurd (cc)

-- The world `finished_slot`: the slot of the frame is finished.

pub done-reported : (size : ℕ) (words : List ℕ) (answer : FrameOutcome) → DoneAnswers (working size words).adapter answer → answer ≡ Done
done-reported size words Done answers = refl
done-reported size words Nothing answers = absurd (cc)
done-reported size words _ answers = absurd answers

pub reported-has_finished : (size : ℕ) (words : List ℕ) → Sound 0 0 (finished_slot size words) → HasFinished (finished_slot size words)
unfolding offered_places
reported-has_finished size words sound none =
    let all : 2048 ∷ [] ≡ finished 0 (finished_slot size words) ++ [] = sound.receive_slots.classes in
    let empty : (let one : List ℕ = 2048 ∷ [] in one) ≡ [] = all ∙ ap (λ (slots : List ℕ). slots ++ []) none in
    cc

-- By the law, each step and each arrival preserves the conditions.

pub stepped-sound : (kind : StepKind) (free : Bool) (answer : FrameOutcome) (world : World) → IsAdapter world.adapter
    → Answers kind free world.memory world.adapter answer → Sound 0 0 world → Sound 0 0 (world_after_step kind answer world)
stepped-sound kind free answer world running answers sound = ((steps_happen world kind free answer running answers).between 0 0 sound).sound

pub arrived-sound : (fate : Fate) (frame : List ℕ) (world : World) → IsAdapter world.adapter → IsFate world.adapter frame fate
    → Sound 0 0 world → Sound 0 0 (world_after_arrival fate frame world)
arrived-sound fate frame world running is sound = ((arrivals_happen world fate frame running is).between 0 0 sound).sound

-- The world that a call of `src/sound_buses.rt` results in, by the answers of the steps and arrivals in it.

pub working-found : (size : ℕ) (words : List ℕ) (fate : Fate) (answer : FrameOutcome) (a b d : World) → 4096 ≤ size → a ≡ ready size words
    → IsFate a.adapter call fate → b ≡ world_after_arrival fate call a → DataAnswers b.memory b.adapter answer
    → d ≡ world_after_step RxData answer b → d ≡ working size words
working-found size words fate answer a b d fits begins is arrives answers steps =
    let stored : fate ≡ Stored = fate-stored size words fate (subst (λ (w : World). IsFate w.adapter call fate) begins is) in
    let there : b ≡ called size words = arrives ∙ ap (λ (f : Fate). world_after_arrival f call a) stored
    ∙ ap (world_after_arrival Stored call) begins in
    let moved : answer ≡ Moved = data-moved size words fits answer
    (subst (λ (w : World). DataAnswers w.memory w.adapter answer) there answers) in
    steps ∙ ap (λ (told : FrameOutcome). world_after_step RxData told b) moved ∙ ap (world_after_step RxData Moved) there

pub reported-found : (size : ℕ) (words : List ℕ) (answer : FrameOutcome) (a b : World) → a ≡ working size words
    → DoneAnswers a.adapter answer
    → b ≡ world_after_step RxDone answer a → b ≡ finished_slot size words
reported-found size words answer a b begins answers steps =
    let done : answer ≡ Done = done-reported size words answer (subst (λ (w : World). DoneAnswers w.adapter answer) begins answers) in
    steps ∙ ap (λ (told : FrameOutcome). world_after_step RxDone told a) done ∙ ap (world_after_step RxDone Done) begins

-- The world `requested`: the descriptor of a frame is stored.

request-lies : (size : ℕ) → 4096 ≤ size → LiesIn (replicate size 0) 2176 16
request-lies size fits = omega (arith, length-replicate {A = ℕ} size 0, fits)

requested-size : (size : ℕ) (words : List ℕ) → 4096 ≤ size → length (requested size words).memory ≡ length {A = ℕ} (replicate size 0)
requested-size size words fits = length-with_bytes (replicate size 0) request 2176 (request-lies size fits)

pub requested-idle : (size : ℕ) (words : List ℕ) → 4096 ≤ size → IsIdle (requested size words)
requested-idle size words fits = stores_keep_idle 2176 request (resting size words) (requested-size size words fits)
    (resting-idle size words fits)

requested-bytes : (size : ℕ) (words : List ℕ) → 4096 ≤ size → bytes_at (requested size words).memory 2176 16 ≡ request
requested-bytes size words fits = bytes_at-stored (replicate size 0) request 2176 (request-lies size fits)

requested-data : (size : ℕ) (words : List ℕ) → 4096 ≤ size
    → data_of (requested size words).memory 2176 ≡ record { address = 2304; size = 60 }
unfolding tx_desc_of
requested-data size words fits =
    ap (λ (bytes : List ℕ). let area : Area = record { address = (tx_desc_of bytes).address; size = (tx_desc_of bytes).length } in area)
    (requested-bytes size words fits)

requested-reports : (size : ℕ) (words : List ℕ) → 4096 ≤ size → Reports (fetched true (requested size words).memory 2176)
unfolding tx_desc_of
requested-reports size words fits = ap (λ (bytes : List ℕ). is_set (command_bits (tx_desc_of bytes).command) 3)
    (requested-bytes size words fits)

-- The world `sending`: the slot of this descriptor is offered.

pub requested-can_send : (size : ℕ) (words : List ℕ) → 4096 ≤ size → CanSend 0 0 (requested size words)
requested-can_send size words fits =
    let w = requested size words in
    let memory = (requested size words).memory in
    let long = requested-size size words fits in
    let zeros = length-replicate {A = ℕ} size 0 in
    let r : Area = record { address = 2048; size = 128 } in
    let t : Area = record { address = 2176; size = 128 } in
    let frame : Area = record { address = 2304; size = 60 } in
    let is = requested-data size words fits in
    let Apart : Area → Type 0 = λ area. AreApart area frame in
    record {
      ring = unused-room 2176;
      fresh = ap (λ (bytes : List ℕ). is_set (slice_index bytes 12) 0) (requested-bytes size words fits);
      reports = requested-reports size words fits;
      pads = refl;
      lies = subst (λ (area : Area). LiesIn memory area.address area.size) (sym is) (omega (arith, long, zeros, fits));
      apart = subst (λ (list : List Area). All (λ area. AreApart area (data_of memory 2176)) list)
          (sym (idle-areas w (requested-idle size words fits)))
          (subst (λ (there : Area). All (λ area. AreApart area there) (r ∷ t ∷ [])) (sym is)
          (All-cons Apart r (t ∷ []) (inl (omega arith)) (All-cons Apart t [] (inl (omega arith)) (all-none Apart))));
    }

pub sending-sound : (size : ℕ) (words : List ℕ) → 4096 ≤ size → Sound 0 0 (sending size words)
sending-sound size words fits =
    (frames_can_be_offered 0 0 (requested size words) (idle_rings_are_sound (requested size words) (requested-idle size words fits))
    (requested-can_send size words fits)).sound

pub sending-has_frames : (size : ℕ) (words : List ℕ) → HasFramesInRing (sending size words)
unfolding offered_places to_send
sending-has_frames size words = record { slots = λ none. absurd (cc); frames = λ none. absurd (cc) }

pub sending-written : (size : ℕ) (words : List ℕ) → world_after_write 0x3818 1 (requested size words) ≡ sending size words
unfolding register_at array_register_at
sending-written size words = refl

-- The world `taken`: the frame of this slot is taken.

sending-busy : (size : ℕ) (words : List ℕ) → ¬ (HasNothingToTake (sending size words).adapter)
sending-busy size words (inl off) = absurd (off refl)
sending-busy size words (inr (inl stopped)) = absurd (cc)
sending-busy size words (inr (inr (inl full))) = absurd (omega (arith, full))
sending-busy size words (inr (inr (inr same))) = absurd (omega (arith, same))

pub sending-fields : (size : ℕ) (words : List ℕ) → 4096 ≤ size
    → IsTransmittable (requested size words).memory (transmit_descriptor_at (requested size words).memory 2176)
unfolding tx_desc_of
sending-fields size words fits =
    let memory = (requested size words).memory in
    let long = requested-size size words fits in
    let zeros = length-replicate {A = ℕ} size 0 in
    subst (λ (bytes : List ℕ). IsTransmittable memory (tx_desc_of bytes)) (sym (requested-bytes size words fits))
    (record {
      ends = refl;
      legacy = λ set. absurd (omega (arith, set));
      least = omega arith;
      most = omega arith;
      lies = omega
          (arith, long, zeros, fits);
    })

sending-can_take : (size : ℕ) (words : List ℕ) → 4096 ≤ size → CanTake (sending size words).memory (sending size words).adapter
sending-can_take size words fits =
    let long = requested-size size words fits in
    let zeros = length-replicate {A = ℕ} size 0 in
    record {
      sound = record { head = omega arith; tail = omega arith };
      lies = omega (arith, long, zeros, fits);
      transmittable = sending-fields size words fits;
    }

take-took : (size : ℕ) (words : List ℕ) → 4096 ≤ size → (answer : FrameOutcome)
    → TakeAnswers (sending size words).memory (sending size words).adapter answer → answer ≡ Took
take-took size words fits Took answers = refl
take-took size words fits Nothing answers = absurd (sending-busy size words answers)
take-took size words fits Fault answers = absurd (answers.1 (sending-can_take size words fits))
take-took size words fits _ answers = absurd answers

pub sent-has_frames : (size : ℕ) (words : List ℕ) → HasFramesInBuffer (taken size words)
sent-has_frames size words none = absurd (cc)

pub sent-found : (size : ℕ) (words : List ℕ) (answer : FrameOutcome) (a b : World) → 4096 ≤ size → a ≡ sending size words
    → TakeAnswers a.memory a.adapter answer → b ≡ world_after_step TxTake answer a → b ≡ taken size words
sent-found size words answer a b fits begins answers steps =
    let took : answer ≡ Took = take-took size words fits answer
    (subst (λ (w : World). TakeAnswers w.memory w.adapter answer) begins answers) in
    steps ∙ ap (λ (told : FrameOutcome). world_after_step TxTake told a) took ∙ ap (world_after_step TxTake Took) begins
