-- A frame is taken from the transmit ring.
use Rattle.std.proofs.Common.{◌≡◌, inl, inr, ◌++◌, ◌∷◌, [], Bool, true, ℕ, List, map, refl, sym, ap, subst, ◌∙◌, append_assoc}
use Rattle.std.specs.List.{All}
use Rattle.std.proofs.lemmas.Bool.{eq-eqb}
use Rattle.std.proofs.lemmas.List.{append-nil, map-append}
use Rattle.dma_memory.specs.Areas.{AreApart, AreSeparate}
use Rattle.descriptors.specs.Ring.{HasValidIndices, address_of}
use Rattle.tx_engine.specs.Fetching.{fetched, pads}
use Rattle.tx_engine.specs.Laws.{to_send-take}
use Rattle.tx_engine.specs.Transmitter.{Queued}
use Rattle.adapter_model.specs.Recording.{with_causes}
use Rattle.adapter_model.specs.Transmitting.{CanTake, HasNothingToTake, TakeAnswers, causes_of_taking, moved_on}
use Rattle.adapter_model.specs.declared.step.StepKind.TheVariants.{TxTake}
use Rattle.adapter_model.specs.Outcomes.{FrameOutcome}
use Rattle.adapter_model.specs.declared.outcome.Outcome.TheVariants.{Took, Nothing, Fault}
use Rattle.adapter_model.specs.Slots.{buffered, finished, slots_in_work, IsDealt, offered}
use Rattle.adapter_model.specs.HostAreas.{data_of, offered_buffers, reported_half, ring_area, status_byte, work_areas}
use Rattle.adapter_model.specs.HostFrames.{frames_held, named}
use Rattle.adapter_model.specs.Conditions.{Reports, Sound}
use Rattle.bus.specs.Law.{Between, Happens}
use Rattle.bus.specs.Pasts.{nothing}
use Rattle.adapter_model.specs.Running.{CanTransmit}
use Rattle.bus.specs.StepsAndArrivals.{world_after_step}
use Rattle.adapter_model.specs.World.{receive_ring, transmit_ring, World}
use Rattle.bus.proofs.Areas.{separate-without}
use Rattle.bus.proofs.Composition.{finishes-none, happens_none, puts-none}
use Rattle.bus.proofs.KeptPieces.{cut-kept}
use Rattle.bus.proofs.StepsBesideRings.{between_stopped}
use Rattle.bus.proofs.EngineRegisters.{added, no-arrivals, steady_moves}
use Rattle.bus.proofs.Rings.{dealt-moved, offered-head}
use Rattle.bus.proofs.Lists.{all-tail}
use Rattle.bus.proofs.RunningEngines.{can_take}
use Rattle.descriptors.specs.RingLaws.{next-below}
use Rattle.descriptors.specs.Ring.{count_of}

-- the world after a step that took a frame, with padding or without
abbrev pub taken : Bool → World → World
taken pad world = record world {
  adapter = with_causes (causes_of_taking world.adapter.transmit_ring) (record world.adapter {
    transmitter = record world.adapter.transmitter {
      buffer = world.adapter.transmitter.buffer ++ fetched pad world.memory
          (address_of (transmit_ring world) world.adapter.transmit_ring.head) ∷ [];
    };
    transmit_ring = moved_on world.adapter.transmit_ring;
  });
}

-- The frame at the head is moved to the end of the packet buffer. Its slot, which was offered, is then taken.
pub between_padded : (o p : ℕ) (a : World) → HasValidIndices (transmit_ring a)
    → ¬ (a.adapter.transmit_ring.head ≡ a.adapter.transmit_ring.tail)
    → Sound o p a → Between o p a (taken true a) nothing
between_padded o p a in_ring differ sound =
    let b = taken true a in
    let ring = transmit_ring a in
    let buffer = a.adapter.transmitter.buffer in
    let head = address_of ring ring.head in
    let rest = offered (transmit_ring b) in
    let others = map (named a.memory) (finished o a) ++ (work_areas a.memory a.adapter.receiver.work ++ offered_buffers a) in
    let first : offered ring ≡ head ∷ rest = offered-head ring in_ring differ in
    let grown : buffered b
    ≡ buffered a ++ head ∷ [] = map-append (λ (queued : Queued). queued.descriptor) buffer (fetched true a.memory head ∷ []) in
    let same : buffered b ++ rest ≡ buffered a ++ offered ring =
    ap (λ (slots : List ℕ). slots ++ rest) grown ∙ append_assoc (buffered a) (head ∷ []) rest
    ∙ ap (λ (slots : List ℕ). buffered a ++ slots) (sym first) in
    let areas : AreSeparate a.memory (ring_area (receive_ring a) ∷ ring_area ring
    ∷ (data_of a.memory head ∷ (map (data_of a.memory) rest ++ others))) =
    subst (λ (slots : List ℕ). AreSeparate a.memory (ring_area (receive_ring a) ∷ ring_area ring
    ∷ (map (data_of a.memory) slots ++ others))) first sound.separate in
    let reports : All Reports (buffer ++ (fetched true a.memory head ∷ map (fetched true a.memory) rest)) =
    subst (λ (slots : List ℕ). All Reports (buffer ++ map (fetched true a.memory) slots)) first sound.reports in
    record {
      transmit = puts-none p a b nothing refl (to_send-take a.memory ring true buffer in_ring differ) refl;
      receive = finishes-none o a b nothing (sym (append-nil (frames_held o a))) refl refl;
      fits = λ size fit. record { large = fit.large; finished_fit = fit.finished_fit; work_fits = fit.work_fits };
      whole = λ size are. cut-kept size o a b are.sized refl (λ k d below. refl) refl are;
      untouched = λ area apart. refl;
      foreign = λ area apart.
          subst (λ (slots : List ℕ). All (AreApart area)
          (map reported_half (slots_in_work a ++ offered (receive_ring a)) ++ (map status_byte slots ++ offered_buffers a))) (sym same)
          apart;
      runs = λ can. record {
        receiver_runs = can.receiver_runs;
        transmitter_runs = can.transmitter_runs;
        receive_indices = can.receive_indices;
        transmit_indices = λ still_more. record { head = next-below (count_of ring) ring.head in_ring.head; tail = in_ring.tail };
        not_extended = can.not_extended;
        transmittable = all-tail (CanTransmit a.memory) head rest
            (subst (λ (slots : List ℕ). All (CanTransmit a.memory) slots) first can.transmittable);
      };
      sound = record {
        receive_slots = sound.receive_slots;
        transmit_slots =
            subst (λ (slots : List ℕ). IsDealt a.memory (transmit_ring b) p slots) (sym grown)
            (dealt-moved a.memory ring p (buffered a) in_ring differ sound.transmit_slots);
        separate = separate-without a.memory (ring_area (receive_ring a) ∷ ring_area ring ∷ []) (data_of a.memory head)
            (map (data_of a.memory) rest ++ others) areas;
        reports = subst (λ (queue : List Queued). All Reports queue)
            (sym (append_assoc buffer (fetched true a.memory head ∷ []) (map (fetched true a.memory) rest))) reports;
        begun = sound.begun;
        pads = λ still_more. sound.pads differ;
      };
    }

between_taken : (o p : ℕ) (a : World) → ¬ (HasNothingToTake a.adapter) → CanTake a.memory a.adapter → Sound o p a
    → Between o p a (world_after_step TxTake Took a) nothing
between_taken o p a not_idle can sound =
    let differ : ¬ (a.adapter.transmit_ring.head ≡ a.adapter.transmit_ring.tail) = λ same. not_idle (inr (inr (inr same))) in
    let padded : pads a.adapter.transmit_control ≡ true = eq-eqb _ _ (sound.pads differ) in
    subst (λ (pad : Bool). Between o p a (taken pad a) nothing) (sym padded) (between_padded o p a can.sound differ sound)

pub take_happens : (a : World) (answer : FrameOutcome) → TakeAnswers a.memory a.adapter answer
    → Happens a (world_after_step TxTake answer a) nothing
take_happens a Took answers =
    let b = world_after_step TxTake Took a in
    let ring = transmit_ring a in
    record {
      steady = steady_moves a b nothing refl (added a.adapter.causes.recorded (causes_of_taking a.adapter.transmit_ring)) (inl refl)
          (inr (record { head = next-below (count_of ring) ring.head answers.1.sound.head; tail = answers.1.sound.tail }))
          (no-arrivals a b nothing refl refl refl) (record { eerd = refl; management = refl });
      between = λ o p sound. between_taken o p a answers.0 answers.1 sound;
    }
take_happens a Fault answers =
    let b = world_after_step TxTake Fault a in
    record {
      steady = steady_moves a b nothing refl (λ place set. set) (inl refl) (inl refl) (no-arrivals a b nothing refl refl refl)
          (record { eerd = refl; management = refl });
      between = λ o p sound. between_stopped o p a a.adapter.receiver.stopped true
          (λ can. answers.1 (can_take o p a sound can answers.0)) sound;
    }
take_happens a Nothing answers = happens_none a
take_happens a _ answers = absurd answers
