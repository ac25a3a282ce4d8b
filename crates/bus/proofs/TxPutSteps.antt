-- A put step: a frame is put onto the wire. DD is set in its descriptor, if RS is set and the status byte is inside memory.
use Rattle.std.proofs.Common.{◌≡◌, ◌<◌, ◌+◌, ◌&&◌, inl, ◌++◌, ◌∷◌, [], Bool, true, false, cond, nat_lt, ℕ, List, length, map, slice_index}
use Rattle.std.proofs.Common.{refl, sym, ap, subst, ◌∙◌, arith}
use Rattle.std.specs.List.{All}
use Rattle.std.proofs.lemmas.Bool.Decides.{nat_tests}
use Rattle.std.proofs.lemmas.List.{append-nil, get_or-append_right}
use Rattle.dma_memory.specs.Areas.{AreApart, Area, ChangesOnly, IsInside, descriptor_area}
use Rattle.dma_memory.specs.AreaLaws.{apart-inside, apart-sym, changes_only_stored, lies-inside}
use Rattle.registers.specs.Bits.{is_set}
use Rattle.dma_memory.specs.HostMemory.{bytes_at, with_bytes, LiesIn}
use Rattle.dma_memory.specs.Laws.{bytes_at-parts, bytes_at-stored, length-bytes_at, length-with_bytes}
use Rattle.tx_engine.specs.Fetching.{fetched}
use Rattle.tx_engine.specs.Steps.{written_back as reported_in}
use Rattle.tx_engine.specs.Laws.{to_send-put}
use Rattle.tx_engine.specs.Transmitter.{Queued}
use Rattle.adapter_model.specs.State.{AdapterState}
use Rattle.adapter_model.specs.Transmitting.{PutAnswers, after_put, causes_of_putting}
use Rattle.adapter_model.specs.declared.step.StepKind.TheVariants.{TxPut}
use Rattle.adapter_model.specs.Outcomes.{FrameOutcome}
use Rattle.adapter_model.specs.declared.outcome.Outcome.TheVariants.{Put, WireFull, Nothing}
use Rattle.adapter_model.specs.HostAreas.{areas, buffer_of, data_of, frame_areas, offered_buffers, receives, reported_half, ring_area}
use Rattle.adapter_model.specs.HostAreas.{status_byte, work_areas}
use Rattle.adapter_model.specs.Slots.{buffered, finished, slots_in_work, is_done, offered}
use Rattle.adapter_model.specs.HostFrames.{frames_held, named}
use Rattle.adapter_model.specs.Conditions.{Reports, Sound}
use Rattle.bus.specs.Law.{Between, Happens}
use Rattle.bus.specs.Pasts.{nothing}
use Rattle.bus.specs.StepsAndArrivals.{past_of_step, world_after_step}
use Rattle.adapter_model.specs.World.{receive_ring, transmit_ring, World}
use Rattle.bus.proofs.Areas.{separate-same}
use Rattle.bus.proofs.Composition.{finishes-none, happens_none}
use Rattle.bus.proofs.KeptPieces.{cut-kept}
use Rattle.bus.proofs.EngineRegisters.{added, no-arrivals, steady_moves}
use Rattle.bus.proofs.WrittenAreas.{IsSame, buffers-kept, data-kept, fetched-kept, is_done-same, receive_kept, to_send-kept}
use Rattle.bus.proofs.Lists.{all-head, all-left, all-right, all-tail, all-weaker, all-without, map-same, pairs-head, pairs-tail}
use Rattle.bus.proofs.Rings.{dealt-others, dealt-reported, dealt-right, outstanding-inside}
use Rattle.bus.proofs.RunningEngines.{still_run, transmittable-kept}

pub is_done-reported : (memory : List ℕ) (descriptor : ℕ) → LiesIn memory descriptor 16 → LiesIn memory (descriptor + 12) 1
    → is_done (with_bytes memory (descriptor + 12) (1 ∷ [])) descriptor ≡ true
is_done-reported memory descriptor lies fits =
    let memory' = with_bytes memory (descriptor + 12) (1 ∷ []) in
    let size : length memory' ≡ length memory = length-with_bytes memory (1 ∷ []) (descriptor + 12) fits in
    let front = bytes_at memory' descriptor 12 in
    let behind = bytes_at memory' (descriptor + 12 + 1) 3 in
    let twelve : length front ≡ 12 = length-bytes_at memory' descriptor 12 (omega (arith, size, lies)) in
    let byte : bytes_at memory' (descriptor + 12) 1 ≡ 1 ∷ [] = bytes_at-stored memory (1 ∷ []) (descriptor + 12) fits in
    let four : bytes_at memory' (descriptor + 12) 4 ≡ 1 ∷ behind = bytes_at-parts memory' (descriptor + 12) 1 3
    ∙ ap (λ (bytes : List ℕ). bytes ++ behind) byte in
    let whole : bytes_at memory' descriptor 16 ≡ front ++ (1 ∷ behind) = bytes_at-parts memory' descriptor 12 4
    ∙ ap (λ (bytes : List ℕ). front ++ bytes) four in
    let is : slice_index (bytes_at memory' descriptor 16) 12 ≡ 1 = ap (λ (bytes : List ℕ). slice_index bytes 12) whole
    ∙ get_or-append_right front (1 ∷ behind) 12 12 0 twelve (omega arith) in
    ap (λ (byte : ℕ). is_set byte 0) is

pub areas-same : (r t : Area) (d d' f f' w w' b b' : List Area) → d' ≡ d → f' ≡ f → w' ≡ w → b' ≡ b
    → r ∷ t ∷ (d' ++ (f' ++ (w' ++ b'))) ≡ r ∷ t ∷ (d ++ (f ++ (w ++ b)))
areas-same r t d d' f f' w w' b b' same_d same_f same_w same_b = rw (same_d, same_f, same_w, same_b) refl

-- the world with these frames in the transmit packet buffer
abbrev pub with_queue : List Queued → World → World
with_queue queue world = record world
    { adapter = record world.adapter { transmitter = record world.adapter.transmitter { buffer = queue } } }

-- the adapter after a step that put the first of these frames
abbrev pub put_adapter : Queued → List Queued → World → AdapterState
put_adapter queued later world = after_put (Put queued.frame) (with_queue (queued ∷ later) world).adapter

-- A descriptor inside the transmit ring and inside memory, with its status byte.
pub record Place (world : World) (descriptor : ℕ) : Type 0 where
  pub inside : IsInside (descriptor_area descriptor) (ring_area (transmit_ring world))
  pub lies : LiesIn world.memory descriptor 16
  pub byte : LiesIn world.memory (descriptor + 12) 1

place-found : (o p : ℕ) (queued : Queued) (later : List Queued) (a : World) → Sound o p (with_queue (queued ∷ later) a)
    → Place (with_queue (queued ∷ later) a) queued.descriptor
place-found o p queued later a sound =
    let w = with_queue (queued ∷ later) a in
    let ring = transmit_ring w in
    let slots = sound.transmit_slots in
    let right = dealt-right w.memory ring p (buffered w) (λ d. IsInside (descriptor_area d) (ring_area ring)) slots
    (outstanding-inside ring p slots.slot) in
    let inside = all-head (λ d. IsInside (descriptor_area d) (ring_area ring)) queued.descriptor
    (buffered (with_queue later a) ++ offered ring) right in
    let lie : LiesIn w.memory ring.base (ring_area ring).size =
    all-head (λ area. LiesIn w.memory area.address area.size) (ring_area ring) (frame_areas o w)
    (all-tail (λ area. LiesIn w.memory area.address area.size) (ring_area (receive_ring w))
    (ring_area ring ∷ frame_areas o w) sound.separate.lie) in
    record {
      inside = inside;
      lies = lies-inside w.memory (descriptor_area queued.descriptor) (ring_area ring) inside lie;
      byte = lies-inside w.memory (status_byte queued.descriptor) (ring_area ring)
          (record { from = omega (arith, inside.from); to = omega (arith, inside.to) }) lie;
    }

pub between_put : (o p : ℕ) (queued : Queued) (later : List Queued) (a : World) → Sound o p (with_queue (queued ∷ later) a)
    → Between o p (with_queue (queued ∷ later) a)
    (record { memory = with_bytes a.memory (queued.descriptor + 12) (1 ∷ []); adapter = put_adapter queued later a })
    (record nothing { put = queued.frame ∷ [] })
between_put o p queued later a0 sound =
    let a = with_queue (queued ∷ later) a0 in
    let memory = a.memory in
    let d = queued.descriptor in
    let memory' = with_bytes memory (d + 12) (1 ∷ []) in
    let b : World = record { memory = memory'; adapter = put_adapter queued later a0 } in
    let place = place-found o p queued later a0 sound in
    let size : length memory' ≡ length memory = length-with_bytes memory (1 ∷ []) (d + 12) place.byte in
    let area = status_byte d in
    let keeps : ChangesOnly memory memory' area = changes_only_stored memory (1 ∷ []) (d + 12) place.byte in
    let r = ring_area (receive_ring a) in
    let t = ring_area (transmit_ring a) in
    let offers = offered (transmit_ring a) in
    let payload = map (data_of memory) offers in
    let names = map (named memory) (finished o a) in
    let work = work_areas memory a.adapter.receiver.work in
    let rest = payload ++ (names ++ (work ++ offered_buffers a)) in
    let in_descriptor : IsInside area (descriptor_area d) = record { from = omega arith; to = omega arith } in
    let in_transmit : IsInside area t = record { from = omega (arith, place.inside.from); to = omega (arith, place.inside.to) } in
    let apart_receive : AreApart area r = apart-inside area t r in_transmit
    (apart-sym r t (all-head (AreApart r) t rest (pairs-head AreApart r (t ∷ rest) sound.separate.apart))) in
    let apart_rest : All (AreApart area) rest =
    all-weaker (AreApart t) (AreApart area) rest (λ other apart. apart-inside area t other in_transmit apart)
    (pairs-head AreApart t rest (pairs-tail AreApart r (t ∷ rest) sound.separate.apart)) in
    let apart_data = all-left (AreApart area) payload (names ++ (work ++ offered_buffers a)) apart_rest in
    let apart_held = all-right (AreApart area) payload (names ++ (work ++ offered_buffers a)) apart_rest in
    let apart_names = all-left (AreApart area) names (work ++ offered_buffers a) apart_held in
    let apart_work = all-left (AreApart area) work (offered_buffers a)
    (all-right (AreApart area) names (work ++ offered_buffers a) apart_held) in
    let receiving = receive_kept a memory' o area keeps sound.receive_slots apart_receive apart_names apart_work in
    let others = dealt-others memory (transmit_ring a) p d (buffered (with_queue later a0)) sound.transmit_slots in
    let behind = all-right (λ other. AreApart (descriptor_area d) (descriptor_area other))
    (buffered (with_queue later a0)) offers others.1 in
    let same_offers : All (IsSame memory memory') offers = λ k e below. keeps.others _
    (apart-inside area (descriptor_area d) _ in_descriptor (behind k e below)) in
    let transmitting =
    dealt-reported memory memory' (transmit_ring a) p d (buffered (with_queue later a0)) sound.transmit_slots
    (λ other apart. is_done-same memory memory' other
    (keeps.others (descriptor_area other) (apart-inside area (descriptor_area d) (descriptor_area other) in_descriptor apart)))
    (is_done-reported memory d place.lies place.byte) in
    let fetches = fetched-kept memory memory' area offers keeps same_offers apart_data in
    let buffers : offered_buffers b ≡ offered_buffers a =
    ap (λ (there : List Area). cond (receives a) there [])
    (buffers-kept memory memory' (buffer_of a 0).size (offered (receive_ring a)) receiving.same_offered) in
    let halves = map reported_half (slots_in_work a ++ offered (receive_ring a)) in
    let bytes = map status_byte (buffered (with_queue later a0) ++ offers) in
    record {
      transmit = record {
        sends = ap (λ (frames : List (List ℕ)). queued.frame ∷ frames) (to_send-kept memory memory' (transmit_ring a) later fetches)
            ∙ sym (to_send-put memory (transmit_ring a) true queued later);
        reported = d ∷ [];
        written = transmitting.grown;
        each_reported = refl;
      };
      receive = finishes-none o a b (record nothing { put = queued.frame ∷ [] }) (receiving.held ∙ sym (append-nil (frames_held o a)))
          receiving.done receiving.pieces;
      fits = λ size fit.
          let kept = receiving.fits size fit in
          record { large = kept.large; finished_fit = kept.finished_fit; work_fits = kept.work_fits };
      whole = λ size are. cut-kept size o a b are.sized receiving.done receiving.descriptors receiving.all_pieces are;
      untouched = λ other foreign.
          let reports = all-left (AreApart other) (status_byte d ∷ bytes) (offered_buffers a)
          (all-right (AreApart other) halves ((status_byte d ∷ bytes) ++ offered_buffers a) foreign) in
          keeps.others other (apart-sym other area (all-head (AreApart other) area bytes reports));
      foreign = λ other foreign.
          subst (λ (there : List Area). All (AreApart other) (halves ++ (bytes ++ there))) (sym buffers)
          (all-without (AreApart other) halves area (bytes ++ offered_buffers a) foreign);
      runs = λ can. still_run a b can.receive_indices can.not_extended
          (transmittable-kept memory memory' offers size same_offers can.transmittable) can;
      sound = record {
        receive_slots = receiving.dealt;
        transmit_slots = transmitting.dealt;
        separate =
            separate-same memory memory' (areas o a) (areas o b) size
            (areas-same r t _ _ _ _ _ _ _ _ (data-kept memory memory' offers same_offers) receiving.named_areas receiving.areas_of_work
            buffers)
            sound.separate;
        reports =
            subst (λ (queue : List Queued). All Reports (later ++ queue))
            (sym (map-same (fetched true memory') (fetched true memory) offers fetches))
            (all-tail Reports queued (later ++ map (fetched true memory) offers) sound.reports);
        begun = receiving.begun sound.begun;
        pads = sound.pads;
      };
    }

report-written : (memory : List ℕ) (queued : Queued) → queued.rs ≡ true → LiesIn memory (queued.descriptor + 12) 1
    → reported_in memory queued ≡ with_bytes memory (queued.descriptor + 12) (1 ∷ [])
report-written memory queued asks lies =
    let fits : nat_lt (queued.descriptor + 12) (length memory) ≡ true = grind (arith, nat_tests) in
    rw (asks, fits) refl

length-reported : (memory : List ℕ) (queued : Queued) → length (reported_in memory queued) ≡ length memory
length-reported memory queued = by-tests queued.rs (nat_lt (queued.descriptor + 12) (length memory)) refl
  where
    by-tests : (asks fits : Bool) → nat_lt (queued.descriptor + 12) (length memory) ≡ fits
        → length (cond (asks && fits) (with_bytes memory (queued.descriptor + 12) (1 ∷ [])) memory) ≡ length memory
    by-tests false fits is = refl
    by-tests true false is = refl
    by-tests true true is =
        let below : queued.descriptor + 12 < length memory = grind (arith, nat_tests, is) in
        length-with_bytes memory (1 ∷ []) (queued.descriptor + 12) (omega (arith, below))

put_queue : (queue : List Queued) (a : World) (wire_free : Bool) (frame : List ℕ)
    → PutAnswers wire_free (with_queue queue a).adapter (Put frame)
    → Happens (with_queue queue a) (world_after_step TxPut (Put frame) (with_queue queue a)) (past_of_step TxPut (Put frame))
put_queue [] a wire_free frame answers = absurd answers.1
put_queue (queued ∷ later) a wire_free frame answers =
    let w = with_queue (queued ∷ later) a in
    let b = world_after_step TxPut (Put frame) w in
    let past = past_of_step TxPut (Put frame) in
    record {
      steady = steady_moves w b past (length-reported w.memory queued)
          (added w.adapter.causes.recorded (causes_of_putting (queued ∷ later))) (inl refl) (inl refl)
          (no-arrivals w b past refl refl refl) (record { eerd = refl; management = refl });
      between = λ o p sound.
          let place = place-found o p queued later a sound in
          let written = report-written w.memory queued
          (all-head Reports queued (later ++ map (fetched true w.memory) (offered (transmit_ring w))) sound.reports) place.byte in
          let there = subst (λ (memory : List ℕ). Between o p w (record { memory = memory; adapter = put_adapter queued later a })
          (record nothing { put = queued.frame ∷ [] })) (sym written) (between_put o p queued later a sound) in
          subst (λ (f : List ℕ). Between o p w (record { memory = reported_in w.memory queued; adapter = put_adapter queued later a })
          (record nothing { put = f ∷ [] })) answers.1 there;
    }

pub put_happens : (a : World) (wire_free : Bool) (answer : FrameOutcome) → PutAnswers wire_free a.adapter answer
    → Happens a (world_after_step TxPut answer a) (past_of_step TxPut answer)
put_happens a wire_free (Put frame) answers = put_queue a.adapter.transmitter.buffer a wire_free frame answers
put_happens a wire_free Nothing answers = happens_none a
put_happens a wire_free WireFull answers = happens_none a
put_happens a wire_free _ answers = absurd answers
