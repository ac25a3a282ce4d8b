-- A done step: the descriptor of the piece in progress is written back, if the descriptor is inside memory.
use Rattle.std.proofs.Common.{◌≡◌, ◌≤◌, ◌+◌, ◌⊎◌, ◌++◌, ◌∷◌, []}
use Rattle.std.proofs.Common.{inl, inr, Bool, true, false, cond, nat_le, ℕ, List, Option, Some, None}
use Rattle.std.proofs.Common.{length, map, refl, sym, ap, subst, ◌∙◌, append_assoc, arith, if◌then◌else◌}
use Rattle.std.specs.List.{All}
use Rattle.std.proofs.lemmas.Bool.{eq-eqb}
use Rattle.std.proofs.lemmas.Bool.Decides.{nat_tests}
use Rattle.std.proofs.lemmas.List.{append-nil, map-append}
use Rattle.std.proofs.lemmas.List.Elements.{All-append, All-cons}
use Rattle.dma_memory.specs.Areas.{AreApart, Area, ChangesOnly, IsInside, bytes_in, descriptor_area}
use Rattle.dma_memory.specs.AreaLaws.{apart-inside, apart-sym, changes_only_stored, lies-inside}
use Rattle.registers.specs.Bits.{HasBit, union}
use Rattle.registers.specs.Laws.{HasBit-union}
use Rattle.registers.specs.Places.{alone, rxt0}
use Rattle.dma_memory.specs.HostMemory.{bytes_at, with_bytes, LiesIn}
use Rattle.dma_memory.specs.Laws.{length-with_bytes}
use Rattle.descriptors.specs.declared.rx_desc.RxDesc.{RxDesc}
use Rattle.descriptors.specs.RxDesc.{rx_desc_of}
use Rattle.rx_engine.specs.Descriptors as receive
use Rattle.rx_engine.specs.Finishing.{IsFinished, StandsApart, finished_bytes, memory_after_done}
use Rattle.rx_engine.specs.Held.{piece_of}
use Rattle.rx_engine.specs.Pieces.{IsPart, Piece, begun_of, frames_of}
use Rattle.rx_engine.specs.Pieces.Piece.{Part}
use Rattle.rx_engine.specs.Laws.{descriptor_at-finished, memory_after_done-lies, written_back-finished}
use Rattle.rx_engine.specs.declared.engine.Work.{Work}
use Rattle.tx_engine.specs.Transmitter.{Queued}
use Rattle.adapter_model.specs.Receiving.{DoneAnswers, after_done, causes_of_finishing}
use Rattle.adapter_model.specs.State.{AdapterState}
use Rattle.adapter_model.specs.declared.step.StepKind.TheVariants.{RxDone}
use Rattle.adapter_model.specs.Outcomes.{FrameOutcome}
use Rattle.adapter_model.specs.declared.outcome.Outcome.TheVariants.{Done, Nothing}
use Rattle.adapter_model.specs.HostAreas.{areas, buffer_of, data_of, frame_areas, offered_buffers, receives, reported_half}
use Rattle.adapter_model.specs.HostAreas.{ring_area, status_byte}
use Rattle.adapter_model.specs.Slots.{buffered, done_slots, finished, slots_in_work, is_done, offered}
use Rattle.adapter_model.specs.HostFrames.{finished_pieces, frames_held, named, piece_in, pieces_in_slots}
use Rattle.adapter_model.specs.Conditions.{Reports, Sound}
use Rattle.bus.specs.Law.{Between, Happens}
use Rattle.bus.specs.Pasts.{nothing}
use Rattle.bus.specs.StepsAndArrivals.{world_after_step}
use Rattle.adapter_model.specs.State.{IsAdapter}
use Rattle.adapter_model.specs.World.{receive_ring, transmit_ring, World}
use Rattle.bus.proofs.Areas.{separate-same}
use Rattle.bus.proofs.Composition.{happens_none, puts-none}
use Rattle.bus.proofs.EngineRegisters.{added, no-arrivals, steady_moves}
use Rattle.bus.proofs.CutPieces.{CutPieces, HaveNoErrors, are-cut, errors-kept}
use Rattle.bus.proofs.WrittenAreas.{IsSame, buffers-kept, descriptors-kept, is_done-same, named-kept, names_fit-kept, NamesFit}
use Rattle.bus.proofs.WrittenAreas.{pieces-kept, same-apart, transmit_kept}
use Rattle.bus.proofs.Lists.{all-head, all-left, all-none, all-right, all-tail, all-weaker, pairs-head}
use Rattle.bus.proofs.RxDataSteps.{with_work}
use Rattle.bus.proofs.RunningEngines.{still_run, transmittable-kept}
use Rattle.bus.proofs.Rings.{dealt-others, dealt-reported, dealt-right, outstanding-inside}

is_done-finished : (memory : List ℕ) (descriptor : ℕ) (ends : Bool) (piece : List ℕ) → IsFinished memory descriptor ends piece
    → is_done memory descriptor ≡ true
unfolding rx_desc_of
is_done-finished memory descriptor ends piece finishes = eq-eqb _ _ finishes.done

told-of : (ends : Bool) (recorded : ℕ) (bytes : List ℕ)
    → All IsPart (piece_of ends bytes ∷ []) ⊎ HasBit (union recorded (if ends then alone rxt0 else 0)) rxt0
told-of true recorded bytes = inr ((HasBit-union recorded (alone rxt0) rxt0).1 (inr refl))
told-of false recorded bytes = inl (All-cons IsPart (Part bytes) [] tt (all-none IsPart))

-- the adapter after a done step that wrote back the descriptor
abbrev pub done_adapter : World → AdapterState
done_adapter world = after_done Done world.adapter

-- The places of the piece in progress and its descriptor.
pub record WorkStands (world : World) (work : Work) : Type 0 where
  pub inside : IsInside (descriptor_area work.descriptor) (ring_area (receive_ring world))
  pub lies : LiesIn world.memory work.descriptor 16
  pub stands : StandsApart world.memory work.descriptor work.length

work-stands : (o p : ℕ) (work : Work) (a : World) → Sound o p (with_work (Some work) a) → WorkStands (with_work (Some work) a) work
work-stands o p work a0 sound =
    let a = with_work (Some work) a0 in
    let ring = receive_ring a in
    let r = ring_area ring in
    let t = ring_area (transmit_ring a) in
    let payload = map (data_of a.memory) (offered (transmit_ring a)) in
    let names = map (named a.memory) (finished o a) in
    let slots = sound.receive_slots in
    let right = dealt-right a.memory ring o (slots_in_work a) (λ d. IsInside (descriptor_area d) r) slots
    (outstanding-inside ring o slots.slot) in
    let inside = all-head (λ d. IsInside (descriptor_area d) r) work.descriptor (offered ring) right in
    let place : Area = record { address = receive.named_address a.memory work.descriptor; size = work.length } in
    let Lies : Area → Type 0 = λ area. LiesIn a.memory area.address area.size in
    let lie_r : LiesIn a.memory ring.base r.size = all-head Lies r (t ∷ frame_areas o a) sound.separate.lie in
    let lie_rest = all-tail Lies t (frame_areas o a) (all-tail Lies r (t ∷ frame_areas o a) sound.separate.lie) in
    let lie_held = all-right Lies names (place ∷ offered_buffers a)
    (all-right Lies payload (names ++ (place ∷ offered_buffers a)) lie_rest) in
    let apart_rest = all-tail (AreApart r) t (frame_areas o a) (pairs-head AreApart r (t ∷ frame_areas o a) sound.separate.apart) in
    let apart_held = all-right (AreApart r) names (place ∷ offered_buffers a)
    (all-right (AreApart r) payload (names ++ (place ∷ offered_buffers a)) apart_rest) in
    let apart_place : AreApart r place = all-head (AreApart r) place (offered_buffers a) apart_held in
    record {
      inside = inside;
      lies = lies-inside a.memory (descriptor_area work.descriptor) r inside lie_r;
      stands = record {
        place = all-head Lies place (offered_buffers a) lie_held;
        apart = apart-sym (descriptor_area work.descriptor) place
            (apart-inside (descriptor_area work.descriptor) r place inside apart_place);
      };
    }

pub between_done : (o p : ℕ) (work : Work) (a : World) → work.length ≤ 1518 → Sound o p (with_work (Some work) a)
    → Between o p (with_work (Some work) a)
    (record {
      memory = with_bytes a.memory (work.descriptor + 8) (finished_bytes work.length work.ends);
      adapter = done_adapter
          (with_work (Some work) a);
    }) nothing
between_done o p work a0 most sound =
    let a = with_work (Some work) a0 in
    let memory = a.memory in
    let d = work.descriptor in
    let n = work.length in
    let bytes_after = finished_bytes n work.ends in
    let memory' = with_bytes memory (d + 8) bytes_after in
    let b : World = record { memory = memory'; adapter = done_adapter a } in
    let stand = work-stands o p work a0 sound in
    let fits : LiesIn memory (d + 8) 8 = omega (arith, stand.lies) in
    let size : length memory' ≡ length memory = length-with_bytes memory bytes_after (d + 8) fits in
    let area = reported_half d in
    let keeps : ChangesOnly memory memory' area = changes_only_stored memory bytes_after (d + 8) fits in
    let ring = receive_ring a in
    let r = ring_area ring in
    let t = ring_area (transmit_ring a) in
    let payload = map (data_of memory) (offered (transmit_ring a)) in
    let names = map (named memory) (finished o a) in
    let place : Area = record { address = receive.named_address memory d; size = n } in
    let buffers = offered_buffers a in
    let in_descriptor : IsInside area (descriptor_area d) = record { from = omega arith; to = omega arith } in
    let in_ring : IsInside area r = record { from = omega (arith, stand.inside.from); to = omega (arith, stand.inside.to) } in
    let apart_all : All (AreApart area) (t ∷ frame_areas o a) =
    all-weaker (AreApart r) (AreApart area) (t ∷ frame_areas o a) (λ other apart. apart-inside area r other in_ring apart)
    (pairs-head AreApart r (t ∷ frame_areas o a) sound.separate.apart) in
    let apart_t = all-head (AreApart area) t (frame_areas o a) apart_all in
    let apart_rest = all-tail (AreApart area) t (frame_areas o a) apart_all in
    let transmitting = transmit_kept a memory' p area keeps sound.transmit_slots apart_t
    (all-left (AreApart area) payload (names ++ (place ∷ buffers)) apart_rest) in
    let apart_names = all-left (AreApart area) names (place ∷ buffers)
    (all-right (AreApart area) payload (names ++ (place ∷ buffers)) apart_rest) in
    let slots = sound.receive_slots in
    let others = dealt-others memory ring o d [] slots in
    let into : (list : List ℕ) → All (λ e. AreApart (descriptor_area d) (descriptor_area e)) list
    → All (IsSame memory memory') list = λ list apart.
    same-apart memory memory' area list keeps
    (all-weaker (λ e. AreApart (descriptor_area d) (descriptor_area e)) (λ e. AreApart area (descriptor_area e)) list
    (λ e far. apart-inside area (descriptor_area d) (descriptor_area e) in_descriptor far) apart) in
    let same_done = into (finished o a) others.0 in
    let same_offered = into (offered ring) others.1 in
    let piece = bytes_at memory (receive.named_address memory d) n in
    let finishes : IsFinished memory' d work.ends piece =
    written_back-finished memory d n work.ends (omega (arith, most)) stand.lies stand.stands in
    let receiving =
    dealt-reported memory memory' ring o d [] slots
    (λ other apart. is_done-same memory memory' other
    (keeps.others (descriptor_area other) (apart-inside area (descriptor_area d) (descriptor_area other) in_descriptor apart)))
    (is_done-finished memory' d work.ends piece finishes) in
    let named_done : named memory' d ≡ place =
    ap (λ (desc : RxDesc). let there : Area = record { address = desc.address; size = desc.length } in there)
    (descriptor_at-finished memory d n work.ends (omega (arith, most)) stand.lies) in
    let names_after : map (named memory') (done_slots memory' ring o) ≡ names ++ place ∷ [] =
    ap (map (named memory')) receiving.grown ∙ map-append (named memory') (finished o a) (d ∷ [])
    ∙ ap (λ (list : List Area). list ++ named memory' d ∷ []) (named-kept memory memory' (finished o a) same_done)
    ∙ ap (λ (there : Area). names ++ there ∷ []) named_done in
    let piece_done : piece_in memory' d ≡ piece_of work.ends piece =
    ap (λ (ends : Bool). piece_of ends (bytes_in memory' (named memory' d))) finishes.ended ∙ ap (piece_of work.ends) finishes.bytes in
    let pieces_after : finished_pieces o b ≡ pieces_in_slots o a =
    ap (map (piece_in memory')) receiving.grown ∙ map-append (piece_in memory') (finished o a) (d ∷ [])
    ∙ ap (λ (list : List Piece). list ++ piece_in memory' d ∷ [])
    (pieces-kept memory memory' area (finished o a) keeps same_done apart_names)
    ∙ ap (λ (done : Piece). finished_pieces o a ++ done ∷ []) piece_done in
    let all_pieces : pieces_in_slots o b ≡ pieces_in_slots o a = append-nil (finished_pieces o b) ∙ pieces_after in
    let left : offered_buffers b ≡ buffers =
    ap (λ (there : List Area). cond (receives a) there []) (buffers-kept memory memory' (buffer_of a 0).size (offered ring) same_offered) in
    let halves = map reported_half (offered ring) in
    let bytes = map status_byte (buffered a ++ offered (transmit_ring a)) in
    record {
      transmit = puts-none p a b nothing refl transmitting.sends transmitting.done;
      receive = record {
        holds = ap (λ (pieces : List Piece). frames_of pieces ++ a.adapter.receiver.buffer) all_pieces ∙ sym (append-nil (frames_held o a));
        more = d ∷ [];
        done = receiving.grown;
        pieces = piece_of work.ends piece ∷ [];
        grown = pieces_after;
        told = told-of work.ends a.adapter.causes.recorded piece;
      };
      fits = λ room fit.
          let last : NamesFit memory' room (d ∷ []) = All-cons (λ slot. (named memory' slot).size ≤ room) d []
          (subst (λ (there : Area). there.size ≤ room) (sym named_done)
          (all-head (λ (there : Area). there.size ≤ room) place [] fit.work_fits))
          (all-none (λ slot. (named memory' slot).size ≤ room)) in
          let all = All-append (λ slot. (named memory' slot).size ≤ room) (finished o a) (d ∷ [])
          (names_fit-kept memory memory' room (finished o a) same_done fit.finished_fit) last in
          record {
            large = fit.large;
            finished_fit = subst (λ (list : List ℕ). NamesFit memory' room list) (sym receiving.grown) all;
            work_fits = all-none (λ (there : Area). there.size ≤ room);
          };
      whole = λ room are.
          let HasNoErrors : ℕ → Type 0 = λ slot. (receive.descriptor_at memory' slot).errors ≡ 0 in
          let errors = errors-kept memory memory' (finished o a) (descriptors-kept memory memory' (finished o a) same_done)
          are.have_no_errors in
          let all = All-append HasNoErrors (finished o a) (d ∷ []) errors
          (All-cons HasNoErrors d [] finishes.has_no_errors (all-none HasNoErrors)) in
          are-cut room o b are.sized (subst (λ (list : List ℕ). HaveNoErrors memory' list) (sym receiving.grown) all)
          (subst (λ (pieces : List Piece). CutPieces room pieces) (sym all_pieces)
          (record { cut = are.cut; legal = are.legal; short = are.short }));
      untouched = λ other foreign. keeps.others other
          (apart-sym other area (all-head (AreApart other) area (halves ++ (bytes ++ buffers)) foreign));
      foreign = λ other foreign.
          subst (λ (there : List Area). All (AreApart other) (halves ++ (bytes ++ there))) (sym left)
          (all-tail (AreApart other) area (halves ++ (bytes ++ buffers)) foreign);
      runs = λ can. still_run a b can.receive_indices can.not_extended
          (transmittable-kept memory memory' (offered (transmit_ring a)) size transmitting.same_offered can.transmittable) can;
      sound = record {
        receive_slots = receiving.dealt;
        transmit_slots = transmitting.dealt;
        separate =
            separate-same memory memory' (areas o a) (areas o b) size
            (same-lists r t _ _ _ _ _ place buffers transmitting.data_areas names_after left)
            sound.separate;
        reports = subst (λ (queue : List Queued). All Reports (a.adapter.transmitter.buffer ++ queue))
            (sym transmitting.fetches) sound.reports;
        begun = ap begun_of all_pieces ∙ sound.begun;
        pads = sound.pads;
      };
    }
  where
    same-lists : (r t : Area) (d d' f f' b' : List Area) (w : Area) (b : List Area) → d' ≡ d → f' ≡ f ++ w ∷ [] → b' ≡ b
        → r ∷ t ∷ (d' ++ (f' ++ b')) ≡ r ∷ t ∷ (d ++ (f ++ (w ∷ b)))
    same-lists r t d d' f f' b' w b same_d same_f same_b = rw (same_d, same_f, same_b, append_assoc f (w ∷ []) b) refl

length-back : (memory : List ℕ) (work : Work) → length (memory_after_done (Some work) memory) ≡ length memory
length-back memory work = by-test (nat_le (work.descriptor + 16) (length memory)) refl
  where
    by-test : (fits : Bool) → nat_le (work.descriptor + 16) (length memory) ≡ fits
        → length (cond fits (with_bytes memory (work.descriptor + 8) (finished_bytes work.length work.ends)) memory) ≡ length memory
    by-test false is = refl
    by-test true is =
        let below : work.descriptor + 16 ≤ length memory = grind (arith, nat_tests, is) in
        length-with_bytes memory (finished_bytes work.length work.ends) (work.descriptor + 8) (omega (arith, below))

done_work : (work : Option Work) (a : World) → IsAdapter (with_work work a).adapter → DoneAnswers (with_work work a).adapter Done
    → Happens (with_work work a) (world_after_step RxDone Done (with_work work a)) nothing
done_work None a running answers = absurd (answers refl)
done_work (Some work) a running answers =
    let w = with_work (Some work) a in
    let b = world_after_step RxDone Done w in
    record {
      steady = steady_moves w b nothing (length-back w.memory work) (added w.adapter.causes.recorded (causes_of_finishing (Some work)))
          (inl refl) (inl refl) (no-arrivals w b nothing refl refl refl) (record { eerd = refl; management = refl });
      between = λ o p sound.
          let stand = work-stands o p work a sound in
          let there = between_done o p work a (running.receiver.most work refl) sound in
          subst (λ (memory : List ℕ). Between o p w (record { memory = memory; adapter = done_adapter w }) nothing)
          (sym (memory_after_done-lies w.memory work stand.lies)) there;
    }

pub done_happens : (a : World) (answer : FrameOutcome) → IsAdapter a.adapter → DoneAnswers a.adapter answer
    → Happens a (world_after_step RxDone answer a) nothing
done_happens a Done running answers = done_work a.adapter.receiver.work a running answers
done_happens a Nothing running answers =
    let still_so : memory_after_done a.adapter.receiver.work a.memory
    ≡ a.memory = ap (λ (work : Option Work). memory_after_done work a.memory) answers in
    subst (λ (memory : List ℕ). Happens a (record { memory = memory; adapter = a.adapter }) nothing) (sym still_so) (happens_none a)
done_happens a _ running answers = absurd answers
