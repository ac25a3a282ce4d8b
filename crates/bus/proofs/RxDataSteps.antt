-- A piece of a frame is moved from the receive packet buffer to memory.
use Rattle.std.proofs.Common.{◌≡◌, ◌≢◌, ◌≤◌, ◌+◌, ◌++◌, ◌∷◌, []}
use Rattle.std.proofs.Common.{inr, inl, Bool, true, false, cond, ℕ, List, Option, Some, None}
use Rattle.std.proofs.Common.{length, map, drop, refl, sym, ap, subst, ◌∙◌, append_assoc, arith}
use Rattle.std.specs.List.{All}
use Rattle.std.proofs.lemmas.Bool.{eq-eqb}
use Rattle.std.proofs.lemmas.List.{append-nil}
use Rattle.std.proofs.lemmas.List.Elements.{All-append, All-cons}
use Rattle.dma_memory.specs.Areas.{AreApart, AreSeparate, Area, ChangesOnly, IsInside, descriptor_area}
use Rattle.dma_memory.specs.AreaLaws.{apart-inside, apart-sym, changes_only_stored, inside-apart}
use Rattle.dma_memory.specs.Laws.{length-with_bytes}
use Rattle.descriptors.specs.Ring.{address_of}
use Rattle.descriptors.specs.RxDesc.{rx_desc_of}
use Rattle.rx_engine.specs.Descriptors as receive
use Rattle.rx_engine.specs.Receiver.{IsReceiver, Receiver, oldest}
use Rattle.rx_engine.specs.Pieces.{IsCut, Piece, begun_of}
use Rattle.rx_engine.specs.Held.{HasBegun, Holds, MovesApart, held, in_work, piece_of}
use Rattle.rx_engine.specs.Laws.{bytes_of_work-moved, held-after_data}
use Rattle.rx_engine.specs.Moving.{is_half_offered, next_piece, work_at}
use Rattle.rx_engine.specs.declared.data.Data.TheVariants as answers
use Rattle.rx_engine.specs.declared.engine.Work.{Work}
use Rattle.tx_engine.specs.Transmitter.{Queued}
use Rattle.adapter_model.specs.Receiving.{CanMovePiece, DataAnswers, HasFrameAndDescriptor, causes_of_moving, is_last_piece, piece_size}
use Rattle.adapter_model.specs.Rings.{ring_of}
use Rattle.adapter_model.specs.Transmitting.{moved_on}
use Rattle.adapter_model.specs.declared.step.StepKind.TheVariants.{RxData}
use Rattle.adapter_model.specs.Outcomes.{FrameOutcome}
use Rattle.adapter_model.specs.declared.outcome.Outcome.TheVariants.{Part, Moved, Nothing, Fault}
use Rattle.adapter_model.specs.HostAreas.{areas, buffer_of, buffer_size, data_of, offered_buffers, receives, reported_half}
use Rattle.adapter_model.specs.HostAreas.{ring_area, status_byte, work_areas}
use Rattle.adapter_model.specs.Slots.{buffered, done_slots, finished, is_done, IsDealt, offered, outstanding}
use Rattle.adapter_model.specs.HostFrames.{finished_pieces, frames_held, named, piece_in, pieces_in_slots}
use Rattle.adapter_model.specs.Conditions.{AreCut, Reports, Sound}
use Rattle.bus.specs.Law.{Between, Happens}
use Rattle.bus.specs.Pasts.{nothing}
use Rattle.bus.specs.StepsAndArrivals.{world_after_step}
use Rattle.adapter_model.specs.State.{IsAdapter}
use Rattle.adapter_model.specs.World.{receive_ring, transmit_ring, World}
use Rattle.bus.proofs.Areas.{separate-same, separate-shorter}
use Rattle.bus.proofs.Composition.{finishes-none, happens_none, puts-none}
use Rattle.bus.proofs.EngineRegisters.{added, no-arrivals, steady_moves}
use Rattle.bus.proofs.CutPieces.{CutPieces, HaveNoErrors, are-cut, errors-kept, next-piece}
use Rattle.bus.proofs.WrittenAreas.{IsSame, buffers-kept, descriptors-kept, is_done-same, named-kept, names_fit-kept, NamesFit}
use Rattle.bus.proofs.WrittenAreas.{pieces-kept, same-outstanding, transmit_kept}
use Rattle.bus.proofs.Lists.{all-head, all-left, all-right, all-tail, all-weaker, all-without, pairs-before}
use Rattle.bus.proofs.TxPutSteps.{areas-same}
use Rattle.bus.proofs.StepsBesideRings.{between_stopped}
use Rattle.bus.proofs.Rings.{dealt-left, dealt-moved, dealt-right, dealt-same, done-same, offered-head, outstanding-inside}
use Rattle.descriptors.specs.Frames.{IsLegal}
use Rattle.bus.proofs.Lists.{all-none}
use Rattle.bus.proofs.RunningEngines.{can_move, piece-fits, still_run, transmittable-kept}
use Rattle.descriptors.specs.RingLaws.{next-below}
use Rattle.descriptors.specs.Ring.{count_of}

-- the world with this piece in progress
abbrev pub with_work : Option Work → World → World
with_work work world = record world { adapter = record world.adapter { receiver = record world.adapter.receiver { work = work } } }

-- the receive engine with this packet buffer, this number of moved bytes of its oldest frame, and a piece in progress
abbrev pub moved_engine : Bool → List (List ℕ) → ℕ → World → Receiver
moved_engine ends buffer moved world = record world.adapter.receiver {
  buffer = buffer;
  moved = moved;
  work = Some (work_at world.adapter.filter.rctl (receive_ring world) world.adapter.receiver ends);
}

-- the world after a data step that moved a piece, with the receive engine `moved_engine`; the other parts are the same for each piece
abbrev pub moved_world : Bool → List (List ℕ) → ℕ → World → World
moved_world ends buffer moved world = record {
  memory = (world_after_step RxData Moved world).memory;
  adapter = record (world_after_step RxData Moved world).adapter { receiver = moved_engine ends buffer moved world };
}

-- if `MovesApart` holds, the step doesn't change the frames held
abbrev pub KeepsHeld : Bool → List (List ℕ) → ℕ → ℕ → World → Type 0
KeepsHeld ends buffer moved o a =
    MovesApart a.adapter.filter.rctl (receive_ring a) a.adapter.receiver a.memory ends
    → Holds (frames_held o a) (held (moved_world ends buffer moved a).memory (finished_pieces o a) (moved_engine ends buffer moved a)) []
    (moved_world ends buffer moved a).memory (finished_pieces o a) (moved_engine ends buffer moved a)

oldest-legal : (buffer : List (List ℕ)) → buffer ≢ [] → All IsLegal buffer → IsLegal (oldest buffer)
oldest-legal [] some legal = absurd (some refl)
oldest-legal (frame ∷ later) some legal = all-head IsLegal frame later legal

cut-moved : (ends : Bool) (size o : ℕ) (a : World) → buffer_size a ≡ size → a.adapter.receiver.work ≡ None → a.adapter.receiver.buffer ≢ []
    → IsReceiver a.adapter.receiver → is_last_piece a.adapter ≡ ends
    → HasBegun a.memory (finished_pieces o a) a.adapter.receiver → AreCut size o a
    → CutPieces size (finished_pieces o a ++ piece_of ends (next_piece a.adapter.filter.rctl a.adapter.receiver) ∷ [])
cut-moved ends size o a is_size free some is last begun are =
    let engine = a.adapter.receiver in
    let legal = oldest-legal engine.buffer some is.frames in
    let none : pieces_in_slots o a ≡ finished_pieces o a =
    ap (λ (work : Option Work). finished_pieces o a ++ in_work a.memory work) free ∙ append-nil (finished_pieces o a) in
    let before : CutPieces (buffer_size a) (pieces_in_slots o a) = record
    { cut = subst (λ (n : ℕ). All (IsCut n) (pieces_in_slots o a)) (sym is_size) are.cut; legal = are.legal; short = are.short } in
    let pieces = finished_pieces o a ++ piece_of ends (next_piece a.adapter.filter.rctl engine) ∷ [] in
    subst (λ (n : ℕ). CutPieces n pieces) is_size
    (next-piece ends (buffer_size a) engine.moved (oldest engine.buffer) (finished_pieces o a) last legal
    (omega (arith, is.begun, legal.least)) (ap begun_of (sym none) ∙ begun)
    (subst (λ (list : List Piece). CutPieces (buffer_size a) list) none before))

pub between_moved : (ends : Bool) (buffer : List (List ℕ)) (moved : ℕ) (o p : ℕ) (a0 : World)
    → HasFrameAndDescriptor (with_work None a0).adapter → CanMovePiece a0.memory a0.adapter → is_last_piece a0.adapter ≡ ends
    → IsReceiver (with_work None a0).adapter.receiver → KeepsHeld ends buffer moved o (with_work None a0) → Sound o p (with_work None a0)
    → Between o p (with_work None a0) (moved_world ends buffer moved a0) nothing
between_moved ends buffer moved o p a0 has can last_is is keeps_held sound =
    let a = with_work None a0 in
    let b = moved_world ends buffer moved a0 in
    let memory = a.memory in
    let memory' = b.memory in
    let ring = receive_ring a in
    let next = receive_ring b in
    let piece = next_piece a.adapter.filter.rctl a.adapter.receiver in
    let n = length piece in
    let head = address_of ring ring.head in
    let rest = offered next in
    let at = receive.named_address memory head in
    let bsize = (buffer_of a 0).size in
    let size : length memory' ≡ length memory = length-with_bytes memory piece at can.place in
    let area : Area = record { address = at; size = n } in
    let whole_buffer : Area = record { address = at; size = bsize } in
    let short : n ≤ bsize = piece-fits a.adapter.filter.rctl a.adapter.receiver in
    let part : IsInside area whole_buffer = record { from = omega arith; to = omega (arith, short) } in
    let keeps : ChangesOnly memory memory' area = changes_only_stored memory piece at can.place in
    let first : offered ring ≡ head ∷ rest = offered-head ring can.indices has.offered in
    let enabled : receives a ≡ true = eq-eqb _ _ has.enabled in
    let r = ring_area ring in
    let t = ring_area (transmit_ring a) in
    let payload = map (data_of memory) (offered (transmit_ring a)) in
    let names = map (named memory) (finished o a) in
    let others = map (buffer_of a) rest in
    let buffers : offered_buffers a ≡ whole_buffer ∷ others =
    ap (λ (on : Bool). cond on (map (buffer_of a) (offered ring)) []) enabled ∙ ap (map (buffer_of a)) first in
    let front = r ∷ t ∷ (payload ++ names) in
    let joined_front : (behind : List Area)
    → r ∷ t ∷ (payload ++ (names ++ behind)) ≡ front
    ++ behind = λ behind. ap (λ (list : List Area). r ∷ t ∷ list) (sym (append_assoc payload names behind)) in
    let separate : AreSeparate memory (front ++ whole_buffer ∷ others) =
    subst (λ (list : List Area). AreSeparate memory list) (joined_front (whole_buffer ∷ others))
    (subst (λ (there : List Area). AreSeparate memory (r ∷ t ∷ (payload ++ (names ++ there)))) buffers sound.separate) in
    let before = pairs-before AreApart front whole_buffer others separate.apart in
    let apart_front : All (AreApart area) front = all-weaker (λ other. AreApart other whole_buffer) (AreApart area) front
    (λ other apart. apart-inside area whole_buffer other part (apart-sym other whole_buffer apart)) before in
    let apart_r = all-head (AreApart area) r (t ∷ (payload ++ names)) apart_front in
    let apart_behind = all-tail (AreApart area) r (t ∷ (payload ++ names)) apart_front in
    let apart_t = all-head (AreApart area) t (payload ++ names) apart_behind in
    let apart_rest = all-tail (AreApart area) t (payload ++ names) apart_behind in
    let transmitting = transmit_kept a memory' p area keeps sound.transmit_slots apart_t
    (all-left (AreApart area) payload names apart_rest) in
    let slots = sound.receive_slots in
    let same = same-outstanding memory memory' area ring o [] keeps apart_r slots in
    let done_as : All (λ d. is_done memory' d ≡ is_done memory d) (outstanding ring o) = λ k d below. is_done-same memory memory' _
    (same k d below) in
    let same_done = dealt-left memory ring o [] (IsSame memory memory') slots same in
    let same_offered : All (IsSame memory memory') (head ∷ rest) = subst (λ (list : List ℕ). All (IsSame memory memory') list) first
    (dealt-right memory ring o [] (IsSame memory memory') slots same) in
    let done : done_slots memory' ring o ≡ finished o a = done-same memory memory' ring o done_as in
    let dealt : IsDealt memory' next o (head ∷ []) = dealt-moved memory' ring o [] can.indices has.offered
    (dealt-same memory memory' ring o [] done_as slots) in
    let inside : All (λ d. IsInside (descriptor_area d) r) (head ∷ rest) =
    subst (λ (list : List ℕ). All (λ d. IsInside (descriptor_area d) r) list) first
    (dealt-right memory ring o [] (λ d. IsInside (descriptor_area d) r) slots (outstanding-inside ring o slots.slot)) in
    let apart_head : AreApart area (descriptor_area head) = inside-apart area (descriptor_area head) r
    (all-head (λ d. IsInside (descriptor_area d) r) head rest inside) apart_r in
    let step : MovesApart a.adapter.filter.rctl ring a.adapter.receiver memory ends = record
    { has = has; can = can; last_is = last_is; apart = apart_head } in
    let holding = keeps_held step in
    let same_pieces : finished_pieces o b ≡ finished_pieces o a =
    ap (map (piece_in memory')) done
    ∙ pieces-kept memory memory' area (finished o a) keeps same_done (all-right (AreApart area) payload names apart_rest) in
    let all_pieces : pieces_in_slots o b ≡ finished_pieces o a ++ piece_of ends piece ∷ [] =
    ap (λ (pieces : List Piece). pieces ++ in_work memory' b.adapter.receiver.work) same_pieces
    ∙ ap (λ (bytes : List ℕ). finished_pieces o a ++ piece_of ends bytes ∷ [])
    (bytes_of_work-moved memory piece head ends can.place apart_head) in
    let named_same : map (named memory') (done_slots memory' ring o) ≡ names = ap (map (named memory')) done
    ∙ named-kept memory memory' (finished o a) same_done in
    let place : receive.named_address memory' head
    ≡ at = ap (λ (bytes : List ℕ). (rx_desc_of bytes).address) (all-head (IsSame memory memory') head rest same_offered) in
    let working : work_areas memory' b.adapter.receiver.work
    ≡ area ∷ [] = ap (λ (address : ℕ). let there : Area = record { address = address; size = n } in there ∷ []) place in
    let left : offered_buffers b ≡ others =
    ap (λ (on : Bool). cond on (map (buffer_of b) rest) []) enabled
    ∙ buffers-kept memory memory' bsize rest (all-tail (IsSame memory memory') head rest same_offered) in
    let bytes = map status_byte (buffered a ++ offered (transmit_ring a)) in
    record {
      transmit = puts-none p a b nothing refl transmitting.sends transmitting.done;
      receive = finishes-none o a b nothing
          (ap (λ (pieces : List Piece). held memory' pieces b.adapter.receiver) same_pieces ∙ holding.frames) done same_pieces;
      fits = λ room fit.
          let small : n ≤ room = omega (arith, short, fit.large has.enabled) in
          record {
            large = fit.large;
            finished_fit = subst (λ (list : List ℕ). NamesFit memory' room list) (sym done)
                (names_fit-kept memory memory' room (finished o a) same_done fit.finished_fit);
            work_fits = subst (λ (places : List Area). All (λ there. there.size ≤ room) places) (sym working)
                (All-cons (λ (there : Area). there.size ≤ room) area [] small (all-none (λ (there : Area). there.size ≤ room)));
          };
      whole = λ room are.
          let errors = errors-kept memory memory' (finished o a) (descriptors-kept memory memory' (finished o a) same_done)
          are.have_no_errors in
          are-cut room o b are.sized (subst (λ (list : List ℕ). HaveNoErrors memory' list) (sym done) errors)
          (subst (λ (pieces : List Piece). CutPieces room pieces) (sym all_pieces)
          (cut-moved ends room o a (are.sized has.enabled) refl has.ready.frames is last_is sound.begun are));
      untouched = λ other foreign.
          let there = subst (λ (list : List Area). All (AreApart other) (map reported_half (offered ring) ++ (bytes ++ list))) buffers
          foreign in
          let last = all-right (AreApart other) bytes (whole_buffer ∷ others)
          (all-right (AreApart other) (map reported_half (offered ring)) (bytes ++ whole_buffer ∷ others) there) in
          keeps.others other (apart-inside area whole_buffer other part
          (apart-sym other whole_buffer (all-head (AreApart other) whole_buffer others last)));
      foreign = λ other foreign.
          let there = subst (λ (list : List Area). All (AreApart other) (map reported_half (offered ring) ++ (bytes ++ list))) buffers
          foreign in
          let halves = subst (λ (list : List ℕ). All (AreApart other) (map reported_half list)) first
          (all-left (AreApart other) (map reported_half (offered ring)) (bytes ++ whole_buffer ∷ others) there) in
          let behind = all-without (AreApart other) bytes whole_buffer others
          (all-right (AreApart other) (map reported_half (offered ring)) (bytes ++ whole_buffer ∷ others) there) in
          let all = All-append (AreApart other) (map reported_half (head ∷ rest)) (bytes ++ others) halves behind in
          subst (λ (list : List Area). All (AreApart other) (map reported_half (head ∷ rest) ++ (bytes ++ list))) (sym left) all;
      runs = λ run. still_run a b
          (λ still_more. record { head = next-below (count_of ring) ring.head can.indices.head; tail = can.indices.tail })
          run.not_extended
          (transmittable-kept memory memory' (offered (transmit_ring a)) size transmitting.same_offered run.transmittable) run;
      sound = record {
        receive_slots = dealt;
        transmit_slots = transmitting.dealt;
        separate =
            separate-same memory memory' (front ++ area ∷ others) (areas o b) size
            (areas-same r t _ _ _ _ _ _ _ _ transmitting.data_areas named_same working left ∙ joined_front (area ∷ others))
            (separate-shorter memory front at bsize n others short separate);
        reports = subst (λ (queue : List Queued). All Reports (a.adapter.transmitter.buffer ++ queue))
            (sym transmitting.fetches) sound.reports;
        begun = subst (λ (pieces : List Piece). HasBegun memory' pieces b.adapter.receiver) (sym same_pieces) holding.begun;
        pads = sound.pads;
      };
    }

data_moved : (ends : Bool) (buffer : List (List ℕ)) (moved : ℕ) (a : World) → IsAdapter a.adapter → HasFrameAndDescriptor a.adapter
    → CanMovePiece a.memory a.adapter → is_last_piece a.adapter ≡ ends
    → ((o : ℕ) → HasBegun a.memory (finished_pieces o a) (with_work None a).adapter.receiver
    → KeepsHeld ends buffer moved o (with_work None a)) → Happens a (moved_world ends buffer moved a) nothing
data_moved ends buffer moved a running has can last keeps_held = record {
  steady =
      let b = moved_world ends buffer moved a in
      steady_moves a b nothing (length-with_bytes a.memory (next_piece a.adapter.filter.rctl a.adapter.receiver) _ can.place)
      (added a.adapter.causes.recorded (causes_of_moving a.adapter.receive_ring))
      (inr (record { head = next-below (count_of (receive_ring a)) a.adapter.receive_ring.head can.indices.head; tail = can.indices.tail }))
      (inl refl) (no-arrivals a b nothing refl refl refl) (record { eerd = refl; management = refl });
  between = λ o p sound.
      let free = has.ready.free in
      let has_free = subst (λ (work : Option Work). HasFrameAndDescriptor (with_work work a).adapter) free has in
      let is = subst (λ (work : Option Work). IsReceiver (with_work work a).adapter.receiver) free running.receiver in
      let before = subst (λ (work : Option Work). Sound o p (with_work work a)) free sound in
      subst (λ (work : Option Work). Between o p (with_work work a) (moved_world ends buffer moved a) nothing) (sym free)
      (between_moved ends buffer moved o p a has_free can last is (keeps_held o before.begun) before);
}

pub data_happens : (a : World) (answer : FrameOutcome) → IsAdapter a.adapter → DataAnswers a.memory a.adapter answer
    → Happens a (world_after_step RxData answer a) nothing
data_happens a Part running says =
    data_moved false a.adapter.receiver.buffer (a.adapter.receiver.moved + piece_size a.adapter) a running says.0 says.1 says.2
    (λ o begun. held-after_data a.adapter.filter.rctl (receive_ring a) (with_work None a).adapter.receiver a.memory
    (finished_pieces o a) (answers.Part (is_half_offered (ring_of (moved_on a.adapter.receive_ring)))) begun)
data_happens a Moved running says =
    data_moved true (drop 1 a.adapter.receiver.buffer) 0 a running says.0 says.1 says.2
    (λ o begun. held-after_data a.adapter.filter.rctl (receive_ring a) (with_work None a).adapter.receiver a.memory
    (finished_pieces o a) (answers.Moved (is_half_offered (ring_of (moved_on a.adapter.receive_ring)))) begun)
data_happens a Fault running answers = record {
  steady =
      let b = world_after_step RxData Fault a in
      steady_moves a b nothing refl (λ place set. set) (inl refl) (inl refl) (no-arrivals a b nothing refl refl refl)
      (record { eerd = refl; management = refl });
  between = λ o p sound. between_stopped o p a true a.adapter.transmitter.stopped
      (λ can. answers.1 (can_move o p a sound can answers.0)) sound;
}
data_happens a Nothing running answers = happens_none a
data_happens a _ running answers = absurd answers
