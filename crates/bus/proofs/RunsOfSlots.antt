-- A driver counts the slot after a run of finished slots as its oldest slot.
use Rattle.std.proofs.Common.{◌≡◌, ◌≢◌, ◌<◌, ◌++◌, ◌∷◌, [], ◌∙◌}
use Rattle.std.proofs.Common.{Bool, true, false, ℕ, List, length, map, refl, sym, ap, subst}
use Rattle.std.proofs.Common.{append_assoc}
use Rattle.std.specs.List.{All}
use Rattle.std.proofs.lemmas.List.{map-append}
use Rattle.std.proofs.lemmas.List.Elements.{All-cons}
use Rattle.dma_memory.specs.Areas.{AreSeparate}
use Rattle.dma_memory.specs.HostMemory.{LiesIn}
use Rattle.dma_memory.specs.Laws.{length-bytes_at}
use Rattle.registers.specs.Bits.{is_set}
use Rattle.std.specs.List.{concat}
use Rattle.descriptors.specs.Frames.{IsLegal, longest_frame}
use Rattle.descriptors.specs.RxStatus.{eop, status_bits}
use Rattle.descriptors.specs.Ring.{address_of}
use Rattle.rx_engine.specs.Descriptors.{descriptor_at}
use Rattle.rx_engine.specs.Held.{in_slots, piece_of}
use Rattle.rx_engine.specs.Pieces.{IsCut, Piece, begun_of, frames_from, frames_of, parts}
use Rattle.rx_engine.specs.Pieces.Piece.{Last, Part}
use Rattle.rx_engine.specs.PieceLaws.{begun-append, begun-parts, frames-append, frames-parts}
use Rattle.adapter_model.specs.Conditions.{FitBuffers}
use Rattle.adapter_model.specs.HostAreas.{IsForeign, areas}
use Rattle.adapter_model.specs.HostFrames.{finished_pieces, named, piece_in, pieces_in_slots}
use Rattle.adapter_model.specs.Slots.{finished, slots_in_work, IsDealt, outstanding}
use Rattle.adapter_model.specs.World.{World, receive_ring}
use Rattle.bus.specs.DriversSlots.{IsDriversSlot, frame_named}
use Rattle.bus.specs.RunsOfSlots.{RunsCanBeTaken, after_run, places_of_run}
use Rattle.bus.proofs.DriversSlots.{foreign-named}
use Rattle.bus.proofs.Lists.{all-head, all-left, all-none, all-right, all-tail}
use Rattle.bus.proofs.TakingSlots.{behind_oldest_receive, passed}

-- The frame of a run, and the frames of the pieces after it

pub record RunFirst (all : List Piece) (seen : List (List ℕ)) (last : List ℕ) (rest : List Piece) : Type 0 where
  pub frames : frames_of all ≡ (concat seen ++ last) ∷ frames_of rest
  pub begun : begun_of all ≡ begun_of rest

pub run-first : (seen : List (List ℕ)) (last : List ℕ) (rest : List Piece) → RunFirst (parts seen ++ Last last ∷ rest) seen last rest
run-first seen last rest = record {
  frames =
      frames-append [] (parts seen) (Last last ∷ rest)
      ∙ ap (λ (frames : List (List ℕ)). frames ++ frames_from (begun_of (parts seen)) (Last last ∷ rest)) (frames-parts [] seen)
      ∙ ap (λ (begun : List ℕ). (begun ++ last) ∷ frames_of rest) (begun-parts [] seen);
  begun = begun-append [] (parts seen) (Last last ∷ rest);
}

parts-full : (size : ℕ) (seen : List (List ℕ)) → All (IsCut size) (parts seen) → All (λ bytes. length bytes ≡ size) seen
parts-full size [] cut = all-none (λ bytes. length bytes ≡ size)
parts-full size (bytes ∷ seen) cut =
    All-cons (λ (one : List ℕ). length one ≡ size) bytes seen (all-head (IsCut size) (Part bytes) (parts seen) cut)
    (parts-full size seen (all-tail (IsCut size) (Part bytes) (parts seen) cut))

-- the bytes of a piece
abbrev bytes_of : Piece → List ℕ
bytes_of (Part bytes) = bytes
bytes_of (Last bytes) = bytes

bytes-piece : (ends : Bool) (bytes : List ℕ) → bytes_of (piece_of ends bytes) ≡ bytes
bytes-piece true bytes = refl
bytes-piece false bytes = refl

bytes-parts : (seen : List (List ℕ)) (last : List ℕ) → map bytes_of (parts seen ++ Last last ∷ []) ≡ seen ++ last ∷ []
bytes-parts [] last = refl
bytes-parts (bytes ∷ seen) last = ap (λ (list : List (List ℕ)). bytes ∷ list) (bytes-parts seen last)

bytes-named : (a : World) (run : List ℕ) → map bytes_of (map (piece_in a.memory) run) ≡ map (frame_named a) run
bytes-named a [] = refl
bytes-named a (slot ∷ run) =
    let here : bytes_of (piece_in a.memory slot) ≡ frame_named a slot =
    bytes-piece (is_set (status_bits (descriptor_at a.memory slot).status) eop) (frame_named a slot) in
    rw (here, bytes-named a run) refl

sizes-named : (a : World) (run : List ℕ) → All (λ slot. LiesIn a.memory (named a.memory slot).address (named a.memory slot).size) run
    → map (λ (slot : ℕ). (descriptor_at a.memory slot).length) run ≡ map length (map (frame_named a) run)
sizes-named a [] lie = refl
sizes-named a (slot ∷ run) lie =
    let Lies : ℕ → Type 0 = λ d. LiesIn a.memory (named a.memory d).address (named a.memory d).size in
    let here : length (frame_named a slot) ≡ (descriptor_at a.memory slot).length =
    length-bytes_at a.memory (named a.memory slot).address (named a.memory slot).size (all-head Lies slot run lie) in
    rw (here, sizes-named a run (all-tail Lies slot run lie)) refl

-- The slots of the ring after a driver passed a run of finished slots

pub record RunPassed (o : ℕ) (a : World) (run later : List ℕ) : Type 0 where
  pub stand : run ≡ map (address_of (receive_ring a)) (places_of_run o run a)
  pub first : outstanding (receive_ring a) o ≡ run ++ outstanding (receive_ring a) (after_run o run a)
  pub dealt : IsDealt a.memory (receive_ring a) (after_run o run a) (slots_in_work a)
  pub behind : finished (after_run o run a) a ≡ later
  pub own : All (IsDriversSlot (receive_ring a) (after_run o run a)) (places_of_run o run a)
  pub separate : AreSeparate a.memory (areas (after_run o run a) a)
  pub lie : All (λ slot. LiesIn a.memory (named a.memory slot).address (named a.memory slot).size) run
  pub fits : (size : ℕ) → FitBuffers size o a → FitBuffers size (after_run o run a) a

pub run-passed : (o : ℕ) (a : World) (run later : List ℕ) → IsDealt a.memory (receive_ring a) o (slots_in_work a)
    → AreSeparate a.memory (areas o a) → finished o a ≡ run ++ later → RunPassed o a run later
run-passed o a [] later dealt separate done = record {
  stand = refl;
  first = refl;
  dealt = dealt;
  behind = done;
  own = all-none (IsDriversSlot (receive_ring a) o);
  separate = separate;
  lie = all-none (λ slot. LiesIn a.memory (named a.memory slot).address (named a.memory slot).size);
  fits = λ size fit. fit;
}
run-passed o a (slot ∷ run) later dealt separate done =
    let ring = receive_ring a in
    let next = behind_oldest_receive o a in
    let one = passed o a slot (run ++ later) dealt separate done in
    let on = run-passed next a run later one.ahead.dealt one.separate one.ahead.behind in
    let Own : ℕ → Type 0 = IsDriversSlot ring (after_run next run a) in
    let Other : ℕ → Type 0 = λ other. other ≢ address_of ring o in
    let own : Own o = record {
      below = one.ahead.own.below;
      apart =
          all-right Other run (outstanding ring (after_run next run a))
          (subst (λ (slots : List ℕ). All Other slots) on.first one.ahead.own.apart);
    } in
    record {
      stand =
          ap (λ (slots : List ℕ). slot ∷ slots) on.stand
          ∙ ap (λ (d : ℕ). d ∷ map (address_of ring) (places_of_run next run a)) one.ahead.stands;
      first = one.ahead.first ∙ ap (λ (slots : List ℕ). slot ∷ slots) on.first;
      dealt = on.dealt;
      behind = on.behind;
      own = All-cons Own o (places_of_run next run a) own on.own;
      separate = on.separate;
      lie =
          All-cons (λ (d : ℕ). LiesIn a.memory (named a.memory d).address (named a.memory d).size) slot run one.lies on.lie;
      fits = λ size fit. on.fits size (one.fits size fit);
    }

pub runs_can_be_taken : RunsCanBeTaken
runs_can_be_taken o p a run seen last later sound done is =
    let next = after_run o run a in
    let frame = concat seen ++ last in
    let whole = run-passed o a run later sound.receive_slots sound.separate done in
    let bytes : map (frame_named a) run ≡ seen ++ last ∷ [] = sym (bytes-named a run) ∙ ap (map bytes_of) is ∙ bytes-parts seen last in
    let pieces : finished_pieces o a ≡ parts seen ++ Last last ∷ finished_pieces next a =
    ap (map (piece_in a.memory)) done
    ∙ map-append (piece_in a.memory) run later
    ∙ ap (λ (list : List Piece). list ++ map (piece_in a.memory) later) is
    ∙ append_assoc (parts seen) (Last last ∷ []) (map (piece_in a.memory) later)
    ∙ ap (λ (slots : List ℕ). parts seen ++ Last last ∷ map (piece_in a.memory) slots) (sym whole.behind) in
    let rest = pieces_in_slots next a in
    let in_all : pieces_in_slots o a ≡ parts seen ++ Last last ∷ rest =
    ap (λ (list : List Piece). in_slots a.memory list a.adapter.receiver) pieces
    ∙ append_assoc (parts seen) (Last last ∷ finished_pieces next a) (in_slots a.memory [] a.adapter.receiver) in
    let one = run-first seen last rest in
    let frames : frames_of (pieces_in_slots o a) ≡ frame ∷ frames_of rest = ap frames_of in_all ∙ one.frames in
    let begun : begun_of (pieces_in_slots o a) ≡ begun_of rest = ap begun_of in_all ∙ one.begun in
    record {
      slots = record {
        stand = whole.stand;
        first = whole.first;
        own = whole.own;
        foreign = all-left (λ d. IsForeign a (named a.memory d)) run later
            (subst (λ (slots : List ℕ). All (λ d. IsForeign a (named a.memory d)) slots) done (foreign-named o p a sound));
      };
      frame = record {
        bytes = bytes;
        sizes = sizes-named a run whole.lie ∙ ap (map length) bytes;
        held = ap (λ (list : List (List ℕ)). list ++ a.adapter.receiver.buffer) frames;
        ended = ap frames_of pieces ∙ (run-first seen last (finished_pieces next a)).frames;
      };
      sound = record {
        receive_slots = whole.dealt;
        transmit_slots = sound.transmit_slots;
        separate = whole.separate;
        reports = sound.reports;
        begun = sym begun ∙ sound.begun;
        pads = sound.pads;
      };
      behind = done ∙ ap (λ (slots : List ℕ). run ++ slots) (sym whole.behind);
      fits = whole.fits;
      cut = λ size are.
          let NoErrors : ℕ → Type 0 = λ d. (descriptor_at a.memory d).errors ≡ 0 in
          let errors = subst (λ (slots : List ℕ). All NoErrors slots) done are.have_no_errors in
          let cut = subst (λ (list : List Piece). All (IsCut size) list) in_all are.cut in
          let cut_last = all-right (IsCut size) (parts seen) (Last last ∷ rest) cut in
          let legal = subst (λ (list : List (List ℕ)). All IsLegal list) frames are.legal in
          record {
            legal = all-head IsLegal frame (frames_of rest) legal;
            full = parts-full size seen (all-left (IsCut size) (parts seen) (Last last ∷ rest) cut);
            last_size = all-head (IsCut size) (Last last) rest cut_last;
            have_no_errors = all-left NoErrors run later errors;
            others = record {
              sized = are.sized;
              have_no_errors = subst (λ (slots : List ℕ). All NoErrors slots) (sym whole.behind) (all-right NoErrors run later errors);
              cut = all-tail (IsCut size) (Last last) rest cut_last;
              legal = all-tail IsLegal frame (frames_of rest) legal;
              short = subst (λ (begun : List ℕ). length begun < longest_frame) begun are.short;
            };
          };
    }
