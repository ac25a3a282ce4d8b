-- Lemmas: the effect of arrivals, data steps and done steps on the frames held, and the effect of writes on descriptors.
use Rattle.std.proofs.Common.{◌≡◌, ◌≤◌, ◌<◌, ◌+◌, ◌/◌, ◌%◌, ◌^◌, ◌++◌, ◌∷◌, []}
use Rattle.std.proofs.Common.{inl, inr, Option, None, Some, ℕ, List, length, take, drop}
use Rattle.std.proofs.Common.{◌-◌, true, false, append_assoc, length-take, length-drop}
use Rattle.std.proofs.Common.{slice_index, refl, sym, ap, ◌∙◌, Bool, if◌then◌else◌, arith}
use Rattle.std.proofs.lemmas.Bool.{le-leb, leb-false, leb-true}
use Rattle.std.proofs.lemmas.List.{append-nil, drop_at, drop-drop, get_or-append_right}
use Rattle.std.specs.Option.{ForSome}
use Rattle.byteorder.specs.Endian.{little_number}
use Rattle.byteorder.specs.Numbers.{little_from-append, little_from-take, little_number-reads_back}
use Rattle.dma_memory.specs.Areas.{Area, area_at, descriptor_area, AreApart}
use Rattle.dma_memory.specs.HostMemory.{bytes_at, with_bytes, LiesIn}
use Rattle.dma_memory.specs.Laws.{bytes_at-stored, bytes_at-elsewhere, bytes_at-parts, bytes_at-before, length-bytes_at}
use Rattle.descriptors.specs.declared.rx_desc.RxDesc.{RxDesc}
use Rattle.descriptors.specs.RxDesc.{rx_desc_of}
use Rattle.descriptors.specs.RxStatus.{status_bits, status_of}
use Rattle.rx_engine.specs.Descriptors.{descriptor_at, named_address}
use Rattle.rx_engine.specs.Receiver.{oldest}
use Rattle.rx_engine.specs.Finishing.{finished_bytes, finished_status, memory_after_done, StandsApart, IsFinished}
use Rattle.registers.specs.Bits.{is_set}
use Rattle.descriptors.specs.declared.ring.Ring.{Ring}
use Rattle.descriptors.specs.Ring.{address_of}
use Rattle.rx_engine.specs.Receiver.{Receiver}
use Rattle.rx_engine.specs.Moving.{buffer_bytes, left_bytes, next_piece, work_at}
use Rattle.rx_engine.specs.Held.{bytes_of_work, held, in_slots, in_work, piece_of, ArrivalGrowsHeld, DataKeepsHeld, DoneKeepsHeld}
use Rattle.rx_engine.specs.Held.{FinishedStays}
use Rattle.rx_engine.specs.Held.{IsAwayFromWork, MovesApart, OtherBytesLeaveSlots}
use Rattle.rx_engine.specs.Pieces.{Piece, begun_of, frames_of}
use Rattle.rx_engine.specs.PieceLaws.{last-begun, last-frames, part-begun, part-frames}
use Rattle.rx_engine.specs.declared.arrival.Fate.TheVariants.{Stored}
use Rattle.rx_engine.specs.declared.data.Data.TheVariants.{Nothing, Part, Moved, Fault}
use Rattle.rx_engine.specs.declared.engine.Work.{Work}

-- If the bytes of a descriptor don't change, its fields don't change.
pub descriptor_at-kept : (memory memory' : List ℕ) (at : ℕ) → bytes_at memory' at 16 ≡ bytes_at memory at 16
    → descriptor_at memory' at ≡ descriptor_at memory at
descriptor_at-kept memory memory' at same = ap rx_desc_of same

-- A write apart from a descriptor doesn't change its fields.
pub descriptor_at-apart : (memory bytes : List ℕ) (at address : ℕ) → LiesIn memory address (length bytes)
    → AreApart (area_at address (length bytes)) (descriptor_area at)
    → descriptor_at (with_bytes memory address bytes) at ≡ descriptor_at memory at
descriptor_at-apart memory bytes at address lies apart = descriptor_at-kept memory (with_bytes memory address bytes) at
    (bytes_at-elsewhere memory bytes address at 16 lies apart)

apart_behind : (at : ℕ) (area : Area) → AreApart area (descriptor_area at) → AreApart (area_at (at + 8) 8) area
apart_behind at area (inl before) = inr (omega arith)
apart_behind at area (inr after) = inl (omega arith)

-- If a piece is written inside memory to the address in a descriptor, apart from this descriptor, the piece in progress there has the
-- written bytes.
pub bytes_of_work-moved : (memory piece : List ℕ) (at : ℕ) (ends : Bool) → LiesIn memory (named_address memory at) (length piece)
    → AreApart (area_at (named_address memory at) (length piece)) (descriptor_area at)
    → bytes_of_work (with_bytes memory (named_address memory at) piece)
    (record { descriptor = at; length = length piece; ends = ends }) ≡ piece
bytes_of_work-moved memory piece at ends lies apart =
    let same : named_address (with_bytes memory (named_address memory at) piece) at
    ≡ named_address memory at = ap (λ (desc : RxDesc). desc.address)
    (descriptor_at-apart memory piece at (named_address memory at) lies apart) in
    ap (λ (address : ℕ). bytes_at (with_bytes memory (named_address memory at) piece) address (length piece)) same
    ∙ bytes_at-stored memory piece (named_address memory at) lies

-- A packet buffer that isn't empty consists of its oldest frame and the others.
pub oldest-drop : (frames : List (List ℕ)) → ¬ (frames ≡ []) → oldest frames ∷ drop 1 frames ≡ frames
oldest-drop [] some = absurd (some refl)
oldest-drop (frame ∷ frames) some = refl

oldest-arrived : (frames : List (List ℕ)) (frame : List ℕ) (moved : ℕ) → moved ≤ length (oldest frames) - 1
    → take moved (oldest (frames ++ frame ∷ [])) ≡ take moved (oldest frames)
oldest-arrived [] frame moved begun = let none : moved ≡ 0 = omega (arith, begun) in rw none refl
oldest-arrived (first ∷ frames) frame moved begun = refl

pub held-after_arrival : ArrivalGrowsHeld
held-after_arrival Stored frame memory finished engine is begun = record {
  frames = sym (append_assoc (frames_of (in_slots memory finished engine)) engine.buffer (frame ∷ []));
  begun = begun ∙ sym (oldest-arrived engine.buffer frame engine.moved is.begun);
}
held-after_arrival _ frame memory finished engine is begun = record {
  frames = sym (append-nil (held memory finished engine));
  begun = begun;
}

-- The pieces in slots after a data step that moved a piece: the finished pieces, and then the moved piece.
slots-moved : (control : ℕ) (ring : Ring) (engine : Receiver) (memory : List ℕ) (finished : List Piece) (ends : Bool)
    → MovesApart control ring engine memory ends
    → finished ++ in_work (with_bytes memory (named_address memory (address_of ring ring.head)) (next_piece control engine))
    (Some (work_at control ring engine ends)) ≡ finished ++ piece_of ends (next_piece control engine) ∷ []
slots-moved control ring engine memory finished ends step =
    ap (λ (bytes : List ℕ). finished ++ piece_of ends bytes ∷ [])
    (bytes_of_work-moved memory (next_piece control engine) (address_of ring ring.head) ends step.can.place step.apart)

slots-free : (memory : List ℕ) (finished : List Piece) (work : Option Work) → work ≡ None → finished ++ in_work memory work ≡ finished
slots-free memory finished work none = ap (λ (there : Option Work). finished ++ in_work memory there) none ∙ append-nil finished

piece-full : (size moved : ℕ) (frame : List ℕ) → size < length frame - moved → length (take size (drop moved frame)) ≡ size
piece-full size moved frame more = omega (arith, length-take size (drop moved frame), length-drop moved frame)

pub held-after_data : DataKeepsHeld
held-after_data control ring engine memory finished Nothing begun moves = record {
  frames = sym (append-nil (held memory finished engine));
  begun = begun;
}
held-after_data control ring engine memory finished Fault begun moves = record {
  frames = sym (append-nil (held memory finished engine));
  begun = begun;
}
held-after_data control ring engine memory finished (Part half) begun step =
    let frame = oldest engine.buffer in
    let size = buffer_bytes control in
    let piece = next_piece control engine in
    let free = slots-free memory finished engine.work step.has.ready.free in
    let there = slots-moved control ring engine memory finished false step in
    let before : begun_of finished ≡ take engine.moved frame = ap begun_of (sym free) ∙ begun in
    let more = leb-false (left_bytes engine) size step.last_is in
    record {
      frames =
          ap (λ (pieces : List Piece). frames_of pieces ++ engine.buffer) there
          ∙ ap (λ (frames : List (List ℕ)). frames ++ engine.buffer) (part-frames finished piece)
          ∙ ap (λ (pieces : List Piece). frames_of pieces ++ engine.buffer) (sym free)
          ∙ sym (append-nil (held memory finished engine));
      begun =
          ap begun_of there ∙ part-begun finished frame engine.moved size before
          ∙ ap (λ (n : ℕ). take (engine.moved + n) frame) (sym (piece-full size engine.moved frame more));
    }
held-after_data control ring engine memory finished (Moved half) begun step =
    let frame = oldest engine.buffer in
    let piece = next_piece control engine in
    let rest = drop 1 engine.buffer in
    let free = slots-free memory finished engine.work step.has.ready.free in
    let there = slots-moved control ring engine memory finished true step in
    let before : begun_of finished ≡ take engine.moved frame = ap begun_of (sym free) ∙ begun in
    let short = leb-true (left_bytes engine) (buffer_bytes control) step.last_is in
    record {
      frames =
          ap (λ (pieces : List Piece). frames_of pieces ++ rest) there
          ∙ ap (λ (frames : List (List ℕ)). frames ++ rest) (last-frames finished frame engine.moved (buffer_bytes control) before short)
          ∙ append_assoc (frames_of finished) (frame ∷ []) rest
          ∙ ap (λ (frames : List (List ℕ)). frames_of finished ++ frames) (oldest-drop engine.buffer step.has.ready.frames)
          ∙ ap (λ (pieces : List Piece). frames_of pieces ++ engine.buffer) (sym free)
          ∙ sym (append-nil (held memory finished engine));
      begun = ap begun_of there ∙ last-begun finished piece;
    }

same_fields : (a a' n n' c c' s s' e e' x x' : ℕ) → a ≡ a' → n ≡ n' → c ≡ c' → s ≡ s' → e ≡ e' → x ≡ x'
    → (let d : RxDesc = record { address = a; length = n; checksum = c; status = status_of s; errors = e; special = x } in d)
    ≡ record { address = a'; length = n'; checksum = c'; status = status_of s'; errors = e'; special = x' }
same_fields a a' n n' c c' s s' e e' x x' ea en ec es ee ex = rw (ea, en, ec, es, ee, ex) refl

-- The descriptor that the eight bytes of a buffer's address, followed by `finished_bytes`, encode.
rx_desc_of-finished : (front : List ℕ) (n : ℕ) (ends : Bool) → length front ≡ 8 → n < 2 ^ 16
    → rx_desc_of (front ++ finished_bytes n ends)
    ≡ record {
      address = little_number 8 front;
      length = n;
      checksum = 0;
      status = status_of (finished_status ends);
      errors = 0;
      special = 0;
    }
unfolding rx_desc_of
rx_desc_of-finished front n ends eight short =
    let rest = finished_bytes n ends in
    let whole = front ++ rest in
    let address : little_number 8 whole ≡ little_number 8 front = little_from-append 8 front rest (omega arith) in
    let behind : drop 8 whole ≡ rest = drop_at front rest 8 eight in
    let length : little_number 2 (drop 8 whole) ≡ n = ap (little_number 2) behind
    ∙ little_number-reads_back 2 n (0 ∷ 0 ∷ finished_status ends ∷ 0 ∷ 0 ∷ 0 ∷ []) short in
    let checksum : little_number 2 (drop 10 whole) ≡ 0 = ap (little_number 2) (sym (drop-drop 2 8 whole) ∙ ap (drop 2) behind) in
    let status : slice_index whole 12 ≡ finished_status ends = get_or-append_right front rest 8 12 0 eight (omega arith) in
    let errors : slice_index whole 13 ≡ 0 = get_or-append_right front rest 8 13 0 eight (omega arith) in
    let special : little_number 2 (drop 14 whole) ≡ 0 = ap (little_number 2) (sym (drop-drop 6 8 whole) ∙ ap (drop 6) behind) in
    same_fields _ _ _ _ _ _ _ _ _ _ _ _ address length checksum status errors special

named_address-front : (memory : List ℕ) (at : ℕ) → named_address memory at ≡ little_number 8 (bytes_at memory at 8)
unfolding rx_desc_of
named_address-front memory at = little_from-take 0 8 16 (drop at memory) (omega arith)
    ∙ sym (little_from-take 0 8 8 (drop at memory) (omega arith))

-- After bytes 8 to 15 of a descriptor are written (`finished_bytes`), its buffer address is the same, and its other fields are the written
-- ones.
pub descriptor_at-finished : (memory : List ℕ) (at n : ℕ) (ends : Bool) → n < 2 ^ 16 → LiesIn memory at 16
    → descriptor_at (with_bytes memory (at + 8) (finished_bytes n ends)) at
    ≡ record {
      address = named_address memory at;
      length = n;
      checksum = 0;
      status = status_of (finished_status ends);
      errors = 0;
      special = 0;
    }
descriptor_at-finished memory at n ends short lies =
    let memory' = with_bytes memory (at + 8) (finished_bytes n ends) in
    let lies_behind : LiesIn memory (at + 8) 8 = omega arith in
    let front : bytes_at memory' at 8
    ≡ bytes_at memory at 8 = bytes_at-before memory (finished_bytes n ends) (at + 8) at 8 lies_behind (omega arith) in
    let behind : bytes_at memory' (at + 8) 8
    ≡ finished_bytes n ends = bytes_at-stored memory (finished_bytes n ends) (at + 8) lies_behind in
    let whole : bytes_at memory' at 16 ≡ bytes_at memory at 8 ++ finished_bytes n ends = bytes_at-parts memory' at 8 8
    ∙ rw (front, behind) refl in
    let count : length (bytes_at memory at 8) ≡ 8 = length-bytes_at memory at 8 (omega arith) in
    rw (whole, named_address-front memory at) (rx_desc_of-finished (bytes_at memory at 8) n ends count short)

done-set : (ends : Bool) → finished_status ends / 2 ^ 0 % 2 ≡ 1
done-set true = refl
done-set false = refl

ended-set : (ends : Bool) → is_set (finished_status ends) 1 ≡ ends
ended-set true = refl
ended-set false = refl

-- If a descriptor and its piece are inside memory and apart, the descriptor is finished with this piece after its write-back.
pub written_back-finished : (memory : List ℕ) (at n : ℕ) (ends : Bool) → n < 2 ^ 16 → LiesIn memory at 16 → StandsApart memory at n
    → IsFinished (with_bytes memory (at + 8) (finished_bytes n ends)) at ends (bytes_at memory (named_address memory at) n)
written_back-finished memory at n ends short lies stands =
    let memory' = with_bytes memory (at + 8) (finished_bytes n ends) in
    let address = named_address memory at in
    let desc = descriptor_at-finished memory at n ends short lies in
    let count : length (bytes_at memory address n) ≡ n = length-bytes_at memory address n stands.place in
    let lies_behind : LiesIn memory (at + 8) 8 = omega arith in
    let kept : bytes_at memory' address n
    ≡ bytes_at memory address n = bytes_at-elsewhere memory (finished_bytes n ends) (at + 8) address n lies_behind
    (apart_behind at (area_at address n) stands.apart) in
    record {
      done = ap (λ (d : RxDesc). status_bits d.status / 2 ^ 0 % 2) desc ∙ done-set ends;
      ended = ap (λ (d : RxDesc). is_set (status_bits d.status) 1) desc ∙ ended-set ends;
      has_no_errors = ap (λ (d : RxDesc). d.errors) desc;
      length = ap (λ (d : RxDesc). d.length) desc ∙ sym count;
      bytes = ap (λ (d : RxDesc). bytes_at memory' d.address d.length) desc ∙ kept;
    }

-- If the descriptor of the piece in progress is inside memory, a done step writes bytes 8 to 15 of this descriptor.
pub memory_after_done-lies : (memory : List ℕ) (work : Work) → LiesIn memory work.descriptor 16
    → memory_after_done (Some work) memory ≡ with_bytes memory (work.descriptor + 8) (finished_bytes work.length work.ends)
memory_after_done-lies memory work lies =
    ap (λ (test : Bool). if test then with_bytes memory (work.descriptor + 8) (finished_bytes work.length work.ends) else memory)
    (le-leb (work.descriptor + 16) (length memory) (omega arith))

pub held-after_done : DoneKeepsHeld
held-after_done engine memory finished sound begun work is lies stands =
    let most : work.length ≤ 1518 = sound.most work is in
    let short : work.length < 2 ^ 16 = omega arith in
    let pieces = finished ++ piece_of work.ends (bytes_of_work memory work) ∷ [] in
    let before : in_slots memory finished engine ≡ pieces = ap (λ (there : Option Work). finished ++ in_work memory there) is in
    let there : IsFinished (with_bytes memory (work.descriptor + 8) (finished_bytes work.length work.ends)) work.descriptor work.ends
    (bytes_of_work memory work) = written_back-finished memory work.descriptor work.length work.ends short lies stands in
    record {
      stands = rw (is, memory_after_done-lies memory work lies) there;
      holds = record {
        frames =
            ap (λ (list : List Piece). frames_of list ++ engine.buffer) (append-nil pieces ∙ sym before)
            ∙ sym (append-nil (held memory finished engine));
        begun = ap begun_of (append-nil pieces ∙ sym before) ∙ begun;
      };
    }

bytes_of_work-away : (memory bytes : List ℕ) (place : ℕ) (work : Work) → LiesIn memory place (length bytes)
    → IsAwayFromWork memory (area_at place (length bytes)) work
    → bytes_of_work (with_bytes memory place bytes) work ≡ bytes_of_work memory work
bytes_of_work-away memory bytes place work lies away =
    let at = named_address memory work.descriptor in
    let same : named_address (with_bytes memory place bytes) work.descriptor
    ≡ at = ap (λ (desc : RxDesc). desc.address) (descriptor_at-apart memory bytes work.descriptor place lies away.descriptor) in
    ap (λ (address : ℕ). bytes_at (with_bytes memory place bytes) address work.length) same
    ∙ bytes_at-elsewhere memory bytes place at work.length lies away.piece

in_work-away : (memory bytes : List ℕ) (place : ℕ) (work : Option Work) → LiesIn memory place (length bytes)
    → ForSome work (IsAwayFromWork memory (area_at place (length bytes)))
    → in_work (with_bytes memory place bytes) work ≡ in_work memory work
in_work-away memory bytes place None lies away = refl
in_work-away memory bytes place (Some work) lies away = ap (λ (piece : List ℕ). piece_of work.ends piece ∷ [])
    (bytes_of_work-away memory bytes place work lies (away work refl))

pub slots-elsewhere : OtherBytesLeaveSlots
slots-elsewhere memory engine place bytes lies away = in_work-away memory bytes place engine.work lies away

pub finished-kept : FinishedStays
finished-kept memory memory' area descriptor ends frame only apart away finished =
    let same = descriptor_at-kept memory memory' descriptor (only.others (descriptor_area descriptor) apart) in
    let count : (descriptor_at memory descriptor).length ≡ length frame = finished.length in
    let kept : bytes_at memory' (named_address memory descriptor) (length frame)
    ≡ bytes_at memory (named_address memory descriptor) (length frame) = only.others
    (area_at (named_address memory descriptor) (length frame)) away in
    let bytes : bytes_at memory (named_address memory descriptor) (length frame)
    ≡ frame = ap (bytes_at memory (named_address memory descriptor)) (sym count) ∙ finished.bytes in
    record {
      done = ap (λ (d : RxDesc). status_bits d.status / 2 ^ 0 % 2) same ∙ finished.done;
      ended = ap (λ (d : RxDesc). is_set (status_bits d.status) 1) same ∙ finished.ended;
      has_no_errors = ap (λ (d : RxDesc). d.errors) same ∙ finished.has_no_errors;
      length = ap (λ (d : RxDesc). d.length) same ∙ count;
      bytes = ap (λ (d : RxDesc). bytes_at memory' d.address d.length) same ∙ ap (bytes_at memory' (named_address memory descriptor)) count
          ∙ kept ∙ bytes;
    }
