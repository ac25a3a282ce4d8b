-- The loop of `append_finished` over the finished slots of a ring.
use Rattle.std.proofs.Common.{suc, zero, true, false, Bool, ◌≡◌, ◌<◌, ◌-◌, ◌++◌, ◌∷◌, [], ℕ}
use Rattle.std.proofs.Common.{List, All, map, take_while, arith, refl, sym, ap, subst, ◌∙◌, if◌then◌else◌}
use Rattle.std.proofs.lemmas.List.Sums.{take_while-cons}
use Rattle.registers.specs.Bits.{is_set}
use Rattle.descriptors.specs.declared.ring.Ring.{Ring}
use Rattle.descriptors.specs.Ring.{address_of, count_of, distance_of, next_of, offered_places, slots_from}
use Rattle.descriptors.specs.RxDesc.{rx_desc_of}
use Rattle.descriptors.specs.RxStatus.{dd, eop, status_bits}
use Rattle.dma_memory.specs.HostMemory.{bytes_at}
use Rattle.rx_engine.specs.Descriptors.{descriptor_at}
use Rattle.rx_engine.specs.Pieces.{Piece, begun_from, frames_from}
use Rattle.rx_engine.specs.FinishedSlots.{NamesMemory, done_from, named, piece_in, pieces_from}
use Rattle.rx_engine.specs.JoinedLaws.{first-short, later-short}
use Rattle.rx_engine.specs.JoinedPieces.{AreShort, piece_alone}
use Rattle.rx_engine.specs.PieceLaws.{begun-append, frames-append}
use Rattle.rx_engine.specs.Slots.{done_slots, is_done}

pub is-done-status : (memory : List ℕ) (descriptor : ℕ)
    → is_set (status_bits (descriptor_at memory descriptor).status) dd ≡ is_done memory descriptor
unfolding rx_desc_of
is-done-status memory descriptor = refl

pub slots-begin : (memory : List ℕ) (ring : Ring) (oldest left : ℕ) → left ≡ distance_of ring oldest ring.tail
    → done_from memory ring oldest left ≡ done_slots memory ring oldest
unfolding offered_places
slots-begin memory ring oldest left same = ap (done_from memory ring oldest) same

pub done-next : (memory : List ℕ) (ring : Ring) (place left : ℕ) → 0 < left → is_done memory (address_of ring place) ≡ true
    → done_from memory ring place left ≡ address_of ring place ∷ done_from memory ring (next_of ring place) (left - 1)
done-next memory ring place zero some done = absurd (omega (arith, some))
done-next memory ring place (suc k) some done =
    let left : suc k - 1 ≡ k = omega arith in
    let rest = map (address_of ring) (slots_from (count_of ring) (next_of ring place) k) in
    take_while-cons (is_done memory) (address_of ring place) rest
    ∙ ap (λ (b : Bool). if b then address_of ring place ∷ take_while (is_done memory) rest else []) done
    ∙ ap (λ (n : ℕ). address_of ring place ∷ done_from memory ring (next_of ring place) n) (sym left)

done-none : (memory : List ℕ) (ring : Ring) (place left : ℕ) → is_done memory (address_of ring place) ≡ false
    → done_from memory ring place left ≡ []
done-none memory ring place zero not_done = refl
done-none memory ring place (suc k) not_done =
    let rest = map (address_of ring) (slots_from (count_of ring) (next_of ring place) k) in
    take_while-cons (is_done memory) (address_of ring place) rest
    ∙ ap (λ (b : Bool). if b then address_of ring place ∷ take_while (is_done memory) rest else []) not_done

pub pieces-none : (memory : List ℕ) (ring : Ring) (place left : ℕ)
    → is_set (status_bits (descriptor_at memory (address_of ring place)).status) dd ≡ false → pieces_from memory ring place left ≡ []
pieces-none memory ring place left clear =
    ap (map (piece_in memory)) (done-none memory ring place left (sym (is-done-status memory (address_of ring place)) ∙ clear))

-- One pass of the loop: the piece in the slot at `place` is the next one, and the facts about the later slots follow.
pub record Walks (memory : List ℕ) (ring : Ring) (place left : ℕ) (begun : List ℕ) (piece : Piece) : Type 0 where
  pub lie : All (NamesMemory memory) (done_from memory ring (next_of ring place) (left - 1))
  pub first : AreShort begun (piece ∷ [])
  pub later : AreShort (begun_from begun (piece ∷ [])) (pieces_from memory ring (next_of ring place) (left - 1))
  pub rest : begun_from (begun_from begun (piece ∷ [])) (pieces_from memory ring (next_of ring place) (left - 1))
      ≡ begun_from begun (pieces_from memory ring place left)
  pub frames : frames_from begun (piece ∷ [])
      ++ frames_from (begun_from begun (piece ∷ [])) (pieces_from memory ring (next_of ring place) (left - 1))
      ≡ frames_from begun (pieces_from memory ring place left)

pub walks : (memory : List ℕ) (ring : Ring) (place left : ℕ) (begun : List ℕ) → 0 < left
    → is_done memory (address_of ring place) ≡ true
    → All (NamesMemory memory) (done_from memory ring place left)
    → AreShort begun (pieces_from memory ring place left)
    → Walks memory ring place left begun (piece_in memory (address_of ring place))
walks memory ring place left begun some done lie short =
    let at = address_of ring place in
    let after = done_from memory ring (next_of ring place) (left - 1) in
    let piece = piece_in memory at in
    let later = map (piece_in memory) after in
    let next = done-next memory ring place left some done in
    let pieces : pieces_from memory ring place left ≡ piece ∷ later = ap (map (piece_in memory)) next in
    let all = subst (λ (slots : List ℕ). All (NamesMemory memory) slots) next lie in
    let both = subst (AreShort begun) pieces short in
    record {
      lie = λ k d below. all (suc k) d (omega (arith, below));
      first = first-short begun piece later both;
      later = later-short begun piece later both;
      rest = sym (begun-append begun (piece ∷ []) later) ∙ ap (begun_from begun) (sym pieces);
      frames = sym (frames-append begun (piece ∷ []) later) ∙ ap (frames_from begun) (sym pieces);
    }

pub piece-is : (memory : List ℕ) (at : ℕ) (ends : Bool) (bytes : List ℕ)
    → bytes ≡ bytes_at memory (named memory at).address (named memory at).size
    → ends ≡ is_set (status_bits (descriptor_at memory at).status) eop
    → piece_alone ends bytes ≡ piece_in memory at ∷ []
piece-is memory at ends bytes bytes_are ends_are =
    ap (λ (b : Bool). piece_alone b bytes) ends_are
    ∙ ap (λ (list : List ℕ). piece_alone (is_set (status_bits (descriptor_at memory at).status) eop) list) bytes_are
