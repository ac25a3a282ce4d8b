-- Pieces of legal frames, cut into buffers of one size, remain so with one more piece, the next piece of the frame that hasn't ended.
use Rattle.std.proofs.Common.{◌≡◌, ◌<◌, ◌+◌, ◌-◌, ◌∷◌, ◌++◌, [], Bool, true, false, nat_le, ℕ, List, length, length-drop}
use Rattle.std.proofs.Common.{length-take, take, drop, sym, ap, subst, ◌∙◌, arith}
use Rattle.std.specs.List.{All}
use Rattle.std.proofs.lemmas.Bool.{leb-false, leb-true}
use Rattle.std.proofs.lemmas.List.Elements.{All-append, All-cons}
use Rattle.descriptors.specs.Frames.{IsLegal, longest_frame}
use Rattle.descriptors.specs.declared.rx_desc.RxDesc.{RxDesc}
use Rattle.rx_engine.specs.Descriptors.{descriptor_at}
use Rattle.rx_engine.specs.Held.{piece_of}
use Rattle.rx_engine.specs.PieceLaws.{last-begun, last-frames, part-begun, part-frames}
use Rattle.rx_engine.specs.Pieces.{IsCut, Piece, begun_of, frames_of}
use Rattle.adapter_model.specs.Conditions.{AreCut}
use Rattle.adapter_model.specs.HostAreas.{buffer_size}
use Rattle.adapter_model.specs.HostFrames.{pieces_in_slots}
use Rattle.registers.specs.Bits.{HasBit}
use Rattle.registers.specs.Places.{rctl_en}
use Rattle.adapter_model.specs.Slots.{finished}
use Rattle.adapter_model.specs.World.{World}
use Rattle.bus.proofs.KeptPieces.{SameDescriptors}
use Rattle.bus.proofs.Lists.{all-none}

-- these pieces are of legal frames, cut into buffers of this size
pub record CutPieces (size : ℕ) (pieces : List Piece) : Type 0 where
  pub cut : All (IsCut size) pieces
  pub legal : All IsLegal (frames_of pieces)
  pub short : length (begun_of pieces) < longest_frame

next-cut : (ends : Bool) (size moved : ℕ) (frame : List ℕ) → nat_le (length frame - moved) size ≡ ends → moved < length frame
    → IsCut size (piece_of ends (take size (drop moved frame)))
next-cut true size moved frame last below =
    let left = leb-true (length frame - moved) size last in
    record {
      least = omega (arith, left, below, length-take size (drop moved frame), length-drop moved frame);
      most = omega (arith, length-take size (drop moved frame));
    }
next-cut false size moved frame more below =
    let left = leb-false (length frame - moved) size more in
    omega (arith, left, length-take size (drop moved frame), length-drop moved frame)

next-legal : (ends : Bool) (size moved : ℕ) (frame : List ℕ) (pieces : List Piece) → nat_le (length frame - moved) size ≡ ends
    → IsLegal frame → begun_of pieces ≡ take moved frame → All IsLegal (frames_of pieces)
    → All IsLegal (frames_of (pieces ++ piece_of ends (take size (drop moved frame)) ∷ []))
next-legal true size moved frame pieces last is begun legal =
    subst (λ (frames : List (List ℕ)). All IsLegal frames)
    (sym (last-frames pieces frame moved size begun (leb-true (length frame - moved) size last)))
    (All-append IsLegal (frames_of pieces) (frame ∷ []) legal (All-cons IsLegal frame [] is (all-none IsLegal)))
next-legal false size moved frame pieces more is begun legal =
    subst (λ (frames : List (List ℕ)). All IsLegal frames) (sym (part-frames pieces (take size (drop moved frame)))) legal

next-short : (ends : Bool) (size moved : ℕ) (frame : List ℕ) (pieces : List Piece) → nat_le (length frame - moved) size ≡ ends
    → IsLegal frame → begun_of pieces ≡ take moved frame
    → length (begun_of (pieces ++ piece_of ends (take size (drop moved frame)) ∷ [])) < longest_frame
next-short true size moved frame pieces last is begun =
    let none = ap length (last-begun pieces (take size (drop moved frame))) in
    omega (arith, none)
next-short false size moved frame pieces more is begun =
    let left = leb-false (length frame - moved) size more in
    let count = ap length (part-begun pieces frame moved size begun) ∙ length-take (moved + size) frame in
    omega (arith, left, count, is.most)

pub next-piece : (ends : Bool) (size moved : ℕ) (frame : List ℕ) (pieces : List Piece) → nat_le (length frame - moved) size ≡ ends
    → IsLegal frame → moved < length frame → begun_of pieces ≡ take moved frame → CutPieces size pieces
    → CutPieces size (pieces ++ piece_of ends (take size (drop moved frame)) ∷ [])
next-piece ends size moved frame pieces ends_is is below begun before = record {
  cut =
      All-append (IsCut size) pieces (piece_of ends (take size (drop moved frame)) ∷ []) before.cut
      (All-cons (IsCut size) (piece_of ends (take size (drop moved frame))) [] (next-cut ends size moved frame ends_is below)
      (all-none (IsCut size)));
  legal = next-legal ends size moved frame pieces ends_is is begun before.legal;
  short = next-short ends size moved frame pieces ends_is is begun;
}

-- the descriptors of these slots report no errors
abbrev pub HaveNoErrors : List ℕ → List ℕ → Type 0
HaveNoErrors memory slots = All (λ slot. (descriptor_at memory slot).errors ≡ 0) slots

pub errors-kept : (memory memory' slots : List ℕ) → SameDescriptors memory memory' slots → HaveNoErrors memory slots
    → HaveNoErrors memory' slots
errors-kept memory memory' slots same none = λ k d below. ap (λ (desc : RxDesc). desc.errors) (same k d below) ∙ none k d below

pub are-cut : (size o : ℕ) (world : World) → (HasBit world.adapter.filter.rctl rctl_en → buffer_size world ≡ size)
    → HaveNoErrors world.memory (finished o world) → CutPieces size (pieces_in_slots o world) → AreCut size o world
are-cut size o world sized errors pieces = record
    { sized = sized; have_no_errors = errors; cut = pieces.cut; legal = pieces.legal; short = pieces.short }
