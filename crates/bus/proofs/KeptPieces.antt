-- Let finished slots, their descriptors and the pieces in slots be the same. Then frames that are cut into buffers of some size are still
-- cut in this way.
use Rattle.std.proofs.Common.{◌≡◌, ◌<◌, ℕ, List, length, sym, ap, subst, ◌∙◌}
use Rattle.std.specs.List.{All}
use Rattle.descriptors.specs.Frames.{IsLegal, longest_frame}
use Rattle.descriptors.specs.declared.rx_desc.RxDesc.{RxDesc}
use Rattle.rx_engine.specs.Descriptors.{descriptor_at}
use Rattle.rx_engine.specs.Pieces.{IsCut, Piece, begun_of, frames_of}
use Rattle.registers.specs.Bits.{HasBit}
use Rattle.registers.specs.Places.{rctl_en}
use Rattle.adapter_model.specs.Slots.{finished}
use Rattle.adapter_model.specs.HostAreas.{buffer_size}
use Rattle.adapter_model.specs.HostFrames.{pieces_in_slots}
use Rattle.adapter_model.specs.Conditions.{AreCut}
use Rattle.adapter_model.specs.World.{World}

-- these slots have the same descriptors in both memories
abbrev pub SameDescriptors : List ℕ → List ℕ → List ℕ → Type 0
SameDescriptors memory memory' slots = All (λ slot. descriptor_at memory' slot ≡ descriptor_at memory slot) slots

pub cut-kept : (size o : ℕ) (a b : World) → (HasBit b.adapter.filter.rctl rctl_en → buffer_size b ≡ size) → finished o b ≡ finished o a
    → SameDescriptors a.memory b.memory (finished o a) → pieces_in_slots o b ≡ pieces_in_slots o a → AreCut size o a
    → AreCut size o b
cut-kept size o a b sized done descriptors pieces cut =
    let errors : All (λ slot. (descriptor_at b.memory slot).errors ≡ 0) (finished o a) = λ k d below.
    ap (λ (desc : RxDesc). desc.errors) (descriptors k d below) ∙ cut.have_no_errors k d below in
    record {
      sized = sized;
      have_no_errors = subst (λ (slots : List ℕ). All (λ slot. (descriptor_at b.memory slot).errors ≡ 0) slots) (sym done) errors;
      cut = subst (λ (list : List Piece). All (IsCut size) list) (sym pieces) cut.cut;
      legal = subst (λ (list : List Piece). All IsLegal (frames_of list)) (sym pieces) cut.legal;
      short = subst (λ (list : List Piece). length (begun_of list) < longest_frame) (sym pieces) cut.short;
    }
