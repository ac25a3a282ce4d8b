-- The frames that end in receive slots, and the pieces after the last end.
use Rattle.std.proofs.Common.{◌≡◌, ◌≤◌, ◌<◌, ◌*◌, ◌++◌, ◌∷◌, [], ℕ, List, None, length, map, refl, sym, ap, subst, ◌∙◌}
use Rattle.std.proofs.Common.{append_assoc, length-append, arith}
use Rattle.std.specs.List.{All, concat}
use Rattle.dma_memory.specs.Layout.{receive_buffer_bytes}
use Rattle.descriptors.specs.Frames.{IsLegal, longest_frame}
use Rattle.rx_engine.specs.Descriptors.{descriptor_at}
use Rattle.rx_engine.specs.Held.{in_slots, in_work}
use Rattle.rx_engine.specs.Pieces.{IsCut, IsPart, Piece, begun_from, begun_of, frames_from, frames_of, parts}
use Rattle.rx_engine.specs.Pieces.Piece.{Last, Part}
use Rattle.rx_engine.specs.PieceLaws.{begun-append, begun-parts, frames-append, frames-parts}
use Rattle.adapter_model.specs.Conditions.{AreCut}
use Rattle.adapter_model.specs.HostAreas.{buffer_size}
use Rattle.adapter_model.specs.HostFrames.{finished_pieces, piece_in, pieces_in_slots}
use Rattle.registers.specs.Bits.{HasBit}
use Rattle.registers.specs.Places.{rctl_en}
use Rattle.adapter_model.specs.Slots.{finished}
use Rattle.adapter_model.specs.World.{World}
use Rattle.bus.proofs.Lists.{all-head, all-left, all-none, all-tail}

pub frames-none : (begun : List ℕ) (pieces : List Piece) → All IsPart pieces → frames_from begun pieces ≡ []
frames-none begun [] are_parts = refl
frames-none begun (Part bytes ∷ later) are_parts = frames-none (begun ++ bytes) later (all-tail IsPart (Part bytes) later are_parts)
frames-none begun (Last bytes ∷ later) are_parts = absurd (all-head IsPart (Last bytes) later are_parts)

pub none-cut : (size o : ℕ) (world : World) → (HasBit world.adapter.filter.rctl rctl_en → buffer_size world ≡ size)
    → finished o world ≡ [] → world.adapter.receiver.work ≡ None → AreCut size o world
none-cut size o world sized none idle =
    let pieces : pieces_in_slots o world ≡ [] =
    ap (λ (slots : List ℕ). in_slots world.memory (map (piece_in world.memory) slots) world.adapter.receiver) none
    ∙ ap (in_work world.memory) idle in
    record {
      sized = sized;
      have_no_errors = subst (λ (slots : List ℕ). All (λ slot. (descriptor_at world.memory slot).errors ≡ 0) slots) (sym none)
          (all-none _);
      cut = subst (λ (list : List Piece). All (IsCut size) list) (sym pieces) (all-none _);
      legal = subst (λ (list : List Piece). All IsLegal (frames_of list)) (sym pieces) (all-none _);
      short = subst (λ (list : List Piece). length (begun_of list) < longest_frame) (sym pieces) (omega arith);
    }

-- A frame that hasn't ended yet has at most the number of bytes of the longest frame, because the frame is legal when it ends.
begun-short : (begun : List ℕ) (pieces : List Piece) → All IsLegal (frames_from begun pieces)
    → length (begun_from begun pieces) < longest_frame
    → length begun ≤ longest_frame
begun-short begun [] legal short = omega (arith, short)
begun-short begun (Part bytes ∷ later) legal short = omega
    (arith, begun-short (begun ++ bytes) later legal short, length-append begun bytes)
begun-short begun (Last bytes ∷ later) legal short = omega
    (arith, (all-head IsLegal (begun ++ bytes) (frames_of later) legal).most, length-append begun bytes)

parts-size : (seen : List (List ℕ)) → All (IsCut receive_buffer_bytes) (parts seen)
    → length (concat seen) ≡ receive_buffer_bytes * length seen
parts-size [] cut = omega arith
parts-size (bytes ∷ seen) cut = omega (
  arith,
  length-append bytes (concat seen),
  all-head (IsCut receive_buffer_bytes) (Part bytes) (parts seen) cut,
  parts-size seen (all-tail (IsCut receive_buffer_bytes) (Part bytes) (parts seen) cut),
)

pub parts-few : (o : ℕ) (world : World) (seen : List (List ℕ)) (later : List Piece) → AreCut receive_buffer_bytes o world
    → finished_pieces o world ≡ parts seen ++ later
    → receive_buffer_bytes * length seen ≤ longest_frame
parts-few o world seen later are is =
    let work = in_work world.memory world.adapter.receiver.work in
    let all : pieces_in_slots o world ≡ parts seen ++ (later ++ work) =
    ap (λ (list : List Piece). list ++ work) is ∙ append_assoc (parts seen) later work in
    let cut = subst (λ (list : List Piece). All (IsCut receive_buffer_bytes) list) all are.cut in
    let frames : frames_of (pieces_in_slots o world) ≡ frames_from (concat seen) (later ++ work) =
    ap frames_of all ∙ frames-append [] (parts seen) (later ++ work)
    ∙ ap (λ (list : List (List ℕ)). list ++ frames_from (begun_of (parts seen)) (later ++ work)) (frames-parts [] seen)
    ∙ ap (λ (begun : List ℕ). frames_from begun (later ++ work)) (begun-parts [] seen) in
    let begun : begun_of (pieces_in_slots o world) ≡ begun_from (concat seen) (later ++ work) =
    ap begun_of all ∙ begun-append [] (parts seen) (later ++ work)
    ∙ ap (λ (begun : List ℕ). begun_from begun (later ++ work)) (begun-parts [] seen) in
    let short = begun-short (concat seen) (later ++ work) (subst (λ (list : List (List ℕ)). All IsLegal list) frames are.legal)
    (subst (λ (list : List ℕ). length list < longest_frame) begun are.short) in
    omega (arith, short, parts-size seen (all-left (IsCut receive_buffer_bytes) (parts seen) (later ++ work) cut))
