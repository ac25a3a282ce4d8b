-- A lane after a frame, and after the offer of its buffer.
use Rattle.std.proofs.Common.{◌≡◌, ◌≤◌, ◌<◌, ◌+◌, ◌*◌, ◌^◌, ◌⊎◌, ◌∙◌}
use Rattle.std.proofs.Common.{inl, inr, ℕ, true, List, length, sym, ap, subst, arith}
use Rattle.std.proofs.lemmas.Bool.{cases_lt}
use Rattle.dma_memory.specs.Areas.{AreApart, area_at, descriptor_area}
use Rattle.dma_memory.specs.HostMemory.{bytes_at, with_bytes, LiesIn}
use Rattle.dma_memory.specs.Laws.{length-with_bytes, bytes_at-stored}
use Rattle.descriptors.specs.declared.rx_desc.RxDesc.{RxDesc}
use Rattle.descriptors.specs.Frames.{IsLegal}
use Rattle.descriptors.specs.RxDesc.{rx_desc_of, rx_desc_bytes, Fits}
use Rattle.descriptors.specs.Laws.{rx_desc_of-rx_desc_bytes, length-rx_desc_bytes}
use Rattle.rx_engine.specs.Descriptors.{descriptor_at, named_address}
use Rattle.rx_engine.specs.Finishing.{finished_bytes, IsFinished}
use Rattle.rx_engine.specs.Laws.{bytes_of_work-moved, descriptor_at-apart, descriptor_at-finished, written_back-finished}
use Rattle.receive_lane.specs.Lane.{slots, lane_buffer, offered_descriptor, NameBuffers}

-- ---- addresses

pub buffer_lies : (memory frame : List ℕ) (slot : ℕ) → slot < slots → length memory ≡ 34816 → IsLegal frame
    → LiesIn memory (lane_buffer slot) (length frame)
buffer_lies memory frame slot below size legal = let most = legal.most in omega arith

desc_lies : (memory : List ℕ) (slot : ℕ) → slot < slots → length memory ≡ 34816 → LiesIn memory (16 * slot) 16
desc_lies memory slot below size = omega arith

-- The two slots differ.
abbrev IsOther : ℕ → ℕ → Type 0
IsOther other slot = (other < slot) ⊎ (slot < other)

-- ---- a frame is written to the buffer of a slot

-- memory with the frame in the buffer to which the slot's descriptor points
abbrev pub with_frame : List ℕ → ℕ → List ℕ → List ℕ
with_frame memory slot frame = with_bytes memory (named_address memory (16 * slot)) frame

-- this memory, with the slot's descriptor written back
abbrev pub with_finished : List ℕ → ℕ → List ℕ → List ℕ
with_finished memory slot frame = with_bytes (with_frame memory slot frame) (16 * slot + 8) (finished_bytes (length frame) true)

-- The frame's buffer is inside memory, after the descriptors.
pub record HasRoom (memory : List ℕ) (slot : ℕ) (frame : List ℕ) : Type 0 where
  pub lies : LiesIn memory (named_address memory (16 * slot)) (length frame)
  pub behind : 128 ≤ named_address memory (16 * slot)
  pub size : length (with_frame memory slot frame) ≡ 34816

pub has_room : (memory frame : List ℕ) (slot : ℕ) → slot < slots → length memory ≡ 34816 → NameBuffers memory → IsLegal frame
    → HasRoom memory slot frame
has_room memory frame slot below size named legal =
    let lies : LiesIn memory (named_address memory (16 * slot)) (length frame) = subst (λ (at : ℕ). LiesIn memory at (length frame))
    (sym (named slot below)) (buffer_lies memory frame slot below size legal) in
    record {
      lies = lies;
      behind = subst (λ (at : ℕ). 128 ≤ at) (sym (named slot below)) (omega arith);
      size = length-with_bytes memory frame (named_address memory (16 * slot)) lies ∙ size;
    }

kept_by_frame : (memory frame : List ℕ) (slot other : ℕ) → other < slots → HasRoom memory slot frame
    → descriptor_at (with_frame memory slot frame) (16 * other) ≡ descriptor_at memory (16 * other)
kept_by_frame memory frame slot other below room =
    let behind = room.behind in
    descriptor_at-apart memory frame (16 * other) (named_address memory (16 * slot)) room.lies (inr (omega arith))

kept_by_finish : (memory : List ℕ) (slot other n : ℕ) → slot < slots → other < slots → length memory ≡ 34816 → IsOther other slot
    → descriptor_at (with_bytes memory (16 * slot + 8) (finished_bytes n true)) (16 * other) ≡ descriptor_at memory (16 * other)
kept_by_finish memory slot other n below other_below size apart =
    descriptor_at-apart memory (finished_bytes n true) (16 * other) (16 * slot + 8) (omega arith) (elim apart [
      | inl before ↦ inr (omega arith)
      | inr after ↦ inl (omega arith)
    ])

pub NameBuffers-finished : (memory frame : List ℕ) (slot : ℕ) → slot < slots → NameBuffers memory → IsLegal frame
    → HasRoom memory slot frame → NameBuffers (with_finished memory slot frame)
NameBuffers-finished memory frame slot below named legal room =
    λ k k_below.
    let middle : named_address (with_frame memory slot frame) (16 * k)
    ≡ lane_buffer k = ap (λ (d : RxDesc). d.address) (kept_by_frame memory frame slot k k_below room) ∙ named k k_below in
    elim (cases_lt k slot) [
      | inl before ↦ ap (λ (d : RxDesc). d.address)
          (kept_by_finish (with_frame memory slot frame) slot k (length frame) below k_below room.size (inl before)) ∙ middle
      | inr not_before ↦ elim (cases_lt slot k) [
        | inl after ↦ ap (λ (d : RxDesc). d.address)
            (kept_by_finish (with_frame memory slot frame) slot k (length frame) below k_below room.size (inr after)) ∙ middle
        | inr not_after ↦
            let same : slot ≡ k = omega arith in
            let most = legal.most in
            let size = room.size in
            let whole =
            descriptor_at-finished (with_frame memory slot frame) (16 * slot) (length frame) true (omega arith) (omega arith) in
            subst (λ (i : ℕ). named_address (with_finished memory slot frame) (16 * i)
            ≡ named_address (with_frame memory slot frame) (16 * i)) same (ap (λ (d : RxDesc). d.address) whole) ∙ middle
      ]
    ]

pub length-finished : (memory frame : List ℕ) (slot : ℕ) → slot < slots → HasRoom memory slot frame
    → length (with_finished memory slot frame) ≡ 34816
length-finished memory frame slot below room =
    let size = room.size in
    length-with_bytes (with_frame memory slot frame) (finished_bytes (length frame) true) (16 * slot + 8) (omega arith) ∙ size

pub frame_finished : (memory frame : List ℕ) (slot : ℕ) → slot < slots → length memory ≡ 34816 → NameBuffers memory → IsLegal frame
    → HasRoom memory slot frame → IsFinished (with_finished memory slot frame) (16 * slot) true frame
frame_finished memory frame slot below size named legal room =
    let middle = with_frame memory slot frame in
    let middle_size = room.size in
    let behind = room.behind in
    let most = legal.most in
    let at = 16 * slot in
    let apart : AreApart (area_at (named_address memory at) (length frame)) (descriptor_area at) = inr (omega arith) in
    let same : named_address middle at
    ≡ named_address memory at = ap (λ (d : RxDesc). d.address) (kept_by_frame memory frame slot slot below room) in
    let moved : bytes_at middle (named_address middle at) (length frame) ≡ frame =
    bytes_of_work-moved memory frame at true room.lies apart in
    let place : LiesIn middle (named_address middle at) (length frame) =
    let lies = room.lies in
    subst (λ (i : ℕ). LiesIn middle i (length frame)) (sym same) (omega arith) in
    let stays : AreApart (area_at (named_address middle at) (length frame)) (descriptor_area at) = subst
    (λ (i : ℕ). AreApart (area_at i (length frame)) (descriptor_area at)) (sym same) apart in
    subst (IsFinished (with_finished memory slot frame) at true) moved
    (written_back-finished middle at (length frame) true (omega arith) (desc_lies middle slot below middle_size)
    (record { place = place; apart = stays }))

-- ---- a buffer is offered

-- memory with the descriptor of a slot that offers a buffer
abbrev pub with_offer : List ℕ → ℕ → ℕ → List ℕ
with_offer memory slot buffer = with_bytes memory (16 * slot) (rx_desc_bytes (offered_descriptor buffer))

offer_lies : (memory : List ℕ) (slot buffer : ℕ) → slot < slots → length memory ≡ 34816
    → LiesIn memory (16 * slot) (length (rx_desc_bytes (offered_descriptor buffer)))
offer_lies memory slot buffer below size = omega (arith, length-rx_desc_bytes (offered_descriptor buffer))

pub length-offer : (memory : List ℕ) (slot buffer : ℕ) → slot < slots → length memory ≡ 34816
    → length (with_offer memory slot buffer) ≡ 34816
length-offer memory slot buffer below size = length-with_bytes memory (rx_desc_bytes (offered_descriptor buffer)) (16 * slot)
    (offer_lies memory slot buffer below size) ∙ size

pub descriptor_at-offered : (memory : List ℕ) (slot buffer : ℕ) → slot < slots → length memory ≡ 34816 → buffer < 2 ^ 64
    → descriptor_at (with_offer memory slot buffer) (16 * slot) ≡ offered_descriptor buffer
descriptor_at-offered memory slot buffer below size small =
    let desc = offered_descriptor buffer in
    let fits : Fits desc = record
    { address = small; length = omega arith; checksum = omega arith; status = omega arith; errors = omega arith; special = omega arith }
    in
    ap (λ (n : ℕ). rx_desc_of (bytes_at (with_offer memory slot buffer) (16 * slot) n)) (sym (length-rx_desc_bytes desc))
    ∙ ap rx_desc_of (bytes_at-stored memory (rx_desc_bytes desc) (16 * slot) (offer_lies memory slot buffer below size))
    ∙ rx_desc_of-rx_desc_bytes desc fits

kept_by_offer : (memory : List ℕ) (slot other buffer : ℕ) → slot < slots → length memory ≡ 34816 → IsOther other slot
    → descriptor_at (with_offer memory slot buffer) (16 * other) ≡ descriptor_at memory (16 * other)
kept_by_offer memory slot other buffer below size apart =
    let bytes = rx_desc_bytes (offered_descriptor buffer) in
    let count : length bytes ≡ 16 = length-rx_desc_bytes (offered_descriptor buffer) in
    descriptor_at-apart memory bytes (16 * other) (16 * slot) (offer_lies memory slot buffer below size) (elim apart [
      | inl before ↦ inr (omega arith)
      | inr after ↦ inl (omega arith)
    ])

-- The descriptors below a bound point to their buffers.
abbrev pub NameBelow : List ℕ → ℕ → Type 0
NameBelow memory bound = (k : ℕ) → k < bound → named_address memory (16 * k) ≡ lane_buffer k

pub NameBelow-offered : (memory : List ℕ) (slot bound buffer : ℕ) → slot < slots → length memory ≡ 34816 → buffer ≡ lane_buffer slot
    → ((k : ℕ) → k < bound → IsOther k slot → named_address memory (16 * k) ≡ lane_buffer k)
    → NameBelow (with_offer memory slot buffer) bound
NameBelow-offered memory slot bound buffer below size is named =
    λ k k_below. elim (cases_lt k slot) [
      | inl before ↦ ap (λ (d : RxDesc). d.address) (kept_by_offer memory slot k buffer below size (inl before))
          ∙ named k k_below (inl before)
      | inr not_before ↦ elim (cases_lt slot k) [
        | inl after ↦ ap (λ (d : RxDesc). d.address) (kept_by_offer memory slot k buffer below size (inr after))
            ∙ named k k_below (inr after)
        | inr not_after ↦
            let same : slot ≡ k = omega arith in
            subst (λ (i : ℕ). named_address (with_offer memory slot buffer) (16 * i) ≡ lane_buffer i) same
            (ap (λ (d : RxDesc). d.address) (descriptor_at-offered memory slot buffer below size (omega arith)) ∙ is)
      ]
    ]
