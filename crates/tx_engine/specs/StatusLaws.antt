-- Lemmas: a write, such as a write-back, doesn't change the frames to be sent, if it is apart from the offered descriptors and their
-- frames.
use Rattle.std.proofs.Common.{◌≡◌, ◌<◌, ◌+◌, ◌++◌, ◌∷◌, [], Bool, true, false, ◌&&◌, if◌then◌else◌, ℕ, zero, suc, List, length, map, drop}
use Rattle.std.proofs.Common.{slice_index, refl, sym, ap, ◌∙◌, arith, lit≤}
use Rattle.std.proofs.lemmas.Bool.{and_parts, ltb-true}
use Rattle.std.proofs.lemmas.List.{get_or-drop}
use Rattle.std.specs.Prelude.{nat_lt}
use Rattle.std.specs.List.{All}
use Rattle.byteorder.specs.Endian.{little_from, little_number}
use Rattle.byteorder.specs.Numbers.{little_from-take}
use Rattle.dma_memory.specs.Areas.{area_at}
use Rattle.dma_memory.specs.HostMemory.{bytes_at, with_bytes, LiesIn}
use Rattle.dma_memory.specs.Laws.{bytes_at-elsewhere}
use Rattle.descriptors.specs.declared.ring.Ring.{Ring}
use Rattle.descriptors.specs.Ring.{address_of, offered_places}
use Rattle.descriptors.specs.TxDesc.{tx_desc_of}
use Rattle.tx_engine.specs.Transmitter.{Queued}
use Rattle.tx_engine.specs.Fetching.{transmit_descriptor_at, as_sent, frame_at}
use Rattle.tx_engine.specs.Laws.{to_send-put}
use Rattle.tx_engine.specs.Steps.{IfFront, status_place, written_back}
use Rattle.tx_engine.specs.ToSend.{to_send, IsAwayFrom, OtherBytesLeaveFrames}

little_from-drop : (j n i : ℕ) (bytes : List ℕ) → little_from j n (drop i bytes) ≡ little_from (i + j) n bytes
little_from-drop j zero i bytes = refl
little_from-drop j (suc n) i bytes =
    let moved : i + suc j ≡ suc (i + j) = omega arith in
    let rest : little_from (suc j) n (drop i bytes) ≡ little_from (suc (i + j)) n bytes = little_from-drop (suc j) n i bytes
    ∙ ap (λ (k : ℕ). little_from k n bytes) moved in
    let first : slice_index (drop i bytes) j ≡ slice_index bytes (i + j) = get_or-drop i bytes j 0 in
    rw (first, rest) refl

-- The address and the length of a descriptor are in its first ten bytes.
address-first_ten : (memory : List ℕ) (address : ℕ)
    → little_number 8 (bytes_at memory address 16) ≡ little_number 8 (bytes_at memory address 10)
address-first_ten memory address = little_from-take 0 8 16 (drop address memory) (lit≤ tt)
    ∙ sym (little_from-take 0 8 10 (drop address memory) (lit≤ tt))

length-first_ten : (memory : List ℕ) (address : ℕ)
    → little_number 2 (drop 8 (bytes_at memory address 16)) ≡ little_from 8 2 (bytes_at memory address 10)
length-first_ten memory address =
    little_from-drop 0 2 8 (bytes_at memory address 16)
    ∙ little_from-take 8 2 16 (drop address memory) (lit≤ tt)
    ∙ sym (little_from-take 8 2 10 (drop address memory) (lit≤ tt))

-- If the first ten bytes of a descriptor don't change, its address and length don't change.
same-address : (memory changed : List ℕ) (address : ℕ) → bytes_at changed address 10 ≡ bytes_at memory address 10
    → (transmit_descriptor_at changed address).address ≡ (transmit_descriptor_at memory address).address
unfolding tx_desc_of
same-address memory changed address same = address-first_ten changed address ∙ ap (little_number 8) same
    ∙ sym (address-first_ten memory address)

same-length : (memory changed : List ℕ) (address : ℕ) → bytes_at changed address 10 ≡ bytes_at memory address 10
    → (transmit_descriptor_at changed address).length ≡ (transmit_descriptor_at memory address).length
unfolding tx_desc_of
same-length memory changed address same = length-first_ten changed address ∙ ap (little_from 8 2) same
    ∙ sym (length-first_ten memory address)

frame_at-away : (memory bytes : List ℕ) (pad : Bool) (place address : ℕ) → LiesIn memory place (length bytes)
    → IsAwayFrom memory (area_at place (length bytes)) address
    → frame_at pad (with_bytes memory place bytes) address ≡ frame_at pad memory address
frame_at-away memory bytes pad place address lies away =
    let changed = with_bytes memory place bytes in
    let old = transmit_descriptor_at memory address in
    let ten = bytes_at-elsewhere memory bytes place address 10 lies away.fields in
    let at = same-address memory changed address ten in
    let size = same-length memory changed address ten in
    ap (as_sent pad)
    (ap (λ (a : ℕ). bytes_at changed a (transmit_descriptor_at changed address).length) at
    ∙ ap (λ (n : ℕ). bytes_at changed old.address n) size
    ∙ bytes_at-elsewhere memory bytes place old.address old.length lies away.frame)

frames-away : (memory bytes : List ℕ) (ring : Ring) (pad : Bool) (place : ℕ) (slots : List ℕ) → LiesIn memory place (length bytes)
    → All (λ slot. IsAwayFrom memory (area_at place (length bytes)) (address_of ring slot)) slots
    → map (λ (slot : ℕ). frame_at pad (with_bytes memory place bytes) (address_of ring slot)) slots
    ≡ map (λ (slot : ℕ). frame_at pad memory (address_of ring slot)) slots
frames-away memory bytes ring pad place [] lies away = refl
frames-away memory bytes ring pad place (slot ∷ slots) lies away =
    let first : frame_at pad (with_bytes memory place bytes) (address_of ring slot)
    ≡ frame_at pad memory (address_of ring slot) = frame_at-away memory bytes pad place (address_of ring slot) lies
    (away 0 0 (omega arith)) in
    let rest = frames-away memory bytes ring pad place slots lies (λ k d below. away (suc k) d (omega arith)) in
    ap (λ (frame : List ℕ). frame ∷ map (λ (slot : ℕ). frame_at pad (with_bytes memory place bytes) (address_of ring slot)) slots) first
    ∙ ap (λ (frames : List (List ℕ)). frame_at pad memory (address_of ring slot) ∷ frames) rest

pub to_send-elsewhere : OtherBytesLeaveFrames
unfolding to_send
to_send-elsewhere memory ring pad buffer place bytes lies away =
    ap (λ (frames : List (List ℕ)). map (λ (queued : Queued). queued.frame) buffer ++ frames)
    (frames-away memory bytes ring pad place (offered_places ring) lies away)

-- A write of one byte doesn't change the frames to be sent, if it is inside memory and apart from the offered descriptors (`IsAwayFrom`).
pub to_send-away : (memory : List ℕ) (ring : Ring) (pad : Bool) (buffer : List Queued) (place byte : ℕ) → LiesIn memory place 1
    → All (λ slot. IsAwayFrom memory (area_at place 1) (address_of ring slot)) (offered_places ring)
    → to_send (with_bytes memory place (byte ∷ [])) ring pad buffer ≡ to_send memory ring pad buffer
to_send-away memory ring pad buffer place byte lies away = to_send-elsewhere memory ring pad buffer place (byte ∷ []) lies away

to_send-either : (test : Bool) (memory changed : List ℕ) (ring : Ring) (pad : Bool) (buffer : List Queued)
    → (test ≡ true → to_send changed ring pad buffer ≡ to_send memory ring pad buffer)
    → to_send (if test then changed else memory) ring pad buffer ≡ to_send memory ring pad buffer
to_send-either true memory changed ring pad buffer same = same refl
to_send-either false memory changed ring pad buffer same = refl

-- If a frame's status byte is apart from the offered descriptors (`IsAwayFrom`), the write-back of the status doesn't change the frames to
-- be sent.
pub to_send-written_back : (memory : List ℕ) (ring : Ring) (pad : Bool) (buffer : List Queued) (queued : Queued)
    → All (λ slot. IsAwayFrom memory (area_at (status_place queued) 1) (address_of ring slot)) (offered_places ring)
    → to_send (written_back memory queued) ring pad buffer ≡ to_send memory ring pad buffer
to_send-written_back memory ring pad buffer queued away =
    let lies_there = nat_lt (status_place queued) (length memory) in
    to_send-either (queued.rs && lies_there) memory (with_bytes memory (status_place queued) (1 ∷ [])) ring pad buffer
    (λ written.
    let below : status_place queued < length memory = ltb-true (status_place queued) (length memory)
    (and_parts queued.rs lies_there written).1 in
    to_send-away memory ring pad buffer (status_place queued) 1 (omega arith) away)

-- After the oldest frame of the buffer is put on the wire, the frames to be sent are the earlier ones without the first. The status byte
-- must be apart from the offered descriptors (`IsAwayFrom`).
pub to_send-gone : (memory changed : List ℕ) (buffer : List Queued) → IfFront buffer (λ queued. changed ≡ written_back memory queued)
    → IfFront buffer (λ queued. (ring : Ring) (pad : Bool)
    → All (λ slot. IsAwayFrom memory (area_at (status_place queued) 1) (address_of ring slot)) (offered_places ring)
    → to_send memory ring pad buffer ≡ queued.frame ∷ to_send changed ring pad (drop 1 buffer))
to_send-gone memory changed [] written = tt
to_send-gone memory changed (queued ∷ rest) written = λ ring pad away.
    let left : to_send changed ring pad rest ≡ to_send memory ring pad rest = ap (λ (m : List ℕ). to_send m ring pad rest) written
    ∙ to_send-written_back memory ring pad rest queued away in
    to_send-put memory ring pad queued rest ∙ ap (λ (frames : List (List ℕ)). queued.frame ∷ frames) (sym left)
