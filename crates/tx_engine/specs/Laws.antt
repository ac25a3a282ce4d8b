-- Lemmas: the effect of each step, and of a tail that advances, on the frames to be sent.
use Rattle.std.proofs.Common.{◌≡◌, ◌-◌, replicate, ◌++◌, ◌∷◌, [], Bool, true, false, ℕ, List, length, map, refl, sym, ap, ◌∙◌, append_assoc}
use Rattle.std.proofs.Common.{arith, cond}
use Rattle.std.proofs.lemmas.List.{append-nil, map-append}
use Rattle.descriptors.specs.Ring.{next_of, address_of, offered_places}
use Rattle.descriptors.specs.RingLaws.{places-head, places-tail}
use Rattle.tx_engine.specs.Transmitter.{Queued}
use Rattle.tx_engine.specs.Fetching.{transmit_descriptor_at, named_by, frame_at, fetched, as_sent}
use Rattle.tx_engine.specs.ToSend.{to_send, TakingMovesFrames, PuttingTakesFront, OfferingAddsFrames}

pub to_send-take : TakingMovesFrames
unfolding to_send
to_send-take memory ring pad buffer sound apart =
    let frames = λ (slot : ℕ). frame_at pad memory (address_of ring slot) in
    let rest = offered_places (record ring { head = next_of ring ring.head }) in
    let last = fetched pad memory (address_of ring ring.head) in
    let whole : map frames (offered_places ring) ≡ frames ring.head ∷ map frames rest = ap (map frames) (places-head ring sound apart) in
    ap (λ (front : List (List ℕ)). front ++ map frames rest) (map-append (λ (queued : Queued). queued.frame) buffer (last ∷ []))
    ∙ append_assoc (map (λ (queued : Queued). queued.frame) buffer) (last.frame ∷ []) (map frames rest)
    ∙ ap (λ (behind : List (List ℕ)). map (λ (queued : Queued). queued.frame) buffer ++ behind) (sym whole)

pub to_send-put : PuttingTakesFront
unfolding to_send
to_send-put memory ring pad queued buffer = refl

pub to_send-offer : OfferingAddsFrames
unfolding to_send
to_send-offer memory ring pad buffer sound apart =
    let frames = λ (slot : ℕ). frame_at pad memory (address_of ring slot) in
    let front = map (λ (queued : Queued). queued.frame) buffer in
    ap (λ (slots : List ℕ). front ++ map frames slots) (places-tail ring sound apart)
    ∙ ap (λ (behind : List (List ℕ)). front ++ behind) (map-append frames (offered_places ring) (ring.tail ∷ []))
    ∙ sym (append_assoc front (map frames (offered_places ring)) (frames ring.tail ∷ []))

zeros-as_sent : (pad : Bool) (frame : List ℕ) (least : ℕ) → least ≡ cond pad 60 0
    → frame ++ replicate (least - length frame) 0 ≡ as_sent pad frame
zeros-as_sent true frame least same = ap (λ (n : ℕ). frame ++ replicate (n - length frame) 0) same
zeros-as_sent false frame least same =
    let none : least - length frame ≡ 0 = omega arith in
    ap (λ (n : ℕ). frame ++ replicate n 0) none ∙ append-nil frame

-- The entry that `push` appends for a descriptor, with `least` 60 if the adapter pads and 0 otherwise, is the entry that `fetched` defines.
pub pushed-fetched : (pad : Bool) (memory bytes : List ℕ) (address descriptor least : ℕ) (rs : Bool)
    → bytes ≡ named_by memory (transmit_descriptor_at memory address) → descriptor ≡ address → rs ≡ (fetched pad memory address).rs
    → least ≡ cond pad 60 0
    → record { frame = bytes ++ replicate (least - length bytes) 0; descriptor = descriptor; rs = rs } ≡ fetched pad memory address
pushed-fetched pad memory bytes address descriptor least rs same_bytes same_address same_rs same_least =
    let same_frame : bytes ++ replicate (least - length bytes) 0 ≡ frame_at pad memory address = zeros-as_sent pad bytes least same_least
    ∙ ap (as_sent pad) same_bytes in
    ap (λ (frame : List ℕ). let queued : Queued = record { frame = frame; descriptor = descriptor; rs = rs } in queued) same_frame
    ∙ ap (λ (place : ℕ). let queued : Queued = record { frame = frame_at pad memory address; descriptor = place; rs = rs }
    in queued) same_address
    ∙ ap (λ (bit : Bool). let queued : Queued = record { frame = frame_at pad memory address; descriptor = address; rs = bit }
    in queued) same_rs
