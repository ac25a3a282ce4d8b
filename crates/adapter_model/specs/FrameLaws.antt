-- Proofs of the laws in `Frames`: the effect of steps and arrivals on the frames held and on the frames to be sent.
use Rattle.std.proofs.Common.{◌≡◌, ◌∷◌, [], ℕ, List, All, drop, refl, sym, ap, ◌∙◌, inr}
use Rattle.std.proofs.lemmas.List.{append-nil}
use Rattle.dma_memory.specs.Areas.{area_at}
use Rattle.descriptors.specs.declared.ring.Ring.{Ring}
use Rattle.descriptors.specs.Ring.{address_of, offered_places}
use Rattle.rx_engine.specs.Arriving.{kept}
use Rattle.rx_engine.specs.Held.{held}
use Rattle.rx_engine.specs.Laws.{held-after_arrival, held-after_data, held-after_done}
use Rattle.rx_engine.specs.Moving.{is_half_offered}
use Rattle.rx_engine.specs.declared.arrival.Fate.{Fate}
use Rattle.rx_engine.specs.declared.arrival.Fate.TheVariants.{Stored}
use Rattle.rx_engine.specs.declared.data.Data.TheVariants as answers
use Rattle.tx_engine.specs.Fetching.{pads}
use Rattle.tx_engine.specs.Laws.{to_send-put, to_send-take}
use Rattle.tx_engine.specs.StatusLaws.{to_send-written_back}
use Rattle.tx_engine.specs.Steps.{IfFront, status_place}
use Rattle.tx_engine.specs.ToSend.{IsAwayFrom, to_send}
use Rattle.tx_engine.specs.Transmitter.{Queued}
use Rattle.adapter_model.specs.declared.outcome.Outcome.TheVariants.{Took, Part, Moved}
use Rattle.adapter_model.specs.Frames.{ArrivalGrowsFrames, DataLeavesFrames, DoneFinishesPiece, HoldsThen, PuttingTakesFirst}
use Rattle.adapter_model.specs.Frames.{TakingLeavesFrames}
use Rattle.adapter_model.specs.Receiving.{after_arrive}
use Rattle.adapter_model.specs.Rings.{ring_of}
use Rattle.adapter_model.specs.Transmitting.{IsOldest, moved_on, memory_reported}

pub taking_leaves_frames : TakingLeavesFrames
taking_leaves_frames memory state Took told =
    to_send-take memory (ring_of state.transmit_ring) (pads state.transmit_control) state.transmitter.buffer told.1.sound
    (λ same. told.0 (inr (inr (inr same))))
taking_leaves_frames memory state _ told = refl

pub putting_takes_first : PuttingTakesFirst
putting_takes_first wire_free memory state frame told apart = by_buffer state.transmitter.buffer told.1 apart
  where
    ring : Ring
    ring = ring_of state.transmit_ring

    by_buffer : (buffer : List Queued)
        → IsOldest buffer frame
        → IfFront buffer
        (λ queued. All (λ slot. IsAwayFrom memory (area_at (status_place queued) 1) (address_of ring slot)) (offered_places ring))
        → to_send memory ring (pads state.transmit_control) buffer
        ≡ frame ∷ to_send (memory_reported buffer memory) ring (pads state.transmit_control) (drop 1 buffer)
    by_buffer [] none apart = absurd none
    by_buffer (queued ∷ later) same apart =
        to_send-put memory ring (pads state.transmit_control) queued later
        ∙ ap (λ (f : List ℕ). f ∷ to_send memory ring (pads state.transmit_control) later) same
        ∙ ap (λ (fs : List (List ℕ)). frame ∷ fs) (sym (to_send-written_back memory ring (pads state.transmit_control) later queued apart))

pub data_leaves_frames : DataLeavesFrames
data_leaves_frames finished memory state Part begun told apart =
    held-after_data state.filter.rctl (ring_of state.receive_ring) state.receiver memory finished
    (answers.Part (is_half_offered (ring_of (moved_on state.receive_ring)))) begun
    (record { has = told.0; can = told.1; last_is = told.2; apart = apart })
data_leaves_frames finished memory state Moved begun told apart =
    held-after_data state.filter.rctl (ring_of state.receive_ring) state.receiver memory finished
    (answers.Moved (is_half_offered (ring_of (moved_on state.receive_ring)))) begun
    (record { has = told.0; can = told.1; last_is = told.2; apart = apart })
data_leaves_frames finished memory state _ begun told apart =
    record { frames = sym (append-nil (held memory finished state.receiver)); begun = begun }

pub done_finishes_piece : DoneFinishesPiece
done_finishes_piece finished memory state work engine begun is lies apart =
    held-after_done state.receiver memory finished engine begun work is lies apart

pub arrival_grows_frames : ArrivalGrowsFrames
arrival_grows_frames finished memory frame state fate engine begun = by_fate fate
  where
    by_fate : (fate : Fate) → HoldsThen (kept fate frame) finished memory memory state (after_arrive fate frame state)
    by_fate Stored = held-after_arrival Stored frame memory finished state.receiver engine begun
    by_fate _ = record { frames = sym (append-nil (held memory finished state.receiver)); begun = begun }
