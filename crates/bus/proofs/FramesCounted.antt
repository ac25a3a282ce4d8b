-- The number of outstanding transmit slots is the number of frames to be sent plus the number of written-back slots.
use Rattle.std.proofs.Common.{true, ◌≡◌, ◌+◌, ◌*◌, ◌++◌, ℕ, List, length, map, ap, ◌∙◌, length-append, arith}
use Rattle.std.proofs.lemmas.List.{length-map}
use Rattle.descriptors.specs.declared.ring.Ring.{Ring}
use Rattle.descriptors.specs.Ring.{address_of, offered_places, slots_from}
use Rattle.descriptors.specs.RingLaws.{length-slots_from}
use Rattle.tx_engine.specs.Fetching.{frame_at}
use Rattle.tx_engine.specs.ToSend.{to_send}
use Rattle.tx_engine.specs.Transmitter.{Queued}
use Rattle.adapter_model.specs.HostFrames.{frames_to_send}
use Rattle.adapter_model.specs.Slots.{buffered, offered, outstanding, written_back_slots}
use Rattle.adapter_model.specs.World.{transmit_ring}
use Rattle.bus.specs.TransmitSteps.{SlotsHaveFrames}
use Rattle.bus.proofs.Places.{outstanding-known}

frames-count : (memory : List ℕ) (ring : Ring) (buffer : List Queued)
    → length (to_send memory ring true buffer) ≡ length (map (λ (queued : Queued). queued.descriptor) buffer) + length (offered ring)
unfolding to_send
frames-count memory ring buffer =
    let first = map (λ (queued : Queued). queued.frame) buffer in
    let later = map (λ (slot : ℕ). frame_at true memory (address_of ring slot)) (offered_places ring) in
    omega (
      arith,
      length-append first later,
      length-map buffer (λ (queued : Queued). queued.frame),
      length-map buffer
          (λ (queued : Queued). queued.descriptor),
      length-map (offered_places ring) (λ (slot : ℕ). frame_at true memory (address_of ring slot)),
      length-map (offered_places ring) (address_of ring),
    )

pub slots_have_frames : SlotsHaveFrames
slots_have_frames driver world ready =
    let up = ready.transmit in
    let counts = driver.layout in
    let o = driver.oldest_transmit in
    let ring = transmit_ring world in
    let known = outstanding-known ring (16 * counts.rx) counts.tx o driver.sending up.knows up.oldest_slot up.room in
    let frames = frames-count world.memory ring world.adapter.transmitter.buffer in
    let all : length (outstanding ring o) ≡ driver.sending =
    ap length known ∙ length-map (slots_from counts.tx o driver.sending) (λ (slot : ℕ). 16 * counts.rx + 16 * slot)
    ∙ length-slots_from counts.tx o driver.sending in
    let dealt = ap length ready.law.sound.transmit_slots.classes in
    let count : length (frames_to_send world) + length (written_back_slots o world) ≡ driver.sending =
    omega (
      arith,
      all,
      dealt,
      frames,
      length-append (written_back_slots o world) (buffered world ++ offered ring),
      length-append (buffered world)
          (offered ring),
    ) in
    record { count = count; most = omega (arith, count, up.room) }
