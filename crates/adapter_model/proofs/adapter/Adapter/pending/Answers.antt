use Rattle.std.proofs.Common.{◌≡◌, ◌++◌, ℕ, true, List, length, map, sym, ap, ◌∙◌, arith}
use Rattle.std.proofs.lemmas.List.{append_assoc, length-append, length-map}
use Rattle.descriptors.specs.declared.ring.Ring.{Ring}
use Rattle.descriptors.specs.Ring.{offered_places}
use Rattle.tx_engine.specs.Transmitter.{Queued}
use Rattle.tx_engine.specs.QueuedFrames.{queued_in}
use Rattle.adapter_model.specs.Rings.{ring_of}
use Rattle.adapter_model.specs.State.{AdapterState}
use Rattle.adapter_model.specs.World.{World, transmit_ring}
use Rattle.adapter_model.proofs.SlotsRead.{sending-count, sending-is}
use Rattle.adapter_model.proofs.adapter.Adapter.pending.Goals as goal

pub append_to_put-requires : goal.append_to_put-requires
append_to_put-requires c =
    let world : World = record { memory = c.args.memory.now; adapter = c.args.self.now } in
    let same = ap (λ (a : AdapterState). length a.transmitter.buffer) c.self.view_is in
    record { room = omega (arith, sending-count world, same, c.requires.sending_room) }

pub append_queued-requires-clause-room : goal.append_queued-requires-clause-room
append_queued-requires-clause-room c =
    let world : World = record { memory = c.args.memory.now; adapter = c.args.self.now } in
    let buffer = c.self.inside.transmitter.buffer in
    let same = ap (λ (a : AdapterState). length a.transmitter.buffer) c.self.view_is in
    let ring : c.ring.result ≡ transmit_ring world = c.ring.ensures ∙ ap (λ (a : AdapterState). ring_of a.transmit_ring) c.self.view_is in
    omega (
      arith,
      sending-count world,
      same,
      ap (λ (r : Ring). length (offered_places r)) ring,
      ap length c.append_to_put.ensures.frames,
      length-append c.args.sending.now.items (map (λ (q : Queued). q.frame) buffer),
      length-map buffer (λ (q : Queued). q.frame),
      c.append_to_put.ensures.room,
      c.requires.sending_room,
    )

pub returns-clause-sending : goal.returns-clause-sending
returns-clause-sending c =
    let world : World = record { memory = c.args.memory.now; adapter = c.args.self.now } in
    let memory = c.args.memory.now in
    let start = c.args.sending.now.items in
    let frames = λ (a : AdapterState). map (λ (q : Queued). q.frame) a.transmitter.buffer in
    let ring : c.ring.result ≡ transmit_ring world = c.ring.ensures ∙ ap (λ (a : AdapterState). ring_of a.transmit_ring) c.self.view_is in
    c.append_queued.ensures.frames
    ∙ ap (λ (r : Ring). c.append_to_put.new.frames.items ++ queued_in true memory r) ring
    ∙ ap (λ (list : List (List ℕ)). list ++ queued_in true memory (transmit_ring world))
    (c.append_to_put.ensures.frames ∙ ap (λ (a : AdapterState). start ++ frames a) c.self.view_is)
    ∙ append_assoc start (frames c.args.self.now) (queued_in true memory (transmit_ring world))
    ∙ ap (λ (list : List (List ℕ)). start ++ list) (sym (sending-is world))
