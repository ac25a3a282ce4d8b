use Rattle.std.proofs.Common.{◌≡◌, ℕ, ap, ◌∙◌, sym, subst, arith}
use Rattle.solo_bus.specs.SoundWorlds.{HasFramesInRing}
use Rattle.adapter_model.specs.Conditions.{Sound}
use Rattle.solo_bus.specs.SoloBuses.{SoloState}
use Rattle.solo_bus.specs.SoundBuses.{request, sending}
use Rattle.adapter_model.specs.World.{World, world_after_store, world_after_write}
use Rattle.solo_bus.proofs.SoundBuses.{sending-has_frames, sending-sound, sending-written}
use Rattle.solo_bus.proofs.sound_buses.with_frame_to_send.Goals as goal

pub returns : goal.returns
returns c =
    let words = c.args.image.now in
    let state : SoloState → World = λ solo. solo.world in
    let stored : c.store_now.new.self.world ≡ world_after_store 2176 request c.in_ok-bus.bus.world =
    ap state c.store_now.ensures.state ∙ ap (λ (address : ℕ). world_after_store address request c.in_ok-bus.bus.world) c.from.ensures in
    let is : c.write_now.new.self.world ≡ sending 4096 words =
    ap state c.write_now.ensures.state ∙ ap (world_after_write 0x3818 1) (stored ∙ ap (world_after_store 2176 request) c.in_ok-bus.ensures)
    ∙ sending-written 4096 words in
    record {
      world = is;
      sound = subst (Sound 0 0) (sym is) (sending-sound 4096 words (omega arith));
      in_ring = subst HasFramesInRing (sym is) (sending-has_frames 4096 words);
    }
