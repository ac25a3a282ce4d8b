use Rattle.std.proofs.Common.{◌≡◌, ap, ◌∙◌, sym, subst, arith}
use Rattle.solo_bus.specs.SoundWorlds.{HasRings}
use Rattle.adapter_model.specs.Conditions.{Sound}
use Rattle.solo_bus.specs.SoloBuses.{SoloState}
use Rattle.solo_bus.specs.SoundBuses.{ready}
use Rattle.adapter_model.specs.World.{world_after_write}
use Rattle.solo_bus.proofs.SoundBuses.{ready-has_rings, ready-sound, ready-written}
use Rattle.solo_bus.proofs.sound_buses.with_rings.Goals as goal

pub returns : goal.returns
returns c =
    let words = c.args.image.now in
    let is : c.write_now.new.self.world ≡ ready 4096 words =
    ap (λ (solo : SoloState). solo.world) c.write_now.ensures.state ∙ ap (world_after_write 0x2818 1) c.in_ok-bus.ensures
    ∙ ready-written 4096 words in
    record {
      world = is;
      sound = subst (Sound 0 0) (sym is) (ready-sound 4096 words (omega arith));
      rings = subst HasRings (sym is) (ready-has_rings 4096 words);
    }
