use Rattle.std.proofs.Common.{◌≡◌, ap, sym, subst}
use Rattle.adapter_model.specs.declared.step.StepKind.TheVariants.{RxDone}
use Rattle.solo_bus.specs.SoundWorlds.{HasFinished}
use Rattle.adapter_model.specs.Conditions.{Sound}
use Rattle.solo_bus.specs.SoloBuses.{SoloState, wire_has_room, solo_framed}
use Rattle.solo_bus.specs.SoundBuses.{finished_slot}
use Rattle.adapter_model.specs.World.{World}
use Rattle.solo_bus.proofs.SoundBuses.{reported-found, reported-has_finished, stepped-sound}
use Rattle.solo_bus.proofs.sound_buses.with_finished_slot.Goals as goal

world-is : (c : goal.After-step) → c.step.new.self.world ≡ finished_slot 4096 c.args.image.now
world-is c =
    let state : SoloState → World = λ solo. solo.world in
    reported-found 4096 c.args.image.now (solo_framed c.step.result c.in_ok-bus.bus) c.in_ok-bus.bus.world c.step.new.self.world
    c.in_ok-bus.ensures.world c.step.ensures.answer (ap state c.step.ensures.state)

sound-is : (c : goal.After-step) → Sound 0 0 c.step.new.self.world
sound-is c =
    let state : SoloState → World = λ solo. solo.world in
    subst (Sound 0 0) (sym (ap state c.step.ensures.state))
    (stepped-sound RxDone (wire_has_room c.in_ok-bus.bus) (solo_framed c.step.result c.in_ok-bus.bus) c.in_ok-bus.bus.world
    c.step.ensures.running c.step.ensures.answer c.in_ok-bus.ensures.sound)

pub returns-clause-world : goal.returns-clause-world
returns-clause-world c = world-is c

pub returns-clause-sound : goal.returns-clause-sound
returns-clause-sound c = sound-is c

pub returns-clause-finished : goal.returns-clause-finished
returns-clause-finished c =
    let is = world-is c in
    subst HasFinished (sym is) (reported-has_finished 4096 c.args.image.now (subst (Sound 0 0) is (sound-is c)))
