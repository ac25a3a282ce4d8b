use Rattle.std.proofs.Common.{◌≡◌, ap, sym, subst, arith}
use Rattle.adapter_model.specs.declared.step.StepKind.TheVariants.{TxTake}
use Rattle.solo_bus.specs.SoundWorlds.{HasFramesInBuffer}
use Rattle.adapter_model.specs.Conditions.{Sound}
use Rattle.solo_bus.specs.SoloBuses.{SoloState, wire_has_room, solo_framed}
use Rattle.solo_bus.specs.SoundBuses.{taken}
use Rattle.adapter_model.specs.World.{World}
use Rattle.solo_bus.proofs.SoundBuses.{sent-found, sent-has_frames, stepped-sound}
use Rattle.solo_bus.proofs.sound_buses.with_buffered_frame.Goals as goal

world-is : (c : goal.After-step) → c.step.new.self.world ≡ taken 4096 c.args.image.now
world-is c =
    let state : SoloState → World = λ solo. solo.world in
    sent-found 4096 c.args.image.now (solo_framed c.step.result c.in_ok-bus.bus) c.in_ok-bus.bus.world c.step.new.self.world
    (omega arith) c.in_ok-bus.ensures.world c.step.ensures.answer (ap state c.step.ensures.state)

pub returns-clause-world : goal.returns-clause-world
returns-clause-world c = world-is c

pub returns-clause-sound : goal.returns-clause-sound
returns-clause-sound c =
    let state : SoloState → World = λ solo. solo.world in
    subst (Sound 0 0) (sym (ap state c.step.ensures.state))
    (stepped-sound TxTake (wire_has_room c.in_ok-bus.bus) (solo_framed c.step.result c.in_ok-bus.bus) c.in_ok-bus.bus.world
    c.step.ensures.running c.step.ensures.answer c.in_ok-bus.ensures.sound)

pub returns-clause-in_buffer : goal.returns-clause-in_buffer
returns-clause-in_buffer c = subst HasFramesInBuffer (sym (world-is c)) (sent-has_frames 4096 c.args.image.now)
