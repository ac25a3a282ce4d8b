use Rattle.std.proofs.Common.{◌≡◌, ap, sym, subst, arith}
use Rattle.adapter_model.specs.declared.step.StepKind.TheVariants.{RxData}
use Rattle.solo_bus.specs.SoundWorlds.{HasPieceInWork}
use Rattle.adapter_model.specs.Conditions.{Sound}
use Rattle.solo_bus.specs.SoloBuses.{SoloState, wire_has_room, solo_framed}
use Rattle.solo_bus.specs.SoundBuses.{call, working}
use Rattle.adapter_model.specs.World.{World}
use Rattle.solo_bus.proofs.SoundBuses.{arrived-sound, stepped-sound, working-found, working-has_work}
use Rattle.solo_bus.proofs.sound_buses.with_work.Goals as goal

world-is : (c : goal.After-step) → c.step.new.self.world ≡ working 4096 c.args.image.now
world-is c =
    let state : SoloState → World = λ solo. solo.world in
    working-found 4096 c.args.image.now c.arrive.result (solo_framed c.step.result c.arrive.new.self) c.in_ok-bus.bus.world
    c.arrive.new.self.world c.step.new.self.world (omega arith)
    c.in_ok-bus.ensures.world c.arrive.ensures.fate (ap state c.arrive.ensures.state) c.step.ensures.answer (ap state c.step.ensures.state)

pub returns-clause-world : goal.returns-clause-world
returns-clause-world c = world-is c

pub returns-clause-sound : goal.returns-clause-sound
returns-clause-sound c =
    let state : SoloState → World = λ solo. solo.world in
    let arrived = arrived-sound c.arrive.result call c.in_ok-bus.bus.world c.arrive.ensures.running c.arrive.ensures.fate
    c.in_ok-bus.ensures.sound in
    let before : Sound 0 0 c.arrive.new.self.world = subst (Sound 0 0) (sym (ap state c.arrive.ensures.state)) arrived in
    subst (Sound 0 0) (sym (ap state c.step.ensures.state))
    (stepped-sound RxData (wire_has_room c.arrive.new.self)
    (solo_framed c.step.result c.arrive.new.self) c.arrive.new.self.world c.step.ensures.running c.step.ensures.answer before)

pub returns-clause-work : goal.returns-clause-work
returns-clause-work c = subst HasPieceInWork (sym (world-is c)) (working-has_work 4096 c.args.image.now)
