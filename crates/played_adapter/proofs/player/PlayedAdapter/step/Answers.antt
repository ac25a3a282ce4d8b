use Rattle.std.proofs.Common.{◌≡◌, ap, sym, ◌∙◌, ◌∷◌, [], None, Option}
use Rattle.adapter.specs.Outcomes.{FrameOutcome, framed}
use Rattle.adapter.specs.model_types.step.StepKind.TheVariants.{TxPut}
use Rattle.access_names.specs.declared.engine_fault.EngineFault.{EngineFault}
use Rattle.played_adapter.specs.Playing.{after_played_step, expected, fault_told, has_room, step_of}
use Rattle.played_adapter.specs.Told.{Stepped}
use Rattle.played_adapter.specs.declared.player.PlayedAdapter.{PlayedAdapter}
use Rattle.played_adapter.proofs.Happening.{happened}
use Rattle.played_adapter.proofs.Putting.{no_fault, other_played, other_told, put_expected, put_no_fault, put_played}
use Rattle.played_adapter.proofs.player.PlayedAdapter.step.Goals as goal
use Rattle.played_adapter.proofs.player.PlayedAdapter.step.Goals.{in-Fault, in_default-outcome}

pub returns-in-TxPut : goal.returns-in-TxPut
returns-in-TxPut g c =
    let a = c.args.self.now in
    let adapter = a.machine.world.adapter in
    let outcome = c.step-outcome.result in
    let answer = framed outcome adapter in
    let announced = c.announce_put-wire_free.ensures in
    let played = put_played a c.announce_put-wire_free.new.self c.announce_put-wire_free.result outcome c.step-outcome.new.self
    announced.room announced.kept c.step-outcome.ensures.occurs c.step-outcome.ensures.state in
    let told_is : Stepped TxPut (expected (has_room a) adapter.transmitter.buffer) None ∷ []
    ≡ Stepped TxPut answer (fault_told TxPut outcome (after_played_step TxPut outcome a).machine.world) ∷ []
    = ap (λ (told : FrameOutcome). Stepped TxPut told None ∷ [])
    (sym (put_expected (has_room a) adapter adapter.transmitter.buffer answer played.0.1))
    ∙ ap (λ (fault : Option EngineFault). Stepped TxPut answer fault ∷ [])
    (sym (put_no_fault outcome (after_played_step TxPut outcome a).machine.world)) in
    rw c.in-TxPut.is
    (happened g.O.Observer.heard g.met.O.Observer.composes (step_of TxPut outcome a) _ _ a (after_played_step TxPut outcome a)
    _ c.report.new.self c.args.observer.now c.announce_put-wire_free.new.observer c.report.new.observer
    played.0 played.1 announced.reported
    told_is c.report.ensures)

pub returns : goal.returns
returns g c =
    let a = c.args.self.now in
    let kind = c.args.kind in
    let outcome = c.step-outcome-2.result in
    let machine = c.step-outcome-2.new.self in
    let fault_is : c.match-outcome.fault ≡ fault_told kind outcome machine.world = elim c.match-outcome.branch [
      | in-Fault w ↦ rw (w.fault-is, w.in-Fault.is) w.fault_of-fault.ensures.fault
      | in_default-outcome w ↦ rw w.fault-is (no_fault kind outcome machine.world w.in_default-outcome.not-Fault)
    ] in
    let played = other_played kind a c.has_room-wire_free.result outcome machine c.in_default.not-TxPut c.has_room-wire_free.ensures
    c.step-outcome-2.ensures.occurs c.step-outcome-2.ensures.state in
    happened g.O.Observer.heard g.met.O.Observer.composes (step_of kind outcome a) _ _ a (after_played_step kind outcome a)
    _ c.report-2.new.self c.args.observer.now c.stepped.new.self c.report-2.new.observer
    played.0 played.1 c.stepped.ensures
    (ap (λ (told : FrameOutcome). Stepped kind told c.match-outcome.fault ∷ [])
    (other_told kind (has_room a) a.machine.world.memory a.machine.world.adapter outcome c.in_default.not-TxPut played.0.1)
    ∙ ap (λ (fault : Option EngineFault). Stepped kind (framed outcome a.machine.world.adapter) fault ∷ [])
    (fault_is ∙ ap (λ (s : PlayedAdapter). fault_told kind outcome s.machine.world) played.1)) c.report-2.ensures
