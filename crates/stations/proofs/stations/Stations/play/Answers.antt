use Rattle.std.proofs.Common.{◌≡◌, ◌≢◌, arith, rules, subst, sym, ◌∙◌}
use Rattle.adapter.specs.model_types.step.StepKind.TheVariants.{TxPut}
use Rattle.std.proofs.lemmas.Option.{slice_get_past}
use Rattle.stations.specs.AtomicSteps.{FindsNothing, PlaysNoted, watched}
use Rattle.stations.specs.declared.tick.Tick.{Tick}
use Rattle.stations.specs.declared.tick.Tick.TheVariants.{Step}
use Rattle.stations.proofs.PlayedTicks.{noted, noted-step, plays-nothing}
use Rattle.stations.proofs.stations.Stations.play.Goals as goal

pub returns-in-Go : goal.returns-in-Go
returns-in-Go g c = noted
    (plays-nothing c.args.self.now c.args.tick (subst (λ (t : Tick). FindsNothing t c.args.self.now) (sym c.in-Go.is) tt))
    c.note.ensures.heard c.note.ensures.room

pub returns-in-Deliver : goal.returns-in-Deliver
returns-in-Deliver g c =
    let old = watched c.args.self.now c.args.observer.now in
    let new = watched c.deliver.new.self c.deliver.new.observer in
    subst (λ (t : Tick). PlaysNoted g.O.Observer t c.args.accesses old new) (sym c.in-Deliver.is) c.deliver.ensures

pub returns-in-Step : goal.returns-in-Step
returns-in-Step g c = noted
    (plays-nothing c.args.self.now c.args.tick (subst (λ (t : Tick). FindsNothing t c.args.self.now) (sym c.in-Step.is)
    (slice_get_past c.args.self.now c.in-Step.host (omega arith))))
    c.note-in-Step.ensures.heard c.note-in-Step.ensures.room

pub returns-in-Step-2 : goal.returns-in-Step-2
returns-in-Step-2 g c =
    let is : Step c.in-Step-2.host c.in-Step-2.kind ≡ Step c.in-Step.host c.in-Step.field-1 = sym c.in-Step-2.is ∙ c.in-Step.is in
    let same : c.in-Step-2.host ≡ c.in-Step.host = cc in
    let other : c.in-Step-2.kind ≢ TxPut = (search rules) in
    let new = watched c.step-outcome.new.self c.note-in-Step-2.new.self in
    noted-step {new = new} c.step-outcome.result c.in-Step-2.is (omega (arith, same)) other
    c.step-outcome.ensures.occurs c.step-outcome.ensures.state
    c.note-in-Step-2.ensures.heard c.note-in-Step-2.ensures.room
