use Rattle.std.proofs.Common.{arith, ◌≡◌, ◌∙◌, refl, sym, subst, true}
use Rattle.adapter.specs.Outcomes.{framed}
use Rattle.adapter.specs.World.{World}
use Rattle.adapter.specs.Trails.{Occurs}
use Rattle.adapter.specs.bus_types.event.Event.TheVariants.{Steps}
use Rattle.stations.specs.StationsView.{stations_of}
use Rattle.stations.specs.Stations.{stations_after}
use Rattle.stations.proofs.PlayedTicks.{put-is, put-none}
use Rattle.std.proofs.Common.{slice_set}
use Rattle.stations.proofs.Hosts.{below-machines, machine-after, shows}
use Rattle.stations.proofs.stations.Stations.step.Goals as goal

pub index_mut-requires : goal.index_mut-requires
index_mut-requires c = omega (arith, below-machines c.self.view_is c.self.invariant c.requires.there)

pub returns-clause-occurs : goal.returns-clause-occurs
returns-clause-occurs c =
    let shown = shows c.self.view_is c.self.invariant c.requires.there c.index_mut.ensures.value in
    subst (λ (w : World). Occurs (Steps c.args.kind true (framed c.step.result w.adapter)) w) shown.world c.step.ensures.occurs

pub returns-clause-state : goal.returns-clause-state
returns-clause-state c =
    let shown = shows c.self.view_is c.self.invariant c.requires.there c.index_mut.ensures.value in
    let world = c.index_mut.result.now.world in
    let answer = framed c.step.result world.adapter in
    let answers = c.step.ensures.occurs.1 in
    let none = put-none c.args.kind true world.memory world.adapter answer c.requires.stays answers in
    subst (λ (w : World). stations_of (slice_set c.self.inside.machines.items c.args.host c.step.new.self) c.self.inside.wires
    ≡ stations_after c.args.host (Steps c.args.kind true (framed c.step.result w.adapter)) c.args.self.now) shown.world
    (machine-after (Steps c.args.kind true answer) c.self.view_is shown c.step.ensures.state
    (λ line. refl) (sym (put-is c.args.kind true world.memory world.adapter answer answers) ∙ none))
