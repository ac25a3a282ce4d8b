use Rattle.std.proofs.Common.{List, ap, subst, sym, ◌∙◌}
use Rattle.adapter.specs.model_types.step.StepKind.TheVariants.{RxData}
use Rattle.registers.specs.Bits.{Meet}
use Rattle.packet_socket.specs.HostState.{HostState}
use Rattle.stations.specs.Stations.{StationState, world_at}
use Rattle.host_calls.specs.DrainedHosts.{HoldsNothing}
use Rattle.host_calls.specs.Networks.{NetworkState, nth_host}
use Rattle.host_calls.proofs.AdapterSteps.{has-stepped, moves-none, moves-piece, same-stepped}
use Rattle.host_calls.proofs.Endings.{nothing-left}
use Rattle.host_calls.proofs.HostsOfNetworks.{drained-here, found-steps, stations-are}
use Rattle.host_calls.proofs.network.Network.move_piece.Goals.{in-Part, in_default}
use Rattle.host_calls.proofs.network.Network.move_piece.Goals as goal

pub invariant_of-self : goal.invariant_of-self
invariant_of-self c =
    record {
      same = same-stepped c.self.invariant (has-stepped c.args.number RxData c.step.result c.self.view_is c.self.invariant c.requires.there
          c.step.ensures.occurs c.step.ensures.state);
    }

pub returns-clause-steps : goal.returns-clause-steps
returns-clause-steps c =
    let it = has-stepped c.args.number RxData c.step.result c.self.view_is c.self.invariant c.requires.there
    c.step.ensures.occurs c.step.ensures.state in
    let stands = drained-here c.args.number c.self.view_is c.self.invariant c.requires.stands in
    let free = ap (λ (list : List StationState). (world_at list c.args.number).adapter.receiver.work)
    (sym (stations-are c.self.view_is c.self.invariant)) ∙ c.requires.free in
    elim c.match-matches.branch [
      | in-Part w ↦ found-steps c.self.view_is c.self.invariant w.matches-is (moves-piece c.step.result it w.in-Part.is stands free)
      | in_default w ↦ found-steps c.self.view_is c.self.invariant w.matches-is
          (moves-none c.step.result it w.in_default.not-Part w.in_default.not-Moved stands).on
    ]

pub returns-clause-ends : goal.returns-clause-ends
returns-clause-ends c =
    let k = c.args.number in
    let stations = c.self.inside.stations in
    let left = c.step.new.self in
    let h = nth_host c.args.self.now k in
    let it = has-stepped c.args.number RxData c.step.result c.self.view_is c.self.invariant c.requires.there
    c.step.ensures.occurs c.step.ensures.state in
    let are = stations-are c.self.view_is c.self.invariant in
    let stands = drained-here k c.self.view_is c.self.invariant c.requires.stands in
    let free = ap (λ (list : List StationState). (world_at list k).adapter.receiver.work) (sym are) ∙ c.requires.free in
    let quiet = subst (λ (list : List StationState).
    ¬ (Meet (world_at list k).adapter.causes.recorded (world_at list k).adapter.causes.mask)) are c.requires.quiet in
    elim c.match-matches.branch [
      | in-Part w ↦ λ none. absurd (cc (none, w.matches-is))
      | in_default w ↦ λ none.
          subst (λ (host : HostState). HoldsNothing host (world_at left k))
          (sym (ap (λ (one : NetworkState). nth_host one k) c.self.view_is))
          (nothing-left k stations left h stands (moves-none c.step.result it w.in_default.not-Part w.in_default.not-Moved stands)
          free quiet c.requires.given)
    ]
