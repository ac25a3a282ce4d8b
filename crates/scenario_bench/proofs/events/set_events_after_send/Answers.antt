use Rattle.std.proofs.Common.{◌++◌, ◌∷◌, ◌∙◌, [], ℕ, Global, List, Vec, ap, append-nil, false, map, sym, true}
use Rattle.std.proofs.Math.ListN.{drop_of_length-le}
use Rattle.network_plan.specs.declared.event.Event.{Event}
use Rattle.network_plan.specs.declared.plan.HostPlan.{HostPlan}
use Rattle.run_record.specs.Puts.{wire_name_of}
use Rattle.scenario.specs.SoFar.{Said, Ticks, command_of_event, hosts_of}
use Rattle.adapter.specs.model_types.step.StepKind.TheVariants.{TxTake}
use Rattle.stations.specs.declared.tick.Tick.TheVariants.{Step}
use Rattle.scenario_bench.specs.EventLists.{arrival_at, arrivals_from}
use Rattle.scenario_bench.proofs.EventsOfCommands.{arrivals_step, other_host, own_host, same_names}
use Rattle.scenario_bench.proofs.events.set_events_after_send.Goals.{then-number-sender+then-eq+in_ok-push_arrival, else-number-sender}
use Rattle.scenario_bench.proofs.events.set_events_after_send.Goals.{else-number-sender-via-then-number-sender+else-eq}
use Rattle.scenario_bench.proofs.events.set_events_after_send.Goals.{else-number-sender-via-else-number-sender}
use Rattle.scenario_bench.proofs.events.set_events_after_send.Goals as goal

pub loop-number-init : goal.loop-number-init
loop-number-init c =
    let arrivals = arrivals_from c.args.pieces 0 c.args.sender (wire_name_of (hosts_of c.args.plans.now) c.args.sender)
    (hosts_of c.args.plans.now) in
    ap (λ (said : List Said). said ++ arrivals)
    (c.in_ok-push_events.ensures ∙ ap (λ (events : List Event). map command_of_event events ++ map command_of_event
    (c.step_event-take.result ∷ c.step_event-put.result ∷ [])) c.clear.ensures.items
    ∙ ap (λ (said : Said). said ∷ command_of_event c.step_event-put.result ∷ []) c.step_event-take.ensures
    ∙ ap (λ (said : Said). Ticks (Step c.args.sender TxTake) ∷ said ∷ []) c.step_event-put.ensures)

pub returns : goal.returns
returns c =
    let wire = wire_name_of (hosts_of c.args.plans.now) c.args.sender in
    let said = map command_of_event c.loop-number.events.items in
    sym (append-nil said)
    ∙ ap (λ (left : List HostPlan). said ++ arrivals_from c.args.pieces c.loop-number.number c.args.sender wire (hosts_of left))
    (sym (drop_of_length-le c.args.plans.now c.loop-number-test.false))
    ∙ c.loop-number.invariant

pub loop-number-preserved : goal.loop-number-preserved
loop-number-preserved c =
    let plan = c.index-plans-number.result in
    let before = map command_of_event c.loop-number.events.items in
    let said : Vec Event Global → List Said = λ events. map command_of_event events.items in
    let step = arrivals_step c.args.plans.now c.loop-number.number c.args.pieces c.args.sender
    (wire_name_of (hosts_of c.args.plans.now) c.args.sender) plan in
    let below = c.loop-number-test.true in
    elim c.if-number-sender.branch [
      | then-number-sender+then-eq+in_ok-push_arrival w ↦
          let arrived = ap said w.events-is ∙ w.in_ok-push_arrival.ensures
          ∙ ap (λ (sockets : ℕ). before ++ arrival_at c.args.pieces c.loop-number.number sockets) w.len.ensures.value in
          step true before (said c.if-number-sender.events) below c.index-plans-number.is
          (other_host w.if-number-sender.true (same_names w.as_str.ensures.value c.wire_of-wire.ensures w.eq.ensures w.if-eq.true)) arrived
          ∙ c.loop-number.invariant
      | else-number-sender w ↦
          let kept = ap said w.events-is ∙ sym (append-nil before) in
          elim w.else-number-sender.branch [
            | else-number-sender-via-then-number-sender+else-eq w' ↦
                step false before (said c.if-number-sender.events) below c.index-plans-number.is
                (other_host w'.if-number-sender.true (same_names w'.as_str.ensures.value c.wire_of-wire.ensures w'.eq.ensures w'.if-eq.false)) kept
                ∙ c.loop-number.invariant
            | else-number-sender-via-else-number-sender w' ↦
                step false before (said c.if-number-sender.events) below c.index-plans-number.is (own_host _ w'.if-number-sender.false) kept
                ∙ c.loop-number.invariant
          ]
    ]
