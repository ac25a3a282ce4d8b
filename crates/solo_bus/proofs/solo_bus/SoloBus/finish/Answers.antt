use Rattle.bus.specs.TickGroups.{without_go}
use Rattle.solo_bus.specs.SoloBuses.{is_solo_go, solo_framed}
use Rattle.solo_bus.proofs.SoloTicks.{all_go_on, arrive_on, none_left, step_on}
use Rattle.solo_bus.proofs.solo_bus.SoloBus.finish.Goals as goal

pub loop-tick-preserved-in-Step : goal.loop-tick-preserved-in-Step
loop-tick-preserved-in-Step c =
    step_on (without_go is_solo_go) none_left _ c.loop-tick.self c.next_tick.new.self c.step.new.self c.in-Step.kind
    (solo_framed c.step.result c.next_tick.new.self) c.next_tick.result c.in-Some.tick all_go_on c.loop-tick.invariant
    c.next_tick.ensures.next c.in-Some.is c.in-Step.is c.next_tick.ensures.state c.step.ensures.running c.step.ensures.answer
    c.step.ensures.state

pub loop-tick-preserved : goal.loop-tick-preserved
loop-tick-preserved c =
    arrive_on (without_go is_solo_go) none_left _ c.loop-tick.self c.next_tick.new.self c.arrive.new.self c.in-Arrive.frame
    c.as_slice.result.now
    c.arrive.result c.next_tick.result c.in-Some.tick all_go_on c.loop-tick.invariant c.next_tick.ensures.next c.in-Some.is
    c.in-Arrive.is c.as_slice.ensures.value c.next_tick.ensures.state c.arrive.ensures.running c.arrive.ensures.fate
    c.arrive.ensures.state
