use Rattle.bus.specs.TickGroups.{behind_group, group_of}
use Rattle.solo_bus.specs.SoloBuses.{is_solo_go, solo_framed}
use Rattle.solo_bus.proofs.SoloTicks.{arrive_on, group_goes_on, step_on}
use Rattle.solo_bus.proofs.solo_bus.SoloBus.play_group.Goals as goal

pub loop-tick-preserved-in-Step : goal.loop-tick-preserved-in-Step
loop-tick-preserved-in-Step c =
    step_on (group_of is_solo_go) (behind_group is_solo_go) _ c.loop-tick.self c.next_tick.new.self _ c.in-Step.kind
    (solo_framed c.step.result c.next_tick.new.self) c.next_tick.result c.in-Some.tick group_goes_on c.loop-tick.invariant
    c.next_tick.ensures.next c.in-Some.is c.in-Step.is c.next_tick.ensures.state c.step.ensures.running c.step.ensures.answer
    c.step.ensures.state

pub loop-tick-preserved : goal.loop-tick-preserved
loop-tick-preserved c =
    arrive_on (group_of is_solo_go) (behind_group is_solo_go) _ c.loop-tick.self c.next_tick.new.self _ c.in-Arrive.frame
    c.as_slice.result.now
    c.arrive.result c.next_tick.result c.in-Some.tick group_goes_on c.loop-tick.invariant c.next_tick.ensures.next c.in-Some.is
    c.in-Arrive.is c.as_slice.ensures.value c.next_tick.ensures.state c.arrive.ensures.running c.arrive.ensures.fate
    c.arrive.ensures.state
