use Rattle.std.proofs.Common.{◌+◌, ◌∙◌, List, ap, drop, map, sym, take}
use Rattle.step_schedules.specs.Events.{event_value}
use Rattle.step_schedules.specs.Players.{chosen}
use Rattle.step_schedules.specs.Waiting.{WaitingValue, due_before, waiting_value}
use Rattle.step_schedules.proofs.Due.{chosen_at, read_split}
use Rattle.step_schedules.proofs.agenda.chosen_in.Goals as goal

pub returns-in-Some : goal.returns-in-Some
returns-in-Some c =
    let l = c.loop-one in
    let event = event_value c.args.event.now in
    let all = c.args.waiting.now in
    chosen_at event (map waiting_value (take l.one-index all)) (waiting_value c.one-item.result)
    (map waiting_value (drop (l.one-index + 1) all)) c.in-Some.action c.chosen_by.result l.invariant
    (sym c.due_action.ensures ∙ c.in-Some.is) c.chosen_by.ensures
    ∙ ap (λ (ws : List WaitingValue). chosen (due_before event ws))
    (sym (read_split all l.one-index c.one-item.result c.loop-one-test.true c.one-item.is))
