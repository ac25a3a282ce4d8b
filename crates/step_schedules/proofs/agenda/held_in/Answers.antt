use Rattle.std.proofs.Common.{◌∙◌, List, ap, map, sym, take}
use Rattle.step_schedules.specs.Agendas.{held_after, held_by}
use Rattle.step_schedules.specs.Events.{event_value}
use Rattle.step_schedules.specs.Waiting.{WaitingValue, due_action, due_before, waiting_value}
use Rattle.step_schedules.specs.declared.agenda.Held.{Held}
use Rattle.step_schedules.proofs.Due.{held_next, read_more}
use Rattle.step_schedules.proofs.agenda.held_in.Goals as goal

pub loop-one-preserved : goal.loop-one-preserved
loop-one-preserved c =
    let l = c.loop-one in
    let event = event_value c.args.event.now in
    let all = c.args.waiting.now in
    let before = map waiting_value (take l.one-index all) in
    c.and-held.ensures ∙ ap (held_after l.held) c.due_action.ensures
    ∙ ap (λ (held : Held). held_after held (due_action event (waiting_value c.one-item.result))) l.invariant
    ∙ sym (held_next event before (waiting_value c.one-item.result))
    ∙ ap (λ (ws : List WaitingValue). held_by (due_before event ws))
    (sym (read_more all l.one-index c.one-item.result c.loop-one-test.true c.one-item.is))
