use Rattle.std.proofs.Common.{◌≡◌, ◌+◌, ◌∙◌, ◌++◌, List, ap, flat_map, map, subst, sym, take}
use Rattle.std.proofs.lemmas.List.{take_all}
use Rattle.step_schedules.proofs.Due.{due_next, read_more}
use Rattle.step_schedules.specs.Events.{event_value}
use Rattle.step_schedules.specs.Waiting.{WaitingValue, due_action, due_before, waiting_value}
use Rattle.played_adapter.specs.Moves.{listed, moves_of, moves_of_next}
use Rattle.played_adapter.specs.Order.{InOrder, Tells}
use Rattle.played_adapter.specs.Playing.{Makes}
use Rattle.played_adapter.specs.declared.choices.Move.{Move}
use Rattle.played_adapter.proofs.Dues.{moves_next}
use Rattle.played_adapter.proofs.Telling.{tells_joined}
use Rattle.played_adapter.proofs.player.PlayedAdapter.meet.Goals as goal

pub loop-one-preserved : goal.loop-one-preserved
loop-one-preserved g c =
    let heard = g.O.Observer.heard in
    let l = c.loop-one in
    let event = event_value c.args.event.now in
    let all = c.deviations-waiting.result.now in
    let before = map waiting_value (take l.one-index all) in
    let one = waiting_value c.one-item.result in
    let moves : flat_map moves_of (due_before event before) ++ moves_of_next c.due_action.result
    ≡ flat_map moves_of (due_before event (map waiting_value (take (l.one-index + 1) all)))
    = sym (ap (λ (ws : List WaitingValue). flat_map moves_of (due_before event ws))
    (read_more all l.one-index c.one-item.result c.loop-one-test.true c.one-item.is)
    ∙ ap (flat_map moves_of) (due_next event before one) ∙ moves_next (due_before event before) (due_action event one)
    ∙ ap (λ next. flat_map moves_of (due_before event before) ++ moves_of_next next) (sym c.due_action.ensures)) in
    let laws = g.met.O.Observer.composes in
    let first = listed c.moves_of-first.result.0 in
    let second = listed c.moves_of-first.result.1 in
    let made : Tells heard l.observer c.make-in-loop-one.new.observer
    (InOrder Makes (moves_of_next c.due_action.result) l.self c.make-in-loop-one.new.self) =
    subst (λ (ms : List Move). Tells heard l.observer c.make-in-loop-one.new.observer (InOrder Makes ms l.self c.make-in-loop-one.new.self))
    c.moves_of-first.ensures
    (tells_joined Makes heard laws first second l.self c.make.new.self c.make-in-loop-one.new.self l.observer c.make.new.observer
    c.make-in-loop-one.new.observer c.make.ensures c.make-in-loop-one.ensures) in
    subst (λ (ms : List Move). Tells heard c.args.observer.now c.make-in-loop-one.new.observer
    (InOrder Makes ms c.args.self.now c.make-in-loop-one.new.self)) moves
    (tells_joined Makes heard laws (flat_map moves_of (due_before event before)) (moves_of_next c.due_action.result)
    c.args.self.now l.self c.make-in-loop-one.new.self c.args.observer.now l.observer c.make-in-loop-one.new.observer l.invariant made)

pub returns-clause-plays : goal.returns-clause-plays
returns-clause-plays g c =
    let l = c.loop-one in
    let waiting = c.deviations-waiting in
    subst
    (λ (ws : List WaitingValue). Tells g.O.Observer.heard c.args.observer.now l.observer
    (InOrder Makes (flat_map moves_of (due_before (event_value c.args.event.now) ws)) c.args.self.now l.self))
    (ap (map waiting_value) (take_all l.one-index waiting.result.now c.loop-one-test.false) ∙ waiting.ensures) l.invariant
