use Rattle.std.proofs.Common.{◌≡◌, ◌∙◌, ◌++◌, List, ap, flat_map, subst}
use Rattle.adapter.specs.model_types.step.StepKind.TheVariants.{EepromTick, PhyTick}
use Rattle.eeprom.specs.Eerd.{is_pending}
use Rattle.mdic_phy.specs.Mdic.{has_work}
use Rattle.step_schedules.specs.declared.deviation.Action.TheVariants.{HoldEeprom, HoldPhy}
use Rattle.played_adapter.proofs.Dues.{if_works, listed_if}
use Rattle.step_schedules.specs.Agendas.{default_steps_held}
use Rattle.step_schedules.specs.Events.{EventValue, event_value}
use Rattle.step_schedules.specs.Waiting.{due_before}
use Rattle.step_schedules.specs.declared.agenda.Held.{Held}
use Rattle.played_adapter.specs.Moves.{access_moves, default_move, listed, moves_of, tick_moves}
use Rattle.played_adapter.specs.Order.{InOrder, Tells}
use Rattle.played_adapter.specs.Playing.{Makes}
use Rattle.played_adapter.specs.declared.choices.Move.{Move}
use Rattle.played_adapter.proofs.Telling.{tells_joined}
use Rattle.played_adapter.proofs.player.PlayedAdapter.meet_access.Goals as goal

pub returns-clause-plays : goal.returns-clause-plays
returns-clause-plays g c =
    let heard = g.O.Observer.heard in
    let a = c.args.self.now in
    let laws = g.met.O.Observer.composes in
    let held = c.held-held.result in
    let adapter = a.machine.world.adapter in
    let eeprom = default_move held.eeprom EepromTick HoldEeprom in
    let phy = default_move held.phy PhyTick HoldPhy in
    let second = listed c.then_some-phy.result in
    let ticks : Tells heard c.args.observer.now c.make-2.new.observer (InOrder Makes (tick_moves held a) a c.make-2.new.self) =
    subst (λ (ms : List Move). Tells heard c.args.observer.now c.make-2.new.observer (InOrder Makes ms a c.make-2.new.self))
    (ap (λ (ms : List Move). ms ++ second)
    (listed_if c.eeprom_has_work.result (is_pending adapter.eerd) c.default_move-eeprom.result eeprom c.then_some-eeprom.result
    c.then_some-eeprom.ensures c.eeprom_has_work.ensures c.default_move-eeprom.ensures)
    ∙ ap (λ (ms : List Move). if_works (is_pending adapter.eerd) eeprom ++ ms)
    (listed_if c.phy_has_work.result (has_work adapter.mdic adapter.phy) c.default_move-phy.result phy c.then_some-phy.result
    c.then_some-phy.ensures c.phy_has_work.ensures c.default_move-phy.ensures))
    (tells_joined Makes heard laws (listed c.then_some-eeprom.result) second a c.make.new.self c.make-2.new.self
    c.args.observer.now c.make.new.observer c.make-2.new.observer c.make.ensures c.make-2.ensures) in
    let waiting = c.args.agenda.now.deviations in
    let due = flat_map moves_of (due_before (event_value c.coming-event.result) waiting) in
    let moves : tick_moves held a ++ due ≡ access_moves c.args.before c.args.name.now c.args.agenda.now a
    = ap (λ (h : Held). tick_moves h a ++ due) c.held-held.ensures
    ∙ ap (λ (e : EventValue). tick_moves (default_steps_held (due_before e waiting) c.args.agenda.now) a
    ++ flat_map moves_of (due_before e waiting))
    c.coming-event.ensures in
    subst (λ (ms : List Move). Tells heard c.args.observer.now c.meet.new.observer (InOrder Makes ms a c.meet.new.self)) moves
    (tells_joined Makes heard laws (tick_moves held a) due a c.make-2.new.self c.meet.new.self
    c.args.observer.now c.make-2.new.observer c.meet.new.observer ticks c.meet.ensures.plays)
