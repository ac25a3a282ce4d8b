use Rattle.std.proofs.Common.{◌∙◌, ap, refl}
use Rattle.adapter.specs.Steps.{TellsWork}
use Rattle.played_adapter.proofs.EachKind.{for_each, for_kind}
use Rattle.adapter_server.proofs.looking.enabled_steps.Goals as goal

pub returns : goal.returns
returns c =
    let take = c.can_step.ensures in
    let put = c.can_step-2.ensures in
    let moves = c.can_step-3.ensures in
    let done = c.can_step-4.ensures in
    let eeprom = c.can_step-5.ensures in
    let phy = c.can_step-6.ensures in
    record {
      works = for_kind take.works put.works moves.works done.works eeprom.works phy.works;
      each = for_each (λ kind works. TellsWork kind works c.args.device.now.machine.world.adapter) take.works put.works moves.works done.works
          eeprom.works phy.works take.tells put.tells moves.tells done.tells eeprom.tells phy.tells;
      same = rw (take.answer_is, put.answer_is, moves.answer_is, done.answer_is, eeprom.answer_is, phy.answer_is) refl;
    }
