use Rattle.std.proofs.Common.{◌+◌, ◌*◌}
use Rattle.bring_up.specs.SettingSteps.{WriteActs}
use Rattle.bring_up.proofs.Words.{table-after, word-ran}
use Rattle.bring_up.proofs.groups.set_word.Goals as goal

pub returns-clause-table : goal.returns-clause-table
returns-clause-table g c honest =
    let acts : WriteActs g.B.Bus c.args.bus.now c.write.new.self (0x5200 + 4 * c.args.word) c.args.value =
    rw c.from.ensures at (c.write.ensures.acts honest) in
    table-after g.B.Bus c.args.bus.now c.write.new.self c.args.word c.args.value c.requires c.ranges.value.fits acts

pub returns-clause-runs : goal.returns-clause-runs
returns-clause-runs g c up d is_ready =
    let acts : WriteActs g.B.Bus c.args.bus.now c.write.new.self (0x5200 + 4 * c.args.word) c.args.value =
    rw c.from.ensures at (c.write.ensures.acts is_ready.honest) in
    word-ran g.B.Bus c.args.bus.now c.write.new.self c.args.word c.args.value d c.requires acts is_ready.ready
