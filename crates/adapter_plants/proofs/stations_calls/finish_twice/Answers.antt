use Rattle.adapter_plants.specs.OneEnd.{finished_one}
use Rattle.adapter_plants.proofs.stations_calls.finish_twice.Goals as goal

pub returns-clause-stations : goal.returns-clause-stations
returns-clause-stations g c =
    (finished_one c.args.one.now c.finish.new.self c.args.other.now c.finish-2.new.self c.requires.stations c.requires.ticks
    c.requires.accesses c.finish.ensures c.finish-2.ensures).states

pub returns-clause-told : goal.returns-clause-told
returns-clause-told g c =
    let one = finished_one c.args.one.now c.finish.new.self c.args.other.now c.finish-2.new.self c.requires.stations c.requires.ticks
    c.requires.accesses c.finish.ensures c.finish-2.ensures in
    (one.told, one.heard, one.other_heard)
