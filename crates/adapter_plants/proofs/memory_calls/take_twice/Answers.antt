use Rattle.adapter_plants.proofs.Numbers.{taken_from_both}
use Rattle.adapter_plants.proofs.memory_calls.take_twice.Goals as goal

pub returns-clause-free : goal.returns-clause-free
returns-clause-free c same =
    taken_from_both c.args.one.now c.args.other.now c.take.new.self c.take-2.new.self c.take.result c.take-2.result
    c.requires same c.take.ensures.taken c.take.ensures.stays c.take-2.ensures.taken c.take-2.ensures.stays
