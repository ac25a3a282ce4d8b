use Rattle.adapter_plants.proofs.Numbers.{given_to_both}
use Rattle.adapter_plants.proofs.memory_calls.give_twice.Goals as goal

pub returns-clause-free : goal.returns-clause-free
returns-clause-free c =
    given_to_both c.args.one.now c.args.other.now c.args.buffer c.args.other_buffer c.give.new.self.free c.give-2.new.self.free
    c.requires.pool c.requires.buffer c.give.ensures.given c.give-2.ensures.given
