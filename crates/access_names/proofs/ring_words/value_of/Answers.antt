use Rattle.std.proofs.Common.{◌∙◌}
use Rattle.access_names.proofs.RingValues.{answer-ring}
use Rattle.access_names.proofs.ring_words.value_of.Goals as goal

pub returns : goal.returns
returns c =
    c.value.ensures.answer
    ∙ answer-ring c.offset_of.result c.args.engine c.args.register c.args.machine.now.world c.offset_of.ensures
