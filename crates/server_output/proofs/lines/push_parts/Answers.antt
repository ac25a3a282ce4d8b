use Rattle.server_output.proofs.Parts.{all_parts, one_part}
use Rattle.server_output.proofs.lines.push_parts.Goals as goal

pub loop-part-preserved : goal.loop-part-preserved
loop-part-preserved c =
    one_part c.args.parts.now c.loop-part.part-index _ c.loop-part.text.items c.extend_from_slice.new.self.items _ c.loop-part-test.true
    c.in_ok-extend_from_slice.ensures.items c.loop-part.invariant

pub returns : goal.returns
returns c = all_parts c.args.parts.now c.loop-part.part-index c.loop-part.text.items _ c.loop-part-test.false c.loop-part.invariant
