use Rattle.server_output.specs.Texts.{fault_words}
use Rattle.server_output.proofs.Parts.{all_mapped, one_mapped}
use Rattle.server_output.proofs.faults.Faults.words.Goals as goal

pub loop-fault-preserved : goal.loop-fault-preserved
loop-fault-preserved c =
    one_mapped fault_words _ c.loop-fault.fault-index _ c.loop-fault.text.items c.push_fault.new.text.items _ c.loop-fault-test.true
    c.in_ok-push_fault.ensures c.loop-fault.invariant

pub returns : goal.returns
returns c = all_mapped fault_words _ c.loop-fault.fault-index c.loop-fault.text.items _ c.loop-fault-test.false c.loop-fault.invariant
