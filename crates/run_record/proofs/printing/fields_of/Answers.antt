use Rattle.run_record.proofs.Printed.{grows}
use Rattle.run_record.proofs.printing.fields_of.Goals as goal

pub returns : goal.returns
returns c = grows _ c.push.ensures.items (grows _ c.push_resets.ensures.text (grows _ c.push_field-7.ensures.text
    (grows _ c.push_field-6.ensures.text (grows _ c.push_exact.ensures.text (grows _ c.push_field-5.ensures.text
    (grows _ c.push_field-4.ensures.text (grows _ c.push_field-3.ensures.text (grows _ c.push_field-2.ensures.text
    (grows _ c.push_field.ensures.text c.new-line.ensures)))))))))
