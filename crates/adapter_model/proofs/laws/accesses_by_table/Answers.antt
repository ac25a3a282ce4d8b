use Rattle.adapter_model.specs.RegisterLaws.{others_stay_at_read, others_stay_at_write, plain_reads_back, touched_by_writes}
use Rattle.adapter_model.proofs.laws.accesses_by_table.Goals as goal

pub returns : goal.returns
returns c = record {
  read_back = plain_reads_back;
  others_at_write = others_stay_at_write;
  touched = touched_by_writes;
  others_at_read = others_stay_at_read;
}
