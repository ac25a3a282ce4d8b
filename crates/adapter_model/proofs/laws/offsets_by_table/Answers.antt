use Rattle.adapter_model.specs.TableLaws.{accesses_by_offset, offsets_by_table, outside_is_ignored}
use Rattle.adapter_model.proofs.laws.offsets_by_table.Goals as goal

pub returns : goal.returns
returns c = record { offsets = offsets_by_table; register = accesses_by_offset; outside = outside_is_ignored }
