-- How an adapter records causes and counts frames.
use Rattle.std.specs.Prelude.{◌+◌, ℕ, min}
use Rattle.registers.specs.Bits.{union}
use Rattle.registers.specs.Counting.{greatest_count}
use Rattle.adapter_model.specs.State.{AdapterState}

-- The state after these causes are recorded, whether they are in the mask or not (13.4.17 "Interrupt Cause Read Register").
abbrev pub with_causes : ℕ → AdapterState → AdapterState
with_causes causes state = record state { causes = record state.causes { recorded = union state.causes.recorded causes } }

-- The count plus 1, but at most the greatest value of a counter.
abbrev pub one_more : ℕ → ℕ
one_more count = min (count + 1) greatest_count
