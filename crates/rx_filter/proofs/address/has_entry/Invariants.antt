use Rattle.std.proofs.Common.{◌<◌, ℕ, slice_index}
use Rattle.rx_filter.specs.Registers.{HoldsAddress}
use Rattle.rx_filter.proofs.address.has_entry.Given as goal

abbrev pub invariant-loop-n : goal.invariant-loop-n
invariant-loop-n l = (k : ℕ) → k < l.n → ¬ (HoldsAddress (slice_index l.ral k) (slice_index l.rah k) l.address)
