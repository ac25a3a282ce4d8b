use Rattle.std.proofs.Common.{◌≡◌, ◌+◌, ◌*◌, ◌<◌, ℕ, length, slice_index}
use Rattle.text.specs.Addresses.{SpellsByte}
use Rattle.text.proofs.address.address_of.Given as goal

-- The first `k` pairs are read into `address`, and each colon that follows one of these pairs is in its place.
abbrev pub invariant-loop-k : goal.invariant-loop-k
invariant-loop-k l = record {
  sized : length l.address ≡ 6;
  pairs : (j : ℕ) → j < l.k → SpellsByte (slice_index l.text-2 (3 * j)) (slice_index l.text-2 (3 * j + 1)) (slice_index l.address j);
  colons : (j : ℕ) → j < l.k → j < 5 → slice_index l.text-2 (3 * j + 2) ≡ 58;
}
