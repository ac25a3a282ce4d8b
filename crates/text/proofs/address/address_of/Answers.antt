use borrow.Author.Count.{below_more}
use Rattle.std.proofs.Common.{◌≡◌, ◌≢◌, ◌+◌, ◌*◌, ◌<◌, ℕ, List, length, slice_index, slice_set, subst, sym, arith, rules}
use Rattle.std.proofs.lemmas.List.{length-set, get_or-set_same, get_or-set_other}
use Rattle.text.specs.Addresses.{SpellsByte}
use Rattle.text.proofs.address.address_of.Goals as goal
use Rattle.text.proofs.address.address_of.Goals.{else-k-lt-ADDRESS_BYTES-via-then-k-lt-ADDRESS_BYTES+else-text-k-ne58}
use Rattle.text.proofs.address.address_of.Goals.{else-k-lt-ADDRESS_BYTES-via-else-k-lt-ADDRESS_BYTES}

-- If the first `k` bytes of the address are read, and byte `k` is then stored, the first `k + 1` bytes are read.
pairs_more : (text address : List ℕ) (k byte : ℕ) → k < length address
    → ((j : ℕ) → j < k → SpellsByte (slice_index text (3 * j)) (slice_index text (3 * j + 1)) (slice_index address j))
    → SpellsByte (slice_index text (3 * k)) (slice_index text (3 * k + 1)) byte
    → (j : ℕ) → j < k + 1 → SpellsByte (slice_index text (3 * j)) (slice_index text (3 * j + 1)) (slice_index (slice_set address k byte) j)
pairs_more text address k byte room before here =
    below_more (λ j. SpellsByte (slice_index text (3 * j)) (slice_index text (3 * j + 1)) (slice_index (slice_set address k byte) j)) k
    (λ j below. let other : j ≢ k = omega arith in
    subst (λ (b : ℕ). SpellsByte (slice_index text (3 * j)) (slice_index text (3 * j + 1)) b)
    (sym (get_or-set_other address k j byte 0 other)) (before j below))
    (subst (λ (b : ℕ). SpellsByte (slice_index text (3 * k)) (slice_index text (3 * k + 1)) b)
    (sym (get_or-set_same address k byte 0 room)) here)

pub loop-k-preserved : goal.loop-k-preserved
loop-k-preserved c =
    let room : c.loop-k.k < length c.loop-k.address = omega arith in
    record {
      sized = simp length-set (c.loop-k.invariant.sized);
      pairs = pairs_more c.args.text.now c.loop-k.address c.loop-k.k c.in_ok-address.field-0 room c.loop-k.invariant.pairs (search rules);
      colons = below_more (λ j. j < 5 → slice_index c.args.text.now (3 * j + 2) ≡ 58) c.loop-k.k c.loop-k.invariant.colons
          (λ below. elim c.else-k-lt-ADDRESS_BYTES.branch [
            | else-k-lt-ADDRESS_BYTES-via-then-k-lt-ADDRESS_BYTES+else-text-k-ne58 w ↦ search rules
            | else-k-lt-ADDRESS_BYTES-via-else-k-lt-ADDRESS_BYTES w ↦ absurd (omega arith)
          ]);
    }

pub returns-clause-spelled : goal.returns-clause-spelled
returns-clause-spelled c = record {
  characters = omega arith;
  bytes = c.loop-k.invariant.sized;
  pairs = λ k below. c.loop-k.invariant.pairs k (omega arith);
  colons = λ k below. c.loop-k.invariant.colons k (omega arith) below;
}
