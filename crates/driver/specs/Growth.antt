-- Counts that saturate: their growth, no growth, and the growth of two consecutive intervals.
use Rattle.std.specs.Prelude.{◌≡◌, ◌≤◌, ◌<◌, ◌-◌, ◌^◌}
use Rattle.std.proofs.Common.{◌+◌, ℕ, arith}

-- The driver's count of bad runs and a host's count of unclaimed frames have 64 bits, so they are below this number (our choice).
abbrev pub count_limit : ℕ
count_limit = 2 ^ 64

-- A count grew from `before` to `after`: by `more`, or by at most `more` if `after` is the greatest u64.
pub record GrowsBy (before after more : ℕ) : Type 0 where
  -- the count didn't decrease
  pub least : before ≤ after
  -- the count grew by at most `more`
  pub most : after ≤ before + more
  -- if `after` is below the greatest u64, the count grew by exactly `more`
  pub exactly : after < count_limit - 1 → after ≡ before + more

pub grows-none : (a : ℕ) → GrowsBy a a 0
grows-none a = record { least = omega arith; most = omega arith; exactly = λ below. omega arith }

pub grows-join : (a b c m n : ℕ) → GrowsBy a b m → GrowsBy b c n → GrowsBy a c (m + n)
grows-join a b c m n one two = record {
  least = omega (arith, one.least, two.least);
  most = omega (arith, one.most, two.most);
  exactly = λ below.
      let later = two.exactly below in
      let before = one.exactly (omega (arith, two.least, below)) in
      omega (arith, before, later);
}
