-- A pool of receive buffers in contracts (our choice).
use Rattle.std.specs.Prelude.{ℕ, List}

-- A pool's number of buffers, and the numbers in it.
pub record Numbers : Type 0 where
  -- The number of receive buffers. Each number in the pool is below this number.
  pub buffers : ℕ
  -- The numbers that are in the pool.
  pub free : List ℕ
