-- How a pool stores its numbers (our choice): a vector with room for all numbers contains the numbers that are in the pool.
use Rattle.std.specs.Prelude.{◌≤◌, ◌<◌, ◌^◌, vec_capacity}
use Rattle.dma_memory.specs.Owners.{HasNoSecondOwner}
use Rattle.dma_memory.specs.Numbers.{Numbers}
use Rattle.dma_memory.specs.declared.pool.Pool.TheInside.{Inside}

-- The plain data of a pool with these fields.
abbrev pub numbers_of : Inside → Numbers
numbers_of pool = record { buffers = pool.buffers; free = pool.free.items }

-- The invariant of the fields of a pool.
pub record IsPool (pool : Inside) : Type 0 where
  -- Each number below the number of buffers is in the pool at most once, and no other number is in the pool.
  pub once : HasNoSecondOwner pool.buffers pool.free.items
  -- The vector has room for all numbers, so it never grows.
  pub room : pool.buffers ≤ vec_capacity pool.free
  -- The number of buffers is below 65,536.
  pub most : pool.buffers < 2 ^ 16
