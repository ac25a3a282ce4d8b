-- `SumsMisses` for two consecutive intervals together, and for an interval with the same number of missed frames.
use Rattle.std.proofs.Common.{◌≡◌, ◌≤◌, ◌<◌, ◌^◌, ◌+◌, ⊎_elim, arith}
use Rattle.std.proofs.lemmas.Bool.{cases_lt}
use Rattle.adapter.specs.Pasts.{Past, joined}
use Rattle.adapter.specs.Calls.{DriverInWorld, SumsMisses}

pub sums-join : (a b c : DriverInWorld) (first later : Past) → SumsMisses a b first → SumsMisses b c later
    → SumsMisses a c (joined first later)
sums-join a b c first later one two = record {
  sum = omega (arith, one.sum, two.sum);
  counted = λ fits low.
      let before = one.counted (omega (arith, fits)) (omega (arith, low)) in
      let behind = two.counted (omega (arith, before, one.sum, fits)) (omega (arith, before, low)) in
      omega (arith, before, behind);
  sticks = λ fits much.
      let behind = two.sticks (omega (arith, one.at_most, one.sum, fits)) in
      ⊎_elim
      (λ (low : a.driver.missed + a.world.adapter.missed_packets + first.missed < 2 ^ 64).
      let before = one.counted (omega (arith, fits)) low in
      behind (omega (arith, before, much)))
      (λ (high : 2 ^ 64 ≤ a.driver.missed + a.world.adapter.missed_packets + first.missed).
      let before = one.sticks (omega (arith, fits)) (omega (arith, high)) in
      behind (omega (arith, before)))
      (cases_lt (a.driver.missed + a.world.adapter.missed_packets + first.missed) (2 ^ 64));
  at_most = omega (arith, one.at_most, two.at_most);
  exactly = λ exact below_greatest.
      let behind = two.exactly exact below_greatest in
      let before = one.exactly behind.exact behind.below_greatest in
      record { exact = before.exact; below_greatest = before.below_greatest; sum = omega (arith, before.sum, behind.sum) };
  stays_exact = λ exact below low.
      let before = one.stays_exact exact (omega (arith, below)) (omega (arith, low)) in
      two.stays_exact before (omega (arith, one.at_most, one.sum, below)) (omega (arith, one.at_most, low));
  small = λ was. two.small (one.small was);
}

pub sums-as : (a b : DriverInWorld) (past other : Past) → other.missed ≡ past.missed → SumsMisses a b past → SumsMisses a b other
sums-as a b past other same sums = record {
  sum = sums.sum;
  counted = λ fits low. let is = sums.counted (omega (arith, fits, same)) (omega (arith, low, same)) in omega (arith, is, same);
  sticks = λ fits much. sums.sticks (omega (arith, fits, same)) (omega (arith, much, same));
  at_most = omega (arith, sums.at_most, same);
  exactly = λ exact below.
      let is = sums.exactly exact below in
      record { exact = is.exact; below_greatest = is.below_greatest; sum = omega (arith, is.sum, same) };
  stays_exact = λ exact below low. sums.stays_exact exact (omega (arith, below, same)) (omega (arith, low, same));
  small = sums.small;
}
