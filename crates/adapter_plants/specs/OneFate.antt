-- A frame that arrives at an adapter in one state has one fate.
use Rattle.std.proofs.Common.{◌≡◌, ℕ, List, refl, arith}
use Rattle.adapter.specs.Receiving.{IsFate}
use Rattle.adapter.specs.State.{AdapterState}
use Rattle.rx_engine.specs.declared.arrival.Fate.{Fate}
use Rattle.rx_engine.specs.declared.arrival.Fate.TheVariants.{Off, Illegal, Filtered, Missed, Stored}

-- Two fates of the same frame at the same adapter are equal.
pub one_fate : (state : AdapterState) (frame : List ℕ) (a b : Fate) → IsFate state frame a → IsFate state frame b → a ≡ b
one_fate state frame Off Off p q = refl
one_fate state frame Off Illegal p q = absurd (p q.0)
one_fate state frame Off Filtered p q = absurd (p q.0)
one_fate state frame Off Missed p q = absurd (p q.0.enabled)
one_fate state frame Off Stored p q = absurd (p q.0.enabled)
one_fate state frame Illegal Off p q = absurd (q p.0)
one_fate state frame Illegal Illegal p q = refl
one_fate state frame Illegal Filtered p q = absurd (p.1 q.1)
one_fate state frame Illegal Missed p q = absurd (p.1 q.0.legal)
one_fate state frame Illegal Stored p q = absurd (p.1 q.0.legal)
one_fate state frame Filtered Off p q = absurd (q p.0)
one_fate state frame Filtered Illegal p q = absurd (q.1 p.1)
one_fate state frame Filtered Filtered p q = refl
one_fate state frame Filtered Missed p q = absurd (p.2 q.0.passes)
one_fate state frame Filtered Stored p q = absurd (p.2 q.0.passes)
one_fate state frame Missed Off p q = absurd (q p.0.enabled)
one_fate state frame Missed Illegal p q = absurd (q.1 p.0.legal)
one_fate state frame Missed Filtered p q = absurd (q.2 p.0.passes)
one_fate state frame Missed Missed p q = refl
one_fate state frame Missed Stored p q = absurd (omega (arith, p.1, q.1))
one_fate state frame Stored Off p q = absurd (q p.0.enabled)
one_fate state frame Stored Illegal p q = absurd (q.1 p.0.legal)
one_fate state frame Stored Filtered p q = absurd (q.2 p.0.passes)
one_fate state frame Stored Missed p q = absurd (omega (arith, p.1, q.1))
one_fate state frame Stored Stored p q = refl
