-- The number of accesses that a call made before each of its ticks (our choice).
use Rattle.std.specs.Prelude.{◌+◌, ℕ, List, [], ◌∷◌, map, min}
use Rattle.stations.specs.declared.outcomes.Numbered.{Numbered}
use Rattle.stations.specs.declared.tick.Tick.{Tick}
use Rattle.stations.specs.declared.tick.Tick.TheVariants.{Deliver, Go, Step}

-- The number of accesses before each tick that isn't Go, in a call of n accesses. Each number is i plus the number of Gos before the tick,
-- but at most n.
abbrev pub numbers : List Tick → (i n : ℕ) → List ℕ
numbers [] i n = []
numbers (Go ∷ ticks) i n = numbers ticks (i + 1) n
numbers (Step host kind ∷ ticks) i n = min i n ∷ numbers ticks i n
numbers (Deliver host ∷ ticks) i n = min i n ∷ numbers ticks i n

-- The number of accesses before each outcome.
abbrev pub noted_numbers : List Numbered → List ℕ
noted_numbers outcomes = map (λ (one : Numbered). one.accesses) outcomes
