-- The generator of a run, step by step.
use Rattle.std.proofs.Common.{◌≡◌, ◌∙◌, ◌*◌, ◌/◌, ◌%◌, ◌^◌, ℕ, ap}
use Rattle.rand_core.specs.Pcg32Seed.{pcg32_seed}
use Rattle.rand_core.specs.Steps.{u64_via_u32}
use Rattle.rand_pcg.specs.Lcg.{Lcg, advance, increment_of, started}
use Rattle.rand_pcg.specs.Pcg.{multiplier_64, pcg32, pcg32_of_seed}
use Rattle.search.specs.Generators.{generator_of, words_of}
use Rattle.search.specs.declared.generator.Generator.{Generator}

-- the generator whose state and stream are the next words of another one
abbrev made_by : ℕ × Lcg → Generator
made_by first =
    words_of (started 64 multiplier_64 first.0 (increment_of 64 (u64_via_u32 pcg32 first.1).0))

pub made : (seed number state stream a b : ℕ) (seeded moved rest last own : Lcg)
    → seeded ≡ pcg32_of_seed (pcg32_seed 16 seed) → moved ≡ advance 64 multiplier_64 (number * 4 % 2 ^ 64) seeded
    → (state, rest) ≡ u64_via_u32 pcg32 moved → (stream, last) ≡ u64_via_u32 pcg32 rest
    → own ≡ started 64 multiplier_64 state (increment_of 64 stream) → a ≡ own.state → b ≡ own.increment / 2
    → record { state = a; stream = b } ≡ generator_of seed number
made seed number state stream a b seeded moved rest last own is_seeded is_moved first second is_own is_a is_b =
    let one : record { state = a; stream = b } ≡ record { state = own.state; stream = b } =
    ap (λ n. record { state = n; stream = b }) is_a in
    let two : record { state = own.state; stream = b } ≡ words_of own =
    ap (λ n. record { state = own.state; stream = n }) is_b in
    one ∙ two ∙ ap words_of is_own
    ∙ ap (λ n. words_of (started 64 multiplier_64 state (increment_of 64 n))) (ap (λ (p : ℕ × Lcg). p.0) second)
    ∙ ap made_by first
    ∙ ap (λ g. made_by (u64_via_u32 pcg32 g)) is_moved
    ∙ ap (λ g. made_by (u64_via_u32 pcg32 (advance 64 multiplier_64 (number * 4 % 2 ^ 64) g))) is_seeded
