-- The generator of a run, by PCG of the crate `rand_pcg`.
use Rattle.std.specs.Prelude.{ℕ, ◌*◌, ◌/◌, ◌%◌, ◌^◌}
use Rattle.rand_core.specs.Pcg32Seed.{pcg32_seed}
use Rattle.rand_core.specs.Steps.{u64_via_u32}
use Rattle.rand_pcg.specs.Lcg.{Lcg, advance, increment_of, started}
use Rattle.rand_pcg.specs.Pcg.{multiplier_64, pcg32, pcg32_of_seed}
use Rattle.search.specs.declared.generator.Generator.{Generator}

-- a generator of `rand_pcg`, and its two words
abbrev pub lcg_of : Generator → Lcg
lcg_of generator = record { state = generator.state; increment = increment_of 64 generator.stream }

abbrev pub words_of : Lcg → Generator
words_of lcg = record { state = lcg.state; stream = lcg.increment / 2 }

-- The generator of a run: state and stream are the words from `4 * number` on of the seed's generator, two for each.
abbrev pub generator_of : ℕ → ℕ → Generator
generator_of seed number =
    let runs = advance 64 multiplier_64 (number * 4 % 2 ^ 64) (pcg32_of_seed (pcg32_seed 16 seed)) in
    let state = u64_via_u32 pcg32 runs in
    let stream = u64_via_u32 pcg32 state.1 in
    words_of (started 64 multiplier_64 state.0 (increment_of 64 stream.0))

-- the next word of a generator, and the generator after it
abbrev pub word_of : Generator → ℕ
word_of generator = (pcg32 (lcg_of generator)).0

abbrev pub after_word : Generator → Generator
after_word generator = record generator { state = (pcg32 (lcg_of generator)).1.state }
