-- The choices that the 32-bit words of a generator determine (our choice; the words are those of rand_pcg's Lcg64Xsh32).
use Rattle.std.specs.Prelude.{◌==◌, ◌+◌, ◌%◌, ◌||◌, ℕ, if◌then◌else◌, nat_lt}
use Rattle.rand_pcg.specs.Lcg.{Lcg}
use Rattle.rand_pcg.specs.Pcg.{pcg32}
use Rattle.adapter.specs.model_types.step.StepKind.{StepKind}
use Rattle.played_adapter.specs.Kinds.{kind_numbered}

-- the kind of steps that the generator's next word determines, and the generator after this word
abbrev pub drawn_kind : Lcg → StepKind × Lcg
drawn_kind generator = let word = pcg32 generator in (kind_numbered (word.0 % 6), word.1)

-- The number of steps and arrivals before an access, at most `most`, and the generator afterwards. If `most` is 0, no word is used.
abbrev pub drawn_count : (most : ℕ) → Lcg → ℕ × Lcg
drawn_count most generator =
    if most == 0 then (0, generator) else (let word = pcg32 generator in (word.0 % (most + 1), word.1))

-- The chosen number, and the generator after the choice. If neither `most` nor `limit` is 0, the next word determines a number below
-- `limit`. Otherwise no word is used, and the number is `wanted` if `wanted` is below `limit`, or else 0.
abbrev pub chosen_below : (most limit wanted : ℕ) → Lcg → ℕ × Lcg
chosen_below most limit wanted generator =
    if most == 0 || limit == 0 then (if nat_lt wanted limit then wanted else 0, generator)
    else (let word = pcg32 generator in (word.0 % limit, word.1))
