-- The words of `serve` that are options of the adapter (our choice).
use Rattle.std.specs.Prelude.{◌==◌, ◌&&◌, ◌||◌, ◌++◌, ◌∷◌, [], ℕ, Bool, false, List, codes, drop, if◌then◌else◌, length, nat_lt, not}
use Rattle.std.specs.List.{before_first, position_or_len}
use Rattle.std.specs.Str.{bytes_eq}
use Rattle.clap.specs.Words.{Text}

-- whether a word is one of the options of `serve` that aren't options of the adapter; then the next word is the option's value
abbrev pub is_run_option : Text → Bool
is_run_option word = bytes_eq word (codes "--schedule") || bytes_eq word (codes "--record") || bytes_eq word (codes "--seed")

-- whether a byte is `=`
abbrev pub is_equals_sign : ℕ → Bool
is_equals_sign byte = byte == 0x3D

-- whether a word contains both an option and its value, joined by `=`, and the option satisfies `is_run_option`
abbrev pub has_run_option : Text → Bool
has_run_option word =
    if nat_lt (position_or_len is_equals_sign word) (length word) then is_run_option (before_first is_equals_sign word) else false

-- A list of the word. The list is empty if the word is or contains an option that isn't one of the adapter, or is the value of such an
-- option.
abbrev pub option_in : (is_value : Bool) → Text → List Text
option_in is_value word =
    if not is_value && not (is_run_option word) && not (has_run_option word) then word ∷ [] else []

-- The words that are options of the adapter or their values. `is_value` is whether the first word is the value of an option that isn't one
-- of the adapter.
abbrev pub options_in : (is_value : Bool) → List Text → List Text
options_in is_value [] = []
options_in is_value (word ∷ rest) = option_in is_value word ++ options_in (not is_value && is_run_option word) rest

-- The options of the adapter, with their values, among the words of the program. The first two words are the program's name and `serve`.
abbrev pub adapter_options : List Text → List Text
adapter_options words = options_in false (drop 2 words)
