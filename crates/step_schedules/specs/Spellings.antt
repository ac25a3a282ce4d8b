-- The numbers and places that words spell (our choice).
use Rattle.std.specs.Prelude.{◌&&◌, ◌==◌, ℕ, Bool, Option, Some, None, if◌then◌else◌, length, nat_lt}
use Rattle.std.specs.List.{after_first, before_first, position_or_len}
use Rattle.std.specs.Option.{option_and_then}
use Rattle.text.specs.Numbers.{number_in}
use Rattle.step_schedules.specs.Words.{Text}
use Rattle.step_schedules.specs.declared.deviation.Place.{Place}

-- the number that a text of one to nine decimal digits spells, or no number if the text is anything else
abbrev pub digits_in : Text → Option ℕ
digits_in text = if nat_lt 9 (length text) then None else number_in 10 32 text

-- whether a byte is a dot
abbrev pub is_dot : ℕ → Bool
is_dot byte = byte == 0x2E

-- the place with these numbers of a round and of an access; 0.0 isn't a place, because no request begins round 0
abbrev pub place_of_numbers : ℕ → ℕ → Option Place
place_of_numbers round access =
    if round == 0 && access == 0 then None else Some (record { round = round; access = access })

-- the place that a word spells: the numbers of a round and of an access, joined by a dot; no place for other words
abbrev pub place_spelled : Text → Option Place
place_spelled word =
    if nat_lt (position_or_len is_dot word) (length word) then
    option_and_then (λ round. option_and_then (place_of_numbers round) (digits_in (after_first is_dot word)))
    (digits_in (before_first is_dot word))
    else None
