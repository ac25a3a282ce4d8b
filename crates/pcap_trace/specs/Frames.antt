-- Frames in one buffer, one after the other.
use Rattle.std.specs.Prelude.{ℕ, List, [], ◌∷◌, take, drop}

-- The first bytes, cut into pieces of these lengths. A piece is shorter if too few bytes are left. (our choice)
abbrev pub cut_into : List ℕ → List ℕ → List (List ℕ)
cut_into [] bytes = []
cut_into (n ∷ ns) bytes = take n bytes ∷ cut_into ns (drop n bytes)
