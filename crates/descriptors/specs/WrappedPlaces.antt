-- Places that wrap (our choice).
use Rattle.std.specs.Prelude.{◌-◌, ℕ, nat_lt, if◌then◌else◌}

-- The index of a place after at most one wrap: the number itself if it is below the capacity, else the number minus the capacity.
abbrev pub wrapped : ℕ → ℕ → ℕ
wrapped capacity place = if nat_lt place capacity then place else place - capacity
