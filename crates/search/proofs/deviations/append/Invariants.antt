use Rattle.std.proofs.Common.{◌≡◌, ◌+◌, ◌++◌, take}
use Rattle.std.specs.Prelude.{slice_range}
use Rattle.search.proofs.deviations.append.Given as goal

abbrev pub invariant-loop-n : goal.invariant-loop-n
invariant-loop-n l =
    take (l.count + l.n) l.into ≡ take l.count l.initial.into ++ slice_range l.kept l.from (l.from + l.n)
