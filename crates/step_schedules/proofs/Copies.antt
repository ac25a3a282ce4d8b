-- Copies of lists.
use Rattle.std.proofs.Common.{◌≡◌, List, [], ◌∷◌, map, refl}
use Rattle.std.specs.List.{AllZip}
use Rattle.step_schedules.specs.Waiting.{waiting_value}
use Rattle.step_schedules.specs.declared.waiting.Waiting.{Waiting}
use Rattle.step_schedules.specs.Deviations.{deviation_value}
use Rattle.step_schedules.specs.declared.deviation.Deviation.{Deviation}

same_views : {X Y : Type 0} (view : X → Y) (xs ys : List X) → AllZip (λ x y. view y ≡ view x) xs ys
    → map view ys ≡ map view xs
same_views view [] [] all = refl
same_views view [] (y ∷ ys) all = absurd all
same_views view (x ∷ xs) [] all = absurd all
same_views view (x ∷ xs) (y ∷ ys) all =
    let first = all.0 in
    let rest = same_views view xs ys all.1 in
    cc

pub copied_deviations : (xs ys : List Deviation) → AllZip (λ x y. deviation_value y ≡ deviation_value x) xs ys
    → map deviation_value ys ≡ map deviation_value xs
copied_deviations = same_views deviation_value

pub copied_waiting : (xs ys : List Waiting) → AllZip (λ x y. waiting_value y ≡ waiting_value x) xs ys
    → map waiting_value ys ≡ map waiting_value xs
copied_waiting = same_views waiting_value
