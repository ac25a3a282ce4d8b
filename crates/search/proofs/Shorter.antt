-- A schedule that is tried is shorter, or has a lower answer.
use Rattle.std.proofs.Common.{◌≡◌, ◌+◌, ◌-◌, ◌<◌, ◌≤◌, ◌++◌, ◌∷◌, [], ◌⊎◌, ℕ, List, ap, arith, drop, inl, inr, length}
use Rattle.std.specs.Prelude.{slice_range}
use Rattle.std.proofs.lemmas.List.{length-append, length-drop, length-take-le}
use Rattle.search.specs.Shrinking.{HasJoined, HasLowerAnswer, LacksRun, SmallerIsShorter, deviation_at, with_action}
use Rattle.search.specs.declared.actions.Action.{Action}
use Rattle.search.specs.declared.deviations.Deviation.{Deviation}

length-range : (xs : List Deviation) (from to : ℕ) → from ≤ to → to ≤ length xs
    → length (slice_range xs from to) ≡ to - from
length-range xs from to order within =
    length-take-le (to - from) (drop from xs) (omega (arith, length-drop from xs, order, within))

length-two : (one two : List Deviation) → length (one ++ two) ≡ length one + length two
length-two one two = length-append one two

lacks : (kept tried : List Deviation) → LacksRun kept tried → length tried < length kept
lacks kept tried is =
    omega (
      arith,
      ap length is.is,
      length-two (slice_range kept 0 is.at) (slice_range kept is.end (length kept)),
      length-range kept 0 is.at (omega arith) (omega (arith, is.some, is.within)),
      length-range kept is.end (length kept) is.within (omega arith),
      is.some,
      is.within,
    )

lower : (actions : List Action) (kept tried : List Deviation) → HasLowerAnswer actions kept tried
    → length tried ≡ length kept
lower actions kept tried is =
    let front : List Deviation = slice_range kept 0 is.at in
    let one : List Deviation = with_action (deviation_at kept is.at) is.action ∷ [] in
    let back : List Deviation = slice_range kept (is.at + 1) (length kept) in
    omega (
      arith,
      ap length is.is,
      length-two (front ++ one) back,
      length-two front one,
      length-range kept 0 is.at (omega arith) (omega (arith, is.within)),
      length-range kept (is.at + 1) (length kept) (omega (arith, is.within)) (omega arith),
      is.within,
    )

joined-by : (kept tried : List Deviation) (first second : ℕ) (one : Deviation) → first < second → second < length kept
    → (tried ≡ slice_range kept 0 first ++ one ∷ [] ++ slice_range kept (first + 1) second
    ++ slice_range kept (second + 1) (length kept))
    ⊎ (tried ≡ slice_range kept 0 first ++ slice_range kept (first + 1) second ++ one ∷ []
    ++ slice_range kept (second + 1) (length kept))
    → length tried < length kept
joined-by kept tried first second one order within (inl is) =
    let front : List Deviation = slice_range kept 0 first in
    let middle : List Deviation = slice_range kept (first + 1) second in
    let back : List Deviation = slice_range kept (second + 1) (length kept) in
    omega (
      arith,
      ap length is,
      length-two (front ++ one ∷ [] ++ middle) back,
      length-two (front ++ one ∷ []) middle,
      length-two front (one ∷ []),
      length-range kept 0 first (omega arith) (omega (arith, order, within)),
      length-range kept (first + 1) second (omega (arith, order)) (omega (arith, within)),
      length-range kept (second + 1) (length kept) (omega (arith, within)) (omega arith),
      order,
      within,
    )
joined-by kept tried first second one order within (inr is) =
    let front : List Deviation = slice_range kept 0 first in
    let middle : List Deviation = slice_range kept (first + 1) second in
    let back : List Deviation = slice_range kept (second + 1) (length kept) in
    omega (
      arith,
      ap length is,
      length-two (front ++ middle ++ one ∷ []) back,
      length-two (front ++ middle) (one ∷ []),
      length-two front middle,
      length-range kept 0 first (omega arith) (omega (arith, order, within)),
      length-range kept (first + 1) second (omega (arith, order)) (omega (arith, within)),
      length-range kept (second + 1) (length kept) (omega (arith, within)) (omega arith),
      order,
      within,
    )

-- the deviations are different in the two forms
joined_of : (actions : List Action) (kept tried : List Deviation) (is : HasJoined actions kept tried)
    → (tried ≡ slice_range kept 0 is.first ++ with_action (deviation_at kept is.first) is.pair ∷ []
    ++ slice_range kept (is.first + 1) is.second ++ slice_range kept (is.second + 1) (length kept))
    ⊎ (tried ≡ slice_range kept 0 is.first ++ slice_range kept (is.first + 1) is.second
    ++ with_action (deviation_at kept is.second) is.pair ∷ [] ++ slice_range kept (is.second + 1) (length kept))
    → length tried < length kept
joined_of actions kept tried is (inl early) =
    joined-by kept tried is.first is.second (with_action (deviation_at kept is.first) is.pair) is.order is.within (inl early)
joined_of actions kept tried is (inr late) =
    joined-by kept tried is.first is.second (with_action (deviation_at kept is.second) is.pair) is.order is.within (inr late)

pub smaller_is_shorter : SmallerIsShorter
smaller_is_shorter actions kept tried (inl is) = inl (lacks kept tried is)
smaller_is_shorter actions kept tried (inr (inl is)) = inr (lower actions kept tried is, is)
smaller_is_shorter actions kept tried (inr (inr is)) = inl (joined_of actions kept tried is is.is)
