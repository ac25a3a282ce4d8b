-- The schedules that are tried in place of a failing one.
use Rattle.std.specs.Prelude.{◌≡◌, ◌<◌, ◌≤◌, ◌+◌, ◌-◌, ◌*◌, ◌^◌, ◌++◌, ◌∷◌}
use Rattle.std.specs.Prelude.{[], ◌⊎◌, ℕ, List, true, ◌==◌, if◌then◌else◌, length, slice_index_or, slice_range}
use Rattle.search.specs.Actions.{is_of_kind}
use Rattle.search.specs.Options.{IsPairOf}
use Rattle.search.specs.declared.actions.Action.{Action}
use Rattle.search.specs.declared.deviations.Deviation.{Deviation}
use Rattle.search.specs.declared.shrinking.Shrink.{Shrink}

-- the deviation at an index of a schedule
abbrev pub deviation_at : List Deviation → ℕ → Deviation
deviation_at kept at = slice_index_or kept at (record { round = 0; access = 0; sub = 0; action = 0 })

-- the same place with another action
abbrev pub with_action : Deviation → ℕ → Deviation
with_action deviation action = record deviation { action = action }

-- A schedule lacks a run of neighbors: those from `at` up to `end`.
pub record LacksRun (kept tried : List Deviation) : Type 0 where
  pub at : ℕ
  pub end : ℕ
  pub some : at < end
  pub within : end ≤ length kept
  pub is : tried ≡ slice_range kept 0 at ++ slice_range kept end (length kept)

-- Two actions are answers, and the second is lower.
pub record IsLower (actions : List Action) (number lower : ℕ) : Type 0 where
  pub less : lower < number
  pub was_answer : is_of_kind actions 3 number ≡ true
  pub is_answer : is_of_kind actions 3 lower ≡ true

-- An answer of a schedule is lower.
pub record HasLowerAnswer (actions : List Action) (kept tried : List Deviation) : Type 0 where
  pub at : ℕ
  pub action : ℕ
  pub within : at < length kept
  pub lower : IsLower actions (deviation_at kept at).action action
  pub is : tried
      ≡ slice_range kept 0 at ++ with_action (deviation_at kept at) action ∷ [] ++ slice_range kept (at + 1) (length kept)

-- Two deviations of a schedule are joined to their pair, at the place of the first one or of the second one.
pub record HasJoined (actions : List Action) (kept tried : List Deviation) : Type 0 where
  pub first : ℕ
  pub second : ℕ
  pub pair : ℕ
  pub order : first < second
  pub within : second < length kept
  pub of : IsPairOf actions pair (deviation_at kept first).action (deviation_at kept second).action
  pub is : (tried
      ≡ slice_range kept 0 first ++ with_action (deviation_at kept first) pair ∷ [] ++ slice_range kept (first + 1) second
      ++ slice_range kept (second + 1) (length kept))
      ⊎ (tried
      ≡ slice_range kept 0 first ++ slice_range kept (first + 1) second ++ with_action (deviation_at kept second) pair ∷ []
      ++ slice_range kept (second + 1) (length kept))

-- A schedule that is tried in place of `kept`.
abbrev pub IsSmaller : List Action → List Deviation → List Deviation → Type 0
IsSmaller actions kept tried = LacksRun kept tried ⊎ (HasLowerAnswer actions kept tried ⊎ HasJoined actions kept tried)

-- Each schedule that is tried has fewer deviations, or as many, of which one is a lower answer.
abbrev pub SmallerIsShorter : Type 0
SmallerIsShorter =
    (actions : List Action) (kept tried : List Deviation) → IsSmaller actions kept tried
    → (length tried < length kept) ⊎ ((length tried ≡ length kept) × HasLowerAnswer actions kept tried)

-- How much is left to try, as long as no tried schedule fails. What comes first counts more.

-- the stages, from the last one on
abbrev pub stage_of : Shrink → ℕ
stage_of shrink =
    if shrink.phase == 1 then (if shrink.is_changed then 5 else 2)
    else if shrink.phase == 0 then (if shrink.is_changed then 4 else 3)
    else if shrink.phase == 2 then 1 else 0

abbrev pub left_to_try : Shrink → ℕ
left_to_try shrink =
    stage_of shrink * 2 ^ 133 + shrink.part * 2 ^ 68 + (2 ^ 64 - shrink.at) * 16 + (3 - shrink.step) * 2
    + (if shrink.is_asked then 0 else 1)
