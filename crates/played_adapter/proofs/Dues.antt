-- The moves of default steps, and of actions that are due.
use Rattle.std.proofs.Common.{◌≡◌, ◌∙◌, ◌++◌, ◌∷◌, [], Bool, List, None, Option, Some, ap, append-nil, false, flat_map, if◌then◌else◌}
use Rattle.std.proofs.Common.{refl, sym, true}
use Rattle.std.specs.Bool.{then_some}
use Rattle.std.proofs.lemmas.Grind.{flat_map-append}
use Rattle.step_schedules.proofs.Due.{with_next}
use Rattle.step_schedules.specs.declared.deviation.Action.{Action}
use Rattle.played_adapter.specs.Moves.{listed, moves_of, moves_of_next}
use Rattle.played_adapter.specs.declared.choices.Move.{Move}

pub moves_next : (actions : List Action) (next : Option Action)
    → flat_map moves_of (with_next actions next) ≡ flat_map moves_of actions ++ moves_of_next next
moves_next actions None = sym (append-nil (flat_map moves_of actions))
moves_next actions (Some action) =
    flat_map-append moves_of actions (action ∷ []) ∙ ap (λ (ms : List Move). flat_map moves_of actions ++ ms) (append-nil (moves_of action))

-- a list of the move if the step has work, else an empty list
abbrev pub if_works : (works : Bool) → Move → List Move
if_works works next = if works then next ∷ [] else []

listed_works : (works : Bool) (next : Move) → listed (then_some works next) ≡ if_works works next
listed_works true next = refl
listed_works false next = refl

pub listed_if : (works is : Bool) (move next : Move) (made : Option Move) → made ≡ then_some works move → works ≡ is → move ≡ next
    → listed made ≡ if_works is next
listed_if works is move next made made_is same moved =
    ap listed made_is ∙ ap (λ (w : Bool). listed (then_some w move)) same ∙ ap (λ (m : Move). listed (then_some is m)) moved
    ∙ listed_works is next
