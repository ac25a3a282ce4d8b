-- The frame of an outcome doesn't change the outcome's number.
use Rattle.std.proofs.Common.{◌≡◌, ℕ, List, refl}
use Rattle.adapter.specs.Outcomes.{with_frame}
use Rattle.adapter.specs.model_types.outcome.Outcome.{Outcome}
use Rattle.adapter.specs.model_types.outcome.Outcome.TheVariants.{Took, Put, WireFull, Part, Moved, Done, Delivered, Ticked, Nothing, Fault}
use Rattle.nic82540em.specs.Numbers.{outcome_number}

pub framed_number : (frame : List ℕ) (outcome : Outcome (Unit {0})) → outcome_number (with_frame frame outcome) ≡ outcome_number outcome
framed_number frame Nothing = refl
framed_number frame Took = refl
framed_number frame (Put unit) = refl
framed_number frame WireFull = refl
framed_number frame Part = refl
framed_number frame Moved = refl
framed_number frame Done = refl
framed_number frame Ticked = refl
framed_number frame Fault = refl
framed_number frame (Delivered unit fate) = refl
