-- Texts that are appended to a text, one after another.
use Rattle.std.proofs.Common.{◌≡◌, ◌++◌, Err, List, Ok, OnOk, Result, ap, append_assoc, if◌then◌else◌, ◌∙◌}
use Rattle.std.specs.Result.{is_ok}

pub also : {X : Type 0} (text one rest middle all : List X) → middle ≡ text ++ one → all ≡ middle ++ rest → all ≡ text ++ (one ++ rest)
also {X} text one rest middle all first second = second ∙ ap (λ (list : List X). list ++ rest) first ∙ append_assoc text one rest

-- the same for a call that may fail, and then appends nothing
pub appended : {X T E : Type 0} (result : Result T E) (text one rest middle added all : List X) → middle ≡ text ++ one → added ≡ rest
    → all ≡ (if is_ok result then middle ++ added else middle) → OnOk result (all ≡ text ++ (one ++ rest))
appended {X} (Ok value) text one rest middle added all first is second =
    also text one rest middle all first (second ∙ ap (λ (list : List X). middle ++ list) is)
appended (Err error) text one rest middle added all first is second = tt
