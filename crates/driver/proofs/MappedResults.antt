-- A fact about one side of a result, from another fact about this side.
use Rattle.std.specs.Prelude.{Err, Ok, Result}
use Rattle.std.specs.Result.{OnErr, OnOk}

pub on_err-map : {T E A B : Type 0} (result : Result T E) → (A → B) → OnErr result A → OnErr result B
on_err-map (Ok x) f holds = holds
on_err-map (Err error) f holds = f holds

pub on_ok-map : {T E A B : Type 0} (result : Result T E) → (A → B) → OnOk result A → OnOk result B
on_ok-map (Ok x) f holds = f holds
on_ok-map (Err error) f holds = holds
