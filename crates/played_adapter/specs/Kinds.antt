-- The kinds of steps by number. The words of the generator and the callers of the C library choose kinds by these numbers (our choice).
use Rattle.std.specs.Prelude.{◌==◌, ℕ, if◌then◌else◌}
use Rattle.adapter.specs.model_types.step.StepKind.{StepKind}
use Rattle.adapter.specs.model_types.step.StepKind.TheVariants.{TxTake, TxPut, RxData, RxDone, EepromTick, PhyTick}

-- the kind with this number; PhyTick for 5 and above
abbrev pub kind_numbered : ℕ → StepKind
kind_numbered number =
    if number == 0 then TxTake else if number == 1 then TxPut else if number == 2 then RxData else if number == 3 then RxDone
    else if number == 4 then EepromTick
    else PhyTick
