-- Results of functions that read a line.
use Rattle.std.specs.Prelude.{⊤, ◌≡◌, ℕ, Result, Ok, Err}
use Rattle.step_schedules.specs.declared.schedule_error.Fault.{Fault as LineFault}
use Rattle.step_schedules.specs.declared.schedule_error.ScheduleError.{ScheduleError}
use Rattle.step_schedules.specs.declared.schedule_error.ScheduleError.TheVariants as errors
use Rattle.step_schedules.specs.declared.schedule_error.Stop.{Stop}
use Rattle.step_schedules.specs.declared.schedule_error.Stop.TheVariants.{Fault, Memory}

-- Reading a line stopped because memory was refused, or because of a fault; in the second case, `read` is the same fault.
abbrev pub FailsLine : {A : Type 0} → Stop → Result A LineFault → Type 0
FailsLine Memory read = ⊤
FailsLine (Fault fault) read = read ≡ Err fault

-- The view of the first result's value is the second result's value; or both results have the same fault; or memory was refused.
abbrev pub GivesView : {A B : Type 0} → (A → B) → Result A Stop → Result B LineFault → Type 0
GivesView view (Ok value) read = read ≡ Ok (view value)
GivesView view (Err stop) read = FailsLine stop read

-- the result of the next function, if the first result is Ok; else the first fault
infixl 10 ◌>>=◌
abbrev pub ◌>>=◌ : {A B : Type 0} → Result A LineFault → (A → Result B LineFault) → Result B LineFault
(Ok value) >>= next = next value
(Err fault) >>= next = Err fault

-- the error of a text in which the line with this number can't be read
abbrev pub error_at : ℕ → Stop → ScheduleError
error_at line (Fault fault) = errors.Line line fault
error_at line Memory = errors.Memory
