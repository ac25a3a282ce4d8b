-- What the value that an interrupt handler reads from ICR implies about the adapter and the steps before the read
-- (13.4.17 "Interrupt Cause Read Register"). That a handler is called over a lent bus is our choice.
use Rattle.std.specs.Prelude.{⊤, ◌≡◌, ◌≢◌, ◌⊎◌, ◌++◌, ◌∷◌, [], ℕ, Bool, true, false, List, All}
use Rattle.registers.specs.Bits.{Meet}
use Rattle.rx_engine.specs.declared.arrival.Fate.TheVariants.{Missed}
use Rattle.adapter.specs.model_types.offsets.TheConstants.{ICR}
use Rattle.adapter.specs.bus_types.event.Access.TheVariants.{Reads}
use Rattle.adapter.specs.bus_types.event.Event.{Event}
use Rattle.adapter.specs.bus_types.event.Event.TheVariants.{Accesses}
use Rattle.stations.specs.AtomicSteps.{At, AtomicStep, outcome_of_event}
use Rattle.adapter.specs.Outcomes.{FrameOutcome}
use Rattle.adapter.specs.Receiving.{is_ending}
use Rattle.adapter.specs.State.{AdapterState}
use Rattle.adapter.specs.model_types.outcome.Outcome.TheVariants.{Delivered, Done, Moved, Nothing, Part, Put}
use Rattle.stations.specs.AtomicRuns.{IsTick, events_at}
use Rattle.bring_up.specs.WrittenRegisters.{handled_causes}
use Rattle.driver.specs.declared.interrupt.Handled.{Handled}
use Rattle.driver.specs.declared.interrupt.Handled.TheVariants.{NotMine}
use Rattle.driver.specs.declared.interrupt.Handled.TheVariants as answers

-- The first access among the steps `steps` is the caller's read of ICR, with the value `causes`. `early` are the steps
-- before this read.
pub record ReadsIcrFirst (caller : ℕ) (steps early : List AtomicStep) (causes : ℕ) : Type 0 where
  -- the steps after the read
  pub later : List AtomicStep
  -- the read is the first access
  pub split : steps ≡ early ++ At caller (Accesses (Reads ICR causes)) ∷ later
  -- the early steps are ticks
  pub ticks : All IsTick early

-- Whether the piece in progress is the last of its frame, after an event with this outcome; `ends` states this before
-- the event. Moved is the outcome for a last piece, and Part for another piece. After Done no piece is in progress.
abbrev pub ends_after : (ends : Bool) → FrameOutcome → Bool
ends_after ends Moved = true
ends_after ends Part = false
ends_after ends Done = false
ends_after ends outcome = ends

-- By an event with this outcome, no frame was put or missed, and no frame's last piece was written back. So none of
-- TXDW, RXO and RXT0 is recorded. `ends` states whether the piece in progress before the event is the last of its
-- frame.
abbrev pub IsQuietOutcome : (ends : Bool) → FrameOutcome → Type 0
IsQuietOutcome ends (Put frame) = ⊥
IsQuietOutcome ends Done = ends ≡ false
IsQuietOutcome ends (Delivered frame Missed) = ⊥
IsQuietOutcome ends outcome = ⊤

-- Each of these events, in order, has a quiet outcome (`IsQuietOutcome`). `ends` states whether the piece in progress
-- before the first event is the last of its frame.
abbrev pub AreQuietEvents : (ends : Bool) → List Event → Type 0
AreQuietEvents ends [] = ⊤
AreQuietEvents ends (event ∷ later) =
    IsQuietOutcome ends (outcome_of_event event) × AreQuietEvents (ends_after ends (outcome_of_event event)) later

-- One of the early steps is an event at the caller with an outcome other than Nothing.
pub record DidSomething (caller : ℕ) (early : List AtomicStep) : Type 0 where
  -- the steps before this event
  pub before : List AtomicStep
  -- the event
  pub event : Event
  -- the steps after this event
  pub behind : List AtomicStep
  -- this event is one of the early steps
  pub split : early ≡ before ++ At caller event ∷ behind
  -- the outcome of the event isn't Nothing
  pub something : outcome_of_event event ≢ Nothing

-- When the call began, no cause that a driver handles was recorded. No early step at the caller put a frame on the
-- wire, missed a frame, or wrote back the last piece of a frame.
abbrev pub WasQuiet : (caller : ℕ) → AdapterState → (early : List AtomicStep) → Type 0
WasQuiet caller adapter early =
    (¬ (Meet adapter.causes.recorded handled_causes)) × AreQuietEvents (is_ending adapter.receiver.work) (events_at caller early)

-- When the call began, a cause that a driver handles was recorded. Or an early step or delivery at the caller had an
-- outcome other than Nothing.
abbrev pub HadCause : (caller : ℕ) → AdapterState → (early : List AtomicStep) → Type 0
HadCause caller adapter early = Meet adapter.causes.recorded handled_causes ⊎ DidSomething caller early

-- The first access reads ICR, with the value `causes`. `mine` and `quiet` state what this value implies about the
-- caller's adapter when the call began, and about the steps before the read (`early`).
pub record TellsCauses (caller : ℕ) (steps : List AtomicStep) (causes : ℕ) (adapter : AdapterState) : Type 0 where
  -- the steps before the read
  pub early : List AtomicStep
  -- ICR is read after these steps
  pub first : ReadsIcrFirst caller steps early causes
  -- if the value has no cause that a driver handles, `WasQuiet` holds
  pub quiet : ¬ (Meet causes handled_causes) → WasQuiet caller adapter early
  -- if the value has a cause that a driver handles, `HadCause` holds
  pub mine : Meet causes handled_causes → HadCause caller adapter early

-- What the result of an interrupt handler implies about the adapter and about the steps before the read of ICR:
-- `WasQuiet` for NotMine, and `HadCause` for Handled.
abbrev pub AnswersCauses : Handled → (caller : ℕ) → AdapterState → (early : List AtomicStep) → Type 0
AnswersCauses NotMine = WasQuiet
AnswersCauses (answers.Handled taken) = HadCause
