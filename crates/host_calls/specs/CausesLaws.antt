-- Laws of the value that an interrupt handler reads from ICR, and of the handler's result (13.4.17 "Interrupt Cause Read
-- Register"; the laws are our choice).
use Rattle.std.specs.Prelude.{◌≡◌, ◌↔◌, ◌==◌, ◌++◌, ◌∷◌, ℕ, List, filter, map}
use Rattle.adapter.specs.model_types.offsets.TheConstants.{ICR}
use Rattle.adapter.specs.Pasts.{Past}
use Rattle.adapter.specs.bus_types.event.Access.{Access}
use Rattle.adapter.specs.bus_types.event.Access.TheVariants.{Reads}
use Rattle.stations.specs.AtomicSteps.{AtomicStep, step_outcome}
use Rattle.stations.specs.declared.outcomes.Numbered.{Numbered}
use Rattle.stations.specs.AtomicRuns.{noted_of}
use Rattle.stations.specs.LentBuses.{HappenedLent, world_here}
use Rattle.stations.specs.declared.lent_bus.LentBus.{LentBus}
use Rattle.stations.specs.declared.observer.Observer.{Ghosts as OfObserver}
use Rattle.stations.specs.Stations.{world_at}
use Rattle.registers.specs.Bits.{Meet}
use Rattle.adapter.specs.State.{AdapterState}
use Rattle.bring_up.specs.WrittenRegisters.{handled_causes}
use Rattle.driver.specs.declared.interrupt.Handled.{Handled}
use Rattle.driver.specs.declared.interrupt.Handled.TheVariants.{NotMine}
use Rattle.packet_socket.specs.HostCalls.{Given, HostReady}
use Rattle.packet_socket.specs.HostEffects.{InterruptEffect}
use Rattle.packet_socket.specs.HostState.{HostState}
use Rattle.host_calls.specs.CallsInSteps.{InSteps}
use Rattle.host_calls.specs.ConnectedHosts.{ConnectedHost}
use Rattle.host_calls.specs.InterruptCauses.{AnswersCauses, ReadsIcrFirst, TellsCauses}

-- If a host is ready and the first access of its call over a lent bus reads ICR, `TellsCauses` holds of the value read.
abbrev pub CallsTellCauses : {O : Type 0} → OfObserver O → Type 0
CallsTellCauses {O} g =
    (a b : LentBus O g) (h : HostState) (causes : ℕ) (past : Past) (more : List Access) → HostReady h (world_here a)
    → (interval : HappenedLent a b past) → past.accesses ≡ Reads ICR causes ∷ more
    → TellsCauses a.host interval.steps causes (world_here a).adapter

-- What the result of an interrupt handler implies about the adapter when the call began, and about the steps before the read of
-- ICR.
pub record AnswerTells (result : Handled) (caller : ℕ) (steps : List AtomicStep) (adapter : AdapterState) : Type 0 where
  pub causes : ℕ
  pub tells : TellsCauses caller steps causes adapter
  -- the result is NotMine exactly if the value contains no cause that a driver handles
  pub not_mine : (result ≡ NotMine) ↔ (¬ (Meet causes handled_causes))
  pub answer : AnswersCauses result caller adapter tells.early

-- `AnswerTells` follows from the effect of an interrupt, for each result.
abbrev pub AnswersTellCauses : Type 0
AnswersTellCauses =
    (caller : ℕ) (given : List Given) (steps : List AtomicStep) (result : Handled) (old new : ConnectedHost)
    → InterruptEffect result old.host new.host (InSteps caller given steps old new) (world_at old.stations caller)
    → AnswerTells result caller steps (world_at old.stations caller).adapter

-- The first read of ICR in some steps remains the first read if further steps follow.
abbrev pub FirstReadsStay : Type 0
FirstReadsStay =
    (caller : ℕ) (steps early more : List AtomicStep) (causes : ℕ) → ReadsIcrFirst caller steps early causes
    → ReadsIcrFirst caller (steps ++ more) early causes

-- the outcome of a step, with 0 accesses before it
abbrev pub noted_first : AtomicStep → Numbered
noted_first step = record { accesses = 0; outcome = step_outcome step }

-- The outcomes of a call with 0 accesses before them are those of the steps before the read of ICR.
abbrev pub EarlyOutcomesBearZero : Type 0
EarlyOutcomesBearZero =
    (caller : ℕ) (steps early : List AtomicStep) (causes : ℕ) → ReadsIcrFirst caller steps early causes
    → filter (λ (one : Numbered). one.accesses == 0) (noted_of 0 steps) ≡ map noted_first early
