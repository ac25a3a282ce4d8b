-- The laws of the value that an interrupt handler reads from ICR.
use Rattle.std.proofs.Common.{◌≡◌, ◌++◌, ◌∷◌, [], ℕ, List, Option, inl, inr, refl, sym, ap, subst, ◌∙◌, append_assoc}
use Rattle.std.specs.List.{All}
use Rattle.registers.specs.Bits.{HasBit, Meet, union}
use Rattle.registers.specs.Laws.{HasBit-union}
use Rattle.adapter.specs.Conditions.{Sound}
use Rattle.adapter.specs.Registers.{answer_at, answer_of}
use Rattle.adapter.specs.State.{AdapterState}
use Rattle.adapter.specs.TableLaws.{register_at-there}
use Rattle.adapter.specs.model_types.register.Register.{Register}
use Rattle.adapter.specs.model_types.register.Register.TheVariants.{Icr}
use Rattle.adapter.specs.model_types.offsets.TheConstants.{ICR}
use Rattle.bring_up.specs.WrittenRegisters.{handled_causes}
use Rattle.adapter.proofs.TrailCauses.{causes_are_those_of_steps}
use Rattle.adapter.specs.Pasts.{Past}
use Rattle.adapter.specs.TrailCauses.{causes_in}
use Rattle.adapter.specs.bus_types.event.Access.{Access}
use Rattle.adapter.specs.bus_types.event.Access.TheVariants.{Reads}
use Rattle.adapter.specs.bus_types.event.Event.TheVariants.{Accesses}
use Rattle.stations.specs.AtomicSteps.{At, AtomicStep}
use Rattle.stations.specs.Stations.{StationState, world_at}
use Rattle.stations.proofs.HostTrails.{steps-alone, trail-of}
use Rattle.stations.specs.AtomicRuns.{IsTick, LeadsTo, events_at, past_at}
use Rattle.stations.specs.LentBuses.{HappenedLent, world_here}
use Rattle.stations.specs.declared.lent_bus.LentBus.{LentBus}
use Rattle.stations.specs.declared.observer.Observer.{Ghosts as OfObserver}
use Rattle.driver.specs.declared.interrupt.Handled.{Handled}
use Rattle.driver.specs.declared.interrupt.Handled.TheVariants.{NotMine}
use Rattle.driver.specs.declared.interrupt.Handled.TheVariants as answers
use Rattle.packet_socket.specs.HostCalls.{Given, HostReady}
use Rattle.packet_socket.specs.HostEffects.{InterruptEffect}
use Rattle.packet_socket.specs.HostState.{HostState}
use Rattle.host_calls.proofs.FirstAccess.{first-access}
use Rattle.host_calls.proofs.QuietEvents.{common, leaves-alone, meets, quiet-events}
use Rattle.host_calls.proofs.SilentEvents.{did-or_silent, silent-events}
use Rattle.host_calls.specs.CallsInSteps.{InSteps}
use Rattle.host_calls.specs.CausesLaws.{AnswerTells}
use Rattle.host_calls.specs.ConnectedHosts.{ConnectedHost}
use Rattle.host_calls.specs.InterruptCauses.{HadCause, ReadsIcrFirst, TellsCauses, WasQuiet}

icr-answers : (adapter : AdapterState) → answer_at ICR adapter ≡ adapter.causes.recorded
icr-answers adapter = ap (λ (found : Option Register). answer_of found adapter) (register_at-there Icr tt)

-- Early steps after which the recorded causes are the value read from ICR.
pub record EarlyRun (caller : ℕ) (early : List AtomicStep) (a b : List StationState) (causes : ℕ) : Type 0 where
  pub ticks : All IsTick early
  pub leads : LeadsTo caller early a b
  pub answered : causes ≡ (world_at b caller).adapter.causes.recorded

sums : (caller : ℕ) (early : List AtomicStep) (a b : List StationState) (causes : ℕ) → EarlyRun caller early a b causes
    → causes ≡ union (world_at a caller).adapter.causes.recorded (causes_in (events_at caller early) (world_at a caller))
sums caller early a b causes run =
    run.answered
    ∙ causes_are_those_of_steps (events_at caller early) (world_at a caller) (world_at b caller)
    (leaves-alone (events_at caller early) (steps-alone caller early run.ticks)) (trail-of caller caller early a b run.leads)

pub quiet-answer : (caller : ℕ) (early : List AtomicStep) (a b : List StationState) (causes oldest_receive oldest_transmit : ℕ)
    → EarlyRun caller early a b causes → Sound oldest_receive oldest_transmit (world_at a caller)
    → ¬ (Meet causes handled_causes)
    → WasQuiet caller (world_at a caller).adapter early
quiet-answer caller early a b causes r t run sound none =
    let events = events_at caller early in
    let recorded = (world_at a caller).adapter.causes.recorded in
    let at_end : ¬ (Meet (world_at b caller).adapter.causes.recorded handled_causes) =
    subst (λ (n : ℕ). ¬ (Meet n handled_causes)) run.answered none in (
      (λ meet.
          let both = common recorded meet in
          let set : HasBit causes both.0 =
          subst (λ (n : ℕ). HasBit n both.0) (sym (sums caller early a b causes run))
          ((HasBit-union recorded (causes_in events (world_at a caller)) both.0).1 (inl both.1)) in
          none (meets causes both.0 set both.2)),
      quiet-events events (world_at a caller) (world_at b caller) r t (steps-alone caller early run.ticks)
          (trail-of caller caller early a b run.leads) sound at_end,
    )

pub mine-answer : (caller : ℕ) (early : List AtomicStep) (a b : List StationState) (causes : ℕ) → EarlyRun caller early a b causes
    → Meet causes handled_causes
    → HadCause caller (world_at a caller).adapter early
mine-answer caller early a b causes run some =
    let events = events_at caller early in
    let recorded = (world_at a caller).adapter.causes.recorded in
    let both = common causes some in
    let set = (HasBit-union recorded (causes_in events (world_at a caller)) both.0).0
    (subst (λ (n : ℕ). HasBit n both.0) (sums caller early a b causes run) both.1) in
    elim set [
      | inl entry ↦ inl (meets recorded both.0 entry both.2)
      | inr since ↦ elim (did-or_silent caller early) [
        | inl did ↦ inr did
        | inr silent ↦
            absurd (silent-events events (world_at a caller) (world_at b caller) both.0
            (trail-of caller caller early a b run.leads) silent since)
      ]
    ]

pub steps-tell_causes : (caller : ℕ) (steps : List AtomicStep) (a b : List StationState) (causes : ℕ) (more : List Access) (h : HostState)
    → HostReady h (world_at a caller) → LeadsTo caller steps a b → (past_at caller steps).accesses ≡ Reads ICR causes ∷ more
    → TellsCauses caller steps causes (world_at a caller).adapter
steps-tell_causes caller steps a b causes more h ready leads reads =
    let first = first-access caller steps a b (Reads ICR causes) more leads reads in
    let run : EarlyRun caller first.early a first.middle causes = record {
      ticks = first.ticks;
      leads = first.leads;
      answered = first.answered ∙ icr-answers (world_at first.middle caller).adapter;
    } in
    record {
      early = first.early;
      first = record { later = first.later; split = first.split; ticks = first.ticks };
      quiet = quiet-answer caller first.early a first.middle causes _ _ run ready.ready.law.sound;
      mine = mine-answer caller first.early a first.middle causes run;
    }

pub calls-tell_causes : {O : Type 0} {g : OfObserver O} (a b : LentBus O g) (h : HostState) (causes : ℕ) (past : Past)
    (more : List Access) → HostReady h (world_here a) → (interval : HappenedLent a b past) → past.accesses ≡ Reads ICR causes ∷ more
    → TellsCauses a.host interval.steps causes (world_here a).adapter
calls-tell_causes a b h causes past more ready interval reads =
    steps-tell_causes a.host interval.steps a.stations.now b.stations.now causes more h ready interval.leads
    (sym (ap (λ (p : Past). p.accesses) interval.past_is) ∙ reads)

pub answers-tell_causes : (caller : ℕ) (given : List Given) (steps : List AtomicStep) (result : Handled) (old new : ConnectedHost)
    → InterruptEffect result old.host new.host (InSteps caller given steps old new) (world_at old.stations caller)
    → AnswerTells result caller steps (world_at old.stations caller).adapter
answers-tell_causes caller given steps NotMine old new it =
    let tells = it.runs.icr it.causes [] refl in
    record { causes = it.causes; tells = tells; not_mine = (λ is. it.none, λ none. refl); answer = tells.quiet it.none }
answers-tell_causes caller given steps (answers.Handled n) old new it =
    let tells = it.runs.icr it.causes _ refl in
    record {
      causes = it.causes;
      tells = tells;
      not_mine = (λ is. absurd (cc), λ none. absurd (none it.some));
      answer = tells.mine it.some;
    }

pub first-reads_stay : (caller : ℕ) (steps early more : List AtomicStep) (causes : ℕ) → ReadsIcrFirst caller steps early causes
    → ReadsIcrFirst caller (steps ++ more) early causes
first-reads_stay caller steps early more causes first = record {
  later = first.later ++ more;
  split =
      ap (λ (list : List AtomicStep). list ++ more) first.split
      ∙ append_assoc early (At caller (Accesses (Reads ICR causes)) ∷ first.later) more;
  ticks = first.ticks;
}
