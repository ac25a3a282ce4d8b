-- `TickPlayed` for a tick outside a call.
use Rattle.std.proofs.Common.{◌≡◌, ◌≢◌, ◌∷◌, [], false, List, refl, sym, ap, subst, ◌∙◌}
use Rattle.std.proofs.lemmas.List.Elements.{All-cons}
use Rattle.adapter.proofs.Lists.{all-none}
use Rattle.adapter.specs.bus_types.event.Event.TheVariants.{Accesses, Arrives, Steps}
use Rattle.adapter.specs.TickGroups.{without_go}
use Rattle.stations.specs.AtomicSteps.{At, AtomicStep, Idles, PlaysTick, step_outcome}
use Rattle.stations.specs.ToldTicks.{tick_told}
use Rattle.wire.specs.RunObservers.{EventEnding, EventTold, StatesEnding, TellsReply, ending}
use Rattle.stations.specs.Stations.{StationState}
use Rattle.stations.specs.declared.outcomes.Numbered.{Numbered}
use Rattle.adapter.specs.Outcomes.{FrameOutcome}
use Rattle.adapter.specs.model_types.outcome.Outcome.TheVariants.{Nothing}
use Rattle.stations.specs.declared.tick.Tick.{Tick}
use Rattle.stations.specs.declared.tick.Tick.TheVariants.{Deliver, Go, Step}
use Rattle.stations.specs.AtomicRuns.{IsTick, counted_of, is_go, noted_of}
use Rattle.host_calls.proofs.Telling.{leads-alone, said-alone}
use Rattle.host_calls.specs.Happenings.{lone_tick_happenings}
use Rattle.host_calls.specs.TickNumbers.{noted_numbers}
use Rattle.host_calls.proofs.HostTrails.{none-alone}
use Rattle.network_plan.specs.declared.reply.Answer.TheVariants.{Ticked}
use Rattle.network_plan.specs.declared.event.Event.{Event}
use Rattle.network_plan.specs.declared.reply.Reply.{Reply}
use Rattle.wire.specs.Runs.{AreOutcomesAlone}
use Rattle.wire.specs.PlayedCalls.{TickPlayed}

noted-tick : (step : AtomicStep) → IsTick step → noted_of 0 (step ∷ []) ≡ record { accesses = 0; outcome = step_outcome step } ∷ []
noted-tick (At host (Steps kind wire_free answer)) is = refl
noted-tick (At host (Arrives frame fate)) is = refl
noted-tick (At host (Accesses access)) is = absurd (cc)
noted-tick (Idles tick) is = refl

counted-tick : (step : AtomicStep) → IsTick step → counted_of 0 (step ∷ []) ≡ 0
counted-tick (At host (Steps kind wire_free answer)) is = refl
counted-tick (At host (Arrives frame fate)) is = refl
counted-tick (At host (Accesses access)) is = absurd (cc)
counted-tick (Idles tick) is = refl

alone : (tick : Tick) (steps : List AtomicStep) (outcomes : List Numbered) → is_go tick ≡ false → outcomes ≡ noted_of 0 steps
    → AreOutcomesAlone tick steps outcomes
alone Go steps outcomes not is = absurd (cc)
alone (Step host kind) steps outcomes not is = is
alone (Deliver host) steps outcomes not is = is

pub tick-played : (tick : Tick) (old new : List StationState) (outcome : FrameOutcome) (reply : Reply) → is_go tick ≡ false
    → PlaysTick old tick outcome new → StatesEnding (ending 0 Ticked (tick_told tick 0 outcome ∷ [])) reply → TickPlayed tick reply old new
tick-played tick old new outcome reply not plays replies =
    let step = plays.step in
    let leads = leads-alone old new tick outcome plays not in
    let one : reply.outcomes.list ≡ record { accesses = 0; outcome = outcome } ∷ [] = replies.outcomes in
    let are = All-cons IsTick step [] leads.is_tick (all-none IsTick) in
    record {
      steps = step ∷ [];
      are = are;
      leads = leads.leads;
      said = ap (lone_tick_happenings tick) one ∙ said-alone old new tick outcome plays;
      replied = λ hosts. record {
        played = ap (λ (t : Tick). without_go is_go (t ∷ [])) plays.tick_is;
        accesses = λ k. none-alone k (step ∷ []) are;
        counted = replies.accesses ∙ sym (counted-tick step leads.is_tick);
        outcomes =
            alone tick (step ∷ []) reply.outcomes.list not
            (one ∙ ap (λ (o : FrameOutcome). record { accesses = 0; outcome = o } ∷ []) (sym plays.outcome_is)
            ∙ sym (noted-tick step leads.is_tick));
        numbered = ap noted_numbers one;
        answer = replies.answer;
        others = refl;
      };
    }

-- For Go there is no atomic step.
go-alone : (old : List StationState) (reply : Reply) → StatesEnding (ending 0 Ticked (tick_told Go 0 Nothing ∷ [])) reply
    → TickPlayed Go reply old old
go-alone old reply replies =
    let one : reply.outcomes.list ≡ record { accesses = 0; outcome = Nothing } ∷ [] = replies.outcomes in
    record {
      steps = [];
      are = all-none IsTick;
      leads = λ caller. refl;
      said = ap (lone_tick_happenings Go) one;
      replied = λ hosts. record {
        played = refl;
        accesses = λ k. none-alone k [] (all-none IsTick);
        counted = replies.accesses;
        outcomes = (refl, one);
        numbered = ap noted_numbers one;
        answer = replies.answer;
        others = refl;
      };
    }

pub go-played : (tick : Tick) (old : List StationState) (reply : Reply) → tick ≡ Go
    → StatesEnding (ending 0 Ticked (tick_told tick 0 Nothing ∷ [])) reply → TickPlayed tick reply old old
go-played tick old reply go replies =
    subst (λ (t : Tick). TickPlayed t reply old old) (sym go)
    (go-alone old reply (record { answer = replies.answer; accesses = replies.accesses; outcomes = replies.outcomes }))

pub not-go : (tick : Tick) → tick ≢ Go → is_go tick ≡ false
not-go Go other = absurd (other refl)
not-go (Step host kind) other = refl
not-go (Deliver host) other = refl

-- The observer was told a reply, and `Holds` is true of each reply with this ending.
pub event-told : {O : Type 0} {ran : O → O → List Event → List Reply → Type 0} {event : Event} {ends : EventEnding} {from to : O}
    {Holds : Reply → Type 0} → TellsReply ran event ends from to → ((reply : Reply) → StatesEnding ends reply → Holds reply)
    → EventTold ran event from to Holds
event-told tells holds = record { reply = tells.reply; told = tells.told; holds = holds tells.reply tells.replies }
