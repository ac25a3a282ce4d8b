-- The laws of a call's outcomes: for any steps that play a call, and for a call over a lent bus.
use Rattle.std.proofs.Common.{◌≡◌, ◌++◌, ℕ, List, sym, ap, subst, ◌∙◌}
use Rattle.adapter.specs.Pasts.{Past}
use Rattle.adapter.specs.TickGroups.{without_go}
use Rattle.adapter.specs.bus_types.event.Access.{Access}
use Rattle.stations.proofs.Lengths.{length-stays}
use Rattle.stations.specs.AtomicSteps.{AtomicStep}
use Rattle.stations.specs.Stations.{StationState}
use Rattle.stations.specs.declared.tick.Tick.{Tick}
use Rattle.stations.specs.AtomicRunLaws.{steps_told_join}
use Rattle.stations.specs.AtomicRuns.{LeadsTo, counted_of, is_go, steps_told}
use Rattle.stations.specs.LentBuses.{Finished, HappenedLent}
use Rattle.stations.specs.declared.lent_bus.LentBus.{LentBus}
use Rattle.stations.specs.declared.observer.Observer.{Ghosts as OfObserver}
use Rattle.stations.specs.ToldTicks.{ComposesTold}
use Rattle.host_calls.proofs.HostLists.{accepted-none, given-none, missed-told, put-told, stored-told}
use Rattle.host_calls.proofs.Joining.{accepted-append, given-append, marks-append, missed-append, put-append, reached-append, stored-append}
use Rattle.host_calls.proofs.Joining.{toward-append}
use Rattle.host_calls.proofs.Numbering.{counted-all, numbered-all}
use Rattle.host_calls.proofs.Telling.{said-all, same-ticks}
use Rattle.host_calls.proofs.Waiting.{waits-on, wires-stay}
use Rattle.host_calls.specs.DeliveryLaws.{IsToldByOutcomes, IsToldCall, ListsJoin, MovesFrames, PlaysCall}
use Rattle.host_calls.specs.Happenings.{Happening}

pub outcomes-tell : (caller : ℕ) (ticks : List Tick) (accesses : List Access) (first last : List AtomicStep) (a m b : List StationState)
    → PlaysCall (record { caller = caller; ticks = ticks; accesses = accesses; first = first; last = last }) a m b
    → IsToldByOutcomes ticks first last
outcomes-tell caller ticks accesses first last a m b plays = record {
  played = same-ticks ticks accesses first last plays.played plays.waited;
  said = said-all caller ticks accesses first last a m b plays.leads plays.ends plays.played plays.waited;
  numbered = numbered-all caller ticks accesses first last a m b plays.leads plays.are_ticks plays.ends plays.played plays.waited;
  counted = counted-all first last plays.are_ticks;
}

pub lent-calls : {O : Type 0} {g : OfObserver O} → ComposesTold g.heard
    → (a m b : LentBus O g) (past : Past) (told : HappenedLent a m past) (finished : Finished m b)
    → a.accesses ≡ 0 → IsToldCall a m b past told.steps finished.plays.steps
lent-calls {O} {g} composes a m b past told finished zero =
    let first = told.steps in
    let last = finished.plays.steps in
    let number : m.accesses ≡ counted_of 0 first = told.accesses.number ∙ ap (λ (n : ℕ). counted_of n first) zero in
    record {
      plays = record {
        leads = told.leads;
        are_ticks = finished.plays.are;
        ends = finished.plays.leads a.host;
        played = told.played;
        waited = finished.plays.played ∙ ap (without_go is_go) told.waiting;
      };
      heard =
          subst (g.heard a.observer.now b.observer.now)
          (ap (λ (n : ℕ). steps_told n first ++ steps_told m.accesses last) zero
          ∙ ap (λ (n : ℕ). steps_told 0 first ++ steps_told n last) number
          ∙ sym (steps_told_join 0 first last))
          (composes.joins a.observer.now m.observer.now b.observer.now _ _ told.heard finished.plays.heard);
      count = finished.count ∙ number;
    }

pub frames-move : (caller k : ℕ) (steps : List AtomicStep) (a b : List StationState) → LeadsTo caller steps a b → MovesFrames k steps a b
frames-move caller k steps a b leads = record {
  put = put-told caller k steps a b leads;
  stored = stored-told caller k steps a b leads;
  missed = missed-told caller k steps a b leads;
  waits = waits-on caller k steps a b leads;
  wires = wires-stay caller k steps a b leads;
  hosts = length-stays caller steps a b leads;
  none_accepted = accepted-none k steps;
  none_given = λ socket. given-none k socket steps;
}

pub lists-append : (k : ℕ) (first later : List Happening) → ListsJoin k first later
lists-append k first later = record {
  accepted = accepted-append k first later;
  put = put-append k first later;
  reached = reached-append k first later;
  stored = stored-append k first later;
  given = λ socket. given-append k socket first later;
  missed = missed-append k first later;
  toward = λ wires. toward-append wires k first later;
  marks = marks-append k first later;
}
