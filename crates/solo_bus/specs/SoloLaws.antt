-- Lemmas: the records of two consecutive intervals, joined, are the record of both intervals; and the accesses and ticks that a record
-- counts.
use Rattle.std.proofs.Common.{◌≡◌, ◌+◌, ◌++◌, ◌∷◌, [], Bool, true, false, List, ℕ, length, map, min, sum_by, if◌then◌else◌, refl, sym, ap}
use Rattle.std.proofs.Common.{subst, ◌∙◌, append_assoc, arith, length-append}
use Rattle.std.proofs.lemmas.List.{append-nil, map-append}
use Rattle.std.proofs.lemmas.List.Sums.{sum_by-cons}
use Rattle.bus.specs.Pasts.{Past, joined, nothing}
use Rattle.adapter_model.specs.declared.step.StepKind.TheVariants.{TxTake, TxPut, RxData, RxDone, EepromTick, PhyTick}
use Rattle.bus.specs.TickGroupLaws.{played_counts, played_joins, waiting_joins}
use Rattle.bus.specs.TickGroups.{played_in, waiting_after}
use Rattle.bus.specs.LivelyBuses.{most_accesses}
use Rattle.solo_bus.specs.SoloBuses.{AreFree, PlaysLively, Recounts, SoloState, eeprom_tick, is_solo_go, lively_ticks, phy_tick}
use Rattle.solo_bus.specs.SoloBuses.{solo_tick_of}
use Rattle.bus.specs.TrailLaws.{past_of-append, trail_joins}
use Rattle.bus.specs.StepsAndArrivals.{past_of_step}
use Rattle.bus.specs.Trails.{past_of, past_of_event}
use Rattle.bus.specs.declared.event.Event.{Event}
use Rattle.bus.specs.declared.event.Event.TheVariants.{Accesses, Arrives, Steps}
use Rattle.solo_bus.specs.declared.solo_bus.SoloTick.{SoloTick}
use Rattle.solo_bus.specs.declared.solo_bus.SoloTick.TheVariants.{Go}

pub are_free_joins : (first later : List Event) (n m : ℕ) → m ≡ n + length (past_of first).put → AreFree first n → AreFree later m
    → AreFree (first ++ later) n
are_free_joins [] later n m is one two = let none : m ≡ n = omega (arith, is) in subst (λ (k : ℕ). AreFree later k) none two
are_free_joins (Steps kind wire_free answer ∷ first) later n m is one two =
    let put = (past_of_step kind answer).put in
    (one.0, are_free_joins first later (n + length put) m (omega (arith, is, length-append put (past_of first).put)) one.1 two)
are_free_joins (Arrives frame fate ∷ first) later n m is one two = are_free_joins first later n m is one two
are_free_joins (Accesses access ∷ first) later n m is one two = are_free_joins first later n m is one two

pub recounts_none : (a : SoloState) → Recounts a a nothing
recounts_none a = record {
  events = [];
  trail = refl;
  past_is = refl;
  played = refl;
  waiting = refl;
  wire = record { free = tt; frames = sym (append-nil a.wire) };
  lively = refl;
  count = omega arith;
}

pub recounts_join : (a b c : SoloState) (first later : Past) → Recounts a b first → Recounts b c later → Recounts a c (joined first later)
recounts_join a b c first later one two = record {
  events = one.events ++ two.events;
  trail = trail_joins one.events two.events a.world b.world c.world one.trail two.trail;
  past_is = ap (λ (p : Past). joined p later) one.past_is ∙ ap (joined (past_of one.events)) two.past_is
      ∙ sym (past_of-append one.events two.events);
  played = map-append solo_tick_of one.events two.events
      ∙ ap (λ (ticks : List SoloTick). ticks ++ map solo_tick_of two.events) one.played
      ∙ ap (λ (ticks : List SoloTick). played_in is_solo_go Go (lively_ticks a.lively) first.accesses a.waiting ++ ticks)
      (two.played
      ∙ ap (λ (lively : Bool). played_in is_solo_go Go (lively_ticks lively) later.accesses b.waiting) one.lively
      ∙ ap (played_in is_solo_go Go (lively_ticks a.lively) later.accesses) one.waiting)
      ∙ sym (played_joins is_solo_go Go (lively_ticks a.lively) first.accesses later.accesses a.waiting);
  waiting = two.waiting
      ∙ ap (waiting_after is_solo_go later.accesses) one.waiting
      ∙ sym (waiting_joins is_solo_go first.accesses later.accesses a.waiting);
  wire = record {
    free = are_free_joins one.events two.events (length a.wire) (length b.wire)
        (ap length one.wire.frames ∙ length-append a.wire first.put ∙ ap (λ (p : Past). length a.wire + length p.put) one.past_is)
        one.wire.free two.wire.free;
    frames = two.wire.frames ∙ ap (λ (frames : List (List ℕ)). frames ++ later.put) one.wire.frames
        ∙ append_assoc a.wire first.put later.put;
  };
  lively = two.lively ∙ one.lively;
  count = omega (arith, one.count, two.count, length-append first.accesses later.accesses);
}

-- The count of a solo bus increases by the number of accesses in the record, up to the greatest u64.
pub recounts_count : (a b : SoloState) (past : Past) → Recounts a b past
    → min b.accesses most_accesses ≡ min (min a.accesses most_accesses + length past.accesses) most_accesses
recounts_count a b past recounts = omega (arith, recounts.count)

-- The ticks of an event are those of its tick of the bus.
ticks_told : (event : Event) → ((past_of_event event).eeprom_ticks ≡ eeprom_tick (solo_tick_of event))
    × ((past_of_event event).phy_ticks ≡ phy_tick (solo_tick_of event))
ticks_told (Steps TxTake wire_free answer) = (refl, refl)
ticks_told (Steps TxPut wire_free answer) = (refl, refl)
ticks_told (Steps RxData wire_free answer) = (refl, refl)
ticks_told (Steps RxDone wire_free answer) = (refl, refl)
ticks_told (Steps EepromTick wire_free answer) = (refl, refl)
ticks_told (Steps PhyTick wire_free answer) = (refl, refl)
ticks_told (Arrives frame fate) = (refl, refl)
ticks_told (Accesses access) = (refl, refl)

ticks_of : (events : List Event) → ((past_of events).eeprom_ticks ≡ sum_by eeprom_tick (map solo_tick_of events))
    × ((past_of events).phy_ticks ≡ sum_by phy_tick (map solo_tick_of events))
ticks_of [] = (refl, refl)
ticks_of (event ∷ later) =
    let one = ticks_told event in
    let rest = ticks_of later in (
      omega (arith, one.0, rest.0, sum_by-cons eeprom_tick (solo_tick_of event) (map solo_tick_of later)),
      omega (arith, one.1, rest.1, sum_by-cons phy_tick (solo_tick_of event) (map solo_tick_of later)),
    )

lively_eeprom_tick : (lively : Bool) → sum_by eeprom_tick (lively_ticks lively) ≡ (if lively then 1 else 0)
lively_eeprom_tick true = refl
lively_eeprom_tick false = refl

lively_phy_tick : (lively : Bool) → sum_by phy_tick (lively_ticks lively) ≡ (if lively then 1 else 0)
lively_phy_tick true = refl
lively_phy_tick false = refl

pub recounts_lively : (a b : SoloState) (past : Past) → Recounts a b past → PlaysLively a past
recounts_lively a b past recounts = record {
  eeprom =
      ap (λ (p : Past). p.eeprom_ticks) recounts.past_is
      ∙ (ticks_of recounts.events).0
      ∙ ap (sum_by eeprom_tick) recounts.played
      ∙ played_counts is_solo_go Go (lively_ticks a.lively) eeprom_tick a.lively past.accesses a.waiting refl (lively_eeprom_tick a.lively);
  phy =
      ap (λ (p : Past). p.phy_ticks) recounts.past_is
      ∙ (ticks_of recounts.events).1
      ∙ ap (sum_by phy_tick) recounts.played
      ∙ played_counts is_solo_go Go (lively_ticks a.lively) phy_tick a.lively past.accesses a.waiting refl (lively_phy_tick a.lively);
}
