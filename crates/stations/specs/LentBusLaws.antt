-- Lemmas: if `SameLent` or `HappenedLent` holds in each of two consecutive intervals, it holds in both together.
use Rattle.std.proofs.Common.{◌≡◌, ◌+◌, ◌++◌, ℕ, List, [], length, map, min, refl, sym, ap, subst, ◌∙◌, arith, length-append}
use Rattle.std.proofs.lemmas.List.{map-append}
use Rattle.adapter.specs.Pasts.{Past, joined, nothing}
use Rattle.adapter.specs.TickGroupLaws.{played_joins, waiting_joins}
use Rattle.adapter.specs.TickGroups.{played_in, waiting_after}
use Rattle.stations.specs.AtomicSteps.{tick_of}
use Rattle.stations.specs.ToldTicks.{ComposesTold}
use Rattle.stations.specs.declared.observer.Observer.{Ghosts as OfObserver}
use Rattle.stations.specs.declared.tick.Tick.{Tick}
use Rattle.stations.specs.declared.tick.Tick.TheVariants.{Go}
use Rattle.stations.specs.AtomicRunLaws.{counted_join, leads_join, past_join, steps_told_join}
use Rattle.adapter.specs.LivelyBuses.{most_accesses}
use Rattle.stations.specs.AtomicRuns.{LeadsTo, counted_of, is_go, past_at, steps_told}
use Rattle.stations.specs.LentBuses.{HappenedLent, SameLent}
use Rattle.stations.specs.declared.lent_bus.LentBus.{LentBus}

pub same_lent_here : {O : Type 0} {g : OfObserver O} (a : LentBus O g) → SameLent a a
same_lent_here a = record { stations = refl; observer = refl; host = refl }

pub same_lent_on : {O : Type 0} {g : OfObserver O} (a b c : LentBus O g) → SameLent a b → SameLent b c → SameLent a c
same_lent_on a b c one two = record {
  stations = two.stations ∙ one.stations;
  observer = two.observer ∙ one.observer;
  host = two.host ∙ one.host;
}

pub lent_happened_none : {O : Type 0} {g : OfObserver O} → ComposesTold g.heard → (a : LentBus O g) → HappenedLent a a nothing
lent_happened_none composes a = record {
  lent = same_lent_here a;
  steps = [];
  leads = refl;
  past_is = refl;
  played = refl;
  waiting = refl;
  heard = composes.stays a.observer.now;
  accesses = record { number = refl; count = omega arith };
}

unfoldable pub lent_happened_join : {O : Type 0} {g : OfObserver O} → ComposesTold g.heard → (a b c : LentBus O g) (first later : Past)
    → HappenedLent a b first → HappenedLent b c later
    → HappenedLent a c (joined first later)
lent_happened_join {O} {g} composes a b c first later one two =
    let host = one.lent.host in
    record {
      lent = same_lent_on a b c one.lent two.lent;
      steps = one.steps ++ two.steps;
      leads =
          leads_join a.host one.steps two.steps a.stations.now b.stations.now c.stations.now one.leads
          (subst (λ (h : ℕ). LeadsTo h two.steps b.stations.now c.stations.now) host two.leads);
      past_is =
          ap (λ (p : Past). joined p later) one.past_is
          ∙ ap (joined (past_at a.host one.steps)) (two.past_is ∙ ap (λ (h : ℕ). past_at h two.steps) host)
          ∙ sym (past_join a.host one.steps two.steps);
      played =
          map-append tick_of one.steps two.steps
          ∙ ap (λ (ticks : List Tick). ticks ++ map tick_of two.steps) one.played
          ∙ ap (λ (ticks : List Tick). played_in is_go Go [] first.accesses a.ticks.now ++ ticks)
          (two.played ∙ ap (played_in is_go Go [] later.accesses) one.waiting)
          ∙ sym (played_joins is_go Go [] first.accesses later.accesses a.ticks.now);
      waiting =
          two.waiting ∙ ap (waiting_after is_go later.accesses) one.waiting
          ∙ sym (waiting_joins is_go first.accesses later.accesses a.ticks.now);
      heard =
          subst (g.heard a.observer.now c.observer.now)
          (ap (λ (n : ℕ). steps_told a.accesses one.steps ++ steps_told n two.steps) one.accesses.number
          ∙ sym (steps_told_join a.accesses one.steps two.steps))
          (composes.joins a.observer.now b.observer.now c.observer.now _ _ one.heard two.heard);
      accesses = record {
        number =
            two.accesses.number ∙ ap (λ (n : ℕ). counted_of n two.steps) one.accesses.number
            ∙ sym (counted_join a.accesses one.steps two.steps);
        count = omega (arith, one.accesses.count, two.accesses.count, length-append first.accesses later.accesses);
      };
    }

pub lent_happened_count : {O : Type 0} {g : OfObserver O} (a b : LentBus O g) (past : Past) → HappenedLent a b past
    → min b.accesses most_accesses ≡ min (min a.accesses most_accesses + length past.accesses) most_accesses
lent_happened_count a b past told = omega (arith, told.accesses.count)
