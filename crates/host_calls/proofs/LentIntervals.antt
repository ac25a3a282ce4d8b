-- `HappenedLent` of two consecutive intervals joins, and its atomic steps end with an access.
use Rattle.std.proofs.Common.{◌≡◌, ◌++◌, ◌∷◌, [], ℕ, false, List, map, refl, sym, ap, subst, ◌∙◌}
use Rattle.std.specs.Prelude.{⊤}
use Rattle.adapter.specs.Pasts.{Past, joined}
use Rattle.adapter.specs.TickGroups.{behind_group, group_of, played_in}
use Rattle.adapter.specs.bus_types.event.Access.{Access}
use Rattle.adapter.specs.bus_types.event.Event.TheVariants.{Accesses, Arrives, Steps}
use Rattle.stations.specs.AtomicRuns.{IsOfCall, LeadsTo, is_go}
use Rattle.stations.specs.AtomicSteps.{At, AtomicStep, Idles, IsNoAccess, after_atomic, tick_of}
use Rattle.stations.specs.LentBuses.{HappenedLent}
use Rattle.stations.specs.LentBusLaws.{lent_happened_join}
use Rattle.stations.specs.Stations.{StationState}
use Rattle.stations.specs.ToldTicks.{ComposesTold}
use Rattle.stations.specs.declared.lent_bus.LentBus.{LentBus}
use Rattle.stations.specs.declared.observer.Observer.{Ghosts as OfObserver}
use Rattle.stations.specs.declared.tick.Tick.{Tick}
use Rattle.stations.specs.declared.tick.Tick.TheVariants.{Go}
use Rattle.host_calls.specs.CallsOfHosts.{EndsWithAccess}

pub lent_intervals-join : {O : Type 0} {g : OfObserver O} {a b c : LentBus O g} {first later : Past} → ComposesTold g.heard
    → (one : HappenedLent a b first) (two : HappenedLent b c later)
    → ((both : HappenedLent a c (joined first later)) × (both.steps ≡ one.steps ++ two.steps))
unfolding lent_happened_join
lent_intervals-join {a = a} {b} {c} {first} {later} composes one two = (lent_happened_join composes a b c first later one two, refl)

-- The ticks that are played end with a Go

EndsWithGo : List Tick → Type 0
EndsWithGo [] = ⊤
EndsWithGo (tick ∷ []) = tick ≡ Go
EndsWithGo (tick ∷ next ∷ later) = EndsWithGo (next ∷ later)

go-behind : (first later : List Tick) → EndsWithGo later → EndsWithGo (first ++ Go ∷ later)
unfolding EndsWithGo
go-behind [] [] ends = refl
go-behind [] (tick ∷ later) ends = ends
go-behind (tick ∷ []) later ends = go-behind [] later ends
go-behind (tick ∷ next ∷ first) later ends = go-behind (next ∷ first) later ends

played-ends : (accesses : List Access) (ticks : List Tick) → EndsWithGo (played_in is_go Go [] accesses ticks)
unfolding EndsWithGo
played-ends [] ticks = tt
played-ends (access ∷ later) ticks =
    go-behind (group_of is_go ticks) (played_in is_go Go [] later (behind_group is_go ticks))
    (played-ends later (behind_group is_go ticks))

-- The steps end with an access, because Go isn't an atomic step of a call

access-at-go : (caller : ℕ) (step : AtomicStep) → IsOfCall caller step → tick_of step ≡ Go → ¬ IsNoAccess step
access-at-go caller (At host (Steps kind wire_free answer)) of_call is = absurd (cc)
access-at-go caller (At host (Arrives frame fate)) of_call is = absurd (cc)
access-at-go caller (At host (Accesses access)) of_call is = λ none. none
access-at-go caller (Idles tick) of_call is = absurd (let e : is_go Go ≡ false = sym (ap is_go is) ∙ of_call in cc)

steps-end : (caller : ℕ) (steps : List AtomicStep) (a b : List StationState) → LeadsTo caller steps a b → EndsWithGo (map tick_of steps)
    → EndsWithAccess steps
unfolding EndsWithGo
steps-end caller [] a b leads ends = tt
steps-end caller (step ∷ []) a b leads ends = access-at-go caller step leads.1 ends
steps-end caller (step ∷ next ∷ later) a b leads ends = steps-end caller (next ∷ later) (after_atomic step a) b leads.2 ends

pub lent_interval-ends : {O : Type 0} {g : OfObserver O} (a b : LentBus O g) (past : Past) (interval : HappenedLent a b past)
    → EndsWithAccess interval.steps
lent_interval-ends a b past interval =
    steps-end a.host interval.steps a.stations.now b.stations.now interval.leads
    (subst EndsWithGo (sym interval.played) (played-ends past.accesses a.ticks.now))
