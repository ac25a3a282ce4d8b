-- An access over a lent bus, after the ticks that are played before it.
use Rattle.std.proofs.Common.{◌≡◌, ◌<◌, ◌≤◌, ◌+◌, ◌++◌, ◌∷◌, [], ℕ, List, Bool, inl, inr, length, min}
use Rattle.std.proofs.Common.{if◌then◌else◌, refl, sym, ap, subst, ◌∙◌, arith}
use Rattle.std.specs.Bool.{⊤}
use Rattle.std.proofs.lemmas.Bool.{eq-eqb}
use Rattle.std.proofs.lemmas.List.{append-nil, map-append}
use Rattle.std.proofs.lemmas.Option.{slice_get_cases}
use Rattle.adapter.specs.State.{IsAdapter}
use Rattle.adapter.specs.World.{World}
use Rattle.adapter.proofs.Trails.{trail_happens}
use Rattle.adapter.specs.BusMembers.{KeepsProperties}
use Rattle.adapter.specs.Law.{Acts, view}
use Rattle.adapter.specs.Pasts.{joined}
use Rattle.adapter.specs.TrailLaws.{past_of-append}
use Rattle.adapter.specs.Trails.{IsAnswered, Trail, past_of, world_after_access}
use Rattle.adapter.specs.bus_types.event.Access.{Access}
use Rattle.adapter.specs.bus_types.event.Access.TheVariants.{Loads}
use Rattle.adapter.specs.bus_types.event.Event.{Event}
use Rattle.adapter.specs.bus_types.event.Event.TheVariants.{Accesses}
use Rattle.adapter.proofs.StepsThenAccess.{happens_accesses, past-with_access, no_access}
use Rattle.stations.proofs.Places.{set-after, set-same}
use Rattle.stations.specs.AtomicSteps.{At, OccursAt, tick_of}
use Rattle.stations.specs.Stations.{StationState, stations_after, wire_of, world_at}
use Rattle.stations.specs.declared.observer.Observer.{Ghosts as OfObserver}
use Rattle.stations.specs.declared.tick.Tick.{Tick}
use Rattle.stations.specs.declared.tick.Tick.TheVariants.{Go}
use Rattle.stations.proofs.Lengths.{length-event}
use Rattle.stations.proofs.HostTrails.{steps-alone, trail-of, world-here}
use Rattle.stations.proofs.TickLoops.{counted-ticks}
use Rattle.stations.specs.AtomicRunLaws.{counted_join, leads_join, past_join, steps_told_join}
use Rattle.adapter.specs.LivelyBuses.{most_accesses}
use Rattle.stations.specs.AtomicRuns.{counted_of, events_at, past_at, steps_told}
use Rattle.stations.specs.LentBuses.{PreparedLent, HappenedLent, SameLent, bytes_here, world_here}
use Rattle.stations.specs.LentBusLaws.{same_lent_on}
use Rattle.stations.specs.declared.lent_bus.LentBus.{LentBus}

past-here : (host : ℕ) (access : Access) → past_at host (At host (Accesses access) ∷ []) ≡ past_of (Accesses access ∷ [])
past-here host access = ap (λ (b : Bool). past_of ((if b then Accesses access ∷ [] else []) ++ [])) (eq-eqb host host refl)

occurs-access : (ss : List StationState) (host : ℕ) (access : Access) → host < length ss → IsAnswered access (world_at ss host)
    → OccursAt host (Accesses access) ss
occurs-access ss host access below answered =
    elim ((slice_get_cases ss host).1) [
      | inl found ↦ record { wire = found.0.wire; on_wire = ap wire_of found.2; occurs = answered; suits_wire = tt }
      | inr none ↦ absurd (omega (arith, below, none.0))
    ]

-- A bus with other stations.
abbrev pub with_stations : {O : Type 0} {g : OfObserver O} (bus : LentBus O g) (new : List StationState) → bus.host < length new
    → length bus.ticks.now ≤ g.room_left bus.observer.now → LentBus O g
with_stations bus new there room = record bus { stations = record bus.stations { now = new }; there = there; room = room }

pub still-there : {O : Type 0} {g : OfObserver O} (p : LentBus O g) (event : Event) {new : List StationState}
    → new ≡ stations_after p.host event p.stations.now → p.host < length new
still-there p event leaves =
    let stays = ap (λ (list : List StationState). length list) leaves ∙ length-event p.host event p.stations.now in
    omega (arith, p.there, stays)

world-there : {O : Type 0} {g : OfObserver O} (p : LentBus O g) (new : List StationState) (access : Access)
    → IsAnswered access (world_here p) → new ≡ stations_after p.host (Accesses access) p.stations.now
    → world_at new p.host ≡ world_after_access access (world_here p)
world-there p new access answered leaves =
    ap (λ (list : List StationState). world_at list p.host) leaves
    ∙ world-here p.stations.now p.host (Accesses access) (eq-eqb p.host p.host refl)
    (occurs-access p.stations.now p.host access p.there answered)

pub load-leaves : {O : Type 0} {g : OfObserver O} (p : LentBus O g) (address size : ℕ)
    → p.stations.now ≡ stations_after p.host (Accesses (Loads address size)) p.stations.now
load-leaves p address size =
    elim ((slice_get_cases p.stations.now p.host).1) [
      | inl found ↦ sym (set-same p.stations.now p.host found.0 p.there found.2)
          ∙ set-after p.host (Accesses (Loads address size)) p.stations.now found.0 found.0 p.there found.2 refl refl
      | inr none ↦ absurd (let there = p.there in omega (arith, there, none.0))
    ]

abbrev pub never_lively : {O : Type 0} {g : OfObserver O} → LentBus O g → Type 0
never_lively bus = ⊥

trail-here : {O : Type 0} {g : OfObserver O} (a p : LentBus O g) (prepared : PreparedLent a p)
    → Trail (events_at a.host prepared.plays.steps) (world_here a) (world_here p)
trail-here a p prepared =
    subst (λ (h : ℕ). Trail (events_at a.host prepared.plays.steps) (world_here a) (world_at p.stations.now h)) (sym prepared.lent.host)
    (trail-of a.host a.host prepared.plays.steps a.stations.now p.stations.now (prepared.plays.leads a.host))

pub size-prepared : {O : Type 0} {g : OfObserver O} (a p : LentBus O g) → PreparedLent a p → bytes_here p ≡ bytes_here a
size-prepared a p prepared =
    let steps = prepared.plays.steps in
    let happens = trail_happens (events_at a.host steps) (world_here a) (world_here p) (steps-alone a.host steps prepared.plays.are)
    (trail-here a p prepared) in
    happens.steady.size

pub access-keeps : {O : Type 0} {g : OfObserver O} {a p : LentBus O g} {new : List StationState} {there : p.host < length new}
    {room : length p.ticks.now ≤ g.room_left p.observer.now} (access : Access) → PreparedLent a p
    → new ≡ stations_after p.host (Accesses access) p.stations.now → IsAnswered access (world_here p)
    → length (world_after_access access (world_here p)).memory ≡ bytes_here p
    → KeepsProperties bytes_here SameLent (λ (bus : LentBus O g). ⊤) never_lively a (with_stations p new there room)
access-keeps {a = a} {p = p} {new = new} {there = there} {room = room} access prepared leaves answered size = record {
  extent = ap (λ (w : World). length w.memory) (world-there p new access answered leaves) ∙ size ∙ size-prepared a p prepared;
  lent_stays = same_lent_on a p (with_stations p new there room) prepared.lent (record { stations = refl; observer = refl; host = refl });
  honest = λ honest. honest;
  lively = λ lively. lively;
}

-- An access is an act of the bus (`Acts`): the ticks before the access are played (`PreparedLent`), and then the access
-- changes the stations.
pub acted : {O : Type 0} {g : OfObserver O} {a p : LentBus O g} {new : List StationState} {there : p.host < length new}
    {room : length p.ticks.now ≤ g.room_left p.observer.now} {access : Access} {effect : World → World → Type 0} → PreparedLent a p
    → new ≡ stations_after p.host (Accesses access) p.stations.now
    → IsAnswered access (world_here p) → IsAdapter (world_here p).adapter
    → (world_at new p.host ≡ world_after_access access (world_here p) → effect (world_here p) (world_at new p.host))
    → Acts (view world_here HappenedLent never_lively) a (with_stations p new there room) access effect
acted {g = g} {a = a} {p = p} {new = new} {there = there} {room = room} {access = access} prepared state answered adapter does =
    let plays = prepared.plays in
    let steps = plays.steps in
    let events = events_at a.host steps in
    let are = steps-alone a.host steps plays.are in
    let last = At a.host (Accesses access) in
    let host = prepared.lent.host in
    let still = counted-ticks a.accesses steps plays.are in
    let occurs : OccursAt a.host (Accesses access) p.stations.now =
    subst (λ (h : ℕ). OccursAt h (Accesses access) p.stations.now) host (occurs-access p.stations.now p.host access p.there answered) in
    let behind : new ≡ stations_after a.host (Accesses access) p.stations.now =
    state ∙ ap (λ (h : ℕ). stations_after h (Accesses access) p.stations.now) host in
    let heard : steps_told a.accesses steps ≡ steps_told a.accesses (steps ++ last ∷ []) =
    sym (steps_told_join a.accesses steps (last ∷ []) ∙ append-nil (steps_told a.accesses steps)) in
    let count : counted_of a.accesses (steps ++ last ∷ []) ≡ min (a.accesses + 1) most_accesses =
    counted_join a.accesses steps (last ∷ []) ∙ ap (λ (n : ℕ). min (n + 1) most_accesses) still in
    record {
      middle = world_here p;
      past = record (past_of events) { accesses = access ∷ [] };
      only = refl;
      told = record {
        lent = same_lent_on a p (with_stations p new there room) prepared.lent (record { stations = refl; observer = refl; host = refl });
        steps = steps ++ last ∷ [];
        leads = leads_join a.host steps (last ∷ []) a.stations.now p.stations.now new (plays.leads a.host)
            (occurs, refl, behind);
        past_is =
            past-with_access events access are
            ∙ past_of-append events (Accesses access ∷ [])
            ∙ ap (joined (past_of events)) (sym (past-here a.host access))
            ∙ sym (past_join a.host steps (last ∷ []));
        played =
            map-append tick_of steps (last ∷ [])
            ∙ ap (λ (list : List Tick). list ++ Go ∷ []) plays.played;
        waiting = prepared.waiting;
        heard = subst (g.heard a.observer.now p.observer.now) heard plays.heard;
        accesses = record { number = prepared.count ∙ sym count; count = omega (arith, prepared.count) };
      };
      ticks = λ never. absurd never;
      before =
          happens_accesses (world_here a) (world_here p) (past_of events) (access ∷ []) (no_access events are)
          (trail_happens events (world_here a) (world_here p) are (trail-here a p prepared));
      adapter = adapter;
      effect_is = does (world-there p new access answered state);
    }
