-- Each host's adapter and memory change by the events at this host.
use Rattle.std.proofs.Common.{◌≡◌, ◌==◌, ◌&&◌, ◌++◌, ◌∷◌, [], not, ℕ, Bool, true, false, List, All, Option, Some, None, slice_get}
use Rattle.std.proofs.Common.{option_map}
use Rattle.std.proofs.Common.{if◌then◌else◌, inl, inr, refl, sym, ap, subst, ◌∙◌}
use Rattle.std.proofs.lemmas.Bool.{cases_Bool}
use Rattle.std.proofs.lemmas.Bool.Decides.{eqb_tells}
use Rattle.std.proofs.lemmas.List.Elements.{All-cons}
use Rattle.adapter.specs.World.{World}
use Rattle.adapter.proofs.Lists.{all-head, all-none, all-tail}
use Rattle.adapter.specs.Trails.{IsStep, Occurs, Trail, past_of_event, world_after}
use Rattle.adapter.specs.bus_types.event.Event.{Event}
use Rattle.adapter.specs.bus_types.event.Event.TheVariants.{Accesses, Arrives, Steps}
use Rattle.stations.proofs.Places.{after-is, get-at_each}
use Rattle.stations.specs.AtomicSteps.{At, AtomicStep, Idles, OccursAt}
use Rattle.stations.specs.Stations.{StationState, each_after, station_after, stations_after, wire_at, wire_of, with_frames, world_at}
use Rattle.stations.specs.Stations.{world_of}
use Rattle.stations.specs.AtomicRuns.{IsTick, LeadsTo, events_at}

-- The host with this number exists and is on this wire.
pub record Stands (ss : List StationState) (host wire : ℕ) : Type 0 where
  pub station : StationState
  pub is : slice_get ss host ≡ Some station
  pub on_wire : station.wire ≡ wire

stands-found : (ss : List StationState) (host wire : ℕ) (found : Option StationState) → slice_get ss host ≡ found → wire_of found
    ≡ Some wire
    → Stands ss host wire
stands-found ss host wire None is on = absurd (cc)
stands-found ss host wire (Some s) is on = record { station = s; is = is; on_wire = let same : s.wire ≡ wire = cc in same }

pub stands : (ss : List StationState) (host wire : ℕ) → wire_at ss host ≡ Some wire → Stands ss host wire
stands ss host wire on = stands-found ss host wire (slice_get ss host) refl on

pub at-place : (ss : List StationState) (host k : ℕ) (event : Event) (s : StationState) → slice_get ss host ≡ Some s
    → slice_get (stations_after host event ss) k ≡ option_map (each_after host s.wire event k) (slice_get ss k)
at-place ss host k event s is =
    ap (λ (list : List StationState). slice_get list k) (after-is host event ss s is) ∙ get-at_each (each_after host s.wire event) ss k

-- The host itself

here : (host wire : ℕ) (event : Event) (s : StationState) → (host == host) ≡ true → each_after host wire event host s
    ≡ station_after event s
here host wire event s itself = rw itself refl

-- A part of the host's station after an event at this host.
pub part-here : {X : Type 0} (part : Option StationState → X) (change : X → X) (ss : List StationState) (host : ℕ) (event : Event)
    → (host == host) ≡ true → OccursAt host event ss
    → ((s : StationState) → part (Some (station_after event s)) ≡ change (part (Some s)))
    → part (slice_get (stations_after host event ss) host) ≡ change (part (slice_get ss host))
part-here {X} part change ss host event itself occurs each =
    let at = stands ss host occurs.wire occurs.on_wire in
    ap part
    (at-place ss host host event at.station at.is
    ∙ ap (option_map (each_after host at.station.wire event host)) at.is
    ∙ ap Some (here host at.station.wire event at.station itself))
    ∙ each at.station
    ∙ ap (λ (o : Option StationState). change (part o)) (sym at.is)

pub world-here : (ss : List StationState) (host : ℕ) (event : Event) → (host == host) ≡ true → OccursAt host event ss
    → world_at (stations_after host event ss) host ≡ world_after event (world_at ss host)
world-here ss host event itself occurs = part-here world_of (world_after event) ss host event itself occurs (λ s. refl)

-- Another host

frames-leave_world : (sender wire k : ℕ) (frames : List (List ℕ)) (s : StationState) → (with_frames sender wire frames k s).world ≡ s.world
frames-leave_world sender wire k frames s =
    elim (cases_Bool (not (k == sender) && (s.wire == wire))) [ inl e ↦ rw e refl | inr e ↦ rw e refl ]

elsewhere : (host k wire : ℕ) (event : Event) (o : Option StationState) → (k == host) ≡ false
    → world_of (option_map (each_after host wire event k) o) ≡ world_of o
elsewhere host k wire event None other = refl
elsewhere host k wire event (Some s) other =
    ap (λ (b : Bool). (if b then station_after event s else with_frames host wire (past_of_event event).put k s).world) other
    ∙ frames-leave_world host wire k (past_of_event event).put s

world-elsewhere : (ss : List StationState) (host k : ℕ) (event : Event) → (k == host) ≡ false → OccursAt host event ss
    → world_at (stations_after host event ss) k ≡ world_at ss k
world-elsewhere ss host k event other occurs =
    let at = stands ss host occurs.wire occurs.on_wire in
    ap world_of (at-place ss host k event at.station at.is) ∙ elsewhere host k at.station.wire event (slice_get ss k) other

pub trail-of : (caller k : ℕ) (steps : List AtomicStep) (a b : List StationState) → LeadsTo caller steps a b
    → Trail (events_at k steps) (world_at a k) (world_at b k)
trail-of caller k [] a b leads = ap (λ (ss : List StationState). world_at ss k) leads
trail-of caller k (At host event ∷ later) a b leads =
    let rest = trail-of caller k later (stations_after host event a) b leads.2 in
    let goal = λ (here : Bool). Trail ((if here then event ∷ [] else []) ++ events_at k later) (world_at a k) (world_at b k) in
    elim (eqb_tells k host) [
      | inl same ↦ subst goal (sym same.0)
          (let itself : (host == host) ≡ true = subst (λ (n : ℕ). (n == host) ≡ true) same.1 same.0 in (
            subst (λ (n : ℕ). Occurs event (world_at a n)) (sym same.1) leads.0.occurs,
            subst (λ (w : World). Trail (events_at k later) w (world_at b k))
                (subst (λ (n : ℕ). world_at (stations_after host event a) n ≡ world_after event (world_at a n)) (sym same.1)
                (world-here a host event itself leads.0)) rest,
          ))
      | inr other ↦ subst goal (sym other.0)
          (subst (λ (w : World). Trail (events_at k later) w (world_at b k)) (world-elsewhere a host k event other.0 leads.0) rest)
    ]
trail-of caller k (Idles tick ∷ later) a b leads = trail-of caller k later a b leads.2

one-more : (here : Bool) (event : Event) (later : List Event) → IsStep event → All IsStep later
    → All IsStep ((if here then event ∷ [] else []) ++ later)
one-more true event later is are = All-cons IsStep event later is are
one-more false event later is are = are

is-step : (host : ℕ) (event : Event) → IsTick (At host event) → IsStep event
is-step host (Steps kind wire_free answer) is = tt
is-step host (Arrives frame fate) is = tt
is-step host (Accesses access) is = absurd (cc)

pub steps-alone : (k : ℕ) (steps : List AtomicStep) → All IsTick steps → All IsStep (events_at k steps)
steps-alone k [] are = all-none IsStep
steps-alone k (At host event ∷ later) are =
    one-more (k == host) event (events_at k later) (is-step host event (all-head IsTick (At host event) later are))
    (steps-alone k later (all-tail IsTick (At host event) later are))
steps-alone k (Idles tick ∷ later) are = steps-alone k later (all-tail IsTick (Idles tick) later are)
