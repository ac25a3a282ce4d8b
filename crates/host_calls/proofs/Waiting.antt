-- The frames that waited at a host's end, followed by those put toward the host, have reached the host or wait.
use Rattle.std.proofs.Common.{◌≡◌, ◌++◌, ◌∷◌, [], ◌==◌, ◌&&◌, not, ℕ, Bool, true, false, Option, Some, None, List, drop}
use Rattle.std.proofs.Common.{append_assoc, if◌then◌else◌, inl, inr, option_map, refl, slice_get, subst, sym, ap, ◌∙◌}
use Rattle.std.proofs.lemmas.Bool.{cases_Bool}
use Rattle.std.proofs.lemmas.Bool.Decides.{eqb_tells}
use Rattle.std.proofs.lemmas.Grind.{flat_map-append}
use Rattle.std.proofs.lemmas.List.{append-nil}
use Rattle.std.specs.List.{flat_map}
use Rattle.adapter.specs.World.{World}
use Rattle.adapter.specs.Trails.{Occurs, past_of_event}
use Rattle.adapter.specs.bus_types.event.Event.{Event}
use Rattle.adapter.specs.bus_types.event.Event.TheVariants.{Accesses, Arrives, Steps}
use Rattle.stations.proofs.HostTrails.{at-place, part-here, stands}
use Rattle.stations.specs.AtomicSteps.{At, AtomicStep, CanHappen, Idles, OccursAt, SuitsWire, after_atomic, outcome_of_event}
use Rattle.stations.specs.Stations.{StationState, backlog_after, backlog_at, backlog_of, each_after, station_after}
use Rattle.stations.specs.Stations.{stations_after, wire_at, wire_of, with_frames, world_at}
use Rattle.stations.specs.AtomicRuns.{LeadsTo, events_at}
use Rattle.host_calls.proofs.HostLists.{arrived_in, frames_in, none-chosen, put-chosen, put-occurs, reached-told, step-told}
use Rattle.host_calls.specs.Happenings.{happened_in, reached, share_wire, outcome_happenings, toward, toward_by}

-- Wires don't change

frames-leave_wire : (sender wire k : ℕ) (frames : List (List ℕ)) (s : StationState) → (with_frames sender wire frames k s).wire ≡ s.wire
frames-leave_wire sender wire k frames s =
    elim (cases_Bool (not (k == sender) && (s.wire == wire))) [ inl e ↦ rw e refl | inr e ↦ rw e refl ]

wire-by : (host wire k : ℕ) (event : Event) (s : StationState) (here : Bool)
    → (if here then station_after event s else with_frames host wire (past_of_event event).put k s).wire ≡ s.wire
wire-by host wire k event s true = refl
wire-by host wire k event s false = frames-leave_wire host wire k (past_of_event event).put s

wire-each : (host wire k : ℕ) (event : Event) (o : Option StationState) → wire_of (option_map (each_after host wire event k) o) ≡ wire_of o
wire-each host wire k event None = refl
wire-each host wire k event (Some s) = ap Some (wire-by host wire k event s (k == host))

wire-after : (step : AtomicStep) (ss : List StationState) (k : ℕ) → CanHappen step ss → wire_at (after_atomic step ss) k ≡ wire_at ss k
wire-after (At host event) ss k occurs =
    let at = stands ss host occurs.wire occurs.on_wire in
    ap wire_of (at-place ss host k event at.station at.is) ∙ wire-each host at.station.wire k event (slice_get ss k)
wire-after (Idles tick) ss k idle = refl

pub wires-stay : (caller k : ℕ) (steps : List AtomicStep) (a b : List StationState) → LeadsTo caller steps a b → wire_at b k ≡ wire_at a k
wires-stay caller k [] a b leads = ap (λ (ss : List StationState). wire_at ss k) leads
wires-stay caller k (step ∷ later) a b leads = wires-stay caller k later (after_atomic step a) b leads.2 ∙ wire-after step a k leads.0

-- The host itself

backlog-here : (ss : List StationState) (host : ℕ) (event : Event) → (host == host) ≡ true → OccursAt host event ss
    → backlog_at (stations_after host event ss) host ≡ backlog_after event (backlog_at ss host)
backlog-here ss host event itself occurs = part-here backlog_of (backlog_after event) ss host event itself occurs (λ s. refl)

oldest-first : (backlog : List (List ℕ)) (frame : List ℕ) → slice_get backlog 0 ≡ Some frame → frame ∷ drop 1 backlog ≡ backlog
oldest-first [] frame oldest = absurd (cc)
oldest-first (first ∷ later) frame oldest =
    let same : frame ≡ first = cc in
    ap (λ (f : List ℕ). f ∷ later) same

arrives-first : (event : Event) (host wire : ℕ) (ss : List StationState) → SuitsWire host wire event ss
    → arrived_in event ++ backlog_after event (backlog_at ss host) ≡ backlog_at ss host
arrives-first (Steps kind wire_free answer) host wire ss suits = refl
arrives-first (Arrives frame fate) host wire ss suits = oldest-first (backlog_at ss host) frame suits
arrives-first (Accesses access) host wire ss suits = refl

-- Another host

frames-wait : (sender wire k : ℕ) (frames : List (List ℕ)) (s : StationState) → (k == sender) ≡ false
    → (with_frames sender wire frames k s).backlog ≡ s.backlog ++ (if s.wire == wire then frames else [])
frames-wait sender wire k frames s other =
    rw other (elim (cases_Bool (s.wire == wire)) [ inl e ↦ rw e refl | inr e ↦ rw e (sym (append-nil s.backlog)) ])

elsewhere : (host k wire : ℕ) (event : Event) (o : Option StationState) → (k == host) ≡ false
    → backlog_of (option_map (each_after host wire event k) o)
    ≡ backlog_of o ++ (if share_wire (wire_of o) (Some wire) then (past_of_event event).put else [])
elsewhere host k wire event None other = refl
elsewhere host k wire event (Some s) other =
    ap (λ (b : Bool). (if b then station_after event s else with_frames host wire (past_of_event event).put k s).backlog) other
    ∙ frames-wait host wire k (past_of_event event).put s other

backlog-elsewhere : (ss : List StationState) (host k : ℕ) (event : Event) → (k == host) ≡ false → OccursAt host event ss
    → backlog_at (stations_after host event ss) k
    ≡ backlog_at ss k ++ (if share_wire (wire_at ss k) (wire_at ss host) then (past_of_event event).put else [])
backlog-elsewhere ss host k event other occurs =
    let at = stands ss host occurs.wire occurs.on_wire in
    ap backlog_of (at-place ss host k event at.station at.is)
    ∙ elsewhere host k at.station.wire event (slice_get ss k) other
    ∙ ap (λ (o : Option StationState). backlog_at ss k
    ++ (if share_wire (wire_at ss k) (wire_of o) then (past_of_event event).put else [])) (sym at.is)

-- Frames that other hosts put on a host's wire

abbrev sent : (wires : ℕ → Option ℕ) → (k host : ℕ) → Event → List (List ℕ)
sent wires k host event = if not (k == host) && share_wire (wires k) (wires host) then (past_of_event event).put else []

toward-event : (wires : ℕ → Option ℕ) (k host : ℕ) (event : Event) (world : World) → Occurs event world
    → flat_map (toward_by wires k) (outcome_happenings host (outcome_of_event event))
    ≡ (if not (k == host) && share_wire (wires k) (wires host) then frames_in event else [])
toward-event wires k host (Steps kind wire_free answer) world occurs =
    let shared = not (k == host) && share_wire (wires k) (wires host) in
    step-told (toward_by wires k) host (λ frame. if shared then frame ∷ [] else []) [] kind wire_free answer world occurs
    (λ frame. refl) refl
    ∙ put-chosen shared answer
toward-event wires k host (Arrives frame fate) world occurs = none-chosen (not (k == host) && share_wire (wires k) (wires host))
toward-event wires k host (Accesses access) world occurs = none-chosen (not (k == host) && share_wire (wires k) (wires host))

toward-step : (wires : ℕ → Option ℕ) (k host : ℕ) (event : Event) (later : List AtomicStep) (ss : List StationState)
    → OccursAt host event ss
    → toward wires k (happened_in (At host event ∷ later)) ≡ sent wires k host event ++ toward wires k (happened_in later)
toward-step wires k host event later ss occurs =
    flat_map-append (toward_by wires k) (outcome_happenings host (outcome_of_event event)) (happened_in later)
    ∙ ap (λ (front : List (List ℕ)). front ++ toward wires k (happened_in later))
    (toward-event wires k host event (world_at ss host) occurs.occurs
    ∙ ap (λ (frames : List (List ℕ)). if not (k == host) && share_wire (wires k) (wires host) then frames else [])
    (put-occurs event (world_at ss host) occurs.occurs))

-- All steps

waits-events : (caller k : ℕ) (wires : ℕ → Option ℕ) (steps : List AtomicStep) (a b : List StationState)
    → ((host : ℕ) → wire_at a host ≡ wires host) → LeadsTo caller steps a b
    → flat_map arrived_in (events_at k steps) ++ backlog_at b k ≡ backlog_at a k ++ toward wires k (happened_in steps)
waits-events caller k wires [] a b are leads = ap (λ (ss : List StationState). backlog_at ss k) leads ∙ sym (append-nil (backlog_at a k))
waits-events caller k wires (At host event ∷ later) a b are leads =
    let mid = stations_after host event a in
    let put = (past_of_event event).put in
    let toward_later = toward wires k (happened_in later) in
    let rest = waits-events caller k wires later mid b (λ j. wire-after (At host event) a j leads.0 ∙ are j) leads.2 in
    let goal = λ (itself : Bool). flat_map arrived_in ((if itself then event ∷ [] else []) ++ events_at k later) ++ backlog_at b k
    ≡ backlog_at a k ++ ((if not itself && share_wire (wires k) (wires host) then put else []) ++ toward_later) in
    elim (eqb_tells k host) [
      | inl same ↦
          subst goal (sym same.0)
          (let itself : (host == host) ≡ true = subst (λ (n : ℕ). (n == host) ≡ true) same.1 same.0 in
          let mine : backlog_at mid k ≡ backlog_after event (backlog_at a k) =
          subst (λ (n : ℕ). backlog_at mid n ≡ backlog_after event (backlog_at a n)) (sym same.1)
          (backlog-here a host event itself leads.0) in
          let first : arrived_in event ++ backlog_after event (backlog_at a k) ≡ backlog_at a k =
          subst (λ (n : ℕ). arrived_in event ++ backlog_after event (backlog_at a n) ≡ backlog_at a n) (sym same.1)
          (arrives-first event host leads.0.wire a leads.0.suits_wire) in
          append_assoc (arrived_in event) (flat_map arrived_in (events_at k later)) (backlog_at b k)
          ∙ ap (λ (behind : List (List ℕ)). arrived_in event ++ behind)
          (rest ∙ ap (λ (front : List (List ℕ)). front ++ toward_later) mine)
          ∙ sym (append_assoc (arrived_in event) (backlog_after event (backlog_at a k)) toward_later)
          ∙ ap (λ (front : List (List ℕ)). front ++ toward_later) first)
      | inr other ↦
          subst goal (sym other.0)
          (rest
          ∙ ap (λ (front : List (List ℕ)). front ++ toward_later)
          (backlog-elsewhere a host k event other.0 leads.0
          ∙ ap (λ (wire : Option ℕ). backlog_at a k ++ (if share_wire wire (wire_at a host) then put else [])) (are k)
          ∙ ap (λ (wire : Option ℕ). backlog_at a k ++ (if share_wire (wires k) wire then put else [])) (are host))
          ∙ append_assoc (backlog_at a k) (if share_wire (wires k) (wires host) then put else []) toward_later)
    ]
    ∙ ap (λ (behind : List (List ℕ)). backlog_at a k ++ behind) (sym (toward-step wires k host event later a leads.0))
waits-events caller k wires (Idles tick ∷ later) a b are leads = waits-events caller k wires later a b are leads.2

pub waits-on : (caller k : ℕ) (steps : List AtomicStep) (a b : List StationState) → LeadsTo caller steps a b
    → reached k (happened_in steps) ++ backlog_at b k ≡ backlog_at a k ++ toward (wire_at a) k (happened_in steps)
waits-on caller k steps a b leads =
    ap (λ (front : List (List ℕ)). front ++ backlog_at b k) (reached-told caller k steps a b leads)
    ∙ waits-events caller k (wire_at a) steps a b (λ host. refl) leads
