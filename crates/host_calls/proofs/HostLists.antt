-- The lists of frames of each host (put, stored, reached) and its number of missed frames follow from the events at
-- this host.
use Rattle.std.proofs.Common.{◌≡◌, ◌+◌, ◌++◌, ◌∷◌, [], ◌==◌, ℕ, Bool, true, false, List, if◌then◌else◌, refl, sym, ap, ◌∙◌}
use Rattle.std.proofs.Common.{arith, sum_by}
use Rattle.std.proofs.lemmas.Grind.{flat_map-append}
use Rattle.std.proofs.lemmas.List.{append-nil}
use Rattle.std.proofs.lemmas.List.Sums.{sum_by-append, sum_by-cons}
use Rattle.std.specs.List.{flat_map}
use Rattle.adapter.specs.Outcomes.{FrameOutcome, put_by as frames_put}
use Rattle.adapter.specs.Steps.{ticked}
use Rattle.adapter.specs.World.{World}
use Rattle.adapter.specs.model_types.outcome.Outcome.TheVariants as outcome
use Rattle.adapter.specs.model_types.step.StepKind.{StepKind}
use Rattle.adapter.specs.model_types.step.StepKind.TheVariants.{EepromTick, PhyTick, RxData, RxDone, TxPut, TxTake}
use Rattle.eeprom.specs.Eerd.{is_pending}
use Rattle.mdic_phy.specs.Mdic.{has_work}
use Rattle.rx_engine.specs.Arriving.{kept}
use Rattle.rx_engine.specs.declared.arrival.Fate.{Fate}
use Rattle.adapter.specs.StepsAndArrivals.{past_of_step}
use Rattle.adapter.specs.Trails.{Occurs, Trail, past_of, past_of_event, world_after}
use Rattle.adapter.specs.bus_types.event.Event.{Event}
use Rattle.adapter.specs.bus_types.event.Event.TheVariants.{Accesses, Arrives, Steps}
use Rattle.stations.proofs.PlayedTicks.{put-is}
use Rattle.stations.specs.AtomicSteps.{At, AtomicStep, Idles, after_atomic, outcome_of_event}
use Rattle.stations.specs.Stations.{StationState, world_at}
use Rattle.stations.proofs.HostTrails.{trail-of}
use Rattle.stations.specs.AtomicRuns.{LeadsTo, events_at, past_at}
use Rattle.host_calls.specs.Lists.{holding_in_one, sending_in_one}
use Rattle.host_calls.specs.Fates.{Came, Mark, Went, mark_by, marks}
use Rattle.host_calls.specs.Happenings.{Happening, Moved, Put, Reached, accepted, accepted_in_one, given, given_in_one, happened_in}
use Rattle.host_calls.specs.Happenings.{
  missed,
  missed_of,
  of_host,
  put,
  put_in_one,
  reached,
  reached_by,
  stored,
  stored_by,
  outcome_happenings,
}

-- The happening of a step: the frame that it put, or that it moved a frame

abbrev pub by_answer : {X : Type 0} → (List ℕ → List X) → List X → FrameOutcome → List X
by_answer puts moves (outcome.Put frame) = puts frame
by_answer puts moves outcome.Moved = moves
by_answer puts moves _ = []

never-ticked : (works : Bool) (frame : List ℕ) (fate : Fate) → outcome.Delivered frame fate ≡ ticked works → ⊥
never-ticked true frame fate is = absurd (cc)
never-ticked false frame fate is = absurd (cc)

never-delivers : (kind : StepKind) (wire_free : Bool) (world : World) (frame : List ℕ) (fate : Fate)
    → Occurs (Steps kind wire_free (outcome.Delivered frame fate)) world → ⊥
never-delivers EepromTick wire_free world frame fate occurs = never-ticked (is_pending world.adapter.eerd) frame fate occurs.1
never-delivers PhyTick wire_free world frame fate occurs =
    never-ticked (has_work world.adapter.mdic world.adapter.phy) frame fate occurs.1
never-delivers _ wire_free world frame fate occurs = occurs.1

pub step-told :
    {X : Type 0} (f : Happening → List X) (host : ℕ) (puts : List ℕ → List X) (moves : List X)
    (kind : StepKind) (wire_free : Bool) (answer : FrameOutcome) (world : World)
    → Occurs (Steps kind wire_free answer) world → ((frame : List ℕ) → f (Put host frame) ≡ puts frame) → f (Moved host) ≡ moves
    → flat_map f (outcome_happenings host answer) ≡ by_answer puts moves answer
step-told f host puts moves kind wire_free (outcome.Delivered frame fate) world occurs put moved =
    absurd (never-delivers kind wire_free world frame fate occurs)
step-told f host puts moves kind wire_free (outcome.Put frame) world occurs put moved = append-nil (f (Put host frame)) ∙ put frame
step-told f host puts moves kind wire_free outcome.Moved world occurs put moved = append-nil (f (Moved host)) ∙ moved
step-told f host puts moves kind wire_free _ world occurs put moved = refl

pub none-told : {X : Type 0} (answer : FrameOutcome) → by_answer {X = X} (λ frame. []) [] answer ≡ []
none-told (outcome.Put frame) = refl
none-told outcome.Moved = refl
none-told _ = refl

pub none-chosen : {X : Type 0} (here : Bool) → (let none : List X = [] in none) ≡ (if here then [] else [])
none-chosen true = refl
none-chosen false = refl

pub put-chosen : (here : Bool) (answer : FrameOutcome)
    → by_answer (λ frame. if here then frame ∷ [] else []) [] answer ≡ (if here then frames_put answer else [])
put-chosen here (outcome.Put frame) = refl
put-chosen here outcome.Moved = none-chosen here
put-chosen here _ = none-chosen here

-- A list of one host follows from its events

chosen-more : {X : Type 0} (g : Event → List X) (here : Bool) (event : Event) (later : List Event)
    → flat_map g ((if here then event ∷ [] else []) ++ later) ≡ (if here then g event else []) ++ flat_map g later
chosen-more g true event later = refl
chosen-more g false event later = refl

-- For each event at a host, `f` finds the list `g event` in the event's happenings if this host is k, else the empty
-- list.
abbrev pub Tells : {X : Type 0} → (Happening → List X) → (Event → List X) → (k : ℕ) → Type 0
Tells f g k =
    (host : ℕ) (event : Event) (world : World) → Occurs event world
    → flat_map f (outcome_happenings host (outcome_of_event event)) ≡ of_host k host (g event)

pub by-events :
    {X : Type 0} (f : Happening → List X) (g : Event → List X) (caller k : ℕ) (steps : List AtomicStep) (a b : List StationState)
    → LeadsTo caller steps a b → Tells f g k → flat_map f (happened_in steps) ≡ flat_map g (events_at k steps)
by-events f g caller k [] a b leads each = refl
by-events {X} f g caller k (At host event ∷ later) a b leads each =
    flat_map-append f (outcome_happenings host (outcome_of_event event)) (happened_in later)
    ∙ ap (λ (front : List X). front ++ flat_map f (happened_in later)) (each host event (world_at a host) leads.0.occurs)
    ∙ ap (λ (behind : List X). of_host k host (g event) ++ behind)
    (by-events f g caller k later (after_atomic (At host event) a) b leads.2 each)
    ∙ sym (chosen-more g (k == host) event (events_at k later))
by-events f g caller k (Idles tick ∷ later) a b leads each = by-events f g caller k later a b leads.2 each

-- Frames put

abbrev pub frames_in : Event → List (List ℕ)
frames_in (Steps kind wire_free answer) = frames_put answer
frames_in (Arrives frame fate) = []
frames_in (Accesses access) = []

put-event : (k : ℕ) → Tells (put_in_one k) frames_in k
put-event k host (Steps kind wire_free answer) world occurs =
    step-told (put_in_one k) host (λ frame. of_host k host (frame ∷ [])) [] kind wire_free answer world occurs (λ frame. refl) refl
    ∙ put-chosen (k == host) answer
put-event k host (Arrives frame fate) world occurs = none-chosen (k == host)
put-event k host (Accesses access) world occurs = none-chosen (k == host)

pub put-occurs : (event : Event) (world : World) → Occurs event world → frames_in event ≡ (past_of_event event).put
put-occurs (Steps kind wire_free answer) world occurs = put-is kind wire_free world.memory world.adapter answer occurs.1
put-occurs (Arrives frame fate) world occurs = refl
put-occurs (Accesses access) world occurs = refl

put-trail : (events : List Event) (a b : World) → Trail events a b → flat_map frames_in events ≡ (past_of events).put
put-trail [] a b trail = refl
put-trail (event ∷ later) a b trail =
    ap (λ (front : List (List ℕ)). front ++ flat_map frames_in later) (put-occurs event a trail.0)
    ∙ ap (λ (behind : List (List ℕ)). (past_of_event event).put ++ behind) (put-trail later (world_after event a) b trail.1)

pub put-told : (caller k : ℕ) (steps : List AtomicStep) (a b : List StationState) → LeadsTo caller steps a b
    → put k (happened_in steps) ≡ (past_at k steps).put
put-told caller k steps a b leads =
    by-events (put_in_one k) frames_in caller k steps a b leads (put-event k)
    ∙ put-trail (events_at k steps) (world_at a k) (world_at b k) (trail-of caller k steps a b leads)

-- Frames stored

-- The frames that an event at a host gives, if only an arrival gives frames.
abbrev pub by_arrival : (List ℕ → Fate → List (List ℕ)) → Event → List (List ℕ)
by_arrival of_frame (Steps kind wire_free answer) = []
by_arrival of_frame (Arrives frame fate) = of_frame frame fate
by_arrival of_frame (Accesses access) = []

arrival-event : (f : Happening → List (List ℕ)) (of_frame : List ℕ → Fate → List (List ℕ)) (k : ℕ)
    → ((host : ℕ) (frame : List ℕ) → f (Put host frame) ≡ []) → ((host : ℕ) → f (Moved host) ≡ [])
    → ((host : ℕ) (frame : List ℕ) (fate : Fate) → f (Reached host frame fate) ≡ of_host k host (of_frame frame fate))
    → Tells f (by_arrival of_frame) k
arrival-event f of_frame k put moved came host (Steps kind wire_free answer) world occurs =
    step-told f host (λ frame. []) [] kind wire_free answer world occurs (put host) (moved host)
    ∙ none-told answer ∙ none-chosen (k == host)
arrival-event f of_frame k put moved came host (Arrives frame fate) world occurs =
    append-nil (f (Reached host frame fate)) ∙ came host frame fate
arrival-event f of_frame k put moved came host (Accesses access) world occurs = none-chosen (k == host)

abbrev pub kept_in : Event → List (List ℕ)
kept_in event = by_arrival (λ frame fate. kept fate frame) event

stored-event : (k : ℕ) → Tells (stored_by k) kept_in k
stored-event k =
    arrival-event (stored_by k) (λ frame fate. kept fate frame) k (λ host frame. refl) (λ host. refl) (λ host frame fate. refl)

none-stored : (kind : StepKind) (answer : FrameOutcome) → [] ≡ (past_of_step kind answer).stored
none-stored TxPut answer = refl
none-stored _ answer = refl

stored-is : (event : Event) → kept_in event ≡ (past_of_event event).stored
stored-is (Steps kind wire_free answer) = none-stored kind answer
stored-is (Arrives frame fate) = refl
stored-is (Accesses access) = refl

stored-events : (events : List Event) → flat_map kept_in events ≡ (past_of events).stored
stored-events [] = refl
stored-events (event ∷ later) =
    ap (λ (front : List (List ℕ)). front ++ flat_map kept_in later) (stored-is event)
    ∙ ap (λ (behind : List (List ℕ)). (past_of_event event).stored ++ behind) (stored-events later)

pub stored-told : (caller k : ℕ) (steps : List AtomicStep) (a b : List StationState) → LeadsTo caller steps a b
    → stored k (happened_in steps) ≡ (past_at k steps).stored
stored-told caller k steps a b leads =
    by-events (stored_by k) kept_in caller k steps a b leads (stored-event k) ∙ stored-events (events_at k steps)

-- The number of frames missed

none-missed : (kind : StepKind) (answer : FrameOutcome) → (let none : ℕ = 0 in none) ≡ (past_of_step kind answer).missed
none-missed TxTake answer = refl
none-missed TxPut answer = refl
none-missed RxData answer = refl
none-missed RxDone answer = refl
none-missed EepromTick answer = refl
none-missed PhyTick answer = refl

no-number : (here : Bool) → (let none : ℕ = 0 in none) ≡ (if here then 0 else 0)
no-number true = refl
no-number false = refl

step-missed : (k host : ℕ) (kind : StepKind) (wire_free : Bool) (answer : FrameOutcome) (world : World)
    → Occurs (Steps kind wire_free answer) world → sum_by (missed_of k) (outcome_happenings host answer) ≡ 0
step-missed k host kind wire_free (outcome.Delivered frame fate) world occurs =
    absurd (never-delivers kind wire_free world frame fate occurs)
step-missed k host kind wire_free (outcome.Put frame) world occurs = omega (arith, sum_by-cons (missed_of k) (Put host frame) [])
step-missed k host kind wire_free outcome.Moved world occurs = omega (arith, sum_by-cons (missed_of k) (Moved host) [])
step-missed k host kind wire_free _ world occurs = refl

event-missed : (k host : ℕ) (event : Event) (world : World) → Occurs event world
    → sum_by (missed_of k) (outcome_happenings host (outcome_of_event event)) ≡ (if k == host then (past_of_event event).missed else 0)
event-missed k host (Steps kind wire_free answer) world occurs =
    step-missed k host kind wire_free answer world occurs
    ∙ no-number (k == host)
    ∙ ap (λ (n : ℕ). if k == host then n else 0) (none-missed kind answer)
event-missed k host (Arrives frame fate) world occurs = omega (arith, sum_by-cons (missed_of k) (Reached host frame fate) [])
event-missed k host (Accesses access) world occurs = no-number (k == host)

chosen-missed : (here : Bool) (event : Event) (later : List Event)
    → (past_of ((if here then event ∷ [] else []) ++ later)).missed
    ≡ (if here then (past_of_event event).missed else 0) + (past_of later).missed
chosen-missed true event later = refl
chosen-missed false event later = omega arith

pub missed-told : (caller k : ℕ) (steps : List AtomicStep) (a b : List StationState) → LeadsTo caller steps a b
    → missed k (happened_in steps) ≡ (past_at k steps).missed
missed-told caller k [] a b leads = refl
missed-told caller k (At host event ∷ later) a b leads =
    sum_by-append (missed_of k) (outcome_happenings host (outcome_of_event event)) (happened_in later)
    ∙ ap (λ (n : ℕ). n + missed k (happened_in later)) (event-missed k host event (world_at a host) leads.0.occurs)
    ∙ ap (λ (n : ℕ). (if k == host then (past_of_event event).missed else 0) + n)
    (missed-told caller k later (after_atomic (At host event) a) b leads.2)
    ∙ sym (chosen-missed (k == host) event (events_at k later))
missed-told caller k (Idles tick ∷ later) a b leads = missed-told caller k later a b leads.2

-- Frames that reached the host

abbrev pub arrived_in : Event → List (List ℕ)
arrived_in event = by_arrival (λ frame fate. frame ∷ []) event

reached-event : (k : ℕ) → Tells (reached_by k) arrived_in k
reached-event k =
    arrival-event (reached_by k) (λ frame fate. frame ∷ []) k (λ host frame. refl) (λ host. refl) (λ host frame fate. refl)

pub reached-told : (caller k : ℕ) (steps : List AtomicStep) (a b : List StationState) → LeadsTo caller steps a b
    → reached k (happened_in steps) ≡ flat_map arrived_in (events_at k steps)
reached-told caller k steps a b leads = by-events (reached_by k) arrived_in caller k steps a b leads (reached-event k)

-- Marks: frames that arrived, and frames that were moved to memory

abbrev pub marks_of_answer : FrameOutcome → List Mark
marks_of_answer answer = by_answer (λ frame. []) (Went ∷ []) answer

abbrev pub marks_in : Event → List Mark
marks_in (Steps kind wire_free answer) = marks_of_answer answer
marks_in (Arrives frame fate) = Came frame fate ∷ []
marks_in (Accesses access) = []

marks-chosen : (here : Bool) (answer : FrameOutcome)
    → by_answer (λ frame. []) (if here then Went ∷ [] else []) answer ≡ (if here then marks_of_answer answer else [])
marks-chosen here (outcome.Put frame) = none-chosen here
marks-chosen here outcome.Moved = refl
marks-chosen here _ = none-chosen here

marks-event : (k : ℕ) → Tells (mark_by k) marks_in k
marks-event k host (Steps kind wire_free answer) world occurs =
    step-told (mark_by k) host (λ frame. []) (of_host k host (Went ∷ [])) kind wire_free answer world occurs (λ frame. refl) refl
    ∙ marks-chosen (k == host) answer
marks-event k host (Arrives frame fate) world occurs = append-nil (mark_by k (Reached host frame fate))
marks-event k host (Accesses access) world occurs = none-chosen (k == host)

pub marks-told : (caller k : ℕ) (steps : List AtomicStep) (a b : List StationState) → LeadsTo caller steps a b
    → marks k (happened_in steps) ≡ flat_map marks_in (events_at k steps)
marks-told caller k steps a b leads = by-events (mark_by k) marks_in caller k steps a b leads (marks-event k)

-- No frame was accepted or returned

none-happens : {X : Type 0} (f : Happening → List X) (steps : List AtomicStep)
    → ((host : ℕ) (outcome : FrameOutcome) → flat_map f (outcome_happenings host outcome) ≡ []) → flat_map f (happened_in steps) ≡ []
none-happens f [] none = refl
none-happens {X} f (At host event ∷ later) none =
    flat_map-append f (outcome_happenings host (outcome_of_event event)) (happened_in later)
    ∙ ap (λ (front : List X). front ++ flat_map f (happened_in later)) (none host (outcome_of_event event))
    ∙ none-happens f later none
none-happens f (Idles tick ∷ later) none = none-happens f later none

accepts-none : (k host : ℕ) (outcome : FrameOutcome) → flat_map (accepted_in_one k) (outcome_happenings host outcome) ≡ []
accepts-none k host (outcome.Put frame) = refl
accepts-none k host (outcome.Delivered frame fate) = refl
accepts-none k host outcome.Moved = refl
accepts-none k host _ = refl

gives-none : (k socket host : ℕ) (outcome : FrameOutcome) → flat_map (given_in_one k socket) (outcome_happenings host outcome) ≡ []
gives-none k socket host (outcome.Put frame) = refl
gives-none k socket host (outcome.Delivered frame fate) = refl
gives-none k socket host outcome.Moved = refl
gives-none k socket host _ = refl

pub accepted-none : (k : ℕ) (steps : List AtomicStep) → accepted k (happened_in steps) ≡ []
accepted-none k steps = none-happens (accepted_in_one k) steps (accepts-none k)

pub given-none : (k socket : ℕ) (steps : List AtomicStep) → given k socket (happened_in steps) ≡ []
given-none k socket steps = none-happens (given_in_one k socket) steps (gives-none k socket)

-- No frame was dropped by a reset

drops-no_sending : (k host : ℕ) (outcome : FrameOutcome) → flat_map (sending_in_one k) (outcome_happenings host outcome) ≡ []
drops-no_sending k host (outcome.Put frame) = refl
drops-no_sending k host (outcome.Delivered frame fate) = refl
drops-no_sending k host outcome.Moved = refl
drops-no_sending k host _ = refl

drops-no_holding : (k host : ℕ) (outcome : FrameOutcome) → flat_map (holding_in_one k) (outcome_happenings host outcome) ≡ []
drops-no_holding k host (outcome.Put frame) = refl
drops-no_holding k host (outcome.Delivered frame fate) = refl
drops-no_holding k host outcome.Moved = refl
drops-no_holding k host _ = refl

pub sending-none : (k : ℕ) (steps : List AtomicStep) → flat_map (sending_in_one k) (happened_in steps) ≡ []
sending-none k steps = none-happens (sending_in_one k) steps (drops-no_sending k)

pub holding-none : (k : ℕ) (steps : List AtomicStep) → flat_map (holding_in_one k) (happened_in steps) ≡ []
holding-none k steps = none-happens (holding_in_one k) steps (drops-no_holding k)
