-- Wires, the frames that wait at their ends, and full ends, after atomic steps.
use Rattle.std.proofs.Common.{◌≡◌, ◌≢◌, ◌<◌, ◌≤◌, ◌==◌, ◌&&◌, ◌⊎◌, ◌++◌, not, ℕ, zero, suc, Bool, true, false, Option, Some, None, List}
use Rattle.std.proofs.Common.{[], ◌∷◌, length}
use Rattle.std.proofs.Common.{slice_get, option_map, if◌then◌else◌, inl, inr, refl, sym, ap, subst, ◌∙◌, arith}
use Rattle.std.proofs.lemmas.Bool.{cases_eq, cases_lt}
use Rattle.std.proofs.lemmas.Bool.Decides.{eqb_tells}
use Rattle.std.proofs.lemmas.List.{append-nil}
use Rattle.std.proofs.lemmas.Option.{slice_get_within}
use Rattle.adapter.specs.Trails.{past_of_event}
use Rattle.adapter.specs.bus_types.event.Event.{Event}
use Rattle.adapter.specs.bus_types.event.Event.TheVariants.{Accesses, Arrives, Steps}
use Rattle.stations.proofs.Places.{after-is, get-at_each}
use Rattle.stations.specs.AtomicSteps.{At, AtomicStep, CanHappen, Idles, after_atomic}
use Rattle.stations.specs.Ends.{end_frames}
use Rattle.stations.specs.Stations.{HasRoomFrom, StationState, WireHasRoom, backlog_after, backlog_at, backlog_of, each_after}
use Rattle.stations.specs.Stations.{station_after, stations_after, wire_at, wire_of}
use Rattle.stations.specs.AtomicRuns.{LeadsTo}
use Rattle.host_calls.specs.WaitingFrames.{WireIsFull, come_to, is_same_wire, waiting_after_step, waiting_at, waiting_behind}

-- A station after an event

record Stands (stations : List StationState) (host wire : ℕ) : Type 0 where
  station : StationState
  is : slice_get stations host ≡ Some station
  on_wire : station.wire ≡ wire

stands-found : (stations : List StationState) (host wire : ℕ) (found : Option StationState) → slice_get stations host ≡ found
    → wire_of found ≡ Some wire → Stands stations host wire
stands-found stations host wire None is on = absurd (cc)
stands-found stations host wire (Some s) is on =
    record { station = s; is = is; on_wire = let same : s.wire ≡ wire = cc in same }

stands : (stations : List StationState) (host wire : ℕ) → wire_at stations host ≡ Some wire → Stands stations host wire
stands stations host wire on = stands-found stations host wire (slice_get stations host) refl on

at-place : (stations : List StationState) (host wire k : ℕ) (event : Event) → wire_at stations host ≡ Some wire
    → slice_get (stations_after host event stations) k ≡ option_map (each_after host wire event k) (slice_get stations k)
at-place stations host wire k event on =
    let at = stands stations host wire on in
    ap (λ (list : List StationState). slice_get list k) (after-is host event stations at.station at.is)
    ∙ get-at_each (each_after host at.station.wire event) stations k
    ∙ ap (λ (w : ℕ). option_map (each_after host w event k) (slice_get stations k)) at.on_wire

each-wire : (host wire k : ℕ) (event : Event) (found : Option StationState)
    → wire_of (option_map (each_after host wire event k) found) ≡ wire_of found
each-wire host wire k event None = refl
each-wire host wire k event (Some s) = by_place (k == host) (s.wire == wire)
  where
    put : List (List ℕ)
    put = (past_of_event event).put

    by_place : (here on : Bool)
        → Some (if here then station_after event s
        else (if not here && on then record s { backlog = s.backlog ++ put } else s)).wire ≡ Some s.wire
    by_place true on = refl
    by_place false true = refl
    by_place false false = refl

none-left : (event : Event) → backlog_after event [] ≡ []
none-left (Steps kind wire_free answer) = refl
none-left (Arrives frame fate) = refl
none-left (Accesses access) = refl

each-backlog : (host wire k : ℕ) (event : Event) (found : Option StationState)
    → backlog_of (option_map (each_after host wire event k) found)
    ≡ (if k == host then backlog_after event (backlog_of found)
    else backlog_of found ++ come_to (is_same_wire (wire_of found) (Some wire)) (past_of_event event).put)
each-backlog host wire k event None = by_place (k == host)
  where
    by_place : (here : Bool) → [] ≡ (if here then backlog_after event [] else [])
    by_place true = sym (none-left event)
    by_place false = refl
each-backlog host wire k event (Some s) = by_place (k == host) (s.wire == wire)
  where
    put : List (List ℕ)
    put = (past_of_event event).put

    by_place : (here on : Bool)
        → (if here then station_after event s else (if not here && on then record s { backlog = s.backlog ++ put } else s)).backlog
        ≡ (if here then backlog_after event s.backlog else s.backlog ++ come_to on put)
    by_place true on = refl
    by_place false true = refl
    by_place false false = sym (append-nil s.backlog)

-- Wires don't change

step-wires : (step : AtomicStep) (stations : List StationState) (k : ℕ) → CanHappen step stations
    → wire_at (after_atomic step stations) k ≡ wire_at stations k
step-wires (At host event) stations k occurs =
    ap wire_of (at-place stations host occurs.wire k event occurs.on_wire)
    ∙ each-wire host occurs.wire k event (slice_get stations k)
step-wires (Idles tick) stations k finds = refl

pub run-wires : (caller : ℕ) (steps : List AtomicStep) (a b : List StationState) (k : ℕ) → LeadsTo caller steps a b
    → wire_at b k ≡ wire_at a k
run-wires caller [] a b k leads = ap (λ (stations : List StationState). wire_at stations k) leads
run-wires caller (step ∷ later) a b k leads = run-wires caller later (after_atomic step a) b k leads.2 ∙ step-wires step a k leads.0

-- Frames that wait

step-waiting : (start stations : List StationState) (host : ℕ) (step : AtomicStep)
    → ((k : ℕ) → wire_at stations k ≡ wire_at start k) → CanHappen step stations
    → backlog_at (after_atomic step stations) host ≡ waiting_after_step start host step (backlog_at stations host)
step-waiting start stations host (At other event) wires occurs =
    let put = (past_of_event event).put in
    let left = λ (one two : Option ℕ). if host == other then backlog_after event (backlog_at stations host)
    else backlog_at stations host ++ come_to (is_same_wire one two) put in
    ap backlog_of (at-place stations other occurs.wire host event occurs.on_wire)
    ∙ each-backlog other occurs.wire host event (slice_get stations host)
    ∙ ap (left (wire_at stations host)) (sym occurs.on_wire ∙ wires other)
    ∙ ap (λ (one : Option ℕ). left one (wire_at start other)) (wires host)
step-waiting start stations host (Idles tick) wires finds = refl

run-from : (caller : ℕ) (start : List StationState) (host : ℕ) (steps : List AtomicStep) (a b : List StationState)
    → ((k : ℕ) → wire_at a k ≡ wire_at start k) → LeadsTo caller steps a b
    → backlog_at b host ≡ waiting_behind start host steps (backlog_at a host)
run-from caller start host [] a b wires leads = ap (λ (stations : List StationState). backlog_at stations host) leads
run-from caller start host (step ∷ later) a b wires leads =
    run-from caller start host later (after_atomic step a) b (λ k. step-wires step a k leads.0 ∙ wires k) leads.2
    ∙ ap (waiting_behind start host later) (step-waiting start a host step wires leads.0)

pub run-waiting : (caller host : ℕ) (steps : List AtomicStep) (a b : List StationState) → LeadsTo caller steps a b
    → backlog_at b host ≡ waiting_at a steps host
run-waiting caller host steps a b leads = run-from caller a host steps a b (λ k. refl) leads

-- Full wires

-- the end of another host on the wire has no room for one more frame
record FullEnd (stations : List StationState) (sender wire : ℕ) : Type 0 where
  other : ℕ
  station : StationState
  is : slice_get stations other ≡ Some station
  is_another : other ≢ sender
  on_wire : station.wire ≡ wire
  full : end_frames ≤ length station.backlog

-- each end of the first n hosts that is on the wire and isn't the sender's has room for one more frame
abbrev HaveRoom : List StationState → (sender wire n : ℕ) → Type 0
HaveRoom stations sender wire n =
    (host : ℕ) (station : StationState) → host < n → slice_get stations host ≡ Some station → HasRoomFrom sender wire host station

one-place : (stations : List StationState) (sender wire n : ℕ) (found : Option StationState) → slice_get stations n ≡ found
    → HaveRoom stations sender wire n → FullEnd stations sender wire ⊎ HaveRoom stations sender wire (suc n)
one-place stations sender wire n None is room = inr (λ host station below there. elim (cases_eq host n) [
  | inl same ↦ let gone : slice_get stations host ≡ None = ap (slice_get stations) same ∙ is in absurd (cc)
  | inr other ↦ room host station (omega arith) there
])
one-place stations sender wire n (Some s) is room = elim (cases_eq n sender) [
  | inl itself ↦ inr (grown (λ apart on. absurd (apart itself)))
  | inr apart ↦ elim (cases_eq s.wire wire) [
    | inr elsewhere ↦ inr (grown (λ another on. absurd (elsewhere on)))
    | inl on ↦ elim (cases_lt (length s.backlog) end_frames) [
      | inl fits ↦ inr (grown (λ another same. fits))
      | inr full ↦ inl (record { other = n; station = s; is = is; is_another = apart; on_wire = on; full = full })
    ]
  ]
]
  where
    grown : HasRoomFrom sender wire n s → HaveRoom stations sender wire (suc n)
    grown here host station below there = elim (cases_eq host n) [
      | inl same ↦
          let found : Some s ≡ Some station = sym is ∙ ap (slice_get stations) (sym same) ∙ there in
          let one : s ≡ station = cc in
          subst (λ (k : ℕ). HasRoomFrom sender wire k station) (sym same)
          (subst (λ (x : StationState). HasRoomFrom sender wire n x) one here)
      | inr other ↦ room host station (omega arith) there
    ]

full-or-room : (stations : List StationState) (sender wire n : ℕ) → FullEnd stations sender wire ⊎ HaveRoom stations sender wire n
full-or-room stations sender wire zero = inr (λ host station below is. absurd (omega arith))
full-or-room stations sender wire (suc n) = elim (full-or-room stations sender wire n) [
  | inl full ↦ inl full
  | inr room ↦ one-place stations sender wire n (slice_get stations n) refl room
]

some-end-full : (stations : List StationState) (sender wire : ℕ) → (WireHasRoom stations sender wire → ⊥)
    → FullEnd stations sender wire
some-end-full stations sender wire none = elim (full-or-room stations sender wire (length stations)) [
  | inl full ↦ full
  | inr room ↦ absurd (none (λ host station is. room host station (slice_get_within stations host station is) is))
]

same-wire : (wire wire' : ℕ) → wire ≡ wire' → (wire == wire') ≡ true
same-wire wire wire' same = elim (eqb_tells wire wire') [ inl is ↦ is.0 | inr other ↦ absurd (other.1 same) ]

pub full-by-counting : (caller host wire : ℕ) (before : List AtomicStep) (a b : List StationState) → LeadsTo caller before a b
    → wire_at b host ≡ Some wire → (WireHasRoom b host wire → ⊥) → WireIsFull a before host
full-by-counting caller host wire before a b leads on none =
    let end = some-end-full b host wire none in
    let other_wire : wire_at a end.other ≡ Some end.station.wire = sym (run-wires caller before a b end.other leads) ∙ ap wire_of end.is in
    let own_wire : wire_at a host ≡ Some wire = sym (run-wires caller before a b host leads) ∙ on in
    let waits : waiting_at a before end.other ≡ end.station.backlog =
    sym (run-waiting caller end.other before a b leads) ∙ ap backlog_of end.is in
    record {
      other = end.other;
      is_another = end.is_another;
      on_wire =
          ap (λ (o : Option ℕ). is_same_wire o (wire_at a host)) other_wire
          ∙ ap (is_same_wire (Some end.station.wire)) own_wire
          ∙ same-wire end.station.wire wire end.on_wire;
      full = subst (λ (frames : List (List ℕ)). end_frames ≤ length frames) (sym waits) end.full;
    }

none-full : (host wire other : ℕ) (b : List StationState) (found : Option StationState) → slice_get b other ≡ found
    → WireHasRoom b host wire → other ≢ host → is_same_wire (wire_of found) (Some wire) ≡ true
    → end_frames ≤ length (backlog_of found) → ⊥
none-full host wire other b None is room another on full = absurd (cc)
none-full host wire other b (Some s) is room another on full = elim (eqb_tells s.wire wire) [
  | inl same ↦ omega (arith, room other s is another same.1, full)
  | inr apart ↦ let contrary : true ≡ false = sym on ∙ apart.0 in absurd (cc)
]

pub room-by-counting : (caller host wire : ℕ) (before : List AtomicStep) (a b : List StationState) → LeadsTo caller before a b
    → wire_at b host ≡ Some wire → WireHasRoom b host wire → WireIsFull a before host → ⊥
room-by-counting caller host wire before a b leads on room end =
    let wires = λ (k : ℕ). run-wires caller before a b k leads in
    none-full host wire end.other b (slice_get b end.other) refl room end.is_another
    (ap (is_same_wire (wire_at b end.other)) (sym on ∙ wires host)
    ∙ ap (λ (o : Option ℕ). is_same_wire o (wire_at a host)) (wires end.other)
    ∙ end.on_wire)
    (subst (λ (frames : List (List ℕ)). end_frames ≤ length frames) (sym (run-waiting caller end.other before a b leads)) end.full)
