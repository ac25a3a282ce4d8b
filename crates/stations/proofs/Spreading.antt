-- `PlaysTick` for steps and deliveries, by the list of machines and the list of ends of wires.
use Rattle.std.proofs.Common.{◌≡◌, ◌≢◌, ◌<◌, ◌↔◌, ◌==◌, ◌&&◌, not, suc, ℕ, Bool, true, false, List, [], ◌∷◌, ◌++◌, Option, Some, None}
use Rattle.std.proofs.Common.{length, option_map, slice_get, slice_index_or, slice_set, if◌then◌else◌, refl, sym, ap, subst, ◌∙◌, arith}
use Rattle.std.proofs.lemmas.Option.{slice_get_within}
use Rattle.circular_buffer.proofs.Places.{slice_get-some}
use Rattle.adapter.specs.Machines.{MachineState}
use Rattle.stations.specs.Ends.{EndState, HaveRoom, end_after_put}
use Rattle.stations.specs.StationsView.{HasEndsOfWires, station_of, stations_in, stations_of}
use Rattle.stations.specs.declared.stations.Stations.TheInside.{Inside}
use Rattle.stations.specs.Stations.{StationState, WireHasRoom, with_frames}
use Rattle.rx_engine.specs.declared.arrival.Fate.{Fate}
use Rattle.adapter.specs.Outcomes.{FrameOutcome, framed, oldest_queued}
use Rattle.adapter.specs.State.{IsAdapter}
use Rattle.adapter.specs.Steps.{Answers}
use Rattle.adapter.specs.model_types.outcome.Outcome.{Outcome}
use Rattle.adapter.specs.model_types.outcome.Outcome.TheVariants.{Delivered, Nothing, Put, WireFull}
use Rattle.adapter.specs.model_types.step.StepKind.TheVariants.{TxPut}
use Rattle.adapter.specs.Machines.{after_event}
use Rattle.adapter.specs.Trails.{Occurs}
use Rattle.adapter.specs.bus_types.event.Event.TheVariants.{Arrives, Steps}
use Rattle.stations.specs.AtomicSteps.{PlaysTick}
use Rattle.stations.specs.Stations.{backlog_at, backlog_of}
use Rattle.stations.specs.declared.tick.Tick.TheVariants.{Deliver, Step}
use Rattle.std.proofs.Common.{IsTrue, drop}
use Rattle.stations.proofs.Hosts.{IsThere, Shows, both, get-both, is-there, set-both, set-itself, shows}
use Rattle.stations.proofs.PlayedTicks.{plays-delivery, plays-no_frame, plays-nothing, plays-step, plays-wire_full}
use Rattle.stations.proofs.PlayedTicks.{puts-oldest}

pub same-length : {X Y : Type 0} (change : ℕ → X → Y) (xs : List X) (ys : List Y)
    → ((k : ℕ) → slice_get ys k ≡ option_map (change k) (slice_get xs k)) → length ys ≡ length xs
same-length change [] [] same = refl
same-length change [] (y ∷ ys) same = let first = same 0 in absurd (cc)
same-length change (x ∷ xs) [] same = let first = same 0 in absurd (cc)
same-length change (x ∷ xs) (y ∷ ys) same =
    ap suc (same-length (λ (k : ℕ). change (suc k)) xs ys (λ k. same (suc k)))

-- Room

pub room-seen : (ms : List MachineState) (es : List EndState) (sender wire : ℕ) → length es ≡ length ms
    → HaveRoom es sender wire ↔ WireHasRoom (stations_of ms es) sender wire
room-seen ms es sender wire same = (forth, back)
  where
    forth : HaveRoom es sender wire → WireHasRoom (stations_of ms es) sender wire
    forth room k s there other on = of_both (slice_get ms k) (slice_get es k) refl (sym (get-both ms es k) ∙ there)
      where
        of_both : (m : Option MachineState) (e : Option EndState) → slice_get es k ≡ e → both m e ≡ Some s → length s.backlog < 64
        of_both None e is found = absurd (cc)
        of_both (Some m) None is found = absurd (cc)
        of_both (Some m) (Some e) is found =
            let same : station_of m e ≡ s = cc in
            subst (λ (station : StationState). length station.backlog < 64) same
            (room k e is other (ap (λ (station : StationState). station.wire) same ∙ on))

    back : WireHasRoom (stations_of ms es) sender wire → HaveRoom es sender wire
    back room k e there other on =
        let below : k < length ms = omega (arith, same, slice_get_within es k e there) in
        let machine = slice_get-some ms k below in
        room k (station_of machine.0 e)
        (get-both ms es k ∙ (ap (λ (o : Option MachineState). both o (slice_get es k)) machine.1
        ∙ ap (both (Some machine.0)) there)) other on

waits-there : (sender wire k : ℕ) (frames : List (List ℕ)) (m : Option MachineState) (e : Option EndState)
    → both m (option_map (end_after_put sender wire frames k) e) ≡ option_map (with_frames sender wire frames k) (both m e)
waits-there sender wire k frames None e = refl
waits-there sender wire k frames (Some m) None = refl
waits-there sender wire k frames (Some m) (Some e) = ap Some (by_case (not (k == sender) && (e.wire == wire)))
  where
    by_case : (b : Bool) → station_of m (if b then record e { backlog = e.backlog ++ frames } else e)
        ≡ (if b then (let s : StationState = record (station_of m e) { backlog = e.backlog ++ frames } in s) else station_of m e)
    by_case true = refl
    by_case false = refl

pub spread-both : (ms : List MachineState) (es es' : List EndState) (host wire : ℕ) (frames : List (List ℕ)) (new : MachineState)
    → (there : IsThere ms es host)
    → ((k : ℕ) → slice_get es' k ≡ option_map (end_after_put host wire frames k) (slice_get es k)) → (k : ℕ)
    → slice_get (stations_of (slice_set ms host new) es') k
    ≡ option_map (with_frames host wire frames k) (slice_get (slice_set (stations_of ms es) host (station_of new there.end)) k)
spread-both ms es es' host wire frames new there each k =
    get-both (slice_set ms host new) es' k
    ∙ ap (both (slice_get (slice_set ms host new) k)) (each k)
    ∙ waits-there host wire k frames (slice_get (slice_set ms host new) k) (slice_get es k)
    ∙ ap (option_map (with_frames host wire frames k))
    (sym (get-both (slice_set ms host new) es k)
    ∙ ap (λ (list : List StationState). slice_get list k)
    (ap (stations_of (slice_set ms host new)) (sym (set-itself es host there.end there.has_end))
    ∙ set-both ms es host new there.end))

-- Ticks of a network

final-is : (ms : List MachineState) (es : List EndState) (host : ℕ) (new : MachineState) (there : IsThere ms es host)
    → stations_of (slice_set ms host new) es ≡ slice_set (stations_of ms es) host (station_of new there.end)
final-is ms es host new there =
    ap (stations_of (slice_set ms host new)) (sym (set-itself es host there.end there.has_end)) ∙ set-both ms es host new there.end

-- The host `host` exists, its machine is `m`, and `free` states whether its wire is free.
pub record FindsWire (ms : List MachineState) (es : List EndState) (ss : List StationState) (host : ℕ) (free : Bool) (m : MachineState)
    : Type 0 where
  pub shown : stations_of ms es ≡ ss
  pub seen : Shows ms es ss host m
  pub finds : IsTrue free ↔ WireHasRoom (stations_of ms es) host seen.there.end.wire
  pub adapter : IsAdapter seen.there.machine.world.adapter

pub finds-wire : {inside : Inside} {ss : List StationState} {host : ℕ} {free : Bool} {m : MachineState} → stations_in inside ≡ ss
    → HasEndsOfWires inside → host < length ss → m ≡ slice_index_or inside.machines.items host m
    → ((end : EndState) → slice_get inside.wires host ≡ Some end → IsTrue free ↔ HaveRoom inside.wires host end.wire)
    → IsAdapter m.world.adapter
    → FindsWire inside.machines.items inside.wires ss host free m
finds-wire {inside} shown have below value room adapter =
    let seen = shows shown have below value in
    let end = seen.there.end in
    let both = room-seen inside.machines.items inside.wires _ end.wire have.ends in
    let free = room end seen.there.has_end in
    record {
      shown = shown;
      seen = seen;
      finds = ((λ yes. both.0 (free.0 yes)), (λ has. free.1 (both.1 has)));
      adapter = subst (λ (x : MachineState). IsAdapter x.world.adapter) seen.machine adapter;
    }

pub finds-no_frame : {ms : List MachineState} {es : List EndState} {ss : List StationState} {host : ℕ} {free : Bool} {m : MachineState}
    → FindsWire ms es ss host free m → m.world.adapter.transmitter.buffer ≡ [] → PlaysTick ss (Step host TxPut) Nothing ss
finds-no_frame {ms} {es} {ss} {host} {free} found empty =
    subst (λ (list : List StationState). PlaysTick list (Step host TxPut) Nothing list) found.shown
    (plays-no_frame (stations_of ms es) host (station_of found.seen.there.machine found.seen.there.end) free
    found.seen.inside found.seen.there.is found.finds found.adapter
    (ap (λ (x : MachineState). x.world.adapter.transmitter.buffer) (sym found.seen.machine) ∙ empty))

pub finds-wire_full : {ms : List MachineState} {es : List EndState} {ss : List StationState} {host : ℕ} {free : Bool} {m : MachineState}
    → FindsWire ms es ss host free m → m.world.adapter.transmitter.buffer ≢ [] → free ≡ false
    → PlaysTick ss (Step host TxPut) WireFull ss
finds-wire_full {ms} {es} {ss} {host} {free} found some full =
    subst (λ (list : List StationState). PlaysTick list (Step host TxPut) WireFull list) found.shown
    (plays-wire_full (stations_of ms es) host (station_of found.seen.there.machine found.seen.there.end) free
    found.seen.inside found.seen.there.is found.finds found.adapter
    (λ empty. some (ap (λ (x : MachineState). x.world.adapter.transmitter.buffer) found.seen.machine ∙ empty)) full)

-- A step TxPut puts the oldest frame onto a free wire.
pub puts-frame : {ms : List MachineState} {es : List EndState} {ss : List StationState} {host : ℕ} {free : Bool} {m now new : MachineState}
    {frame : List ℕ} (es' : List EndState) (outcome : Outcome (Unit {0})) → FindsWire ms es ss host free m → free ≡ true → m ≡ now
    → m.world.adapter.transmitter.buffer ≢ [] → frame ≡ oldest_queued m.world.adapter.transmitter.buffer
    → Occurs (Steps TxPut true (framed outcome now.world.adapter)) now.world
    → new ≡ after_event (Steps TxPut true (framed outcome now.world.adapter)) now
    → ((end : EndState) → slice_get es host ≡ Some end → (k : ℕ)
    → slice_get es' k ≡ option_map (end_after_put host end.wire (frame ∷ []) k) (slice_get es k))
    → PlaysTick ss (Step host TxPut) (Put frame) (stations_of (slice_set ms host new) es')
puts-frame {ms} {es} {ss} {host} {free} {m} {now} {new} {frame} es' outcome found is_free same some first occurs is each =
    let there = found.seen.there in
    let all = stations_of ms es in
    let at : now ≡ there.machine = sym same ∙ found.seen.machine in
    let puts : framed outcome now.world.adapter ≡ Put frame =
    puts-oldest now.world.adapter outcome
    (λ empty. some (ap (λ (x : MachineState). x.world.adapter.transmitter.buffer) same ∙ empty)) occurs.1
    ∙ ap Put (sym (first ∙ ap (λ (x : MachineState). oldest_queued x.world.adapter.transmitter.buffer) same)) in
    subst (λ (list : List StationState). PlaysTick list (Step host TxPut) (Put frame) (stations_of (slice_set ms host new) es')) found.shown
    (plays-step all (stations_of (slice_set ms host new) es') host (station_of there.machine there.end) (station_of new there.end)
    TxPut true (Put frame) found.seen.inside there.is
    (λ kind. subst (λ (b : Bool). IsTrue b ↔ WireHasRoom all host there.end.wire) is_free found.finds) found.adapter
    (subst (λ (x : MachineState). Answers TxPut true x.world.memory x.world.adapter (Put frame)) at
    (subst (λ (o : FrameOutcome). Answers TxPut true now.world.memory now.world.adapter o) puts occurs.1))
    (ap (λ (x : MachineState). station_of x there.end)
    (is ∙ (ap (λ (o : FrameOutcome). after_event (Steps TxPut true o) now) puts ∙ ap (after_event (Steps TxPut true (Put frame))) at)))
    (spread-both ms es es' host there.end.wire (frame ∷ []) new there (each there.end there.has_end)))

-- The oldest frame that waits is delivered.
pub delivers-frame : {ms : List MachineState} {es : List EndState} {ss : List StationState} {host : ℕ} {m new : MachineState}
    {frame : List ℕ} {fate : Fate} (es' : List EndState) → stations_of ms es ≡ ss → Shows ms es ss host m
    → ((end : EndState) → slice_get es host ≡ Some end → slice_get end.backlog 0 ≡ Some frame)
    → Occurs (Arrives frame fate) m.world → new ≡ after_event (Arrives frame fate) m
    → ((end : EndState) → slice_get es host ≡ Some end → es' ≡ slice_set es host (record end { backlog = drop 1 end.backlog }))
    → PlaysTick ss (Deliver host) (Delivered frame fate) (stations_of (slice_set ms host new) es')
delivers-frame {ms} {es} {ss} {host} {m} {new} {frame} {fate} es' shown seen oldest_queued occurs is pops =
    let there = seen.there in
    let all = stations_of ms es in
    let popped : EndState = record there.end { backlog = drop 1 there.end.backlog } in
    let final : stations_of (slice_set ms host new) es' ≡ slice_set all host (station_of new popped) =
    ap (stations_of (slice_set ms host new)) (pops there.end there.has_end) ∙ set-both ms es host new popped in
    let here = subst (λ (x : MachineState). Occurs (Arrives frame fate) x.world) seen.machine occurs in
    subst (λ (list : List StationState). PlaysTick list (Deliver host) (Delivered frame fate) (stations_of (slice_set ms host new) es'))
    shown
    (subst (λ (list : List StationState). PlaysTick all (Deliver host) (Delivered frame fate) list) (sym final)
    (plays-delivery all host (station_of there.machine there.end) (station_of new popped) frame fate seen.inside there.is
    (record {
      oldest = oldest_queued there.end there.has_end;
      adapter = here.0;
      fated = here.1;
      leaves = ap (λ (x : MachineState). station_of x popped) (is ∙ ap (after_event (Arrives frame fate)) seen.machine);
    })))

pub delivers-none : {inside : Inside} {ss : List StationState} {host : ℕ} → stations_in inside ≡ ss → HasEndsOfWires inside
    → host < length inside.machines.items → ((end : EndState) → slice_get inside.wires host ≡ Some end → end.backlog ≡ [])
    → PlaysTick ss (Deliver host) Nothing ss
delivers-none {ss = ss} {host = host} shown have below none =
    let there = is-there host have below in
    plays-nothing ss (Deliver host) (ap (λ (list : List StationState). backlog_at list host) (sym shown)
    ∙ (ap backlog_of there.is ∙ none there.end there.has_end))
