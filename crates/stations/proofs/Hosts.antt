-- The stations of a list of machines and a list of ends of wires: items, changes and events.
use Rattle.std.proofs.Common.{◌≡◌, ◌<◌, ◌≤◌, zero, suc, ℕ, List, [], ◌∷◌, ◌++◌, Option, Some, None}
use Rattle.std.proofs.Common.{length, take, slice_get, slice_set, slice_index_or, refl, sym, ap, subst, ◌∙◌, arith}
use Rattle.std.proofs.lemmas.List.{take-append-le, take_all}
use Rattle.std.proofs.lemmas.Option.{slice_get-get_or, slice_get_past}
use Rattle.circular_buffer.proofs.Places.{slice_get-some}
use Rattle.adapter.specs.State.{IsAdapter}
use Rattle.adapter.specs.World.{World}
use Rattle.adapter.specs.Machines.{MachineState, after_event}
use Rattle.adapter.specs.Trails.{past_of_event}
use Rattle.adapter.specs.bus_types.event.Access.{Access}
use Rattle.adapter.specs.bus_types.event.Event.{Event}
use Rattle.adapter.specs.bus_types.event.Event.TheVariants.{Accesses}
use Rattle.stations.specs.Ends.{EndState}
use Rattle.stations.specs.StationsView.{HasEndsOfWires, station_of, stations_in, stations_of}
use Rattle.stations.specs.declared.stations.Stations.TheInside.{Inside}
use Rattle.stations.specs.Stations.{StationState, backlog_after, stations_after, world_at, world_of}
use Rattle.stations.proofs.Places.{set-after}

-- the station of a machine and an end; None if one of them doesn't exist
abbrev pub both : Option MachineState → Option EndState → Option StationState
both None end = None
both (Some machine) None = None
both (Some machine) (Some end) = Some (station_of machine end)

pub get-both : (ms : List MachineState) (es : List EndState) (k : ℕ)
    → slice_get (stations_of ms es) k ≡ both (slice_get ms k) (slice_get es k)
get-both [] es k = refl
get-both (m ∷ ms) [] zero = refl
get-both (m ∷ ms) [] (suc k) = none (slice_get ms k)
  where
    none : (o : Option MachineState) → None ≡ both o None
    none None = refl
    none (Some m) = refl
get-both (m ∷ ms) (e ∷ es) zero = refl
get-both (m ∷ ms) (e ∷ es) (suc k) = get-both ms es k

pub length-both : (ms : List MachineState) (es : List EndState) → length es ≡ length ms → length (stations_of ms es) ≡ length ms
length-both [] es same = refl
length-both (m ∷ ms) [] same = absurd (omega (arith, same))
length-both (m ∷ ms) (e ∷ es) same =
    let later : length es ≡ length ms = omega (arith, same) in
    let rest = length-both ms es later in
    omega (arith, rest)

-- A host that exists has a machine and an end of a wire.
pub record IsThere (ms : List MachineState) (es : List EndState) (host : ℕ) : Type 0 where
  pub machine : MachineState
  pub end : EndState
  pub has_machine : slice_get ms host ≡ Some machine
  pub has_end : slice_get es host ≡ Some end
  pub is : slice_get (stations_of ms es) host ≡ Some (station_of machine end)

pub is-there : {inside : Inside} (host : ℕ) → HasEndsOfWires inside → host < length inside.machines.items
    → IsThere inside.machines.items inside.wires host
is-there {inside} host have below =
    let ms = inside.machines.items in
    let es = inside.wires in
    let there : host < length es = omega (arith, have.ends, below) in
    let machine = slice_get-some ms host below in
    let end = slice_get-some es host there in
    record {
      machine = machine.0;
      end = end.0;
      has_machine = machine.1;
      has_end = end.1;
      is = get-both ms es host ∙ (ap (λ (o : Option MachineState). both o (slice_get es host)) machine.1
          ∙ ap (both (Some machine.0)) end.1);
    }

pub set-both : (ms : List MachineState) (es : List EndState) (host : ℕ) (m : MachineState) (e : EndState)
    → stations_of (slice_set ms host m) (slice_set es host e) ≡ slice_set (stations_of ms es) host (station_of m e)
set-both [] es host m e = refl
set-both (x ∷ ms) [] zero m e = refl
set-both (x ∷ ms) [] (suc host) m e = refl
set-both (x ∷ ms) (y ∷ es) zero m e = refl
set-both (x ∷ ms) (y ∷ es) (suc host) m e = ap (λ (rest : List StationState). station_of x y ∷ rest) (set-both ms es host m e)

-- An item is replaced by itself.
pub set-itself : {X : Type 0} (xs : List X) (k : ℕ) (x : X) → slice_get xs k ≡ Some x → slice_set xs k x ≡ xs
set-itself {X} [] k x is = refl
set-itself {X} (y ∷ xs) zero x is = let same : y ≡ x = cc in ap (λ (item : X). item ∷ xs) (sym same)
set-itself {X} (y ∷ xs) (suc k) x is = ap (λ (rest : List X). y ∷ rest) (set-itself xs k x is)

-- An event at one machine that puts no frame, if the machine and its end are replaced by those after the event.
pub host-after : (ms : List MachineState) (es : List EndState) (host : ℕ) (event : Event) (new : MachineState) (end : EndState)
    → (there : IsThere ms es host) → host < length (stations_of ms es)
    → new ≡ after_event event there.machine → end ≡ record there.end { backlog = backlog_after event there.end.backlog }
    → (past_of_event event).put ≡ []
    → stations_of (slice_set ms host new) (slice_set es host end) ≡ stations_after host event (stations_of ms es)
host-after ms es host event new end there inside is line none =
    set-both ms es host new end
    ∙ set-after host event (stations_of ms es) (station_of there.machine there.end) (station_of new end) inside there.is
    (ap (λ (machine : MachineState). station_of machine end) is
    ∙ ap (station_of (after_event event there.machine)) line) none

-- The host exists, and its machine is `m`.
pub record Shows (ms : List MachineState) (es : List EndState) (ss : List StationState) (host : ℕ) (m : MachineState) : Type 0 where
  pub there : IsThere ms es host
  pub inside : host < length (stations_of ms es)
  pub machine : m ≡ there.machine
  pub world : m.world ≡ world_at ss host

-- A network has as many stations as machines.
pub as-long : {inside : Inside} {ss : List StationState} → stations_in inside ≡ ss → HasEndsOfWires inside
    → length ss ≡ length inside.machines.items
as-long {inside} shown have =
    sym (ap (λ (list : List StationState). length list) shown) ∙ length-both inside.machines.items inside.wires have.ends

pub below-machines : {inside : Inside} {ss : List StationState} {host : ℕ} → stations_in inside ≡ ss → HasEndsOfWires inside
    → host < length ss → host < length inside.machines.items
below-machines shown have below = omega (arith, below, as-long shown have)

-- A host without a machine has no station.
pub no-station : {inside : Inside} {ss : List StationState} {host : ℕ} → stations_in inside ≡ ss → HasEndsOfWires inside
    → length inside.machines.items ≤ host → slice_get ss host ≡ None
no-station {ss = ss} {host = host} shown have past = slice_get_past ss host (omega (arith, past, as-long shown have))

pub shows : {inside : Inside} {ss : List StationState} {host : ℕ} {m : MachineState} → stations_in inside ≡ ss → HasEndsOfWires inside
    → host < length ss → m ≡ slice_index_or inside.machines.items host m → Shows inside.machines.items inside.wires ss host m
shows {inside} {ss} {host} {m} shown have below value =
    let ms = inside.machines.items in
    let below-all = below-machines shown have below in
    let there = is-there host have below-all in
    let found : Some m ≡ Some there.machine = ap Some value ∙ sym (slice_get-get_or ms host m below-all) ∙ there.has_machine in
    let is : m ≡ there.machine = cc in
    record {
      there = there;
      inside = omega (arith, below-all, length-both ms inside.wires have.ends);
      machine = is;
      world =
          ap (λ (machine : MachineState). machine.world) is
          ∙ sym (ap world_of there.is)
          ∙ ap (λ (list : List StationState). world_at list host) shown;
    }

-- An event at one machine that changes no end.
pub machine-after : {ms : List MachineState} {es : List EndState} {ss : List StationState} {host : ℕ} {m new : MachineState} (event : Event)
    → stations_of ms es ≡ ss → Shows ms es ss host m → new ≡ after_event event m
    → ((line : List (List ℕ)) → backlog_after event line ≡ line) → (past_of_event event).put ≡ []
    → stations_of (slice_set ms host new) es ≡ stations_after host event ss
machine-after {ms} {es} {ss} {host} {m} {new} event shown shows is stays none =
    let there = shows.there in
    ap (stations_of (slice_set ms host new)) (sym (set-itself es host there.end there.has_end))
    ∙ host-after ms es host event new there.end there shows.inside
    (is ∙ ap (after_event event) shows.machine)
    (ap (λ (line : List (List ℕ)). let e : EndState = record there.end { backlog = line } in e) (sym (stays there.end.backlog))) none
    ∙ ap (stations_after host event) shown

-- An access by a host that exists.
pub access-after : {inside : Inside} {ss : List StationState} {host : ℕ} {m new : MachineState} (access : Access) → stations_in inside ≡ ss
    → HasEndsOfWires inside → host < length ss → m ≡ slice_index_or inside.machines.items host m → new ≡ after_event (Accesses access) m
    → stations_of (slice_set inside.machines.items host new) inside.wires ≡ stations_after host (Accesses access) ss
access-after access shown have below value is =
    machine-after (Accesses access) shown (shows shown have below value) is (λ line. refl) refl

pub has-adapter : {inside : Inside} {ss : List StationState} {host : ℕ} {m : MachineState} → stations_in inside ≡ ss
    → HasEndsOfWires inside → host < length ss → m ≡ slice_index_or inside.machines.items host m → IsAdapter m.world.adapter
    → IsAdapter (world_at ss host).adapter
has-adapter shown have below value is = subst (λ (w : World). IsAdapter w.adapter) (shows shown have below value).world is

-- A machine that was appended is removed again.
pub taken-back : (ms : List MachineState) (m : MachineState) (n : ℕ) → n ≡ length ms → take n (ms ++ m ∷ []) ≡ ms
taken-back ms m n count = take-append-le n ms (m ∷ []) (omega (arith, count)) ∙ take_all n ms (omega (arith, count))

pub append-both : (ms : List MachineState) (es : List EndState) (m : MachineState) (e : EndState) → length es ≡ length ms
    → stations_of (ms ++ m ∷ []) (es ++ e ∷ []) ≡ stations_of ms es ++ station_of m e ∷ []
append-both [] [] m e same = refl
append-both [] (y ∷ es) m e same = absurd (omega (arith, same))
append-both (x ∷ ms) [] m e same = absurd (omega (arith, same))
append-both (x ∷ ms) (y ∷ es) m e same =
    ap (λ (rest : List StationState). station_of x y ∷ rest) (append-both ms es m e (omega (arith, same)))
