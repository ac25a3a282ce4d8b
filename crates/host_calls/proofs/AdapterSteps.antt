-- The steps of a host's adapter in a drain.
use Rattle.std.proofs.Common.{◌≡◌, ◌≢◌, ◌≤◌, ◌<◌, ◌+◌, ◌-◌, ◌*◌, ◌⊎◌, ◌++◌, ◌∷◌, [], ℕ, Bool, true, false}
use Rattle.std.proofs.Common.{Option, Some, None, List, drop, length}
use Rattle.std.proofs.Common.{refl, sym, ap, subst, ◌∙◌, arith, if◌then◌else◌, inl, inr, replicate}
use Rattle.std.specs.List.{All}
use Rattle.std.proofs.lemmas.Bool.{eq-eqb, leb-false, leb-true}
use Rattle.std.proofs.lemmas.Bool.Decides.{eqb_tells}
use Rattle.std.proofs.lemmas.List.{length-drop, length-take}
use Rattle.std.proofs.lemmas.List.Elements.{All-cons}
use Rattle.circular_buffer.proofs.Places.{slice_get-some}
use Rattle.dma_memory.specs.Layout.{receive_buffer_bytes}
use Rattle.rx_engine.specs.Moving.{left_bytes}
use Rattle.rx_engine.specs.Receiver.{Receiver, oldest}
use Rattle.rx_engine.specs.declared.engine.Work.{Work}
use Rattle.adapter.specs.HostAreas.{buffer_size}
use Rattle.adapter.specs.HostFrames.{frames_held}
use Rattle.adapter.specs.Receiving.{piece_size}
use Rattle.adapter.specs.Slots.{slot_of_work}
use Rattle.adapter.specs.State.{AdapterState, IsAdapter}
use Rattle.adapter.specs.Steps.{Answers}
use Rattle.adapter.specs.Outcomes.{FrameOutcome, framed}
use Rattle.adapter.specs.World.{World}
use Rattle.adapter.specs.model_types.step.StepKind.{StepKind}
use Rattle.adapter.specs.model_types.step.StepKind.TheVariants.{RxData, RxDone, TxPut}
use Rattle.adapter.specs.model_types.outcome.Outcome.{Outcome}
use Rattle.adapter.specs.model_types.outcome.Outcome.TheVariants as outcome
use Rattle.adapter.proofs.Lists.{all-none}
use Rattle.adapter.specs.StepsAndArrivals.{world_after_step}
use Rattle.adapter.specs.Trails.{Occurs}
use Rattle.adapter.specs.bus_types.event.Event.{Event}
use Rattle.adapter.specs.bus_types.event.Event.TheVariants.{Steps}
use Rattle.stations.specs.AtomicSteps.{At, AtomicStep, OccursAt}
use Rattle.stations.specs.Stations.{StationState, stations_after, wire_of, world_at}
use Rattle.stations.proofs.HostTrails.{world-here}
use Rattle.stations.proofs.Lengths.{length-event}
use Rattle.host_calls.specs.NetworkView.{HasStations, network_in}
use Rattle.host_calls.specs.Networks.{NetworkState}
use Rattle.host_calls.proofs.HostsOfNetworks.{station-there}
use Rattle.host_calls.specs.declared.network.Network.TheInside.{Inside}
use Rattle.stations.specs.AtomicRuns.{IsTick, LeadsTo, events_at, past_at}
use Rattle.host_calls.specs.Happenings.{Moved, happened_in}
use Rattle.packet_socket.specs.HostState.{HostState}
use Rattle.host_calls.proofs.Calling.{runs-alone}
use Rattle.host_calls.proofs.GroupsKept.{stay-alone}
use Rattle.host_calls.proofs.HostTrails.{happens-alone, none-alone}
use Rattle.host_calls.specs.CallsOfHosts.{HostRuns}
use Rattle.host_calls.specs.DrainedHosts.{CanBeDrained, IsDrainStep, count_left, pieces_left}
use Rattle.host_calls.specs.DrainSteps.{StepsOn, count_line, count_pending}
use Rattle.host_calls.proofs.JoinedSteps.{nothing-stored}
use Rattle.host_calls.proofs.SocketCounts.{held-flows}
use Rattle.host_calls.proofs.PiecesLeft.{count_ending, ending-most, held-counted, left-last, left-part}
use Rattle.packet_socket.specs.HostCalls.{host_did}
use Rattle.host_calls.specs.ConnectedHosts.{connected}

-- Host `number` exists, and its adapter takes a step of this kind with this result. The step leads from the stations `a`
-- to `b`.
pub record HasStepped (number : ℕ) (kind : StepKind) (result : Outcome (Unit {0})) (a b : List StationState) : Type 0 where
  pub there : number < length a
  pub occurs : Occurs (Steps kind true (framed result (world_at a number).adapter)) (world_at a number)
  pub state : b ≡ stations_after number (Steps kind true (framed result (world_at a number).adapter)) a

pub has-stepped : {inside : Inside} {n : NetworkState} {b : List StationState} (number : ℕ) (kind : StepKind) (result : Outcome (Unit {0}))
    → network_in inside ≡ n → HasStations inside → number < length n.hosts
    → Occurs (Steps kind true (framed result (world_at inside.stations number).adapter)) (world_at inside.stations number)
    → b ≡ stations_after number (Steps kind true (framed result (world_at inside.stations number).adapter)) inside.stations
    → HasStepped number kind result inside.stations b
has-stepped number kind result shown have below occurs state =
    record { there = station-there shown have below; occurs = occurs; state = state }

pub same-stepped : {inside : Inside} {number : ℕ} {kind : StepKind} {result : Outcome (Unit {0})} {b : List StationState}
    → HasStations inside → HasStepped number kind result inside.stations b → length b ≡ length inside.hosts.items
same-stepped {inside} {number} {kind} {result} have stepped =
    ap (λ (list : List StationState). length list) stepped.state
    ∙ length-event number (Steps kind true (framed result (world_at inside.stations number).adapter)) inside.stations
    ∙ have.same

-- The adapter of host `number` takes a step of this kind with the outcome `answer`, which leads from the stations `a`
-- to `b`.
pub record TakesStep (number : ℕ) (kind : StepKind) (answer : FrameOutcome) (a b : List StationState) : Type 0 where
  pub adapter : IsAdapter (world_at a number).adapter
  pub answers : Answers kind true (world_at a number).memory (world_at a number).adapter answer
  pub leads : LeadsTo number (At number (Steps kind true answer) ∷ []) a b
  pub world : world_at b number ≡ world_after_step kind answer (world_at a number)

pub takes-step : (number : ℕ) (kind : StepKind) (answer : FrameOutcome) (a b : List StationState) → number < length a → kind ≢ TxPut
    → Occurs (Steps kind true answer) (world_at a number) → b ≡ stations_after number (Steps kind true answer) a
    → TakesStep number kind answer a b
takes-step number kind answer a b below other event is =
    let found = slice_get-some a number below in
    let occurs : OccursAt number (Steps kind true answer) a = record {
      wire = found.0.wire;
      on_wire = ap wire_of found.1;
      occurs = event;
      suits_wire = λ same. absurd (other same);
    } in
    record {
      adapter = event.0;
      answers = event.1;
      leads = (occurs, tt, is);
      world = ap (λ (ss : List StationState). world_at ss number) is
          ∙ world-here a number (Steps kind true answer) (eq-eqb number number refl) occurs;
    }

ticks : (number : ℕ) (kind : StepKind) (answer : FrameOutcome) → All IsTick (At number (Steps kind true answer) ∷ [])
ticks number kind answer = All-cons IsTick (At number (Steps kind true answer)) [] tt (all-none IsTick)

elsewhere : (number k : ℕ) (event : Event) → k ≢ number → events_at k (At number event ∷ []) ≡ []
elsewhere number k event other =
    elim (eqb_tells k number) [
      | inl same ↦ absurd (other same.1)
      | inr differ ↦ subst (λ (here : Bool). (if here then event ∷ [] else []) ++ [] ≡ []) (sym differ.0) refl
    ]

pub step-runs : (number : ℕ) (kind : StepKind) (answer : FrameOutcome) (a b : List StationState) (h : HostState)
    → CanBeDrained h (world_at a number) → TakesStep number kind answer a b
    → HostRuns number (At number (Steps kind true answer) ∷ []) (host_did [] [] []) (connected h a) (connected h b)
step-runs number kind answer a b h stands takes =
    let steps = At number (Steps kind true answer) ∷ [] in
    runs-alone number steps a b h stands.ready
    (happens-alone number number steps a b (ticks number kind answer) takes.leads)
    (none-alone number steps (ticks number kind answer))

held-stays : (number n : ℕ) (played : List AtomicStep) (a b : List StationState) (h : HostState) → LeadsTo number played a b
    → happened_in played ≡ replicate n (Moved number) → HostRuns number played (host_did [] [] []) (connected h a) (connected h b)
    → length (frames_held h.driver.oldest_receive (world_at b number)) ≡ length (frames_held h.driver.oldest_receive (world_at a number))
held-stays number n played a b h leads moved runs =
    let holds = held-flows [] (frames_held h.driver.oldest_receive (world_at b number))
    (frames_held h.driver.oldest_receive (world_at a number)) (past_at number played).stored runs.flows.driver.holds
    (nothing-stored number number played a b n leads moved) in
    omega (arith, holds)

-- The steps that the measure counts for a piece in progress

pub work-counted : (work : Option Work) → work ≢ None → (length (slot_of_work work) ≡ 1) × ((line : ℕ) → count_pending work line ≡ 3)
work-counted None some = absurd (some refl)
work-counted (Some work) some = (refl, λ line. refl)

pub work-none : (work : Option Work) → work ≡ None → (length (slot_of_work work) ≡ 0) × ((line : ℕ) → count_pending work line ≡ line)
work-none None none = (refl, λ line. refl)
work-none (Some work) none = absurd (cc none)

-- What the measure counts of an adapter

abbrev count_buffered : World → ℕ
count_buffered world = length world.adapter.receiver.buffer

abbrev count_work : World → ℕ
count_work world = length (slot_of_work world.adapter.receiver.work)

-- 1 if a frame ends in the piece in progress, else 0
abbrev count_ends : World → ℕ
count_ends world = count_ending world.adapter.receiver.work

-- the number of steps for the piece in progress, or else for the interrupt line
abbrev count_asked : World → ℕ
count_asked world = count_pending world.adapter.receiver.work (count_line world.adapter.causes)

-- A step of the adapter is `steps` steps of a drain if `moves` frames are moved, the measure decreases, and the filter
-- doesn't change.
step-on : (steps moves number : ℕ) (kind : StepKind) (answer : FrameOutcome) (a b : List StationState) (h : HostState)
    → (kind ≡ RxData) ⊎ (kind ≡ RxDone) → CanBeDrained h (world_at a number) → TakesStep number kind answer a b
    → happened_in (At number (Steps kind true answer) ∷ []) ≡ replicate moves (Moved number)
    → count_buffered (world_at a number) ≡ moves + count_buffered (world_at b number)
    → (world_at b number).adapter.filter ≡ (world_at a number).adapter.filter
    → steps + moves + 4 * count_left (world_at b number) + count_asked (world_at b number) + count_ends (world_at a number)
    ≤ 4 * count_left (world_at a number) + count_asked (world_at a number) + count_ends (world_at b number)
    → 2 * count_left (world_at a number) + count_work (world_at a number)
    ≤ steps + 2 * count_left (world_at b number) + count_work (world_at b number)
    → StepsOn steps number [] (connected h a) (connected h b)
step-on steps moves number kind answer a b h receives stands takes moved buffered filter fewer least =
    let played = At number (Steps kind true answer) ∷ [] in
    let runs = step-runs number kind answer a b h stands takes in
    let total = held-stays number moves played a b h takes.leads moved runs in
    let one = held-counted h.driver.oldest_receive (world_at a number) in
    let two = held-counted h.driver.oldest_receive (world_at b number) in
    record {
      played = played;
      leads = takes.leads;
      only = All-cons (IsDrainStep number) (At number (Steps kind true answer)) [] (refl, receives) (all-none (IsDrainStep number));
      taken = [];
      runs = runs;
      stay = stay-alone number played (connected h a) (connected h b) refl (none-alone number played (ticks number kind answer));
      moves = record {
        count = moves;
        moved = moved;
        buffered = buffered;
        alone = λ k other. elsewhere number k (Steps kind true answer) other;
        filter = filter;
      };
      counts = record {
        most = omega (arith, total, fewer, buffered, one, two);
        least = omega (arith, least);
        held = omega (arith, total);
      };
    }

done-steps : (number : ℕ) (a b : List StationState) (h : HostState) → CanBeDrained h (world_at a number)
    → TakesStep number RxDone outcome.Done a b → StepsOn 1 number [] (connected h a) (connected h b)
done-steps number a b h stands takes =
    let before = work-counted (world_at a number).adapter.receiver.work takes.answers in
    let behind = work-none (world_at b number).adapter.receiver.work (ap (λ (w : World). w.adapter.receiver.work) takes.world) in
    let same : count_buffered (world_at b number) ≡ count_buffered (world_at a number) =
    ap (λ (w : World). count_buffered w) takes.world in
    let left : count_left (world_at b number) ≡ count_left (world_at a number) = ap (λ (w : World). count_left w) takes.world in
    let ends = ending-most (world_at a number).adapter.receiver.work in
    let pending = before.1 (count_line (world_at a number).adapter.causes) in
    let pending' = behind.1 (count_line (world_at b number).adapter.causes) in
    step-on 1 0 number RxDone outcome.Done a b h (inr refl) stands takes refl (omega (arith, same))
    (ap (λ (w : World). w.adapter.filter) takes.world) (omega (arith, before.0, left, ends, pending, pending'))
    (omega (arith, before.0, behind.0, left))

idle-steps : (number : ℕ) (kind : StepKind) (a b : List StationState) (h : HostState) → (kind ≡ RxData) ⊎ (kind ≡ RxDone)
    → CanBeDrained h (world_at a number)
    → TakesStep number kind outcome.Nothing a b → (world_at b number).adapter ≡ (world_at a number).adapter
    → StepsOn 0 number [] (connected h a) (connected h b)
idle-steps number kind a b h receives stands takes same =
    let buffer = ap (λ (s : AdapterState). length s.receiver.buffer) same in
    let left = ap (λ (s : AdapterState). pieces_left s.receiver.moved s.receiver.buffer) same in
    let work = ap (λ (s : AdapterState). length (slot_of_work s.receiver.work)) same in
    let ends = ap (λ (s : AdapterState). count_ending s.receiver.work) same in
    let pending = ap (λ (s : AdapterState). count_pending s.receiver.work (count_line s.causes)) same in
    step-on 0 0 number kind outcome.Nothing a b h receives stands takes refl (omega (arith, buffer))
    (ap (λ (s : AdapterState). s.filter) same) (omega (arith, left, ends, pending)) (omega (arith, left, work))

pub finishes-done : {number : ℕ} {a b : List StationState} {h : HostState} (result : Outcome (Unit {0}))
    → HasStepped number RxDone result a b → result ≡ outcome.Done
    → CanBeDrained h (world_at a number) → StepsOn 1 number [] (connected h a) (connected h b)
finishes-done {number} {a} {b} {h} outcome.Done it same stands =
    done-steps number a b h stands (takes-step number RxDone outcome.Done a b it.there (λ e. absurd (cc e)) it.occurs it.state)
finishes-done {number} {a} {b} {h} result it same stands = absurd (cc same)

pub finishes-none : {number : ℕ} {a b : List StationState} {h : HostState} (result : Outcome (Unit {0}))
    → HasStepped number RxDone result a b → result ≢ outcome.Done
    → CanBeDrained h (world_at a number) → StepsOn 0 number [] (connected h a) (connected h b)
finishes-none {number} {a} {b} {h} outcome.Nothing it other stands =
    let takes = takes-step number RxDone outcome.Nothing a b it.there (λ e. absurd (cc e)) it.occurs it.state in
    idle-steps number RxDone a b h (inr refl) stands takes (ap (λ (w : World). w.adapter) takes.world)
finishes-none {number} {a} {b} {h} outcome.Done it other stands = absurd (other refl)
finishes-none {number} {a} {b} {h} result it other stands = absurd it.occurs.1

pub finishes-free : {number : ℕ} {a b : List StationState} (result : Outcome (Unit {0})) → HasStepped number RxDone result a b
    → (world_at b number).adapter.receiver.work ≡ None
finishes-free {number} {a} {b} outcome.Done it =
    let takes = takes-step number RxDone outcome.Done a b it.there (λ e. absurd (cc e)) it.occurs it.state in
    ap (λ (w : World). w.adapter.receiver.work) takes.world
finishes-free {number} {a} {b} outcome.Nothing it =
    let takes = takes-step number RxDone outcome.Nothing a b it.there (λ e. absurd (cc e)) it.occurs it.state in
    ap (λ (w : World). w.adapter.receiver.work) takes.world ∙ it.occurs.1
finishes-free {number} {a} {b} result it = absurd it.occurs.1

-- No piece was in progress, and now a piece is in progress.
record Begun (a b : World) : Type 0 where
  none : count_work a ≡ 0
  one : count_work b ≡ 1
  asked : count_asked a ≡ count_line a.adapter.causes
  asks : count_asked b ≡ 3

begun : (a b : World) → a.adapter.receiver.work ≡ None → b.adapter.receiver.work ≢ None → Begun a b
begun a b free some =
    let before = work-none a.adapter.receiver.work free in
    let behind = work-counted b.adapter.receiver.work some in
    record {
      none = before.0;
      one = behind.0;
      asked = before.1 (count_line a.adapter.causes);
      asks = behind.1 (count_line b.adapter.causes);
    }

-- RxData moves the last piece of a frame out of the packet buffer

some-buffered : (frames : List (List ℕ)) → frames ≢ [] → 0 < length frames
some-buffered [] some = absurd (some refl)
some-buffered (frame ∷ frames) some = omega arith

module _ (number : ℕ) (a b : List StationState) (h : HostState) (stands : CanBeDrained h (world_at a number))
    (free : (world_at a number).adapter.receiver.work ≡ None) where
  abbrev world : World
  world = world_at a number

  abbrev engine : Receiver
  engine = world.adapter.receiver

  moved-steps : TakesStep number RxData outcome.Moved a b → StepsOn 1 number [] (connected h a) (connected h b)
  moved-steps takes =
      let piece = begun world (world_at b number) free
      (λ none. let e = sym (ap (λ (w : World). w.adapter.receiver.work) takes.world) ∙ none in absurd (cc e)) in
      let some = takes.answers.0.ready.frames in
      let long = some-buffered engine.buffer some in
      let fewer : count_buffered (world_at b number) ≡ count_buffered world - 1 =
      ap (λ (w : World). count_buffered w) takes.world ∙ length-drop 1 engine.buffer in
      let left : count_left (world_at b number) ≡ pieces_left 0 (drop 1 engine.buffer) = ap (λ (w : World). count_left w) takes.world in
      let ends : count_ends (world_at b number) ≡ 1 = ap (λ (w : World). count_ends w) takes.world in
      let short = leb-true (left_bytes engine) (buffer_size world) takes.answers.2 in
      let one = left-last engine.moved engine.buffer some takes.adapter.receiver.frames takes.adapter.receiver.begun
      (omega (arith, short, stands.ready.ready.law.whole.sized stands.enabled)) in
      step-on 1 1 number RxData outcome.Moved a b h (inl refl) stands takes refl (omega (arith, long, fewer))
      (ap (λ (w : World). w.adapter.filter) takes.world)
      (omega (arith, left, one, ends, ap (λ (work : Option Work). count_ending work) free, piece.asked, piece.asks))
      (omega (arith, piece.none, piece.one, left, one))

  part-steps : TakesStep number RxData outcome.Part a b → StepsOn 1 number [] (connected h a) (connected h b)
  part-steps takes =
      let piece = begun world (world_at b number) free
      (λ none. let e = sym (ap (λ (w : World). w.adapter.receiver.work) takes.world) ∙ none in absurd (cc e)) in
      let same : count_buffered (world_at b number) ≡ count_buffered world = ap (λ (w : World). count_buffered w) takes.world in
      let more = leb-false (left_bytes engine) (buffer_size world) takes.answers.2 in
      let sized : buffer_size world ≡ receive_buffer_bytes = stands.ready.ready.law.whole.sized stands.enabled in
      let size : piece_size world.adapter ≡ receive_buffer_bytes =
      omega (
        arith,
        length-take (buffer_size world) (drop engine.moved (oldest engine.buffer)),
        length-drop engine.moved (oldest engine.buffer),
        more,
        sized,
      ) in
      let left : count_left (world_at b number) ≡ pieces_left (engine.moved + receive_buffer_bytes) engine.buffer =
      ap (λ (w : World). count_left w) takes.world ∙ ap (λ (n : ℕ). pieces_left (engine.moved + n) engine.buffer) size in
      let one = left-part engine.moved engine.buffer (omega (arith, more, sized)) in
      step-on 1 0 number RxData outcome.Part a b h (inl refl) stands takes refl (omega (arith, same))
      (ap (λ (w : World). w.adapter.filter) takes.world)
      (omega (arith, left, one, ap (λ (work : Option Work). count_ending work) free, piece.asked, piece.asks))
      (omega (arith, piece.none, piece.one, left, one))

pub moves-piece : {number : ℕ} {a b : List StationState} {h : HostState} (result : Outcome (Unit {0}))
    → HasStepped number RxData result a b
    → (result ≡ outcome.Part) ⊎ (result ≡ outcome.Moved) → CanBeDrained h (world_at a number)
    → (world_at a number).adapter.receiver.work ≡ None → StepsOn 1 number [] (connected h a) (connected h b)
moves-piece {number} {a} {b} {h} outcome.Part it one stands free =
    part-steps number a b h stands free (takes-step number RxData outcome.Part a b it.there (λ e. absurd (cc e)) it.occurs it.state)
moves-piece {number} {a} {b} {h} outcome.Moved it one stands free =
    moved-steps number a b h stands free (takes-step number RxData outcome.Moved a b it.there (λ e. absurd (cc e)) it.occurs it.state)
moves-piece {number} {a} {b} {h} result it one stands free = elim one [ inl same ↦ absurd (cc same) | inr same ↦ absurd (cc same) ]

-- RxData moved no piece, and changed no adapter. The outcome is Nothing, not Fault, because no engine is stopped.
pub record MovesNone (number : ℕ) (a b : List StationState) (h : HostState) : Type 0 where
  pub on : StepsOn 0 number [] (connected h a) (connected h b)
  pub takes : TakesStep number RxData outcome.Nothing a b
  pub same : (world_at b number).adapter ≡ (world_at a number).adapter

pub moves-none : {number : ℕ} {a b : List StationState} {h : HostState} (result : Outcome (Unit {0}))
    → HasStepped number RxData result a b → result ≢ outcome.Part
    → result ≢ outcome.Moved → CanBeDrained h (world_at a number) → MovesNone number a b h
moves-none {number} {a} {b} {h} outcome.Nothing it not_part other stands =
    let takes = takes-step number RxData outcome.Nothing a b it.there (λ e. absurd (cc e)) it.occurs it.state in
    let same = ap (λ (w : World). w.adapter) takes.world in
    record { on = idle-steps number RxData a b h (inl refl) stands takes same; takes = takes; same = same }
moves-none {number} {a} {b} {h} outcome.Fault it not_part other stands =
    let takes = takes-step number RxData outcome.Fault a b it.there (λ e. absurd (cc e)) it.occurs it.state in
    let runs = (step-runs number RxData outcome.Fault a b h stands takes).flows.driver.ready.law.runs.receiver_runs in
    let stopped = ap (λ (w : World). w.adapter.receiver.stopped) takes.world in
    let contrary : true ≡ false = sym stopped ∙ runs in absurd (cc contrary)
moves-none {number} {a} {b} {h} outcome.Part it not_part other stands = absurd (not_part refl)
moves-none {number} {a} {b} {h} outcome.Moved it not_part other stands = absurd (other refl)
moves-none {number} {a} {b} {h} result it not_part other stands = absurd it.occurs.1
