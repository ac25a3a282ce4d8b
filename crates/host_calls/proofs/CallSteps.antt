-- A call of a host without ticks is one step of a drain.
use Rattle.std.proofs.Common.{◌≡◌, ◌≢◌, ◌≤◌, ◌<◌, ◌+◌, ◌++◌, ◌∷◌, [], ℕ, Bool, zero, suc, None, List, bit_and, length, map, min}
use Rattle.std.proofs.Common.{refl, ap, subst, take, ◌∙◌, arith, if◌then◌else◌, ⊎_elim}
use Rattle.std.specs.List.{All}
use Rattle.std.specs.Prelude.{Err, Ok, Result}
use Rattle.std.specs.Int.Bits.{and_zero_l}
use Rattle.std.proofs.lemmas.Bool.{eq-eqb}
use Rattle.std.proofs.lemmas.Grind.{flat_map-append}
use Rattle.registers.specs.Bits.{Meet}
use Rattle.rx_engine.specs.Receiver.{Receiver}
use Rattle.adapter.specs.HostFrames.{frames_held}
use Rattle.adapter.specs.State.{AdapterState}
use Rattle.adapter.specs.World.{World}
use Rattle.adapter.specs.model_types.offsets.TheConstants.{ICR}
use Rattle.adapter.specs.TickGroups.{without_go}
use Rattle.adapter.specs.Trails.{Trail, past_of}
use Rattle.adapter.specs.bus_types.event.Access.TheVariants.{Reads}
use Rattle.adapter.specs.bus_types.event.Event.{Event}
use Rattle.adapter.specs.bus_types.event.Event.TheVariants.{Accesses}
use Rattle.dma_memory.specs.Layout.{Counts}
use Rattle.driver.specs.declared.interrupt.Handled.{Handled}
use Rattle.driver.specs.declared.interrupt.Handled.TheVariants.{NotMine}
use Rattle.driver.specs.declared.interrupt.Handled.TheVariants as answers
use Rattle.packet_socket.specs.HostEffects.{InterruptEffect, RecvEffect, given_by}
use Rattle.driver.specs.declared.receiver.Received.{Received as Entry}
use Rattle.stations.specs.AtomicSteps.{At, AtomicStep, tick_of}
use Rattle.stations.specs.ToldTicks.{TickTold}
use Rattle.stations.specs.Stations.{StationState, world_at}
use Rattle.stations.proofs.HostTrails.{trail-of}
use Rattle.stations.specs.AtomicRuns.{LeadsTo, events_at, events_by, is_go, past_at}
use Rattle.host_calls.specs.Happenings.{happened_in}
use Rattle.packet_socket.specs.HostState.{HostState, all_of, queue_at}
use Rattle.packet_socket.specs.HostCalls.{Given, HostReady, host_did, given_for}
use Rattle.packet_socket.specs.declared.receive.RecvError.{RecvError}
use Rattle.packet_socket.specs.declared.receive.RecvError.TheVariants.{Empty, NoSocket}
use Rattle.host_calls.specs.CallsInSteps.{Calls, InSteps}
use Rattle.host_calls.specs.InterruptCauses.{ReadsIcrFirst, TellsCauses}
use Rattle.packet_socket.specs.CallEffects.{EffectOf, OfAnswer, Receiving, answer_in, given_in, interrupted_in}
use Rattle.packet_socket.specs.declared.call.HostAnswer.{HostAnswer}
use Rattle.packet_socket.specs.declared.call.HostAnswer.TheVariants.{Interrupted, Joined, Left, Received, Sent}
use Rattle.packet_socket.specs.HostActs.{HostAct}
use Rattle.host_calls.specs.CallsOfHosts.{GroupsStay, HostRuns}
use Rattle.packet_socket.specs.HostActs.{IsOfDriver}
use Rattle.host_calls.specs.ConnectedHosts.{ConnectedHost, PlayedCall, connected, played_call}
use Rattle.packet_socket.specs.QueueLaws.{queue-within}
use Rattle.host_calls.specs.DrainedHosts.{IsDrainStep, count_frames, pieces_left}
use Rattle.host_calls.specs.DrainSteps.{StepsOn, count_line}
use Rattle.host_calls.proofs.AdapterSteps.{work-none}
use Rattle.host_calls.proofs.GroupsKept.{interrupt-stay, recv-stay}
use Rattle.host_calls.proofs.JoinedSteps.{nothing-stored}
use Rattle.host_calls.proofs.QuietCalls.{IsAccess, LeavesEngine, accesses-alone, drain-steps, events-elsewhere, events-here}
use Rattle.host_calls.proofs.QuietCalls.{nothing-happened, trail-clears, trail-leaves}
use Rattle.host_calls.proofs.SocketCounts.{given-sum, held-flows, queues-flow, sum_to}
use Rattle.host_calls.proofs.PiecesLeft.{count_ending, held-counted}

-- What a call without ticks doesn't change.
record Quiet (number : ℕ) (played : List AtomicStep) (a b : List StationState) : Type 0 where
  happened : happened_in played ≡ []
  engine : LeavesEngine (world_at a number).adapter (world_at b number).adapter
  alone : (k : ℕ) → k ≢ number → events_at k played ≡ []
  only : All (IsDrainStep number) played

quiet : (number : ℕ) (played : List AtomicStep) (a b : List StationState) (counts : Counts) → LeadsTo number played a b
    → without_go is_go (map tick_of played) ≡ [] → All (IsOfDriver counts) (past_at number played).accesses → Quiet number played a b
quiet number played a b counts leads none own =
    let are = accesses-alone number played a b leads none in
    record {
      happened = nothing-happened number played are;
      engine = trail-leaves counts (events_at number played) (world_at a number) (world_at b number)
          (events-here number number played are) own
          (trail-of number number played a b leads);
      alone = λ k other. events-elsewhere number k played other are;
      only = drain-steps number played are;
    }

line-stays : (a b : AdapterState) → LeavesEngine a b → count_line b.causes ≤ count_line a.causes
line-stays a b leaves = ⊎_elim
    (λ (same : b.causes.recorded ≡ a.causes.recorded).
    let e : count_line b.causes ≡ count_line a.causes =
    ap (λ (m : ℕ). min 1 (bit_and b.causes.recorded m)) leaves.mask
    ∙ ap (λ (r : ℕ). min 1 (bit_and r a.causes.mask)) same in
    omega (arith, e))
    (λ (none : b.causes.recorded ≡ 0).
    let e : bit_and b.causes.recorded b.causes.mask ≡ 0 =
    ap (λ (r : ℕ). bit_and r b.causes.mask) none ∙ and_zero_l b.causes.mask in
    omega (arith, e)) leaves.recorded

-- An equation and a bound on the numbers of frames that a call takes off the ring, and that its sockets return.
record Flows (number : ℕ) (a b : List StationState) (h h' : HostState) (taken : List (List ℕ)) (given : List Given) : Type 0 where
  ring : length taken + length (frames_held h'.driver.oldest_receive (world_at b number)) ≡ length (frames_held h.driver.oldest_receive
      (world_at a number))
  queues : length given + length (all_of h'.queues) ≤ length (all_of h.queues) + length taken

flows : (number n : ℕ) (played : List AtomicStep) (a b : List StationState) (h h' : HostState) (taken : List (List ℕ))
    (given : List Given)
    → LeadsTo number played a b → happened_in played ≡ []
    → HostRuns number played (host_did taken given []) (connected h a) (connected h' b)
    → length h.queues ≤ n → length h'.queues ≤ n → length given ≤ sum_to n (λ socket. length (given_for socket given))
    → Flows number a b h h' taken given
flows number n played a b h h' taken given leads none runs fits fits' known =
    let stored = nothing-stored number number played a b 0 leads none in
    let past = past_at number played in
    let all = queues-flow n h (world_at a number) h' (world_at b number) taken given past.stored runs.flows.accounts
    runs.flows.driver.holds fits fits' in
    record {
      ring = held-flows taken (frames_held h'.driver.oldest_receive (world_at b number))
          (frames_held h.driver.oldest_receive (world_at a number)) past.stored runs.flows.driver.holds stored;
      queues = omega (arith, all, known);
    }

-- A call without ticks is one step of a drain if no piece is in progress. The call must return one frame, or clear an
-- asserted line and return at most one frame.
one-call : (number n : ℕ) (played : List AtomicStep) (a b : List StationState) (h h' : HostState) (taken : List (List ℕ))
    (given : List Given)
    → HostReady h (world_at a number) → LeadsTo number played a b → without_go is_go (map tick_of played) ≡ []
    → HostRuns number played (host_did taken given []) (connected h a) (connected h' b)
    → GroupsStay number played (connected h a) (connected h' b)
    → length h.queues ≤ n → length h'.queues ≤ n → length given ≤ sum_to n (λ socket. length (given_for socket given))
    → (world_at a number).adapter.receiver.work ≡ None → length given ≤ 1
    → 1 + (count_line (world_at b number).adapter.causes + length taken) ≤ count_line (world_at a number).adapter.causes
    + (length given + length taken)
    → StepsOn 1 number given (connected h a) (connected h' b)
one-call number n played a b h h' taken given ready leads none runs stay fits fits' known free few line =
    let calm = quiet number played a b h.driver.layout leads none stay.accesses in
    let flow = flows number n played a b h h' taken given leads calm.happened runs fits fits' known in
    let before = work-none (world_at a number).adapter.receiver.work free in
    let behind = work-none (world_at b number).adapter.receiver.work
    (ap (λ (engine : Receiver). engine.work) calm.engine.receiver ∙ free) in
    let buffer = ap (λ (engine : Receiver). length engine.buffer) calm.engine.receiver in
    let pending = before.1 (count_line (world_at a number).adapter.causes) in
    let pending' = behind.1 (count_line (world_at b number).adapter.causes) in
    let left = ap (λ (engine : Receiver). pieces_left engine.moved engine.buffer) calm.engine.receiver in
    let ends = ap (λ (engine : Receiver). count_ending engine.work) calm.engine.receiver in
    let one = held-counted h.driver.oldest_receive (world_at a number) in
    let two = held-counted h'.driver.oldest_receive (world_at b number) in
    record {
      played = played;
      leads = leads;
      only = calm.only;
      taken = taken;
      runs = runs;
      stay = stay;
      moves = record {
        count = 0;
        moved = calm.happened;
        buffered = omega (arith, buffer);
        alone = calm.alone;
        filter = calm.engine.filter;
      };
      counts = record {
        most = omega (arith, flow.ring, flow.queues, left, ends, buffer, pending, pending', one, two, line);
        least = omega (arith, before.0, behind.0, left, few);
        held = omega (arith, flow.ring, flow.queues);
      };
    }

-- An interrupt

first-event : (host : ℕ) (event : Event) (later : List AtomicStep) → events_at host (At host event ∷ later) ≡ event ∷ events_at host later
first-event host event later =
    ap (λ (here : Bool). (if here then event ∷ [] else []) ++ events_at host later) (eq-eqb host host refl)

clears : (number : ℕ) (played early : List AtomicStep) (a b : List StationState) (counts : Counts) (causes : ℕ) → LeadsTo number played a b
    → without_go is_go (map tick_of played) ≡ [] → All (IsOfDriver counts) (past_at number played).accesses
    → ReadsIcrFirst number played early causes → (world_at b number).adapter.causes.recorded ≡ 0
clears number played early a b counts causes leads none own first =
    let are = events-here number number played (accesses-alone number played a b leads none) in
    let trail = trail-of number number played a b leads in
    let is : events_at number played ≡ events_at number early ++ Accesses (Reads ICR causes) ∷ events_at number first.later =
    ap (events_at number) first.split
    ∙ flat_map-append (events_by number) early (At number (Accesses (Reads ICR causes)) ∷ first.later)
    ∙ ap (λ (list : List Event). events_at number early ++ list) (first-event number (Accesses (Reads ICR causes)) first.later) in
    trail-clears counts (events_at number early) causes (events_at number first.later) (world_at a number) (world_at b number)
    (subst (λ (list : List Event). All IsAccess list) is are)
    (subst (λ (list : List Event). All (IsOfDriver counts) (past_of list).accesses) is own)
    (subst (λ (list : List Event). Trail list (world_at a number) (world_at b number)) is trail)

reads-first : (result : Handled) (k : ℕ) (steps : List AtomicStep) (old new : ConnectedHost)
    → InterruptEffect result old.host new.host (InSteps k [] steps old new) (world_at old.stations k)
    → ((causes : ℕ) × TellsCauses k steps causes (world_at old.stations k).adapter)
reads-first NotMine k steps old new does = (does.causes, does.runs.icr does.causes _ refl)
reads-first (answers.Handled n) k steps old new does = (does.causes, does.runs.icr does.causes _ refl)

pub handled-steps : (result : Handled) (number : ℕ) (a b : List StationState) (heard : List TickTold → Type 0) (accesses : ℕ)
    (h h' : HostState)
    → HostReady h (world_at a number)
    → Calls (played_call number [] heard accesses) [] [] (InterruptEffect result) (connected h a) (connected h' b)
    → (world_at a number).adapter.receiver.work ≡ None
    → Meet (world_at a number).adapter.causes.recorded (world_at a number).adapter.causes.mask
    → StepsOn 1 number [] (connected h a) (connected h' b)
handled-steps result number a b heard accesses h h' ready calls free meets =
    let runs = calls.runs in
    let of_call = runs.of_call in
    let reads = reads-first result number runs.steps (connected h a) (connected h' b) calls.does in
    let stay = interrupt-stay result number [] runs.steps (connected h a) (connected h' b) _ calls.does in
    let recorded = clears number runs.steps reads.1.early a b h.driver.layout reads.0 of_call.leads of_call.played
    stay.accesses reads.1.first in
    let causes = (world_at b number).adapter.causes in
    let none : bit_and causes.recorded causes.mask ≡ 0 =
    ap (λ (r : ℕ). bit_and r causes.mask) recorded ∙ and_zero_l causes.mask in
    one-call number (length h.queues + length h'.queues) runs.steps a b h h' runs.taken [] ready of_call.leads
    of_call.played runs.runs stay (omega arith) (omega arith) (omega arith) free (omega arith) (omega (arith, none, meets))

-- A frame that is returned

queue-there : (queues : List (List Entry)) (socket : ℕ) → queue_at queues socket ≢ [] → socket < length queues
queue-there [] socket some = absurd (some refl)
queue-there (queue ∷ later) zero some = omega arith
queue-there (queue ∷ later) (suc socket) some = let rest = queue-there later socket some in omega (arith, rest)

pub given-steps : (number socket : ℕ) (frame : List ℕ) (a b : List StationState) (heard : List TickTold → Type 0) (accesses : ℕ)
    (h h' : HostState)
    → HostReady h (world_at a number)
    → Calls (played_call number [] heard accesses) (given_by socket (Ok frame)) [] (RecvEffect socket (Ok frame)) (connected h a)
    (connected h' b)
    → (world_at a number).adapter.receiver.work ≡ None → StepsOn 1 number (given_by socket (Ok frame)) (connected h a) (connected h' b)
given-steps number socket frame a b heard accesses h h' ready calls free =
    let runs = calls.runs in
    let of_call = runs.of_call in
    let stay = recv-stay socket (Ok frame) number (given_by socket (Ok frame)) runs.steps (connected h a) (connected h' b) _ calls.does in
    let n = length h.queues + (length h'.queues + (socket + 1)) in
    let calm = quiet number runs.steps a b h.driver.layout of_call.leads of_call.played stay.accesses in
    let line = line-stays (world_at a number).adapter (world_at b number).adapter calm.engine in
    let known = given-sum n (record { socket = socket; frame = frame }) (omega arith) in
    one-call number n runs.steps a b h h' runs.taken (given_by socket (Ok frame)) ready of_call.leads of_call.played runs.runs
    stay (omega arith) (omega arith) (omega (arith, known)) free (omega arith) (omega (arith, line))

pub not-refused : (result : Result (List ℕ) RecvError) (error : RecvError) (socket : ℕ) (h h' : HostState) (Runs : HostAct → Type 0)
    (world : World) → RecvEffect socket result h h' Runs world → socket < length h.kinds → queue_at h.queues socket ≢ []
    → result ≡ Err error → ⊥
not-refused (Ok frame) error socket h h' Runs world does known some is = absurd (cc)
not-refused (Err Empty) error socket h h' Runs world does known some is = some does.1
not-refused (Err NoSocket) error socket h h' Runs world does known some is = let none = does.0 in omega (arith, none, known)

-- Calls whose answer is that of an interrupt, or a returned frame.

pub interrupted-call : (answer : HostAnswer (List ℕ)) (call : PlayedCall) (old new : ConnectedHost)
    → Calls call [] [] (OfAnswer (interrupted_in answer) InterruptEffect) old new
    → ((result : Handled) × Calls call [] [] (InterruptEffect result) old new)
interrupted-call (Sent result) call old new calls = absurd calls.does
interrupted-call (Received result) call old new calls = absurd calls.does
interrupted-call (Joined result) call old new calls = absurd calls.does
interrupted-call (Left result) call old new calls = absurd calls.does
interrupted-call (Interrupted result) call old new calls = (result, record { runs = calls.runs; does = calls.does })

pub returned-call : (socket size : ℕ) (into : List ℕ) (answer : HostAnswer ℕ) (received : Result ℕ RecvError) (call : PlayedCall)
    (old new : ConnectedHost) → answer ≡ Received received → received ≡ Ok size
    → Calls call (given_in (Receiving socket) (answer_in into answer)) [] (EffectOf (Receiving socket) (answer_in into answer)) old new
    → Calls call (given_by socket (Ok (take size into))) [] (RecvEffect socket (Ok (take size into))) old new
returned-call socket size into answer received call old new is same calls =
    subst (λ (a : HostAnswer ℕ). Calls call (given_in (Receiving socket) (answer_in into a)) []
    (EffectOf (Receiving socket) (answer_in into a)) old new)
    (is ∙ ap Received same) calls

pub no-other : (socket : ℕ) (into : List ℕ) (answer : HostAnswer ℕ) (h h' : HostState) (Runs : HostAct → Type 0) (world : World)
    → ((received : Result ℕ RecvError) → answer ≢ Received received)
    → EffectOf (Receiving socket) (answer_in into answer) h h' Runs world → ⊥
no-other socket into (Sent result) h h' Runs world not does = does
no-other socket into (Received result) h h' Runs world not does = not result refl
no-other socket into (Interrupted result) h h' Runs world not does = does
no-other socket into (Joined result) h h' Runs world not does = does
no-other socket into (Left result) h h' Runs world not does = does

pub room-left : (h : HostState) (world : World) (socket left : ℕ) → queue_at h.queues socket ≢ [] → count_frames h world ≤ left
    → 0 < left
room-left h world socket left some room =
    let one = some-long (queue_at h.queues socket) some in
    let within = queue-within h.queues socket in
    omega (arith, one, within, room)
  where
    some-long : (queue : List Entry) → queue ≢ [] → 0 < length queue
    some-long [] some = absurd (some refl)
    some-long (received ∷ queue) some = omega arith
