-- A reset of a host of a network: what `Network::reset` derives from the reset over a lent bus and from the notes.
use Rattle.std.proofs.Common.{◌≡◌, ◌≤◌, ◌+◌, ℕ, true, List, drop, length, min}
use Rattle.std.proofs.Common.{arith, refl, sym, ap, subst, ◌∙◌}
use Rattle.rx_engine.specs.declared.engine.TheConstants.{MOST_FRAMES}
use Rattle.adapter.specs.HostFrames.{frames_held, frames_to_send}
use Rattle.adapter.specs.State.{IsAdapter}
use Rattle.adapter.specs.LivelyBuses.{most_accesses}
use Rattle.stations.specs.AtomicRuns.{steps_told}
use Rattle.stations.specs.AtomicSteps.{AtomicStep}
use Rattle.stations.specs.LentBuses.{Finished, world_here}
use Rattle.stations.specs.Stations.{StationState, world_at}
use Rattle.stations.specs.ToldTicks.{ComposesTold, TickTold}
use Rattle.stations.specs.declared.tick.Tick.{Tick}
use Rattle.stations.specs.declared.lent_bus.LentBus.{LentBus}
use Rattle.stations.specs.declared.observer.Observer.{Ghosts as OfObserver}
use Rattle.packet_socket.specs.HostCalls.{HostReady, host_at}
use Rattle.packet_socket.specs.HostResets.{HostResets}
use Rattle.packet_socket.specs.HostState.{HostState}
use Rattle.host_calls.proofs.Calling.{lent_call}
use Rattle.host_calls.proofs.HostsOfNetworks.{HasHost}
use Rattle.host_calls.proofs.PendingFrames.{sending-at_most}
use Rattle.host_calls.proofs.ResetGives.{enabled-after, first_notes, gives-up, holding-noted, sending-noted}
use Rattle.host_calls.proofs.ResetLifting.{LentReset, reset-ran, reset-steps}
use Rattle.host_calls.proofs.ResetParts.{resets-are, steps_ran}
use Rattle.host_calls.specs.CallsOfHosts.{StepsOfCall}
use Rattle.host_calls.specs.ConnectedHosts.{ConnectedHost, PlayedCall, connected, played_call}
use Rattle.host_calls.specs.BeforeReset.{IsBeforeReset}
use Rattle.host_calls.specs.LentCalls.{lent}
use Rattle.host_calls.specs.Networks.{NetworkState, connected_at, nth_host}
use Rattle.host_calls.specs.declared.network.Network.TheInside.{Inside}
use Rattle.host_calls.specs.declared.resetting.GivenUp.{GivenUp}
use Rattle.host_calls.specs.Notes.{NotesFit, Notes, NotesTicks, noted_after}
use Rattle.host_calls.specs.ResetsInSteps.{GivesUp, MakesReset, RunsReset}

pub runs-reset : {O : Type 0} {g : OfObserver O} {m b : LentBus O g} {h h' : HostState} → ComposesTold g.heard → (a : LentBus O g)
    → a.accesses ≡ 0
    → HostReady h (world_here a) → h' ≡ record h { driver = h'.driver } → h'.driver.setup ≡ h.driver.setup
    → h'.driver.groups ≡ h.driver.groups → HostResets lent true (host_at a h) (host_at m h') → Finished m b
    → RunsReset (lent_call a b) (connected h a.stations.now) (connected h' b.stations.now)
runs-reset {m = m} {b} {h} {h'} composes a zero ready host setup groups resets finished =
    let it : LentReset a m b h h' = record {
      ready = ready;
      host = host;
      setup = setup;
      groups = groups;
      resets = resets;
      finished = finished;
    } in
    record {
      steps = steps_ran (reset-ran a m b h h' it);
      of_call = reset-steps composes a m b h h' zero it;
      resets = resets-are a.host h h' a.stations.now b.stations.now (reset-ran a m b h h' it) ready;
    }

with-heard : (call : PlayedCall) (heard : List TickTold → Type 0) (steps : List AtomicStep) (a b : List StationState)
    → StepsOfCall call steps a b → heard (steps_told 0 steps)
    → StepsOfCall (played_call call.caller call.ticks heard call.accesses) steps a b
with-heard call heard steps a b of_call told = record {
  leads = of_call.leads;
  played = of_call.played;
  heard = told;
  said = of_call.said;
  numbered = of_call.numbered;
  counted = of_call.counted;
}

pub runs-told : (k accesses : ℕ) (ticks : List Tick) (heard heard' : List TickTold → Type 0) (old new : ConnectedHost)
    → ((told : List TickTold) → heard told → heard' told) → RunsReset (played_call k ticks heard accesses) old new
    → RunsReset (played_call k ticks heard' accesses) old new
runs-told k accesses ticks heard heard' old new tells runs = record {
  steps = runs.steps;
  of_call = with-heard (played_call k ticks heard accesses) heard' runs.steps old.stations new.stations runs.of_call
      (tells (steps_told 0 runs.steps) runs.of_call.heard);
  resets = runs.resets;
}

-- What is known of the notes before and after a reset of host k, and of the values that `Network::reset` computes from
-- the notes.
pub record Answered (k most : ℕ) (old : ConnectedHost) (before after : Notes) (sending holding : List (List ℕ)) (on_after : ℕ) : Type 0
  where
    pub adapter : IsAdapter (world_at old.stations k).adapter
    pub begins : before ≡ first_notes k most (frames_held old.host.driver.oldest_receive (world_at old.stations k))
    pub within : NotesFit before
    pub room : old.host.driver.layout.rx + MOST_FRAMES ≤ most
    pub few : length (frames_to_send (world_at old.stations k)) ≤ most_accesses
    pub sending_is : sending ≡ drop (min (length (frames_to_send (world_at old.stations k))) after.put)
        (frames_to_send (world_at old.stations k))
    pub holding_is : holding ≡ after.holding
    pub on_after_is : on_after ≡ 302 + old.host.driver.layout.rx
    pub small : 302 + old.host.driver.layout.rx ≤ most_accesses

pub makes-reset : (k most accesses on_after : ℕ) (ticks : List Tick) (heard : List TickTold → Type 0) (old new : ConnectedHost)
    (before after : Notes) (sending holding : List (List ℕ))
    → RunsReset (played_call k ticks (λ told. heard told × NotesTicks before after told) accesses) old new
    → Answered k most old before after sending holding on_after
    → MakesReset (played_call k ticks heard accesses) sending holding on_after old new
makes-reset k most accesses on_after ticks heard old new before after sending holding runs is =
    let it = runs.resets in
    let told = steps_told 0 runs.steps in
    let held = frames_held old.host.driver.oldest_receive (world_at old.stations k) in
    let noted : after ≡ noted_after told (first_notes k most held) =
    (runs.of_call.heard.1 is.within).notes ∙ ap (noted_after told) is.begins in
    let sent : sending ≡ frames_to_send (world_at it.last k) =
    is.sending_is
    ∙ sending-noted k most runs.steps old new it held after.put _ is.few (ap (λ (notes : Notes). notes.put) noted) refl in
    let kept : holding ≡ frames_held old.host.driver.oldest_receive (world_at it.last k) =
    is.holding_is ∙ ap (λ (notes : Notes). notes.holding) noted ∙ holding-noted k most runs.steps old new it is.adapter is.room in
    let Gives : List (List ℕ) → List (List ℕ) → Type 0 =
    λ s h. GivesUp s h k old.host.driver.oldest_receive it.parts (world_at old.stations k) (world_at it.last k) in
    record {
      runs = record {
        steps = runs.steps;
        of_call = with-heard (played_call k ticks (λ told. heard told × NotesTicks before after told) accesses) heard runs.steps
            old.stations new.stations runs.of_call runs.of_call.heard.0;
        resets = it;
      };
      gives_up = subst (λ (s : List (List ℕ)). Gives s holding) (sym sent)
          (subst (Gives (frames_to_send (world_at it.last k))) (sym kept) (gives-up k runs.steps old new it));
      enabled_after = is.on_after_is ∙ sym (enabled-after k runs.steps old new it is.small);
    }

-- `Answered` for the host, the notes and the values in the body of `Network::reset`.
pub answered : {inside : Inside} {n : NetworkState} {k : ℕ} {h : HostState} {rx most wide : ℕ} {before after : Notes}
    {sending holding : List (List ℕ)} (found : GivenUp) → HasHost inside n k h → HostReady (nth_host n k) (world_at n.stations k)
    → IsAdapter (world_at n.stations k).adapter → IsBeforeReset (nth_host n k) (world_at n.stations k) found → rx ≡ h.driver.layout.rx
    → most ≡ rx + MOST_FRAMES → wide ≡ rx → before ≡ first_notes k most found.holding.items → NotesFit before
    → sending ≡ drop (min (length found.sending.items) after.put) found.sending.items → holding ≡ after.holding
    → Answered k most (connected_at n k) before after sending holding (302 + wide)
answered {n = n} {k} {most = most} {after = after} found here ready adapter was rx_is most_is wide_is begins within sending_is holding_is =
    let is = ap (λ (host : HostState). host.driver.layout.rx) here.is in
    let tx = sending-at_most ready.ready in
    let allowed = ready.ready.driver_is.allowed in
    record {
      adapter = adapter;
      begins = begins ∙ ap (first_notes k most) was.holding;
      within = within;
      room = omega (arith, most_is, rx_is, is);
      few = omega (arith, tx, allowed.tx.most);
      sending_is = sending_is
          ∙ ap (λ (list : List (List ℕ)). drop (min (length list) after.put) list) was.sending;
      holding_is = holding_is;
      on_after_is = omega (arith, wide_is, rx_is, is);
      small = omega (arith, allowed.rx.most);
    }

pub told-back : {O : Type 0} (Holds : O → Type 0) (told told' : O) → told' ≡ told → Holds told → Holds told'
told-back Holds told told' same holds = subst Holds (sym same) holds
