-- One event that is a reset: `ResetPlayed` for hosts that exist and that don't exist.
use Rattle.std.proofs.Common.{◌≡◌, ◌≢◌, ◌≤◌, ◌<◌, ◌+◌, ◌++◌, ◌∷◌, ◌==◌, [], ℕ, true, false, List, None, Option, Some, length, map, min}
use Rattle.std.proofs.Common.{slice_set, suc, sym, ap, subst, ◌∙◌, arith}
use Rattle.std.specs.Prelude.{nat_lt}
use Rattle.std.proofs.lemmas.Bool.{lt-leb, lt-ltb}
use Rattle.std.proofs.lemmas.Grind.{flat_map-append}
use Rattle.std.proofs.lemmas.List.{append-nil}
use Rattle.std.proofs.lemmas.Option.{slice_get_past}
use Rattle.circular_buffer.proofs.Places.{slice_get-set_other}
use Rattle.dma_memory.specs.Layout.{Counts, IsAllowed}
use Rattle.adapter.specs.HostFrames.{frames_held}
use Rattle.adapter.specs.LivelyBuses.{most_accesses}
use Rattle.adapter.specs.TickGroups.{without_go}
use Rattle.adapter.specs.bus_types.event.Access.{Access}
use Rattle.adapter.specs.DriverState.{DriverSetup}
use Rattle.stations.specs.AtomicRunLaws.{counted_join}
use Rattle.stations.specs.AtomicRuns.{LeadsTo, counted_of, is_go, noted_of, steps_told}
use Rattle.stations.specs.AtomicSteps.{AtomicStep, after_atomic, tick_of, watched}
use Rattle.stations.specs.Stations.{StationState, world_at}
use Rattle.stations.specs.ToldTicks.{TickTold}
use Rattle.stations.specs.declared.observer.Observer.{Ghosts as OfObserver}
use Rattle.stations.specs.declared.outcomes.Numbered.{Numbered}
use Rattle.stations.specs.declared.tick.Tick.{Tick}
use Rattle.packet_socket.specs.CallEffects.{Interrupting}
use Rattle.packet_socket.specs.HostState.{HostState}
use Rattle.host_calls.proofs.HostLists.{put-told, stored-told}
use Rattle.host_calls.proofs.ToldByNumber.{more-counted, told-by_number}
use Rattle.host_calls.specs.Happenings.{Happening, happened_by, happened_in, put, stored, tick_happenings_where}
use Rattle.host_calls.specs.TickNumbers.{noted_numbers, numbers}
use Rattle.network_plan.specs.Answers.{FrameAnswer}
use Rattle.network_plan.specs.EventCalls.{EventCall}
use Rattle.network_plan.specs.declared.event.Event.{Event}
use Rattle.network_plan.specs.declared.reply.Answer.TheVariants.{NoHost}
use Rattle.network_plan.specs.declared.reply.Reply.{Reply}
use Rattle.host_calls.proofs.HostsOfNetworks.{host-there}
use Rattle.host_calls.specs.ConnectedHosts.{connected, played_call}
use Rattle.host_calls.specs.Networks.{IsHost, NetworkState, OnlyHostChanges, connected_at, nth_host}
use Rattle.host_calls.specs.ResetSteps.{ResetParts, at_rest, before_reset, disable_of, enable_of, reset_of, whole_reset}
use Rattle.host_calls.specs.ResetsInSteps.{MakesReset, ResetsInSteps}
use Rattle.wire.specs.Equations.{NetworkStands}
use Rattle.wire.specs.PlayedCalls.{AbsentTold, ResetPlayed}
use Rattle.wire.specs.RunObservers.{AreOfTicks, EventTold, StatesEnding, TellsReply, ending, played_ticks}
use Rattle.wire.specs.Runs.{AnswersReset, HostsGo, ResetAnswer, reset_answer, said_in_reset}
use Rattle.wire.proofs.Playing.{absent-played, hosts-as, outcomes-are, told-ticks}
use Rattle.wire.proofs.ResetFates.{reset-fates}
use Rattle.wire.proofs.ResetGoes.{ResetKnown, reset-goes}
use Rattle.wire.proofs.ResetLists.{leads-split}
use Rattle.wire.proofs.ResetTold.{PartsCounted, count-accesses, parts-chosen, reset-says, reset_said, told-early}
use Rattle.wire.proofs.Standing.{caller-behind}

pub parts-counted : (k : ℕ) (steps : List AtomicStep) (h h' : HostState) (a b : List StationState) (on_after : ℕ)
    (resets : ResetsInSteps k steps (connected h a) (connected h' b))
    → on_after ≡ counted_of 0 (before_reset k resets.parts ++ at_rest k h.driver.setup resets.parts) → on_after < most_accesses
    → PartsCounted resets.parts on_after
parts-counted k steps h h' a b on_after resets is within =
    let setup = h.driver.setup in
    let parts = resets.parts in
    let enable = enable_of k setup in
    let first = leads-split k parts.early (disable_of k ∷ parts.stopping) a resets.last resets.stops.leads in
    let last = leads-split k parts.resting (enable ∷ []) (after_atomic (reset_of k) resets.last) resets.enabled resets.rests.leads.2 in
    let early_made = ap (λ (list : List Access). length list) resets.accesses.early in
    let stopping_made = ap (λ (list : List Access). length list) resets.accesses.stopping in
    let early_count = count-accesses k 0 parts.early a first.0 first.1 (omega arith) in
    let stopping_count = count-accesses k 1 parts.stopping (after_atomic (disable_of k) first.0) resets.last first.2.2 (omega arith) in
    let none : counted_of 0 parts.early ≡ 0 = omega (arith, early_count, early_made) in
    let two : counted_of 1 parts.stopping ≡ 2 = omega (arith, stopping_count, stopping_made) in
    let before : counted_of 0 (before_reset k parts) ≡ 2 =
    counted_join 0 parts.early (disable_of k ∷ parts.stopping)
    ∙ ap (λ (n : ℕ). counted_of n (disable_of k ∷ parts.stopping)) none ∙ two in
    let all : on_after ≡ min (counted_of 3 parts.resting + 1) most_accesses =
    is ∙ counted_join 0 (before_reset k parts) (at_rest k setup parts) ∙ ap (λ (n : ℕ). counted_of n (at_rest k setup parts)) before
    ∙ counted_join 3 parts.resting (enable ∷ []) in
    record { early = none; stopping = two; resting = omega (arith, all, within); within = omega (arith, within) }

-- The number of accesses before a reset's later part is below the count at which accesses saturate.
pub few-slots : {counts : Counts} → IsAllowed counts → 302 + counts.rx < most_accesses
few-slots allowed = omega (arith, allowed.rx.most)

-- The answer of a reset, by the numbers of accesses before its outcomes

below-three : (number : ℕ) → number < 3 → nat_lt number 3 ≡ true
below-three number below = lt-ltb number 3 below

not-below_three : (number : ℕ) → 3 ≤ number → nat_lt number 3 ≡ false
not-below_three number above = lt-leb (suc number) 3 (omega (arith, above))

told-before : (k : ℕ) (ticks : List Tick) (setup : DriverSetup) (parts : ResetParts) (a b : List StationState) (on_after : ℕ)
    → PartsCounted parts on_after → LeadsTo k (whole_reset k setup parts) a b
    → without_go is_go (map tick_of (whole_reset k setup parts)) ≡ without_go is_go ticks
    → tick_happenings_where (λ number. nat_lt number 3) ticks (noted_of 0 (whole_reset k setup parts)) ≡ happened_in (before_reset k parts)
told-before k ticks setup parts a b on_after counted leads played =
    told-by_number (λ number. nat_lt number 3) k ticks (whole_reset k setup parts) a b leads played
    ∙ parts-chosen (λ number. nat_lt number 3) k setup parts on_after true true false false counted (record {
      at_zero = λ m high. below-three m (omega (arith, high));
      to_reset = λ m low high. below-three m high;
      to_enabled = λ m low high. not-below_three m low;
      behind = λ m low. not-below_three m
          (let least = (more-counted 3 parts.resting (omega arith)).0 in let count = counted.resting in omega (arith, low, least, count));
    })
    ∙ ap (λ (list : List Happening). happened_in parts.early ++ list) (append-nil (happened_in parts.stopping))
    ∙ sym (flat_map-append happened_by parts.early (disable_of k ∷ parts.stopping))

reset-answers : (k : ℕ) (ticks : List Tick) (full : FrameAnswer) (answer : ResetAnswer) (steps : List AtomicStep) (h h' : HostState)
    (a b : List StationState) → (known : ResetKnown k answer steps h h' a b) → reset_answer full ≡ Some answer
    → PartsCounted known.resets.parts answer.on_after → without_go is_go (map tick_of steps) ≡ without_go is_go ticks
    → answer.on_after ≡ 302 + h.driver.layout.rx → AnswersReset k ticks full steps (connected h a) (connected h' b)
reset-answers k ticks full answer steps h h' a b known is counted played on_after =
    let resets = known.resets in
    let parts = resets.parts in
    let setup = h.driver.setup in
    let whole = whole_reset k setup parts in
    let leads : LeadsTo k whole a b = subst (λ (list : List AtomicStep). LeadsTo k list a b) resets.split known.leads in
    let same : without_go is_go (map tick_of whole) ≡ without_go is_go ticks =
    ap (λ (list : List AtomicStep). without_go is_go (map tick_of list)) (sym resets.split) ∙ played in
    let first = leads-split k parts.early (disable_of k ∷ parts.stopping) a resets.last resets.stops.leads in
    record {
      given_up = answer;
      is = is;
      sending =
          ap (λ (list : List (List ℕ)). list ++ answer.sending)
          (ap (λ (list : List AtomicStep). put k (tick_happenings_where (λ number. nat_lt number 3) ticks (noted_of 0 list))) resets.split
          ∙ ap (put k) (told-before k ticks setup parts a b answer.on_after counted leads same)
          ∙ put-told k k (before_reset k parts) a resets.last resets.stops.leads)
          ∙ known.gives.sending_since;
      holding =
          known.gives.holding_since
          ∙ ap (λ (list : List (List ℕ)). frames_held h.driver.oldest_receive (world_at a k) ++ list)
          (sym (ap (λ (list : List AtomicStep). stored k (tick_happenings_where (λ number. number == 0) ticks (noted_of 0 list)))
          resets.split
          ∙ ap (stored k) (told-early k ticks setup parts a b answer.on_after counted leads same)
          ∙ stored-told k k parts.early a first.0 first.1));
      on_after = on_after;
      does = resets;
      sending_then = known.gives.sending_then;
      holding_then = known.gives.holding_then;
    }

-- `ResetPlayed` for a reset of a host that exists, if in the list of hosts only this host is replaced.
set-reset : (host : ℕ) (ticks : List Tick) (old : NetworkState) (stations : List StationState) (heard : List TickTold → Type 0)
    (accesses : ℕ) (full : FrameAnswer) (answer : ResetAnswer) (h h' : HostState) (reply : Reply)
    → NetworkStands old → IsHost old host h → host < length old.hosts → reset_answer full ≡ Some answer → full ≢ NoHost
    → (makes : MakesReset (played_call host ticks heard accesses) answer.sending answer.holding answer.on_after
    (connected h old.stations) (connected h' stations))
    → answer.on_after ≡ 302 + h.driver.layout.rx
    → StatesEnding (ending accesses full (steps_told 0 makes.runs.steps)) reply
    → ResetPlayed host ticks reply old (record { hosts = slice_set old.hosts host h'; stations = stations })
set-reset host ticks old stations heard accesses full answer h h' reply stands there below is some makes on_after replies =
    let a = old.stations in
    let runs = makes.runs in
    let steps = runs.steps in
    let resets = runs.resets in
    let parts = resets.parts in
    let setup = h.driver.setup in
    let new : NetworkState = record { hosts = slice_set old.hosts host h'; stations = stations } in
    let noted = outcomes-are accesses full steps reply replies in
    let stood = stands.each host h there in
    let known : ResetKnown host answer steps h h' a stations = record {
      leads = runs.of_call.leads;
      resets = resets;
      gives = makes.gives_up;
      right = reset-fates host answer steps h h' a stations stood resets;
    } in
    let counted = parts-counted host steps h h' a stations answer.on_after resets makes.enabled_after
    (subst (λ (n : ℕ). n < most_accesses) (sym on_after) (few-slots stood.ready.ready.driver_is.allowed)) in
    let whole = whole_reset host setup parts in
    let leads : LeadsTo host whole a stations =
    subst (λ (list : List AtomicStep). LeadsTo host list a stations) resets.split runs.of_call.leads in
    let same : without_go is_go (map tick_of whole) ≡ without_go is_go ticks =
    ap (λ (list : List AtomicStep). without_go is_go (map tick_of list)) (sym resets.split) ∙ runs.of_call.played in
    let answered : reset_answer reply.answer ≡ Some answer = ap reset_answer replies.answer ∙ is in
    let said : said_in_reset host (reset_answer reply.answer) ticks reply.outcomes.list ≡ reset_said host answer parts =
    ap (λ (list : List Numbered). said_in_reset host (reset_answer reply.answer) ticks list) noted
    ∙ ap (λ (o : Option ResetAnswer). said_in_reset host o ticks (noted_of 0 steps)) answered
    ∙ ap (λ (list : List AtomicStep). said_in_reset host (Some answer) ticks (noted_of 0 list)) resets.split
    ∙ reset-says host ticks setup parts a stations answer counted leads same in
    record {
      steps = steps;
      go = subst (λ (list : List Happening). HostsGo host list steps old new) (sym said)
          (reset-goes host answer steps h h' old stations stands there known);
      replied = record {
        played = runs.of_call.played;
        unmade = λ past. absurd (omega (arith, past, below));
        no_host = (λ none. absurd (some (sym replies.answer ∙ none)), λ low. absurd (omega (arith, low, below)));
        counted = replies.accesses ∙ runs.of_call.counted;
        outcomes = noted;
        numbered = ap noted_numbers noted ∙ runs.of_call.numbered ∙ ap (numbers ticks 0) (sym replies.accesses);
        others = λ k other. slice_get-set_other old.hosts host k h' other;
      };
      answer = λ was is_now first now.
          let before_is : was ≡ h = let e : Some h ≡ Some was = sym there ∙ first in cc in
          let behind_is : is_now ≡ h' = caller-behind old.hosts host h h' is_now there now in
          subst (λ (w : HostState). AnswersReset host ticks reply.answer steps (connected w a) (connected is_now stations)) (sym before_is)
          (subst (λ (w : HostState). AnswersReset host ticks reply.answer steps (connected h a) (connected w stations)) (sym behind_is)
          (reset-answers host ticks reply.answer answer steps h h' a stations known answered counted runs.of_call.played on_after));
    }

-- The observer was told the contents of a reply for which `ResetPlayed` holds, for a host that exists.
pub reset-told : {O : Type 0} {ran : O → O → List Event → List Reply → Type 0} (heard : List TickTold → Type 0) (event : Event)
    (host : ℕ) (ticks : List Tick) (old new : NetworkState) (accesses : ℕ) (full : FrameAnswer) (answer : ResetAnswer) (from to : O)
    → NetworkStands old → host < length old.hosts → OnlyHostChanges host old new → reset_answer full ≡ Some answer → full ≢ NoHost
    → (makes : MakesReset (played_call host ticks heard accesses) answer.sending answer.holding answer.on_after
    (connected_at old host) (connected_at new host))
    → answer.on_after ≡ 302 + (nth_host old host).driver.layout.rx
    → TellsReply ran event (ending accesses full (steps_told 0 makes.runs.steps)) from to
    → EventTold ran event from to (λ reply. ResetPlayed host ticks reply old new)
reset-told heard event host ticks old new accesses full answer from to stands below only is some makes on_after tells = record {
  reply = tells.reply;
  told = tells.told;
  holds = hosts-as (ResetPlayed host ticks tells.reply old) new _ only
      (set-reset host ticks old new.stations heard accesses full answer (nth_host old host) (nth_host new host) tells.reply stands
      (host-there old host below) below is some makes on_after tells.replies);
}

-- The observer was told the contents of a reply for which `ResetPlayed` holds, for a host that doesn't exist.
pub absent-reset : {O : Type 0} {g : OfObserver O} {ran : O → O → List Event → List Reply → Type 0} (host : ℕ) (ticks : List Tick)
    (event : Event) (old new : NetworkState) (from to : O)
    → NetworkStands old → length old.hosts ≤ host → new.hosts ≡ old.hosts
    → AbsentTold g ran event ticks (watched old.stations from) (watched new.stations to)
    → EventTold ran event from to (λ reply. ResetPlayed host ticks reply old new)
absent-reset {g = g} {ran = ran} host ticks event old new from to stands past hosts absent =
    let call : EventCall = record { host = host; request = Interrupting; ticks = ticks } in
    let told = absent-played {g = g} {ran = ran} call event old new from to stands past hosts absent in
    let played = told.holds in
    let reply = told.reply in
    let none : reply.answer ≡ NoHost = played.replied.no_host.1 past in
    record {
      reply = reply;
      told = told.told;
      holds = record {
        steps = played.steps;
        go = subst (λ (o : Option ResetAnswer). HostsGo host (said_in_reset host o ticks reply.outcomes.list) played.steps old new)
            (sym (ap reset_answer none)) played.go;
        replied = played.replied;
        answer = λ was is then now.
            let gone = slice_get_past old.hosts host past in
            let e : Some was ≡ None = sym then ∙ gone in absurd (cc);
      };
    }

pub told-of_reset : (event : Event) (caller : ℕ) (ticks : List Tick) (steps : List AtomicStep) (a b : List StationState)
    → LeadsTo caller steps a b → without_go is_go (map tick_of steps) ≡ without_go is_go ticks → without_go is_go ticks ≡ played_ticks event
    → AreOfTicks event (steps_told 0 steps)
told-of_reset event caller ticks steps a b leads played same = told-ticks caller 0 steps a b leads ∙ played ∙ same
