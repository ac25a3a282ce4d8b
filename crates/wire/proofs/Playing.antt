-- One event that is a call: `CallPlayed` for hosts that exist and that don't exist.
use Rattle.std.proofs.Common.{◌≡◌, ◌≢◌, ◌≤◌, ◌<◌, ◌∷◌, [], ℕ, List, Some, None, length, map, slice_get, slice_set}
use Rattle.std.proofs.Common.{refl, sym, ap, subst, ◌∙◌, arith}
use Rattle.std.specs.List.{All}
use Rattle.std.proofs.lemmas.List.{length-set}
use Rattle.std.proofs.lemmas.Option.{slice_get_past}
use Rattle.adapter.specs.TickGroups.{without_go}
use Rattle.adapter.specs.bus_types.event.Event.TheVariants.{Accesses, Arrives, Steps}
use Rattle.circular_buffer.proofs.Places.{slice_get-set_other}
use Rattle.packet_socket.specs.HostState.{HostState}
use Rattle.packet_socket.specs.HostCalls.{Given, host_did}
use Rattle.stations.specs.AtomicRunLaws.{steps_told_noted}
use Rattle.stations.specs.AtomicRuns.{IsTick, LeadsTo, counted_by, is_go, noted_of, steps_told}
use Rattle.stations.specs.AtomicSteps.{At, AtomicStep, Idles, tick_of, watched}
use Rattle.stations.specs.Stations.{StationState, wire_at}
use Rattle.stations.specs.ToldTicks.{TickTold}
use Rattle.stations.specs.declared.observer.Observer.{Ghosts as OfObserver}
use Rattle.stations.specs.declared.outcomes.Numbered.{Numbered}
use Rattle.stations.specs.declared.tick.Tick.{Tick}
use Rattle.stations.specs.declared.tick.Tick.TheVariants.{Deliver, Go, Step}
use Rattle.stations.proofs.TickLoops.{keeps-tick}
use Rattle.host_calls.proofs.Laws.{outcomes-tell}
use Rattle.host_calls.specs.Fates.{marks}
use Rattle.host_calls.specs.Happenings.{Happening, happened_in, of_host}
use Rattle.host_calls.specs.TickNumbers.{noted_numbers, numbers}
use Rattle.network_plan.specs.Answers.{FrameAnswer}
use Rattle.network_plan.specs.declared.event.Event.{Event}
use Rattle.network_plan.specs.declared.reply.Answer.TheVariants.{NoHost}
use Rattle.network_plan.specs.declared.reply.Reply.{Reply}
use Rattle.host_calls.proofs.Calling.{runs-alone}
use Rattle.host_calls.proofs.GroupsKept.{stay-alone}
use Rattle.host_calls.proofs.HostTrails.{happens-alone, none-alone}
use Rattle.host_calls.specs.CallsInSteps.{MakesCall}
use Rattle.host_calls.specs.CallsOfHosts.{CallRuns, HostRuns}
use Rattle.packet_socket.specs.CallEffects.{accepted_in, given_in}
use Rattle.packet_socket.specs.declared.call.HostAnswer.{HostAnswer}
use Rattle.network_plan.specs.Answers.{event_answer}
use Rattle.network_plan.specs.EventCalls.{EventCall}
use Rattle.host_calls.specs.ConnectedHosts.{ConnectedHost, PlayedCall, connected, played_call}
use Rattle.wire.specs.Equations.{NetworkStands}
use Rattle.wire.specs.Runs.{AnswersCall, HostsGo, call_happenings, happenings_in_call}
use Rattle.wire.specs.PlayedCalls.{AbsentTold, CallPlayed}
use Rattle.host_calls.specs.Networks.{IsHost, NetworkState, OnlyHostChanges, connected_at, nth_host}
use Rattle.host_calls.proofs.HostsOfNetworks.{host-there}
use Rattle.wire.specs.RunObservers.{AreOfTicks, EventTold, StatesEnding, TellsReply, ending, played_ticks, tick_in}
use Rattle.wire.proofs.Delivering.{Tells}
use Rattle.wire.proofs.Calls.{answer-some, call-own, call-right, none-said, others-said, tells-said}
use Rattle.wire.proofs.GroupsInForce.{Right, stay-right}
use Rattle.wire.proofs.Standing.{caller-behind, each-right, each-runs, hosts-go}
use Rattle.wire.proofs.Tellings.{tells-steps}

-- `HostsGo` for a call of a host that exists.
pub call-goes : (caller : ℕ) (ticks : List Tick) (old : NetworkState) (stations : List StationState) (heard : List TickTold → Type 0)
    (accesses : ℕ) (h h' : HostState) (given : List Given) (accepted : List (List ℕ)) (happened : List Happening)
    → NetworkStands old → IsHost old caller h
    → (runs : CallRuns (played_call caller ticks heard accesses) given accepted (connected h old.stations) (connected h' stations))
    → Right caller happened old.stations stations h h'
    → ((k : ℕ) → k ≢ caller → marks k happened ≡ marks k (happened_in runs.steps))
    → ((k : ℕ) → Tells k happened runs.steps (wire_at old.stations) (of_host k caller given) (of_host k caller accepted))
    → HostsGo caller happened runs.steps old (record { hosts = slice_set old.hosts caller h'; stations = stations })
call-goes caller ticks old stations heard accesses h h' given accepted happened stands there runs right others tells =
    hosts-go caller happened runs.steps old (record { hosts = slice_set old.hosts caller h'; stations = stations })
    (λ k. of_host k caller runs.taken) (λ k. of_host k caller given) (λ k. of_host k caller accepted) stands runs.of_call.leads
    (length-set old.hosts caller h')
    (λ k was is then now.
    each-runs caller k runs.steps old.stations stations old.hosts h h' was is runs.taken given accepted runs.of_call.leads there runs.runs
    then now (stands.each k was then).ready)
    (λ k was is then now.
    each-right caller k runs.steps happened old.stations stations old.hosts h h' was is runs.of_call.leads there right (others k) then now
    (stands.each k was then))
    tells

pub told-ticks : (caller n : ℕ) (steps : List AtomicStep) (a b : List StationState) → LeadsTo caller steps a b
    → map tick_in (steps_told n steps) ≡ without_go is_go (map tick_of steps)
told-ticks caller n [] a b leads = refl
told-ticks caller n (At host (Steps kind wire_free answer) ∷ later) a b leads =
    ap (λ (list : List Tick). Step host kind ∷ list) (told-ticks caller n later _ b leads.2)
told-ticks caller n (At host (Arrives frame fate) ∷ later) a b leads =
    ap (λ (list : List Tick). Deliver host ∷ list) (told-ticks caller n later _ b leads.2)
told-ticks caller n (At host (Accesses access) ∷ later) a b leads =
    told-ticks caller (counted_by n (At host (Accesses access))) later _ b leads.2
told-ticks caller n (Idles tick ∷ later) a b leads =
    ap (λ (list : List Tick). tick ∷ list) (told-ticks caller n later _ b leads.2)
    ∙ sym (keeps-tick [] (map tick_of later) tick leads.1)

pub told-of_ticks : (event : Event) (ticks : List Tick) (steps : List AtomicStep) (a b : List StationState)
    → without_go is_go ticks ≡ played_ticks event → map tick_of steps ≡ without_go is_go ticks
    → ((caller : ℕ) → LeadsTo caller steps a b) → AreOfTicks event (steps_told 0 steps)
told-of_ticks event ticks steps a b same played leads =
    told-ticks 0 0 steps a b (leads 0) ∙ ap (without_go is_go) played ∙ twice ticks ∙ same
  where
    twice : (list : List Tick) → without_go is_go (without_go is_go list) ≡ without_go is_go list
    twice [] = refl
    twice (Go ∷ later) = twice later
    twice (Step host kind ∷ later) = ap (λ (list : List Tick). Step host kind ∷ list) (twice later)
    twice (Deliver host ∷ later) = ap (λ (list : List Tick). Deliver host ∷ list) (twice later)

pub told-of_call : {given : List Given} {accepted : List (List ℕ)} (event : Event) (call : PlayedCall) (old new : ConnectedHost)
    → without_go is_go call.ticks ≡ played_ticks event → (runs : CallRuns call given accepted old new)
    → AreOfTicks event (steps_told 0 runs.steps)
told-of_call event call old new ticks runs =
    told-ticks call.caller 0 runs.steps old.stations new.stations runs.of_call.leads ∙ runs.of_call.played ∙ ticks

pub outcomes-are : (accesses : ℕ) (answer : FrameAnswer) (steps : List AtomicStep) (reply : Reply)
    → StatesEnding (ending accesses answer (steps_told 0 steps)) reply → reply.outcomes.list ≡ noted_of 0 steps
outcomes-are accesses answer steps reply replies = replies.outcomes ∙ steps_told_noted 0 steps

-- The reply contains the answer and the outcomes. So what holds of their happenings holds of the happenings by the
-- reply.
said-as : (Holds : List Happening → Type 0) (call : EventCall) (accesses : ℕ) (answer : FrameAnswer) (steps : List AtomicStep)
    (reply : Reply)
    → StatesEnding (ending accesses answer (steps_told 0 steps)) reply
    → Holds (happenings_in_call call.host call.request answer call.ticks (noted_of 0 steps)) → Holds (call_happenings call reply)
said-as Holds call accesses answer steps reply replies holds =
    let happened : FrameAnswer → List Numbered → List Happening = λ a list. happenings_in_call call.host call.request a call.ticks list in
    subst (λ (a : FrameAnswer). Holds (happened a reply.outcomes.list)) (sym replies.answer)
    (subst (λ (list : List Numbered). Holds (happened answer list)) (sym (outcomes-are accesses answer steps reply replies)) holds)

pub hosts-as : (Holds : NetworkState → Type 0) (n : NetworkState) (hosts : List HostState) → n.hosts ≡ hosts
    → (let network : NetworkState = record { hosts = hosts; stations = n.stations } in Holds network) → Holds n
hosts-as Holds n hosts is holds =
    subst (λ (list : List HostState). let network : NetworkState = record { hosts = list; stations = n.stations } in Holds network)
    (sym is) holds

-- `CallPlayed` for a call of a host that exists, if in the list of hosts only the calling host is replaced.
set-played : (call : EventCall) (old : NetworkState) (stations : List StationState) (heard : List TickTold → Type 0)
    (accesses : ℕ) (result : HostAnswer (List ℕ)) (h h' : HostState) (reply : Reply)
    → NetworkStands old → IsHost old call.host h → call.host < length old.hosts
    → (calls : MakesCall (played_call call.host call.ticks heard accesses) call.request result (connected h old.stations)
    (connected h' stations))
    → StatesEnding (ending accesses (event_answer result) (steps_told 0 calls.runs.steps)) reply
    → CallPlayed call reply old (record { hosts = slice_set old.hosts call.host h'; stations = stations })
set-played call old stations heard accesses result h h' reply stands there below calls replies =
    let caller = call.host in
    let answer = event_answer result in
    let runs = calls.runs in
    let given = given_in call.request result in
    let accepted = accepted_in call.request result in
    let new : NetworkState = record { hosts = slice_set old.hosts caller h'; stations = stations } in
    let noted = outcomes-are accesses answer runs.steps reply replies in
    let happened = happenings_in_call caller call.request answer call.ticks (noted_of 0 runs.steps) in
    record {
      steps = runs.steps;
      go = said-as (λ (list : List Happening). HostsGo caller list runs.steps old new) call accesses answer runs.steps reply replies
          (call-goes caller call.ticks old stations heard accesses h h' given accepted happened stands there runs
          (call-right call result runs.steps old.stations stations h h' given (stands.each caller h there) runs.of_call.leads
          runs.of_call.played runs.of_call.said calls.does)
          (λ k other. others-said k call result runs.steps h h' _ _ calls.does runs.of_call.said other)
          (λ k. tells-said k call result runs.steps (wire_at old.stations) _ _ _ _ calls.does runs.of_call.said));
      replied = record {
        played = runs.of_call.played;
        unmade = λ past. absurd (omega (arith, past, below));
        no_host = (λ none. absurd (answer-some result (sym replies.answer ∙ none)), λ low. absurd (omega (arith, low, below)));
        counted = replies.accesses ∙ runs.of_call.counted;
        outcomes = noted;
        numbered =
            ap noted_numbers noted ∙ runs.of_call.numbered ∙ ap (numbers call.ticks 0) (sym replies.accesses);
        others = λ k other. slice_get-set_other old.hosts caller k h' other;
      };
      answer = λ was is then now.
          let before_is : was ≡ h = let e : Some h ≡ Some was = sym there ∙ then in cc in
          let behind_is : is ≡ h' = caller-behind old.hosts caller h h' is there now in
          subst (λ (w : HostState). AnswersCall call reply.answer runs.steps (connected w old.stations) (connected is stations))
          (sym before_is)
          (subst (λ (w : HostState). AnswersCall call reply.answer runs.steps (connected h old.stations) (connected w stations))
          (sym behind_is)
          (record {
            result = result;
            is = replies.answer;
            does = calls.does;
            accesses = call-own caller call.request result given runs.steps (connected h old.stations) (connected h' stations) _ calls.does;
            last_writes = runs.last_writes;
          }));
    }

-- `CallPlayed` for a call of a host that exists, by the states of the network.
pub call-played : (call : EventCall) (old new : NetworkState) (heard : List TickTold → Type 0) (accesses : ℕ)
    (result : HostAnswer (List ℕ)) (reply : Reply)
    → NetworkStands old → call.host < length old.hosts → OnlyHostChanges call.host old new
    → (calls : MakesCall (played_call call.host call.ticks heard accesses) call.request result (connected_at old call.host)
    (connected_at new call.host))
    → StatesEnding (ending accesses (event_answer result) (steps_told 0 calls.runs.steps)) reply → CallPlayed call reply old new
call-played call old new heard accesses result reply stands below only calls replies =
    hosts-as (CallPlayed call reply old) new _ only
    (set-played call old new.stations heard accesses result (nth_host old call.host) (nth_host new call.host) reply stands
    (host-there old call.host below) below calls replies)

-- Ticks outside calls

ticks-run : (k : ℕ) (steps : List AtomicStep) (old : NetworkState) (stations : List StationState) (was is : HostState) → NetworkStands old
    → All IsTick steps
    → LeadsTo k steps old.stations stations → slice_get old.hosts k ≡ Some was
    → slice_get old.hosts k ≡ Some is
    → HostRuns k steps (host_did [] [] []) (connected was old.stations) (connected is stations)
ticks-run k steps old stations was is stands are leads then now =
    let same : is ≡ was = let e : Some was ≡ Some is = sym then ∙ now in cc in
    subst (λ (w : HostState). HostRuns k steps (host_did [] [] []) (connected was old.stations) (connected w stations)) (sym same)
    (runs-alone k steps old.stations stations was (stands.each k was then).ready
    (happens-alone k k steps old.stations stations are leads) (none-alone k steps are))

pub ticks-go : (caller : ℕ) (happened : List Happening) (steps : List AtomicStep) (old : NetworkState) (stations : List StationState)
    → NetworkStands old → All IsTick steps
    → ((k : ℕ) → LeadsTo k steps old.stations stations)
    → happened ≡ happened_in steps
    → HostsGo caller happened steps old (record { hosts = old.hosts; stations = stations })
ticks-go caller happened steps old stations stands are leads said =
    hosts-go caller happened steps old (record { hosts = old.hosts; stations = stations }) (λ k. []) (λ k. []) (λ k. []) stands
    (leads caller)
    refl (λ k was is then now. ticks-run k steps old stations was is stands are (leads k) then now)
    (λ k was is then now.
    let same : is ≡ was = let e : Some was ≡ Some is = sym then ∙ now in cc in
    stay-right k k steps happened old.stations stations was is (leads k) (stands.each k was then)
    (stay-alone k steps (connected was old.stations) (connected is stations) same (none-alone k steps are)) (ap (marks k) said))
    (λ k. subst (λ (list : List Happening). Tells k list steps (wire_at old.stations) [] []) (sym said)
    (tells-steps k steps (wire_at old.stations)))

-- `CallPlayed` for a call of a host that doesn't exist, of which only the ticks are played.
absent-ticked : {O : Type 0} {g : OfObserver O} {ran : O → O → List Event → List Reply → Type 0} (call : EventCall) (event : Event)
    (old : NetworkState) (stations : List StationState) (from to : O)
    → NetworkStands old → length old.hosts ≤ call.host
    → AbsentTold g ran event call.ticks (watched old.stations from) (watched stations to)
    → EventTold ran event from to (λ reply. CallPlayed call reply old (record { hosts = old.hosts; stations = stations }))
absent-ticked call event old stations from to stands past absent =
    let caller = call.host in
    let ticks = call.ticks in
    let plays = absent.plays in
    let reply = absent.tells.reply in
    let replies = absent.tells.replies in
    let new : NetworkState = record { hosts = old.hosts; stations = stations } in
    let noted = outcomes-are 0 NoHost plays.steps reply replies in
    let tells = outcomes-tell caller ticks [] [] plays.steps old.stations old.stations stations
    (record { leads = refl; are_ticks = plays.are; ends = plays.leads caller; played = refl; waited = plays.played }) in
    let happened = happenings_in_call caller call.request NoHost ticks (noted_of 0 plays.steps) in
    let said : happened ≡ happened_in plays.steps = none-said caller call.request ticks (noted_of 0 plays.steps) ∙ tells.said in
    let none : (was : HostState) → slice_get old.hosts caller ≡ Some was → ⊥ = λ was then.
    let gone = slice_get_past old.hosts caller past in
    let e : Some was ≡ None = sym then ∙ gone in absurd (cc) in
    record {
      reply = reply;
      told = absent.tells.told;
      holds = record {
        steps = plays.steps;
        go = said-as (λ (list : List Happening). HostsGo caller list plays.steps old new) call 0 NoHost plays.steps reply replies
            (ticks-go caller happened plays.steps old stations stands plays.are plays.leads said);
        replied = record {
          played = tells.played;
          unmade = λ past. none-alone caller plays.steps plays.are;
          no_host = (λ same. past, λ low. replies.answer);
          counted = replies.accesses ∙ sym tells.counted;
          outcomes = noted;
          numbered = ap noted_numbers noted ∙ sym tells.numbered ∙ ap (numbers ticks 0) (sym replies.accesses);
          others = λ k other. refl;
        };
        answer = λ was is then now. absurd (none was then);
      };
    }

pub absent-played : {O : Type 0} {g : OfObserver O} {ran : O → O → List Event → List Reply → Type 0} (call : EventCall) (event : Event)
    (old new : NetworkState) (from to : O)
    → NetworkStands old → length old.hosts ≤ call.host → new.hosts ≡ old.hosts
    → AbsentTold g ran event call.ticks (watched old.stations from) (watched new.stations to)
    → EventTold ran event from to (λ reply. CallPlayed call reply old new)
absent-played {ran = ran} call event old new from to stands past hosts absent =
    hosts-as (λ (n : NetworkState). EventTold ran event from to (λ reply. CallPlayed call reply old n)) new old.hosts hosts
    (absent-ticked call event old new.stations from to stands past absent)

-- The observer was told the contents of a reply for which `CallPlayed` holds.
pub call-told : {O : Type 0} {ran : O → O → List Event → List Reply → Type 0} (heard : List TickTold → Type 0) (event : Event)
    (call : EventCall) (old new : NetworkState) (accesses : ℕ) (result : HostAnswer (List ℕ)) (from to : O)
    → NetworkStands old → call.host < length old.hosts → OnlyHostChanges call.host old new
    → (calls : MakesCall (played_call call.host call.ticks heard accesses) call.request result (connected_at old call.host)
    (connected_at new call.host))
    → TellsReply ran event (ending accesses (event_answer result) (steps_told 0 calls.runs.steps)) from to
    → EventTold ran event from to (λ reply. CallPlayed call reply old new)
call-told heard event call old new accesses result from to stands below only calls tells = record {
  reply = tells.reply;
  told = tells.told;
  holds = call-played call old new heard accesses result tells.reply stands below only calls tells.replies;
}
