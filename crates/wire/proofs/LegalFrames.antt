-- In a network whose frames to be sent and waiting frames are legal, each frame that reaches a host is legal.
use Rattle.std.proofs.Common.{◌≡◌, ◌≢◌, ◌<◌, ◌≤◌, ◌++◌, ◌∷◌, [], ◌==◌, ◌&&◌, not, ℕ, Bool, true, false, List, Option, Some, None}
use Rattle.std.proofs.Common.{inl, inr, if◌then◌else◌, length, map, refl, sym, ap, subst, ◌∙◌, arith}
use Rattle.std.specs.Prelude.{⊤, All, Ok, Err, slice_get}
use Rattle.std.proofs.lemmas.Bool.Decides.{eqb_tells}
use Rattle.std.proofs.lemmas.List.Elements.{All-append, All-cons}
use Rattle.std.proofs.lemmas.Option.{slice_get_within}
use Rattle.circular_buffer.proofs.Places.{slice_get-some}
use Rattle.descriptors.specs.Frames.{IsLegal, padded}
use Rattle.descriptors.specs.Laws.{is_sendable-from_bounds, padded-legal}
use Rattle.rx_engine.specs.declared.arrival.Fate.{Fate}
use Rattle.rx_engine.specs.declared.arrival.Fate.TheVariants.{Filtered, Illegal, Missed, Off, Stored}
use Rattle.rx_filter.specs.Passing.{ReceiveFilter}
use Rattle.rx_filter.specs.Registers.{FilterRegisters}
use Rattle.adapter.specs.HostFrames.{frames_to_send}
use Rattle.adapter.specs.Outcomes.{FrameOutcome}
use Rattle.adapter.specs.World.{World}
use Rattle.adapter.specs.model_types.outcome.Outcome.TheVariants as outcome
use Rattle.adapter.proofs.Lists.{all-head, all-left, all-none, all-right, all-tail}
use Rattle.packet_socket.specs.CallEffects.{EffectOf, Interrupting, Joining, Leaving, Receiving, Request, Sending}
use Rattle.packet_socket.specs.HostActs.{HostAct}
use Rattle.packet_socket.specs.HostEffects.{IsSendable}
use Rattle.packet_socket.specs.HostState.{HostState}
use Rattle.packet_socket.specs.declared.call.HostAnswer.{HostAnswer}
use Rattle.packet_socket.specs.declared.call.HostAnswer.TheVariants as of_host_call
use Rattle.stations.specs.Stations.{StationState, backlog_at, backlog_of, wire_at, wire_of, world_at, world_of}
use Rattle.stations.specs.declared.outcomes.Numbered.{Numbered}
use Rattle.stations.specs.declared.tick.Tick.{Tick}
use Rattle.stations.specs.declared.tick.Tick.TheVariants.{Deliver, Go, Step}
use Rattle.stations.specs.AtomicSteps.{AtomicStep}
use Rattle.host_calls.specs.Fates.{AreRightFates, Came, Emptied, IsRightFate, Joins, Mark, Quits, Reception, SwitchedOff, SwitchedOn, Went}
use Rattle.host_calls.specs.Fates.{in_force, mark_by, marks}
use Rattle.host_calls.specs.Happenings.{Accepted, Disabled, Enabled, Given, GivenUp, Happening, Joined as HasJoined, Left as HasLeft, Moved}
use Rattle.host_calls.specs.Happenings.{Put, Reached, accepted, accepted_in_one, put, put_in_one, reached, reached_by, share_wire}
use Rattle.host_calls.specs.Happenings.{
  tick_happenings,
  lone_tick_happenings,
  tick_happenings_around,
  outcome_happenings,
  tick_happenings_where,
  toward,
  toward_by,
}
use Rattle.host_calls.specs.Lists.{AreDue, padded_in_one, sending_in_one}
use Rattle.network_plan.specs.Answers.{FrameAnswer, event_answer}
use Rattle.network_plan.specs.EventCalls.{Alone, ByCall, ByReset, EventKind, in_event}
use Rattle.network_plan.specs.declared.event.Event.{Event}
use Rattle.network_plan.specs.declared.plan.HostPlan.{HostPlan}
use Rattle.network_plan.specs.declared.reply.Answer.TheVariants as answers
use Rattle.network_plan.specs.declared.reply.Reply.{Reply}
use Rattle.host_calls.specs.ConnectedHosts.{connected}
use Rattle.host_calls.specs.Networks.{IsHost, NetworkState}
use Rattle.wire.specs.Equations.{MeetsEquations}
use Rattle.wire.specs.Laws.{HasLegalFrames, IsNotIllegal}
use Rattle.wire.specs.NewNetworks.{IsMadeByPlan}
use Rattle.wire.specs.Runs.{
  EventRuns,
  IsEventAnswer,
  IsReply,
  ResetAnswer,
  RunsTo,
  StatesRun,
  accepted_by_answer,
  caller_in,
  given_by_answer,
  happenings,
}
use Rattle.wire.specs.Runs.{joined_of, left_by_answer, reset_answer, said, happenings_in_call, said_in_reset, kind_happenings}

-- Each frame that was accepted is sendable

abbrev SentRight : Happening → Type 0
SentRight (Accepted host frame) = IsSendable frame
SentRight other = ⊤

none : All SentRight []
none = all-none SentRight

either : (b : Bool) (xs ys : List Happening) → All SentRight xs → All SentRight ys → All SentRight (if b then xs else ys)
either true xs ys one other = one
either false xs ys one other = other

by-outcome : (host : ℕ) (one : FrameOutcome) → All SentRight (outcome_happenings host one)
by-outcome host (outcome.Put frame) = All-cons SentRight (Put host frame) [] tt none
by-outcome host (outcome.Delivered frame fate) = All-cons SentRight (Reached host frame fate) [] tt none
by-outcome host outcome.Moved = All-cons SentRight (Moved host) [] tt none
by-outcome host _ = none

by-ticks : (ticks : List Tick) (outcomes : List Numbered) → All SentRight (tick_happenings ticks outcomes)
by-ticks [] outcomes = none
by-ticks (Go ∷ ticks) outcomes = by-ticks ticks outcomes
by-ticks (Step host kind ∷ ticks) [] = none
by-ticks (Step host kind ∷ ticks) (one ∷ outcomes) =
    All-append SentRight (outcome_happenings host one.outcome) (tick_happenings ticks outcomes) (by-outcome host one.outcome)
    (by-ticks ticks outcomes)
by-ticks (Deliver host ∷ ticks) [] = none
by-ticks (Deliver host ∷ ticks) (one ∷ outcomes) =
    All-append SentRight (outcome_happenings host one.outcome) (tick_happenings ticks outcomes) (by-outcome host one.outcome)
    (by-ticks ticks outcomes)

such-ticks : (is_such : ℕ → Bool) (ticks : List Tick) (outcomes : List Numbered)
    → All SentRight (tick_happenings_where is_such ticks outcomes)
such-ticks is_such [] outcomes = none
such-ticks is_such (Go ∷ ticks) outcomes = such-ticks is_such ticks outcomes
such-ticks is_such (Step host kind ∷ ticks) [] = none
such-ticks is_such (Step host kind ∷ ticks) (one ∷ outcomes) =
    All-append SentRight (if is_such one.accesses then outcome_happenings host one.outcome else [])
    (tick_happenings_where is_such ticks outcomes)
    (either (is_such one.accesses) (outcome_happenings host one.outcome) [] (by-outcome host one.outcome) none)
    (such-ticks is_such ticks outcomes)
such-ticks is_such (Deliver host ∷ ticks) [] = none
such-ticks is_such (Deliver host ∷ ticks) (one ∷ outcomes) =
    All-append SentRight (if is_such one.accesses then outcome_happenings host one.outcome else [])
    (tick_happenings_where is_such ticks outcomes)
    (either (is_such one.accesses) (outcome_happenings host one.outcome) [] (by-outcome host one.outcome) none)
    (such-ticks is_such ticks outcomes)

around-ticks : (middle : List Happening) (ticks : List Tick) (outcomes : List Numbered) → All SentRight middle
    → All SentRight (tick_happenings_around middle ticks outcomes)
around-ticks middle [] outcomes all = all
around-ticks middle (Go ∷ ticks) outcomes all = around-ticks middle ticks outcomes all
around-ticks middle (Step host kind ∷ ticks) [] all = all
around-ticks middle (Step host kind ∷ ticks) (one ∷ outcomes) all =
    either (one.accesses == 0) (outcome_happenings host one.outcome ++ tick_happenings_around middle ticks outcomes)
    (middle ++ tick_happenings (Step host kind ∷ ticks) (one ∷ outcomes))
    (All-append SentRight (outcome_happenings host one.outcome) (tick_happenings_around middle ticks outcomes) (by-outcome host one.outcome)
    (around-ticks middle ticks outcomes all))
    (All-append SentRight middle (tick_happenings (Step host kind ∷ ticks) (one ∷ outcomes)) all
    (by-ticks (Step host kind ∷ ticks) (one ∷ outcomes)))
around-ticks middle (Deliver host ∷ ticks) [] all = all
around-ticks middle (Deliver host ∷ ticks) (one ∷ outcomes) all =
    either (one.accesses == 0) (outcome_happenings host one.outcome ++ tick_happenings_around middle ticks outcomes)
    (middle ++ tick_happenings (Deliver host ∷ ticks) (one ∷ outcomes))
    (All-append SentRight (outcome_happenings host one.outcome) (tick_happenings_around middle ticks outcomes) (by-outcome host one.outcome)
    (around-ticks middle ticks outcomes all))
    (All-append SentRight middle (tick_happenings (Deliver host ∷ ticks) (one ∷ outcomes)) all
    (by-ticks (Deliver host ∷ ticks) (one ∷ outcomes)))

of-given : (host socket : ℕ) (answer : FrameAnswer) → All SentRight (given_by_answer host socket answer)
of-given host socket (answers.Received (Ok frame)) = All-cons SentRight (Given host socket frame) [] tt none
of-given host socket _ = none

of-joined : (host : ℕ) (group : List ℕ) (answer : FrameAnswer) → All SentRight (joined_of host group answer)
of-joined host group (answers.Joined (Ok u)) = All-cons SentRight (HasJoined host group) [] tt none
of-joined host group _ = none

of-left : (host : ℕ) (group : List ℕ) (answer : FrameAnswer) → All SentRight (left_by_answer host group answer)
of-left host group (answers.Left (Ok u)) = All-cons SentRight (HasLeft host group) [] tt none
of-left host group _ = none

-- if the answer is that of a send that returned Ok, the frame is sendable
abbrev SendsRight : List ℕ → FrameAnswer → Type 0
SendsRight frame (answers.Sent (Ok u)) = IsSendable frame
SendsRight frame other = ⊤

accepts : (host : ℕ) (frame : List ℕ) (answer : FrameAnswer) → SendsRight frame answer
    → All SentRight (accepted_by_answer host frame answer)
accepts host frame (answers.Sent (Ok u)) right = All-cons SentRight (Accepted host frame) [] right none
accepts host frame _ right = none

abbrev AsksRight : Request → FrameAnswer → Type 0
AsksRight (Sending frame) answer = SendsRight frame answer
AsksRight other answer = ⊤

in-call : (host : ℕ) (request : Request) (answer : FrameAnswer) (ticks : List Tick) (outcomes : List Numbered) → AsksRight request answer
    → All SentRight (happenings_in_call host request answer ticks outcomes)
in-call host (Sending frame) answer ticks outcomes right =
    All-append SentRight (accepted_by_answer host frame answer) (tick_happenings ticks outcomes) (accepts host frame answer right)
    (by-ticks ticks outcomes)
in-call host (Receiving socket) answer ticks outcomes right =
    All-append SentRight (tick_happenings ticks outcomes) (given_by_answer host socket answer) (by-ticks ticks outcomes)
    (of-given host socket answer)
in-call host Interrupting answer ticks outcomes right = by-ticks ticks outcomes
in-call host (Joining group) answer ticks outcomes right =
    around-ticks (joined_of host group answer) ticks outcomes (of-joined host group answer)
in-call host (Leaving group) answer ticks outcomes right =
    around-ticks (left_by_answer host group answer) ticks outcomes (of-left host group answer)

in-reset : (host : ℕ) (answer : Option ResetAnswer) (ticks : List Tick) (outcomes : List Numbered)
    → All SentRight (said_in_reset host answer ticks outcomes)
in-reset host None ticks outcomes = by-ticks ticks outcomes
in-reset host (Some answer) ticks outcomes =
    All-append SentRight _ _ (such-ticks _ ticks outcomes)
    (All-cons SentRight (Disabled host) _ tt
    (All-append SentRight _ _ (such-ticks _ ticks outcomes)
    (All-cons SentRight (GivenUp host answer.sending answer.holding) _ tt
    (All-append SentRight _ _ (such-ticks _ ticks outcomes)
    (All-cons SentRight (Enabled host) _ tt (such-ticks _ ticks outcomes))))))

alone : (tick : Tick) (outcomes : List Numbered) → All SentRight (lone_tick_happenings tick outcomes)
alone tick [] = none
alone tick (one ∷ outcomes) = by-outcome _ one.outcome

by-effect : (frame : List ℕ) (answer : FrameAnswer) (result : HostAnswer (List ℕ)) → answer ≡ event_answer result
    → (h h' : HostState) (Runs : HostAct → Type 0) (world : World) → EffectOf (Sending frame) result h h' Runs world
    → SendsRight frame answer
by-effect frame answer (of_host_call.Sent (Ok u)) is h h' Runs world does = subst (SendsRight frame) (sym is) does.sendable
by-effect frame answer (of_host_call.Sent (Err error)) is h h' Runs world does = subst (SendsRight frame) (sym is) tt
by-effect frame answer (of_host_call.Received result) is h h' Runs world does = subst (SendsRight frame) (sym is) tt
by-effect frame answer (of_host_call.Interrupted result) is h h' Runs world does = subst (SendsRight frame) (sym is) tt
by-effect frame answer (of_host_call.Joined result) is h h' Runs world does = subst (SendsRight frame) (sym is) tt
by-effect frame answer (of_host_call.Left result) is h h' Runs world does = subst (SendsRight frame) (sym is) tt

asks : (request : Request) (answer : FrameAnswer) (result : HostAnswer (List ℕ)) → answer ≡ event_answer result
    → (h h' : HostState) (Runs : HostAct → Type 0) (world : World) → EffectOf request result h h' Runs world → AsksRight request answer
asks (Sending frame) answer result is h h' Runs world does = by-effect frame answer result is h h' Runs world does
asks (Receiving socket) answer result is h h' Runs world does = tt
asks Interrupting answer result is h h' Runs world does = tt
asks (Joining group) answer result is h h' Runs world does = tt
asks (Leaving group) answer result is h h' Runs world does = tt

asks-absent : (request : Request) (answer : FrameAnswer) → answer ≡ answers.NoHost → AsksRight request answer
asks-absent (Sending frame) answer is = subst (SendsRight frame) (sym is) tt
asks-absent (Receiving socket) answer is = tt
asks-absent Interrupting answer is = tt
asks-absent (Joining group) answer is = tt
asks-absent (Leaving group) answer is = tt

past-all : (hosts : List HostState) (k : ℕ) → slice_get hosts k ≡ None → length hosts ≤ k
past-all hosts k is =
    let never : ¬ (k < length hosts) = λ below.
    (let some = slice_get-some hosts k below in let bad : Some some.0 ≡ None = sym some.1 ∙ is in cc) in
    omega (arith, never)

there-or-not : {A : Type 0} (hosts : List HostState) (k : ℕ) → (k < length hosts → A) → (length hosts ≤ k → A) → A
there-or-not {A} hosts k there absent = from (slice_get hosts k) refl
  where
    from : (o : Option HostState) → slice_get hosts k ≡ o → A
    from (Some h) is = there (slice_get_within hosts k h is)
    from None is = absent (past-all hosts k is)

sent-by : (kind : EventKind) (reply : Reply) (steps : List AtomicStep) (old new : NetworkState) → length new.hosts ≡ length old.hosts
    → IsReply kind reply steps old new
    → ((h h' : HostState) → IsHost old (caller_in kind) h → IsHost new (caller_in kind) h'
    → IsEventAnswer kind reply.answer steps (connected h old.stations) (connected h' new.stations))
    → All SentRight (kind_happenings kind reply)
sent-by (ByCall call) reply steps old new hosts replied answered =
    in-call call.host call.request reply.answer call.ticks reply.outcomes.list (there-or-not old.hosts call.host
    (λ below.
    let h = slice_get-some old.hosts call.host below in
    let h' = slice_get-some new.hosts call.host (omega (arith, below, hosts)) in
    let is = answered h.0 h'.0 h.1 h'.1 in
    asks call.request reply.answer is.result is.is h.0 h'.0 _ _ is.does)
    (λ absent. asks-absent call.request reply.answer (replied.no_host.1 absent)))
sent-by (ByReset host ticks) reply steps old new hosts replied answered =
    in-reset host (reset_answer reply.answer) ticks reply.outcomes.list
sent-by (Alone tick) reply steps old new hosts replied answered = alone tick reply.outcomes.list

one-accepted : (k : ℕ) (one : Happening) → SentRight one → All IsSendable (accepted_in_one k one)
one-accepted k (Accepted host frame) right = chosen (k == host)
  where
    chosen : (here : Bool) → All IsSendable (if here then frame ∷ [] else [])
    chosen true = All-cons IsSendable frame [] right (all-none IsSendable)
    chosen false = all-none IsSendable
one-accepted k _ right = all-none IsSendable

accepted-right : (k : ℕ) (happened : List Happening) → All SentRight happened → All IsSendable (accepted k happened)
accepted-right k [] all = all-none IsSendable
accepted-right k (one ∷ later) all =
    All-append IsSendable (accepted_in_one k one) (accepted k later) (one-accepted k one (all-head SentRight one later all))
    (accepted-right k later (all-tail SentRight one later all))

-- Frames that are due are legal

pads : (frames : List (List ℕ)) → All IsSendable frames → All IsLegal (map padded frames)
pads [] all = all-none IsLegal
pads (frame ∷ later) all =
    let one = all-head IsSendable frame later all in
    All-cons IsLegal (padded frame) (map padded later) (padded-legal frame (is_sendable-from_bounds frame one.least one.most))
    (pads later (all-tail IsSendable frame later all))

due-legal : (k : ℕ) (begin : List (List ℕ)) (happened : List Happening) (due : List (List ℕ)) → AreDue k begin happened due
    → All IsLegal begin → All IsSendable (accepted k happened) → All IsLegal due
due-legal k begin [] due are all sent = subst (All IsLegal) (sym are) all
due-legal k begin (one ∷ later) due are all sent =
    due-legal k are.0 later due are.2
    (all-left IsLegal are.0 (sending_in_one k one) (subst (All IsLegal) are.1
    (All-append IsLegal begin (padded_in_one k one) all
    (pads (accepted_in_one k one) (all-left IsSendable (accepted_in_one k one) (accepted k later) sent)))))
    (all-right IsSendable (accepted_in_one k one) (accepted k later) sent)

-- Frames that are put toward a host are legal

shares : (mine other : Option ℕ) → share_wire mine other ≡ true → other ≢ None
shares None other is none = absurd (cc)
shares (Some wire) None is none = absurd (cc)
shares (Some wire) (Some other) is none = absurd (cc)

put-here : (host : ℕ) (frame : List ℕ) → All IsLegal (put_in_one host (Put host frame)) → IsLegal frame
put-here host frame all = elim (eqb_tells host host) [
  | inl same ↦ all-head IsLegal frame [] (subst (λ (b : Bool). All IsLegal (if b then frame ∷ [] else [])) same.0 all)
  | inr differs ↦ absurd (differs.1 refl)
]

toward-one : (wires : ℕ → Option ℕ) (k : ℕ) (one : Happening)
    → ((j : ℕ) → wires j ≢ None → All IsLegal (put_in_one j one)) → All IsLegal (toward_by wires k one)
toward-one wires k (Put host frame) puts = chosen (not (k == host)) (share_wire (wires k) (wires host)) refl
  where
    chosen : (other shared : Bool) → share_wire (wires k) (wires host) ≡ shared
        → All IsLegal (if other && shared then frame ∷ [] else [])
    chosen true true is = All-cons IsLegal frame [] (put-here host frame (puts host (shares (wires k) (wires host) is))) (all-none IsLegal)
    chosen true false is = all-none IsLegal
    chosen false shared is = all-none IsLegal
toward-one wires k _ puts = all-none IsLegal

toward-legal : (wires : ℕ → Option ℕ) (k : ℕ) (happened : List Happening)
    → ((j : ℕ) → wires j ≢ None → All IsLegal (put j happened)) → All IsLegal (toward wires k happened)
toward-legal wires k [] puts = all-none IsLegal
toward-legal wires k (one ∷ later) puts =
    All-append IsLegal (toward_by wires k one) (toward wires k later)
    (toward-one wires k one (λ j there. all-left IsLegal (put_in_one j one) (put j later) (puts j there)))
    (toward-legal wires k later (λ j there. all-right IsLegal (put_in_one j one) (put j later) (puts j there)))

-- A legal frame doesn't have the fate Illegal

not-illegal : (filter : ReceiveFilter) (room : ℕ) (enabled : Bool) (buffered : List (List ℕ)) (frame : List ℕ) (fate : Fate)
    → IsRightFate filter room enabled buffered frame fate → IsLegal frame → fate ≢ Illegal
not-illegal filter room false buffered frame fate right legal is = absurd (let bad : Off ≡ Illegal = sym right ∙ is in cc)
not-illegal filter room true buffered frame Off right legal is = absurd right
not-illegal filter room true buffered frame Illegal right legal is = absurd (right legal)
not-illegal filter room true buffered frame Filtered right legal is = absurd (cc)
not-illegal filter room true buffered frame Missed right legal is = absurd (cc)
not-illegal filter room true buffered frame Stored right legal is = absurd (cc)

-- the fates are right for some reception before the marks
abbrev RightFrom : FilterRegisters → (room : ℕ) → List Mark → (final : Reception) → Type 0
RightFrom registers room all final = (now : Reception) × AreRightFates registers room now all final

after-mark : (registers : FilterRegisters) (room : ℕ) (now : Reception) (mark : Mark) (later : List Mark) (final : Reception)
    → AreRightFates registers room now (mark ∷ later) final → RightFrom registers room later final
after-mark registers room now (Came frame fate) later final right = (_, right.1)
after-mark registers room now Went later final right = (_, right.2)
after-mark registers room now (Joins group) later final right = (_, right)
after-mark registers room now (Quits group) later final right = (_, right.2)
after-mark registers room now SwitchedOff later final right = (_, right)
after-mark registers room now SwitchedOn later final right = (_, right)
after-mark registers room now Emptied later final right = (_, right)

after-marks : (registers : FilterRegisters) (room : ℕ) (now : Reception) (some later : List Mark) (final : Reception)
    → AreRightFates registers room now (some ++ later) final → RightFrom registers room later final
after-marks registers room now [] later final right = (now, right)
after-marks registers room now (mark ∷ some) later final right =
    let next = after-mark registers room now mark (some ++ later) final right in
    after-marks registers room next.0 some later final next.1

judged-here : (registers : FilterRegisters) (room : ℕ) (now final : Reception) (k host : ℕ) (frame : List ℕ) (fate : Fate)
    (later : List Mark) → k ≡ host → AreRightFates registers room now (mark_by k (Reached host frame fate) ++ later) final
    → IsRightFate (in_force registers now.groups) room now.enabled now.buffered frame fate
judged-here registers room now final k host frame fate later here right = elim (eqb_tells k host) [
  | inl same ↦ (subst (λ (b : Bool). AreRightFates registers room now ((if b then Came frame fate ∷ [] else []) ++ later) final)
      same.0 right).0
  | inr differs ↦ absurd (differs.1 here)
]

reached-here : (k host : ℕ) (frame : List ℕ) (fate : Fate) (later : List (List ℕ)) → k ≡ host
    → All IsLegal (reached_by k (Reached host frame fate) ++ later) → IsLegal frame
reached-here k host frame fate later here all = elim (eqb_tells k host) [
  | inl same ↦ all-head IsLegal frame later
      (subst (λ (b : Bool). All IsLegal ((if b then frame ∷ [] else []) ++ later)) same.0 all)
  | inr differs ↦ absurd (differs.1 here)
]

one-judged : (registers : FilterRegisters) (room : ℕ) (now final : Reception) (k : ℕ) (one : Happening) (later : List Happening)
    → AreRightFates registers room now (mark_by k one ++ marks k later) final → All IsLegal (reached_by k one ++ reached k later)
    → IsNotIllegal k one
one-judged registers room now final k (Reached host frame fate) later right legal = λ here.
    not-illegal (in_force registers now.groups) room now.enabled now.buffered frame fate
    (judged-here registers room now final k host frame fate (marks k later) here right)
    (reached-here k host frame fate (reached k later) here legal)
one-judged registers room now final k _ later right legal = tt

none-illegal : (registers : FilterRegisters) (room : ℕ) (now final : Reception) (k : ℕ) (happened : List Happening)
    → AreRightFates registers room now (marks k happened) final → All IsLegal (reached k happened) → All (IsNotIllegal k) happened
none-illegal registers room now final k [] right legal = all-none (IsNotIllegal k)
none-illegal registers room now final k (one ∷ later) right legal =
    let next = after-marks registers room now (mark_by k one) (marks k later) final right in
    All-cons (IsNotIllegal k) one later (one-judged registers room now final k one later right legal)
    (none-illegal registers room next.0 final k later next.1 (all-right IsLegal (reached_by k one) (reached k later) legal))

-- One event

abbrev StaysLegal : (old new : NetworkState) → List Happening → Type 0
StaysLegal old new happened = HasLegalFrames new × ((k : ℕ) → k < length old.hosts → All (IsNotIllegal k) happened)

wired : (stations : List StationState) (j : ℕ) → wire_at stations j ≢ None → j < length stations
wired stations j there = from (slice_get stations j) refl
  where
    from : (o : Option StationState) → slice_get stations j ≡ o → j < length stations
    from (Some station) is = slice_get_within stations j station is
    from None is = absurd (there (ap wire_of is))

module _ (old new : NetworkState) (event : Event) (reply : Reply) (runs : EventRuns old event reply new) (legal : HasLegalFrames old) where
  abbrev happened : List Happening
  happened = said event reply

  hosts : length new.hosts ≡ length old.hosts
  hosts = runs.go.hosts

  one-delivers : (k : ℕ) → k < length old.hosts
      → (h h' : HostState) × MeetsEquations k happened old.stations new.stations h h'
  one-delivers k below =
      let h = slice_get-some old.hosts k below in
      let h' = slice_get-some new.hosts k (omega (arith, below, hosts)) in
      (h.0, h'.0, runs.go.delivers k h.0 h'.0 h.1 h'.1)

  sends : (k : ℕ) → k < length old.hosts → All IsLegal (put k happened ++ frames_to_send (world_at new.stations k))
  sends k below =
      let due = (one-delivers k below).2.sent_is_accepted in
      subst (All IsLegal) (sym due.sent) (due-legal k (frames_to_send (world_at old.stations k)) happened due.due due.are
      (legal.to_send k below)
      (accepted-right k happened (sent-by (in_event event) reply runs.steps old new hosts runs.replied runs.answer)))

  comes : (k : ℕ) → k < length old.hosts → All IsLegal (reached k happened ++ backlog_at new.stations k)
  comes k below =
      subst (All IsLegal) (sym (one-delivers k below).2.reached_is_put)
      (All-append IsLegal (backlog_at old.stations k) (toward (wire_at old.stations) k happened) (legal.waiting k below)
      (toward-legal (wire_at old.stations) k happened (λ j there.
      let inside = wired old.stations j there in
      all-left IsLegal (put j happened) (frames_to_send (world_at new.stations j)) (sends j (omega (arith, inside, runs.stood.same))))))

  pub event-legal : StaysLegal old new happened
  event-legal = (
    record {
      to_send = λ k below. all-right IsLegal (put k happened) (frames_to_send (world_at new.stations k))
          (sends k (omega (arith, below, hosts)));
      waiting = λ k below. all-right IsLegal (reached k happened) (backlog_at new.stations k) (comes k (omega (arith, below, hosts)));
    },
    λ k below. none-illegal _ _ _ _ k happened (one-delivers k below).2.fates_are_right.fates
        (all-left IsLegal (reached k happened) (backlog_at new.stations k) (comes k below)),
  )

-- A run

states-legal : (old : NetworkState) (events : List Event) (replies : List Reply) (new : NetworkState) → StatesRun old events replies new
    → HasLegalFrames old → StaysLegal old new (happenings events replies)
states-legal old [] [] new states legal = (subst HasLegalFrames (sym states) legal, λ k below. all-none (IsNotIllegal k))
states-legal old [] (reply ∷ replies) new states legal = absurd states
states-legal old (event ∷ events) [] new states legal = absurd states
states-legal old (event ∷ events) (reply ∷ replies) new states legal =
    let first = event-legal old states.0 event reply states.1 legal in
    let later = states-legal states.0 events replies new states.2 first.0 in (
      later.0,
      λ k below. All-append (IsNotIllegal k) (said event reply) (happenings events replies) (first.1 k below)
          (later.1 k (omega (arith, below, states.1.go.hosts))),
    )

pub runs-legal : (old new : NetworkState) (events : List Event) (before behind : List Reply) (runs : RunsTo old events before behind new)
    → HasLegalFrames old → StaysLegal old new (happenings events runs.replies)
runs-legal old new events before behind runs legal = states-legal old events runs.replies new runs.states legal

pub made-legal : (plans : List HostPlan) (network : NetworkState) → IsMadeByPlan plans network → HasLegalFrames network
made-legal plans network made = record {
  to_send = λ k below. subst (All IsLegal) (sym (up k below).0) (all-none IsLegal);
  waiting = λ k below. subst (All IsLegal) (sym (up k below).1) (all-none IsLegal);
}
  where
    up : (k : ℕ) → k < length network.hosts
        → (frames_to_send (world_at network.stations k) ≡ []) × (backlog_at network.stations k ≡ [])
    up k below =
        let plan = slice_get-some plans k (omega (arith, below, made.up.host_count)) in
        let host = slice_get-some network.hosts k below in
        let station = slice_get-some network.stations k (omega (arith, below, made.up.host_count, made.up.station_count)) in
        let none = (made.up.each k plan.0 host.0 station.0 plan.1 host.1 station.1).no_frames in (
          subst (λ (o : Option StationState). frames_to_send (world_of o) ≡ []) (sym station.1) none.to_send,
          subst (λ (o : Option StationState). backlog_of o ≡ []) (sym station.1) none.backlog,
        )
