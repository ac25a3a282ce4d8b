-- `IsInOrder` holds for each reply of a run. For a reset of a host that exists, `TellsReset` holds.
use Rattle.std.proofs.Common.{◌≡◌, ◌<◌, ◌+◌, ◌++◌, ◌∷◌, [], ℕ, List, None, Option, Some, map}
use Rattle.std.proofs.Common.{inl, inr, sym, ap, subst, ◌∙◌, arith}
use Rattle.std.proofs.lemmas.Option.{slice_get_cases}
use Rattle.circular_buffer.proofs.Places.{slice_get-some}
use Rattle.adapter.specs.LivelyBuses.{most_accesses}
use Rattle.adapter.specs.TickGroups.{without_go}
use Rattle.stations.specs.AtomicRuns.{LeadsTo, is_go, noted_of}
use Rattle.stations.specs.AtomicSteps.{AtomicStep, tick_of}
use Rattle.stations.specs.Stations.{StationState}
use Rattle.stations.specs.declared.tick.Tick.{Tick}
use Rattle.packet_socket.specs.HostState.{HostState}
use Rattle.host_calls.proofs.Telling.{told-steps, told-without_go}
use Rattle.host_calls.specs.Happenings.{Disabled, Enabled, GivenUp, Happening, happened_in, tick_happenings}
use Rattle.network_plan.specs.Answers.{FrameAnswer}
use Rattle.network_plan.specs.declared.event.Event.{Event}
use Rattle.network_plan.specs.declared.event.Event.TheVariants as event
use Rattle.network_plan.specs.declared.reply.Answer.TheVariants as answer
use Rattle.network_plan.specs.declared.reply.Reply.{Reply}
use Rattle.host_calls.proofs.ResetGives.{enabled-after}
use Rattle.host_calls.specs.ConnectedHosts.{connected}
use Rattle.host_calls.specs.Networks.{NetworkState}
use Rattle.host_calls.specs.ResetSteps.{whole_reset}
use Rattle.wire.proofs.ResetLists.{parts-happened}
use Rattle.wire.proofs.ResetPlays.{few-slots, parts-counted}
use Rattle.wire.proofs.ResetTold.{reset-says}
use Rattle.wire.specs.Runs.{AnswersReset, EventRuns, ResetAnswer, StatesRun, reset_answer, said_in_reset}
use Rattle.run_record.specs.Recording.{AreInOrder, IsInOrder, TellsReset}
use Rattle.run_record.specs.Tallies.{given_up_of}

some-same : (a b : ResetAnswer) → Some a ≡ Some b → a ≡ b
some-same a b is = cc

none-some : {P : Type 0} → (a : ResetAnswer) → None ≡ Some a → P
none-some a is = absurd (cc)

given-up-is : (host : ℕ) (one : FrameAnswer) (found : ResetAnswer) → reset_answer one ≡ Some found
    → given_up_of host one ≡ GivenUp host found.sending found.holding ∷ []
given-up-is host (answer.Reset sending holding on_after) found is =
    ap (λ (a : ResetAnswer). GivenUp host a.sending a.holding ∷ [])
    (some-same (record { sending = sending.items; holding = holding.items; on_after = on_after }) found is)
given-up-is host _ found is = none-some found is

steps-tell : (host : ℕ) (ticks : List Tick) (steps : List AtomicStep) (a b : List StationState) → LeadsTo host steps a b
    → without_go is_go (map tick_of steps) ≡ without_go is_go ticks → tick_happenings ticks (noted_of 0 steps) ≡ happened_in steps
steps-tell host ticks steps a b leads played =
    sym (told-without_go ticks (noted_of 0 steps))
    ∙ ap (λ (list : List Tick). tick_happenings list (noted_of 0 steps)) (sym played)
    ∙ told-without_go (map tick_of steps) (noted_of 0 steps) ∙ told-steps host 0 steps a b leads

-- `TellsReset` for a reset of a host that exists
host-tells : (host : ℕ) (ticks : List Tick) (reply : Reply) (steps : List AtomicStep) (h h' : HostState) (a b : List StationState)
    → AnswersReset host ticks reply.answer steps (connected h a) (connected h' b) → LeadsTo host steps a b
    → without_go is_go (map tick_of steps) ≡ without_go is_go ticks → reply.outcomes.list ≡ noted_of 0 steps
    → 302 + h.driver.layout.rx < most_accesses
    → TellsReset host (given_up_of host reply.answer) (tick_happenings ticks reply.outcomes.list)
    (said_in_reset host (reset_answer reply.answer) ticks reply.outcomes.list)
host-tells host ticks reply steps h h' a b answers leads played noted small =
    let given_up = answers.given_up in
    let resets = answers.does in
    let parts = resets.parts in
    let setup = h.driver.setup in
    let whole = whole_reset host setup parts in
    let counted = parts-counted host steps h h' a b given_up.on_after resets
    (answers.on_after ∙ sym (enabled-after host steps (connected h a) (connected h' b) resets (omega (arith, small))))
    (subst (λ (n : ℕ). n < most_accesses) (sym answers.on_after) small) in
    let leads_whole : LeadsTo host whole a b = subst (λ (list : List AtomicStep). LeadsTo host list a b) resets.split leads in
    let same : without_go is_go (map tick_of whole) ≡ without_go is_go ticks =
    ap (λ (list : List AtomicStep). without_go is_go (map tick_of list)) (sym resets.split) ∙ played in
    let up = given_up_of host reply.answer in
    let behind : List Happening = happened_in parts.resting ++ Enabled host ∷ happened_in parts.later in
    record {
      early = happened_in parts.early;
      stopping = happened_in parts.stopping;
      resting = happened_in parts.resting;
      later = happened_in parts.later;
      ticks = ap (tick_happenings ticks) noted ∙ steps-tell host ticks steps a b leads played ∙ ap happened_in resets.split
          ∙ parts-happened host setup parts;
      all = ap (said_in_reset host (reset_answer reply.answer) ticks) noted
          ∙ ap (λ (found : Option ResetAnswer). said_in_reset host found ticks (noted_of 0 steps)) answers.is
          ∙ ap (λ (list : List AtomicStep). said_in_reset host (Some given_up) ticks (noted_of 0 list)) resets.split
          ∙ reset-says host ticks setup parts a b given_up counted leads_whole same
          ∙ ap (λ (list : List Happening). happened_in parts.early ++ Disabled host ∷ (happened_in parts.stopping ++ (list ++ behind)))
          (sym (given-up-is host reply.answer given_up answers.is));
    }

event-in_order : (a : NetworkState) (one : Event) (reply : Reply) (b : NetworkState) → EventRuns a one reply b → IsInOrder one reply
event-in_order a (event.Reset host ticks) reply b runs = elim (slice_get_cases a.hosts host).1 [
  | inl there ↦
      let now = slice_get-some b.hosts host (let below = there.1 in let same = runs.go.hosts in omega (arith, below, same)) in
      let h = there.0 in
      let stood = runs.stood.each host h there.2 in
      inr (host-tells host ticks.now reply runs.steps h now.0 a.stations b.stations (runs.answer h now.0 there.2 now.1) runs.go.leads
      runs.replied.played runs.replied.outcomes (few-slots stood.ready.ready.driver_is.allowed))
  | inr past ↦
      let absent = runs.replied.no_host.1 past.0 in
      inl (
        ap (λ (one : FrameAnswer). said_in_reset host (reset_answer one) ticks.now reply.outcomes.list) absent,
        ap (given_up_of host) absent,
      )
]
event-in_order a _ reply b runs = tt

pub in_order : (a : NetworkState) (events : List Event) (replies : List Reply) (b : NetworkState) → StatesRun a events replies b
    → AreInOrder events replies
in_order a [] replies b states = tt
in_order a (one ∷ events) [] b states = tt
in_order a (one ∷ events) (reply ∷ replies) b states =
    (event-in_order a one reply states.0 states.1, in_order states.0 events replies b states.2)
