use Rattle.std.proofs.Common.{ℕ, ◌∙◌, ◌≡◌, ◌⊎◌, ◌+◌, ◌<◌, ◌++◌, ◌∷◌, [], List, inl, inr, length, slice_get, slice_index_or, take}
use Rattle.std.proofs.Common.{arith, sym, subst}
use Rattle.std.proofs.lemmas.List.{take_all, take_more}
use Rattle.std.proofs.lemmas.Option.{slice_get-get_or}
use Rattle.network_plan.specs.declared.event.Event.{Event}
use Rattle.wire.specs.Runs.{IsResetOf, RunTold, StopsAt}
use Rattle.network_plan.specs.EventCalls.{EventKind, in_event}
use Rattle.host_calls.specs.Networks.{NetworkState}
use Rattle.wire.proofs.Running.{told-asked, told-more, told-none}
use Rattle.wire.proofs.Telling.{where-err, where-ok}
use Rattle.wire.proofs.lan.Lan.play.Goals as goal

-- The event after the first `done` events is the next in the loop.
one-more : (events : List Event) (done : ℕ) (d : Event) (Holds : List Event → Type 0) → done < length events
    → Holds (take done events ++ slice_index_or events done d ∷ []) → Holds (take (done + 1) events)
one-more events done d Holds below = subst Holds (sym (take_more events done d below))

reset-of : (kind : EventKind) (hosts now : ℕ) → hosts ≡ now → IsResetOf hosts kind → IsResetOf now kind
reset-of kind hosts now = subst (λ (n : ℕ). IsResetOf n kind)

stops-at : {O : Type 0} {refuses : O → Event → Type 0} {hosts : ℕ} {Told : O → Type 0} (events : List Event) (done : ℕ) (d : Event)
    (asked : O) → done < length events → Told asked
    → refuses asked (slice_index_or events done d) ⊎ IsResetOf hosts (in_event (slice_index_or events done d))
    → StopsAt refuses hosts (slice_get events done) Told
stops-at events done d asked below told refused = record {
  event = slice_index_or events done d;
  is = slice_get-get_or events done d below;
  asked = asked;
  told = told;
  refused = refused;
}

pub loop-done-init : goal.loop-done-init
loop-done-init g c = told-none g.met.O.RunObserver.composes_runs g.met.O.Observer.composes c.args.self.now c.args.observer.now

pub loop-done-preserved : goal.loop-done-preserved
loop-done-preserved g c =
    let runs = g.met.O.RunObserver.composes_runs in
    let before = take c.loop-done.done c.args.events.now in
    let asked = told-asked runs before c.args.self.now c.loop-done.self c.args.observer.now c.loop-done.observer c.make_room.new.self
    c.loop-done.invariant c.make_room.ensures.nothing in
    one-more c.args.events.now c.loop-done.done _
    (λ (events : List Event). RunTold g.O.RunObserver.ran events c.args.self.now c.event.new.self c.args.observer.now c.event.new.observer)
    c.loop-done-test.true
    (told-more runs before _ c.args.self.now c.loop-done.self c.event.new.self c.args.observer.now c.make_room.new.self
    c.event.new.observer asked (where-ok c.event.result _ c.event.ensures.ok (sym c.is_err.ensures.value ∙ c.if-is_err.false)))

pub returns-then-not-make_room-clause-ok : goal.returns-then-not-make_room-clause-ok
returns-then-not-make_room-clause-ok g c = tt

pub returns-then-not-make_room-clause-stopped : goal.returns-then-not-make_room-clause-stopped
returns-then-not-make_room-clause-stopped g c = (
  omega arith,
  told-asked g.met.O.RunObserver.composes_runs (take c.loop-done.done c.args.events.now) c.args.self.now c.loop-done.self
      c.args.observer.now c.loop-done.observer c.make_room.new.self c.loop-done.invariant c.make_room.ensures.nothing,
)

pub returns-then-not-make_room-clause-refused : goal.returns-then-not-make_room-clause-refused
returns-then-not-make_room-clause-refused g c = stops-at c.args.events.now c.loop-done.done _ c.loop-done.observer c.loop-done-test.true
    c.loop-done.invariant (inl c.if-not-make_room.ensures.refused)

pub returns-then-is_err-clause-ok : goal.returns-then-is_err-clause-ok
returns-then-is_err-clause-ok g c = tt

pub returns-then-is_err-clause-stopped : goal.returns-then-is_err-clause-stopped
returns-then-is_err-clause-stopped g c =
    let before = take c.loop-done.done c.args.events.now in
    let kept = where-err c.event.result _ c.event.ensures.refused (sym c.is_err.ensures.value ∙ c.if-is_err.true) in
    let asked =
    told-asked g.met.O.RunObserver.composes_runs before c.args.self.now c.loop-done.self c.args.observer.now c.loop-done.observer
    c.make_room.new.self c.loop-done.invariant c.make_room.ensures.nothing in (
      omega arith,
      subst (λ (network : NetworkState). RunTold g.O.RunObserver.ran before c.args.self.now network c.args.observer.now
          c.event.new.observer) (sym kept.1)
          (subst (RunTold g.O.RunObserver.ran before c.args.self.now c.loop-done.self c.args.observer.now) (sym kept.2) asked),
    )

pub returns-then-is_err-clause-refused : goal.returns-then-is_err-clause-refused
returns-then-is_err-clause-refused g c =
    let kept = where-err c.event.result _ c.event.ensures.refused (sym c.is_err.ensures.value ∙ c.if-is_err.true) in
    stops-at c.args.events.now c.loop-done.done _ c.loop-done.observer c.loop-done-test.true
    (subst (λ (network : NetworkState). RunTold g.O.RunObserver.ran (take c.loop-done.done c.args.events.now) c.args.self.now network
    c.args.observer.now c.loop-done.observer) (sym kept.1) c.loop-done.invariant)
    (inr (reset-of _ _ _ c.loop-done.invariant.runs.hosts kept.0))

pub returns : goal.returns
returns g c = record {
  ok =
      subst (λ (events : List Event). RunTold g.O.RunObserver.ran events c.args.self.now c.loop-done.self c.args.observer.now
      c.loop-done.observer) (take_all c.loop-done.done c.args.events.now c.loop-done-test.false) c.loop-done.invariant;
  stopped = tt;
  refused = tt;
}
