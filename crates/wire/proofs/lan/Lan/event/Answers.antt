use Rattle.std.proofs.Common.{◌≡◌, ◌≤◌, ◌<◌, ℕ, ap, length, subst, sym, ◌∙◌}
use Rattle.host_calls.specs.Networks.{NetworkState}
use Rattle.network_plan.specs.Answers.{ticks_by, ticks_of}
use Rattle.network_plan.specs.EventCalls.{EventKind, in_event}
use Rattle.network_plan.specs.declared.event.Event.{Event}
use Rattle.wire.specs.Equations.{NetworkStands}
use Rattle.wire.specs.PlayedCalls.{ResetPlayed, kind_in}
use Rattle.wire.specs.RunObservers.{EventTold}
use Rattle.wire.specs.Runs.{EventRuns, IsResetOf}
use Rattle.wire.proofs.Running.{call-runs, event-runs, reset-runs}
use Rattle.wire.proofs.Telling.{either-way, on-err, on-ok, tick-runs-as}
use Rattle.wire.proofs.lan.Lan.event.Goals as goal

-- the observer has room for the ticks of a call, a reset or a tick that is the event
has-room : (event : Event) (kind : EventKind) (room : ℕ) → in_event event ≡ kind → length (ticks_of event) ≤ room
    → length (ticks_by kind) ≤ room
has-room event kind room is = subst (λ (one : EventKind). length (ticks_by one) ≤ room) is

pub make_call-requires : goal.make_call-requires
make_call-requires g c =
    let is = sym c.of.ensures ∙ ap kind_in c.in-Call.is in
    record {
      stands = c.self.invariant;
      ready = c.requires.room.answer;
      room = has-room c.args.event.now _ (g.O.Observer.room_left c.args.observer.now) is c.requires.room.ticks;
      is = is;
    }

pub make_reset-requires : goal.make_reset-requires
make_reset-requires g c =
    let is = sym c.of.ensures ∙ ap kind_in c.in-Reset.is in
    record {
      stands = c.self.invariant;
      ready = c.requires.room.answer;
      room = has-room c.args.event.now _ (g.O.Observer.room_left c.args.observer.now) is c.requires.room.ticks;
      is = is;
    }

pub tick-requires : goal.tick-requires
tick-requires g c =
    let is = sym c.of.ensures ∙ ap kind_in c.in-Tick.is in
    record {
      ready = c.requires.room.answer;
      room = has-room c.args.event.now _ (g.O.Observer.room_left c.args.observer.now) is c.requires.room.ticks;
      is = is;
    }

pub invariant_of-self : goal.invariant_of-self
invariant_of-self g c = c.make_call.ensures.holds.go.stands

pub invariant_of-self-in-Reset : goal.invariant_of-self-in-Reset
invariant_of-self-in-Reset g c =
    let reset = c.in-Reset.reset in
    let old = c.self.inside.network in
    let new = c.make_reset.new.network in
    either-way c.make_reset.result
    (EventTold g.O.RunObserver.ran c.args.event.now c.args.observer.now c.make_reset.new.observer
    (λ reply. ResetPlayed reset.host reset.ticks.now reply old new))
    ((reset.host < length old.hosts) × (new ≡ old) × (c.make_reset.new.observer ≡ c.args.observer.now)) (NetworkStands new)
    c.make_reset.ensures.ok c.make_reset.ensures.refused (λ told. told.holds.go.stands)
    (λ kept. subst NetworkStands (sym kept.1) c.self.invariant)

pub returns-in-Call-clause-refused : goal.returns-in-Call-clause-refused
returns-in-Call-clause-refused g c = tt

pub returns-in-Reset-clause-refused : goal.returns-in-Reset-clause-refused
returns-in-Reset-clause-refused g c =
    let reset = c.in-Reset.reset in
    let old = c.self.inside.network in
    let now = c.args.self.now in
    let new = c.make_reset.new.network in
    on-err c.make_reset.result
    ((reset.host < length old.hosts) × (new ≡ old) × (c.make_reset.new.observer ≡ c.args.observer.now))
    (IsResetOf (length now.hosts) (in_event c.args.event.now) × (new ≡ now) × (c.make_reset.new.observer ≡ c.args.observer.now))
    (λ kept. (
      subst (IsResetOf (length now.hosts)) (sym (sym c.of.ensures ∙ ap kind_in c.in-Reset.is))
          (subst (λ (network : NetworkState). reset.host < length network.hosts) c.self.view_is kept.0),
      kept.1 ∙ c.self.view_is,
      kept.2,
    )) c.make_reset.ensures.refused

pub returns-in-Tick-clause-refused : goal.returns-in-Tick-clause-refused
returns-in-Tick-clause-refused g c = tt

pub invariant_of-self-in-Tick : goal.invariant_of-self-in-Tick
invariant_of-self-in-Tick g c =
    (tick-runs-as c.self.inside.network c.tick.new.network _ _ c.tick.ensures.hosts c.self.invariant c.tick.ensures.told.holds).go.stands

pub returns-in-Call-clause-ok : goal.returns-in-Call-clause-ok
returns-in-Call-clause-ok g c =
    let told = c.make_call.ensures in
    record {
      reply = told.reply;
      told = told.told;
      holds = event-runs c.self.view_is (sym c.of.ensures ∙ ap kind_in c.in-Call.is) (call-runs told.holds c.self.invariant);
    }

pub returns-in-Reset-clause-ok : goal.returns-in-Reset-clause-ok
returns-in-Reset-clause-ok g c =
    let event = c.args.event.now in
    let reset = c.in-Reset.reset in
    let new = c.make_reset.new.network in
    on-ok c.make_reset.result
    (EventTold g.O.RunObserver.ran event c.args.observer.now c.make_reset.new.observer
    (λ reply. ResetPlayed reset.host reset.ticks.now reply c.self.inside.network new))
    (EventTold g.O.RunObserver.ran event c.args.observer.now c.make_reset.new.observer
    (λ reply. EventRuns c.args.self.now event reply new))
    (λ told. record {
      reply = told.reply;
      told = told.told;
      holds = event-runs c.self.view_is (sym c.of.ensures ∙ ap kind_in c.in-Reset.is) (reset-runs told.holds c.self.invariant);
    }) c.make_reset.ensures.ok

pub returns-in-Tick-clause-ok : goal.returns-in-Tick-clause-ok
returns-in-Tick-clause-ok g c =
    let told = c.tick.ensures.told in
    record {
      reply = told.reply;
      told = told.told;
      holds =
          event-runs c.self.view_is (sym c.of.ensures ∙ ap kind_in c.in-Tick.is)
          (tick-runs-as c.self.inside.network c.tick.new.network c.in-Tick.tick told.reply c.tick.ensures.hosts c.self.invariant
          told.holds);
    }
