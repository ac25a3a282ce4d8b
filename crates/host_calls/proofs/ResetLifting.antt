-- A reset over a lent bus followed by the remaining ticks, in the steps of the network.
use Rattle.std.proofs.Common.{◌≡◌, ◌++◌, ◌∷◌, [], ℕ, true, List, refl, sym, ap, subst, ◌∙◌}
use Rattle.registers.specs.Places.{alone, ctrl_rst}
use Rattle.adapter.specs.HostFrames.{frames_held, frames_to_send}
use Rattle.adapter.specs.World.{World}
use Rattle.adapter.specs.model_types.offsets.TheConstants.{CTRL}
use Rattle.adapter.specs.Link.{HasLink}
use Rattle.adapter.specs.Pasts.{joined}
use Rattle.adapter.specs.bus_types.event.Access.TheVariants.{Writes}
use Rattle.stations.specs.AtomicRunLaws.{leads_join}
use Rattle.stations.specs.AtomicSteps.{AtomicStep}
use Rattle.stations.specs.LentBuses.{Finished, world_here}
use Rattle.stations.specs.Stations.{world_at}
use Rattle.stations.specs.ToldTicks.{ComposesTold}
use Rattle.stations.specs.declared.lent_bus.LentBus.{LentBus}
use Rattle.stations.specs.declared.observer.Observer.{Ghosts as OfObserver}
use Rattle.adapter.specs.Calls.{GoesTo, HasNoForgottenWork, SumsMisses, driver_did, driver_in, missed_added}
use Rattle.adapter.specs.DriverState.{DriverSetup, DriverState, holding, with_owners}
use Rattle.adapter.specs.Resets.{reset_driver}
use Rattle.bring_up.specs.ConfiguredAdapters.{HasSetup}
use Rattle.bring_up.specs.Groups.{HasTable}
use Rattle.driver.specs.Resetting.{later_accesses, quiet_accesses, stop_accesses}
use Rattle.packet_socket.specs.HostCalls.{HostReady, driver_of, host_at, waiting_frames}
use Rattle.packet_socket.specs.HostResets.{HostResets}
use Rattle.packet_socket.specs.HostState.{HostState}
use Rattle.host_calls.proofs.Laws.{lent-calls, outcomes-tell}
use Rattle.host_calls.specs.TickNumbers.{numbers}
use Rattle.host_calls.proofs.Calling.{lent_call, work-unheld}
use Rattle.host_calls.proofs.ResetParts.{ResetRan, rest_accesses, steps_ran, sums-held}
use Rattle.host_calls.proofs.ResetIntervals.{interval}
use Rattle.host_calls.proofs.LentIntervals.{lent_intervals-join}
use Rattle.host_calls.specs.CallsOfHosts.{StepsOfCall}
use Rattle.host_calls.specs.LentCalls.{lent}

-- A ready host is reset over a lent bus, from `a` to `m`. The remaining ticks lead to `b`. In the host, only the driver
-- changes.
pub record LentReset {O : Type 0} {g : OfObserver O} (a m b : LentBus O g) (h h' : HostState) : Type 0 where
  pub ready : HostReady h (world_here a)
  pub host : h' ≡ record h { driver = h'.driver }
  pub setup : h'.driver.setup ≡ h.driver.setup
  pub groups : h'.driver.groups ≡ h.driver.groups
  pub resets : HostResets lent true (host_at a h) (host_at m h')
  pub finished : Finished m b

-- The driver's state is stated without the pieces that the queues hold (`driver_of`).
pub begins-again : (h h' : HostState) (a b : World) (d : DriverState) (pool list : List ℕ) (misses : ℕ)
    → d ≡ missed_added misses (driver_of h a)
    → driver_of h' b ≡ with_owners (reset_driver pool d) list [] (driver_of h' b).pool (driver_of h a).handed_out
    → h'.driver ≡ with_owners (reset_driver [] (missed_added misses h.driver)) list [] h'.driver.pool h'.driver.handed_out
begins-again h h' a b d pool list misses counted again =
    ap (holding h'.driver.handed_out) again
    ∙ ap (λ (e : DriverState). with_owners (reset_driver [] e) list [] h'.driver.pool h'.driver.handed_out) counted

abbrev pub reset-ran : {O : Type 0} {g : OfObserver O} (a m b : LentBus O g) (h h' : HostState) → LentReset a m b h h'
    → ResetRan a.host h h' a.stations.now b.stations.now
reset-ran a m b h h' it =
    let k = a.host in
    let r = it.resets.resets in
    let one = r.stops.ran.reports in
    let two = r.resets.first.reports in
    let three = r.resets.later.reports in
    let four = r.quiet.reports in
    let five = r.later.reports in
    let k1 = one.lent.host in
    let k2 = two.lent.host ∙ k1 in
    let k3 = three.lent.host ∙ k2 in
    let k4 = four.lent.host ∙ k3 in
    let k5 = five.lent.host ∙ k4 in
    let here : World = world_here m in
    let at : here ≡ world_at m.stations.now k = ap (world_at m.stations.now) k5 in
    let misses = r.stops.misses in
    record {
      values = record { misses = misses; causes = r.resets.causes; groups = r.groups; vlans = r.vlans; numbers = r.numbers };
      p1 = r.stops.ran.past;
      p2 = r.resets.first.past;
      p3 = r.resets.later.past;
      p4 = r.quiet.past;
      p5 = r.later.past;
      a1 = r.stopped.bus.stations.now;
      a2 = r.resets.middle.stations.now;
      a3 = r.middle.stations.now;
      a4 = r.enabled.stations.now;
      a5 = m.stations.now;
      s1 = interval k a r.stopped.bus r.stops.ran.past (stop_accesses misses) refl one r.stops.ran.only;
      s2 = interval k r.stopped.bus r.resets.middle r.resets.first.past (Writes CTRL (alone ctrl_rst) ∷ []) k1 two r.resets.first.only;
      s3 = interval k r.resets.middle r.middle r.resets.later.past (rest_accesses r.resets.causes) k2 three r.resets.later.only;
      s4 = interval k r.middle r.enabled r.quiet.past (quiet_accesses h.driver.setup h.driver.layout r.groups r.vlans r.numbers) k3 four
          r.quiet.only;
      s5 = interval k r.enabled m r.later.past (later_accesses h.driver.layout) k4 five r.later.only;
      s6 = it.finished.plays.steps;
      ticks = it.finished.plays.are;
      ends = it.finished.plays.leads k;
      goes = subst (λ (n : ℕ). GoesTo true (driver_in (driver_of h (world_here a)) (world_here a))
          (driver_in (missed_added misses (driver_of h (world_here a))) (world_at r.stopped.bus.stations.now n)) (driver_did [] [])
          r.stops.ran.past) k1
          (subst (λ (d : DriverState). GoesTo true (driver_in (driver_of h (world_here a)) (world_here a))
          (driver_in d (world_here r.stopped.bus)) (driver_did [] []) r.stops.ran.past) r.stops.counted r.stops.ran.goes);
      tables = r.tables;
      resting = r.resets.no_frame;
      quiet = r.no_frame;
      ready = subst (HostReady h') at it.resets.ready;
      work = subst (HasNoForgottenWork h'.driver) at (work-unheld h' here here r.restarted.work);
      held = subst (λ (w : World). frames_held h'.driver.oldest_receive w ≡ r.later.past.stored) at r.restarted.held;
      none_put = r.restarted.none_put;
      none_to_send = subst (λ (w : World). frames_to_send w ≡ []) at r.restarted.none_to_send;
      again = record {
        host = it.host;
        driver = begins-again h h' (world_here a) here r.stopped.driver r.pool r.numbers misses r.stops.counted r.again.driver;
        refilled = r.again.refilled;
      };
      set_up = subst (λ (w : World). HasSetup h.driver.setup w.adapter) at
          (subst (λ (setup : DriverSetup). HasSetup setup here.adapter) it.setup r.set_up);
      groups = subst (HasTable h.driver.groups) at
          (subst (λ (groups : List (List ℕ)). HasTable groups here) it.groups r.table);
      waiting = λ socket.
          subst (λ (w : World). waiting_frames h' socket w ≡ waiting_frames h socket (world_here a)) at (it.resets.waiting socket);
      sums = subst (λ (w : World). SumsMisses (driver_in h.driver (world_here a)) (driver_in h'.driver w)
          (joined r.stops.ran.past (joined r.resets.first.past (joined r.resets.later.past (joined r.quiet.past r.later.past))))) at
          (sums-held (driver_of h (world_here a)) (driver_of h' here) h.driver h'.driver (world_here a) here
          (joined r.stops.ran.past (joined r.resets.first.past (joined r.resets.later.past (joined r.quiet.past r.later.past))))
          refl refl refl refl r.sums);
      link = λ link. subst HasLink at (r.link link);
    }

pub reset-steps : {O : Type 0} {g : OfObserver O} → ComposesTold g.heard → (a m b : LentBus O g) (h h' : HostState) → a.accesses ≡ 0
    → (it : LentReset a m b h h')
    → StepsOfCall (lent_call a b) (steps_ran (reset-ran a m b h h' it)) a.stations.now b.stations.now
reset-steps {O} {g} composes a m b h h' zero it =
    let r = it.resets.resets in
    let four = lent_intervals-join composes r.quiet.reports r.later.reports in
    let three = lent_intervals-join composes r.resets.later.reports four.0 in
    let two = lent_intervals-join composes r.resets.first.reports three.0 in
    let one = lent_intervals-join composes r.stops.ran.reports two.0 in
    let whole = joined r.stops.ran.past (joined r.resets.first.past (joined r.resets.later.past (joined r.quiet.past r.later.past))) in
    let first = one.0.steps in
    let last = it.finished.plays.steps in
    let s1 = r.stops.ran.reports.steps in
    let s2 = r.resets.first.reports.steps in
    let s3 = r.resets.later.reports.steps in
    let is : first ≡ s1 ++ (s2 ++ (s3 ++ (r.quiet.reports.steps ++ r.later.reports.steps))) =
    one.1
    ∙ ap (λ (list : List AtomicStep). s1 ++ list) two.1
    ∙ ap (λ (list : List AtomicStep). s1 ++ (s2 ++ list)) three.1
    ∙ ap (λ (list : List AtomicStep). s1 ++ (s2 ++ (s3 ++ list))) four.1 in
    let call = lent-calls composes a m b whole one.0 it.finished zero in
    let tells = outcomes-tell a.host a.ticks.now whole.accesses first last a.stations.now m.stations.now b.stations.now call.plays in
    subst (λ (list : List AtomicStep). StepsOfCall (lent_call a b) (list ++ last) a.stations.now b.stations.now) is (record {
      leads = leads_join a.host first last a.stations.now m.stations.now b.stations.now one.0.leads (it.finished.plays.leads a.host);
      played = tells.played;
      heard = call.heard;
      said = tells.said;
      numbered = sym tells.numbered ∙ ap (numbers a.ticks.now 0) (sym call.count);
      counted = call.count ∙ sym tells.counted;
    })
