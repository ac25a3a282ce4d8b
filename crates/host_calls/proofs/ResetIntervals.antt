-- The parts of a reset as intervals of atomic steps: their accesses, and when the receive side is disabled in them.
use Rattle.std.proofs.Common.{◌≡◌, ◌++◌, ◌∷◌, [], ℕ, Bool, List, Option, if◌then◌else◌, refl, sym, ap, subst, ◌∙◌}
use Rattle.std.proofs.Common.{append_assoc}
use Rattle.std.specs.List.{All}
use Rattle.std.proofs.lemmas.Bool.{eq-eqb}
use Rattle.registers.specs.Bits.{HasBit}
use Rattle.registers.specs.Laws.{HasBit-zero}
use Rattle.registers.specs.Places.{rctl_en}
use Rattle.rx_filter.specs.Registers.{FilterRegisters}
use Rattle.adapter.specs.Registers.{left_by_read, left_by_write}
use Rattle.adapter.specs.TableLaws.{register_at-there}
use Rattle.adapter.specs.World.{World}
use Rattle.adapter.specs.model_types.register.Register.{Register}
use Rattle.adapter.specs.model_types.register.Register.TheVariants.{Mpc, Rctl}
use Rattle.adapter.specs.model_types.offsets.TheConstants.{MPC, RCTL}
use Rattle.adapter.proofs.Settings.{happens-off}
use Rattle.adapter.specs.AdaptersAtRest.{NoFrame}
use Rattle.adapter.specs.Pasts.{Past, joined, nothing}
use Rattle.adapter.specs.Settings.{IsOff, NoArrival}
use Rattle.adapter.specs.Trails.{Trail, past_of, world_after_access}
use Rattle.adapter.specs.bus_types.event.Access.{Access}
use Rattle.adapter.specs.bus_types.event.Access.TheVariants.{Reads, Writes}
use Rattle.adapter.specs.bus_types.event.Event.{Event}
use Rattle.adapter.specs.bus_types.event.Event.TheVariants.{Accesses}
use Rattle.stations.proofs.HostTrails.{trail-of}
use Rattle.stations.specs.AtomicRunLaws.{past_join}
use Rattle.stations.specs.AtomicRuns.{IsTick, LeadsTo, events_at, past_at}
use Rattle.stations.specs.AtomicSteps.{At, AtomicStep, after_atomic}
use Rattle.stations.specs.LentBuses.{HappenedLent}
use Rattle.stations.specs.Stations.{StationState, world_at}
use Rattle.stations.specs.declared.lent_bus.LentBus.{LentBus}
use Rattle.stations.specs.declared.observer.Observer.{Ghosts as OfObserver}
use Rattle.host_calls.specs.CallsOfHosts.{EndsWithAccess}
use Rattle.host_calls.proofs.HostTrails.{happens-alone}
use Rattle.host_calls.proofs.LentIntervals.{lent_interval-ends}
use Rattle.host_calls.proofs.SplitSteps.{split-steps, ticks-alone}

-- A single access of the caller

events-own : (k : ℕ) (access : Access) → events_at k (At k (Accesses access) ∷ []) ≡ Accesses access ∷ []
events-own k access = ap (λ (here : Bool). (if here then Accesses access ∷ [] else []) ++ []) (eq-eqb k k refl)

pub own-world : (k : ℕ) (access : Access) (a b : List StationState) → LeadsTo k (At k (Accesses access) ∷ []) a b
    → world_at b k ≡ world_after_access access (world_at a k)
own-world k access a b leads =
    (subst (λ (events : List Event). Trail events (world_at a k) (world_at b k)) (events-own k access)
    (trail-of k k (At k (Accesses access) ∷ []) a b leads)).1

pub own-past : (k : ℕ) (access : Access) → past_at k (At k (Accesses access) ∷ []) ≡ record nothing { accesses = access ∷ [] }
own-past k access = ap past_of (events-own k access)

-- The atomic steps of one part of a reset, with its accesses `made`. The last step, if there is one, is an access.
pub record Interval (k : ℕ) (made : List Access) (past : Past) (a b : List StationState) : Type 0 where
  pub steps : List AtomicStep
  pub leads : LeadsTo k steps a b
  pub past_is : past_at k steps ≡ past
  pub made_are : (past_at k steps).accesses ≡ made
  pub ends : EndsWithAccess steps

abbrev pub interval : {O : Type 0} {g : OfObserver O} (k : ℕ) (a b : LentBus O g) (past : Past) (made : List Access)
    → a.host ≡ k → (happened : HappenedLent a b past) → past.accesses ≡ made → Interval k made past a.stations.now b.stations.now
interval k a b past made host happened made_are =
    let same : past_at k happened.steps ≡ past = sym (happened.past_is ∙ ap (λ (n : ℕ). past_at n happened.steps) host) in
    record {
      steps = happened.steps;
      leads = subst (λ (n : ℕ). LeadsTo n happened.steps a.stations.now b.stations.now) host happened.leads;
      past_is = same;
      made_are = ap (λ (p : Past). p.accesses) same ∙ made_are;
      ends = lent_interval-ends a b past happened;
    }

-- No frame is stored or missed while RCTL is 0

pub arrivals-join : (first later : Past) → NoArrival first → NoArrival later → NoArrival (joined first later)
arrivals-join first later one two = record {
  none_stored = rw (one.none_stored, two.none_stored) refl;
  none_missed = rw (one.none_missed, two.none_missed) refl;
}

pub frames-join : (first later : Past) → NoFrame first → NoFrame later → NoFrame (joined first later)
frames-join first later one two = record {
  none_put = rw (one.none_put, two.none_put) refl;
  none_stored = rw (one.none_stored, two.none_stored) refl;
  none_missed = rw (one.none_missed, two.none_missed) refl;
}

pub off-ticks : (k : ℕ) (steps : List AtomicStep) (a b : List StationState) → All IsTick steps → LeadsTo k steps a b
    → IsOff (world_at a k) → NoArrival (past_at k steps) × IsOff (world_at b k)
off-ticks k steps a b are leads off =
    let happens = happens-alone k k steps a b are leads in (
      happens-off (world_at a k) (world_at b k) (past_at k steps) happens off,
      subst (λ (filter : FilterRegisters). ¬ (HasBit filter.rctl rctl_en)) (sym happens.steady.registers.filter) off,
    )

pub off-written : (k : ℕ) (a b : List StationState) → LeadsTo k (At k (Accesses (Writes RCTL 0)) ∷ []) a b → IsOff (world_at b k)
off-written k a b leads =
    let w = world_at a k in
    let off = subst (λ (found : Option Register). ¬ (HasBit (left_by_write found 0 w.adapter).filter.rctl rctl_en))
    (sym (register_at-there Rctl tt)) (HasBit-zero rctl_en) in
    subst IsOff (sym (own-world k (Writes RCTL 0) a b leads)) off

read-leaves : (misses : ℕ) (w : World) → IsOff w → IsOff (world_after_access (Reads MPC misses) w)
read-leaves misses w off =
    subst (λ (found : Option Register). ¬ (HasBit (left_by_read found w.adapter).filter.rctl rctl_en)) (sym (register_at-there Mpc tt)) off

pub off-read : (k misses : ℕ) (steps : List AtomicStep) (a b : List StationState) → LeadsTo k steps a b
    → (past_at k steps).accesses ≡ Reads MPC misses ∷ [] → IsOff (world_at a k) → NoArrival (past_at k steps) × IsOff (world_at b k)
off-read k misses steps a b leads is off =
    let access = Reads MPC misses in
    let step = At k (Accesses access) in
    let found = split-steps k steps a b access [] [] leads is in
    let here = after_atomic step found.middle in
    let one = off-ticks k found.before a found.middle (ticks-alone k found.before a found.middle found.leads found.before_are)
    found.leads off in
    let read : IsOff (world_at here k) = subst IsOff (sym (own-world k access found.middle here (found.rest.0, found.rest.1, refl)))
    (read-leaves misses (world_at found.middle k) one.1) in
    let two = off-ticks k found.behind here b (ticks-alone k found.behind here b found.rest.2 found.behind_are) found.rest.2 read in
    let whole : past_at k steps ≡ joined (past_at k found.before) (joined (record nothing { accesses = access ∷ [] })
    (past_at k found.behind)) =
    ap (past_at k) found.split
    ∙ past_join k found.before (step ∷ found.behind)
    ∙ ap (joined (past_at k found.before)) (past_join k (step ∷ []) found.behind)
    ∙ ap (λ (past : Past). joined (past_at k found.before) (joined past (past_at k found.behind))) (own-past k access) in (
      subst NoArrival (sym whole)
          (arrivals-join (past_at k found.before) (joined (record nothing { accesses = access ∷ [] }) (past_at k found.behind)) one.0
          (arrivals-join (record nothing { accesses = access ∷ [] }) (past_at k found.behind)
          (record { none_stored = refl; none_missed = refl }) two.0)),
      two.1,
    )

-- The same list in two orders of brackets: by the intervals of the driver's reset, and by the three writes that divide
-- the steps.
pub regroup : {X : Type 0} (e t1 t2 s3 q s5 s6 : List X) (d r n : X)
    → ((e ++ d ∷ t1) ++ ((t2 ++ r ∷ []) ++ (s3 ++ ((q ++ n ∷ []) ++ s5)))) ++ s6
    ≡ (e ++ d ∷ (t1 ++ t2)) ++ ((r ∷ ((s3 ++ q) ++ n ∷ [])) ++ (s5 ++ s6))
regroup e t1 t2 s3 q s5 s6 d r n = simp append_assoc
