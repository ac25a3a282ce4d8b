-- The outcomes of a reset's ticks follow from counts, and both sides of the adapter are enabled after the reset.
use Rattle.std.proofs.Common.{◌≡◌, ◌<◌, ◌+◌, ◌*◌, ◌++◌, ◌∷◌, [], ℕ, Bool, List, None, Option, Some}
use Rattle.std.proofs.Common.{append_assoc, arith, false, suc, true, zero, if◌then◌else◌, inl, inr, refl, sym, ap, subst, ◌∙◌}
use Rattle.std.specs.List.{All}
use Rattle.std.specs.Prelude.{IfSome, bit_and}
use Rattle.std.proofs.lemmas.Bool.Decides.{eqb_tells}
use Rattle.std.proofs.lemmas.List.Elements.{All-append, All-cons}
use Rattle.registers.specs.Bits.{HasBit, is_set}
use Rattle.registers.specs.Kept.{transmit_control_mask}
use Rattle.registers.specs.Places.{alone, ctrl_rst, rctl_en, tctl_en}
use Rattle.dma_memory.specs.Layout.{Counts}
use Rattle.adapter.specs.Outcomes.{FrameOutcome}
use Rattle.adapter.specs.Table.{register_at}
use Rattle.adapter.specs.TableLaws.{register_at-only}
use Rattle.adapter.specs.World.{World}
use Rattle.adapter.specs.model_types.offsets.TheConstants.{CTRL, ICR, IMC, IMS, MPC, RCTL, TDBAL}
use Rattle.adapter.specs.model_types.register.Register.{Register}
use Rattle.adapter.specs.model_types.register.Register.TheVariants.{Ctrl, Eerd, Mdic, Rctl, Receive, Tctl, Transmit}
use Rattle.adapter.specs.model_types.step.StepKind.{StepKind}
use Rattle.adapter.specs.model_types.step.StepKind.TheVariants.{EepromTick, PhyTick, RxData, RxDone, TxPut, TxTake}
use Rattle.adapter.proofs.Lists.{all-none, all-weaker}
use Rattle.adapter.specs.Accesses.{IsNoReset, ResetsNothing}
use Rattle.adapter.specs.Pasts.{Past}
use Rattle.adapter.specs.StepsAndArrivals.{past_of_step}
use Rattle.adapter.specs.TrailFaults.{EnginesRun}
use Rattle.adapter.specs.Trails.{past_of}
use Rattle.adapter.specs.bus_types.event.Access.{Access}
use Rattle.adapter.specs.bus_types.event.Access.TheVariants.{Loads, Reads, Stores, Writes}
use Rattle.adapter.specs.bus_types.event.Event.{Event}
use Rattle.adapter.specs.bus_types.event.Event.TheVariants.{Accesses, Arrives, Steps}
use Rattle.stations.proofs.HostTrails.{trail-of}
use Rattle.stations.specs.AtomicRunLaws.{leads_join, past_join}
use Rattle.stations.specs.AtomicRuns.{LeadsTo, events_at, past_at}
use Rattle.stations.specs.AtomicSteps.{At, AtomicStep, after_atomic}
use Rattle.stations.specs.Stations.{StationState, world_at}
use Rattle.bring_up.specs.ClearedDescriptors.{clears, clears_from}
use Rattle.bring_up.specs.DriverSteps.{accesses_of}
use Rattle.bring_up.specs.RingRegisters.{receive_control, ring_setup_writes, transmit_writes}
use Rattle.bring_up.specs.WrittenRegisters.{handled_causes, link_control, mask_writes}
use Rattle.adapter.specs.DriverState.{DriverSetup}
use Rattle.driver.specs.Resetting.{free_accesses, later_accesses, quiet_writes}
use Rattle.packet_socket.specs.HostCalls.{HostReady}
use Rattle.packet_socket.specs.HostState.{HostState}
use Rattle.host_calls.proofs.HostSteps.{trail-goes}
use Rattle.host_calls.proofs.TailWrites.{sides-stay}
use Rattle.host_calls.proofs.Ticks.{counts-go, faultless-around-reset, ticks-answered}
use Rattle.host_calls.specs.AnswersLaws.{MeetsNoFault}
use Rattle.host_calls.specs.CountedHosts.{CanAnswer, IsCounted, IsNotMdic, LeavesEnabled}
use Rattle.host_calls.specs.Counts.{HostCounts, after_outcome, counts_after_write, counts_after, counts_behind, counts_of, emptied}
use Rattle.host_calls.specs.StepOutcomes.{AreAnswered, counts_at}
use Rattle.host_calls.specs.ConnectedHosts.{ConnectedHost}
use Rattle.host_calls.specs.ResetSteps.{PartsAccess, ResetParts, ResetValues, at_rest, before_reset, disable_of, enable_of, reset_of}
use Rattle.host_calls.specs.ResetSteps.{whole_reset}
use Rattle.host_calls.specs.ResetsInSteps.{ResetsInSteps, stopped_host}
use Rattle.wire.proofs.CountedCalls.{receive-valid, set-bit, transmit-valid}
use Rattle.wire.proofs.PlansFilters.{controls}
use Rattle.wire.proofs.ResetAccesses.{IsBeyond, clears-hold, free-hold, quiet-hold, transmit-hold}

-- The access can be counted, and isn't a reset.
record Leaves (access : Access) : Type 0 where
  counted : IsCounted access
  no_reset : IsNoReset access

found-leaves : (found : Option Register) (offset value : ℕ) → register_at offset ≡ found → RCTL < offset
    → IfSome found IsNotMdic × IfSome found (ResetsNothing value)
found-leaves None offset value at beyond = (tt, tt)
found-leaves (Some Ctrl) offset value at beyond =
    let stands = (register_at-only offset Ctrl at).there in absurd (omega (arith, stands, beyond))
found-leaves (Some Mdic) offset value at beyond =
    let stands = (register_at-only offset Mdic at).there in absurd (omega (arith, stands, beyond))
found-leaves (Some _) offset value at beyond = (tt, refl)

beyond-leaves : (access : Access) → IsBeyond access → Leaves access
beyond-leaves (Reads offset value) beyond = record { counted = tt; no_reset = tt }
beyond-leaves (Writes offset value) beyond =
    let leaves = found-leaves (register_at offset) offset value refl beyond in
    record { counted = leaves.0; no_reset = leaves.1 }
beyond-leaves (Loads address size) beyond = record { counted = tt; no_reset = tt }
beyond-leaves (Stores address bytes) beyond = record { counted = tt; no_reset = tt }

-- Writes of RCTL, IMC and IMS, and of CTRL without RST, are such accesses

control-leaves : (value : ℕ) → Leaves (Writes RCTL value)
unfolding register_at
control-leaves value = record { counted = tt; no_reset = refl }

unmask-leaves : (value : ℕ) → Leaves (Writes IMC value)
unfolding register_at
unmask-leaves value = record { counted = tt; no_reset = refl }

mask-leaves : (value : ℕ) → Leaves (Writes IMS value)
unfolding register_at
mask-leaves value = record { counted = tt; no_reset = refl }

link-leaves : Leaves (Writes CTRL link_control)
unfolding register_at
link-leaves = record { counted = tt; no_reset = refl }

reset-counted : IsCounted (Writes CTRL (alone ctrl_rst))
unfolding register_at
reset-counted = tt

one : (access : Access) → Leaves access → All Leaves (access ∷ [])
one access leaves = All-cons Leaves access [] leaves (all-none Leaves)

both : (xs ys : List Access) → All Leaves xs → All Leaves ys → All Leaves (xs ++ ys)
both xs ys first later = All-append Leaves xs ys first later

later-leave : (counts : Counts) → All Leaves (later_accesses counts)
later-leave counts =
    let base = 16 * counts.rx in
    let clear = clears_from base counts.tx in
    let ring = accesses_of (ring_setup_writes TDBAL base (16 * counts.tx) ++ transmit_writes) in
    both (clear ++ ring) (accesses_of mask_writes)
    (both clear ring (clears-hold Leaves beyond-leaves base counts.tx) (transmit-hold Leaves beyond-leaves base (16 * counts.tx)))
    (one (Writes IMS handled_causes) (mask-leaves handled_causes))

-- Atomic steps with such accesses

past-leaves : (k : ℕ) (first later : List AtomicStep) → All Leaves (past_at k first).accesses → All Leaves (past_at k later).accesses
    → All Leaves (past_at k (first ++ later)).accesses
past-leaves k first later one two =
    subst (λ (past : Past). All Leaves past.accesses) (sym (past_join k first later))
    (both (past_at k first).accesses (past_at k later).accesses one two)

access-past : (k : ℕ) (access : Access) → (past_at k (At k (Accesses access) ∷ [])).accesses ≡ access ∷ []
access-past k access = elim (eqb_tells k k) [
  | inl itself ↦ ap (λ (here : Bool). (past_of ((if here then Accesses access ∷ [] else []) ++ [])).accesses) itself.0
  | inr other ↦ absurd (other.1 refl)
]

own-leaves : (k : ℕ) (access : Access) (later : List AtomicStep) → Leaves access → All Leaves (past_at k later).accesses
    → All Leaves (past_at k (At k (Accesses access) ∷ later)).accesses
own-leaves k access later leaves rest =
    past-leaves k (At k (Accesses access) ∷ []) later
    (subst (All Leaves) (sym (access-past k access)) (All-cons Leaves access [] leaves (all-none Leaves))) rest

first-leaves : (k : ℕ) (counts : Counts) (setup : DriverSetup) (values : ResetValues) (parts : ResetParts)
    → PartsAccess k counts setup values parts → All Leaves (past_at k (before_reset k parts)).accesses
first-leaves k counts setup values parts are =
    past-leaves k parts.early (disable_of k ∷ parts.stopping) (subst (All Leaves) (sym are.early) (all-none Leaves))
    (own-leaves k (Writes RCTL 0) parts.stopping (control-leaves 0)
    (subst (All Leaves) (sym are.stopping) (one (Reads MPC values.misses) (beyond-leaves (Reads MPC values.misses) tt))))

-- the steps after the write of CTRL.RST
abbrev after_steps : (k : ℕ) → DriverSetup → ResetParts → List AtomicStep
after_steps k setup parts = (parts.resting ++ enable_of k setup ∷ []) ++ parts.later

later-leaves : (k : ℕ) (counts : Counts) (setup : DriverSetup) (values : ResetValues) (parts : ResetParts)
    → PartsAccess k counts setup values parts → All Leaves (past_at k (after_steps k setup parts)).accesses
later-leaves k counts setup values parts are =
    let control = receive_control setup.promiscuous setup.by_vlan in
    let quiet = quiet_writes setup counts values.groups values.vlans in
    let free = free_accesses counts values.numbers in
    past-leaves k (parts.resting ++ enable_of k setup ∷ []) parts.later
    (past-leaves k parts.resting (enable_of k setup ∷ [])
    (subst (All Leaves) (sym are.resting)
    (All-cons Leaves (Writes IMC 0xFFFFFFFF) (Reads ICR values.causes ∷ quiet ++ free) (unmask-leaves 0xFFFFFFFF)
    (All-cons Leaves (Reads ICR values.causes) (quiet ++ free) (beyond-leaves (Reads ICR values.causes) tt)
    (both quiet free (quiet-hold Leaves beyond-leaves setup counts values.groups values.vlans link-leaves)
    (free-hold Leaves beyond-leaves counts values.numbers)))))
    (own-leaves k (Writes RCTL control) [] (control-leaves control) (all-none Leaves)))
    (subst (All Leaves) (sym are.later) (later-leave counts))

none-resets : (accesses : List Access) → All Leaves accesses → All IsNoReset accesses
none-resets accesses leave = all-weaker Leaves IsNoReset accesses (λ access leaves. leaves.no_reset) leave

all-counted : (accesses : List Access) → All Leaves accesses → All IsCounted accesses
all-counted accesses leave = all-weaker Leaves IsCounted accesses (λ access leaves. leaves.counted) leave

reset-accesses : (k : ℕ) (counts : Counts) (setup : DriverSetup) (values : ResetValues) (parts : ResetParts)
    → PartsAccess k counts setup values parts → All IsCounted (past_at k (whole_reset k setup parts)).accesses
reset-accesses k counts setup values parts are =
    let first = before_reset k parts in
    let later = after_steps k setup parts in
    let own = reset_of k ∷ [] in
    subst (λ (past : Past). All IsCounted past.accesses) (sym (past_join k first (reset_of k ∷ later)))
    (All-append IsCounted (past_at k first).accesses (past_at k (reset_of k ∷ later)).accesses
    (all-counted (past_at k first).accesses (first-leaves k counts setup values parts are))
    (subst (λ (past : Past). All IsCounted past.accesses) (sym (past_join k own later))
    (All-append IsCounted (past_at k own).accesses (past_at k later).accesses
    (subst (All IsCounted) (sym (access-past k (Writes CTRL (alone ctrl_rst))))
    (All-cons IsCounted (Writes CTRL (alone ctrl_rst)) [] reset-counted (all-none IsCounted)))
    (all-counted (past_at k later).accesses (later-leaves k counts setup values parts are)))))

accesses-counted : (k : ℕ) (steps : List AtomicStep) (old new : ConnectedHost) → ResetsInSteps k steps old new
    → All IsCounted (past_at k steps).accesses
accesses-counted k steps old new resets =
    subst (λ (list : List AtomicStep). All IsCounted (past_at k list).accesses) (sym resets.split)
    (reset-accesses k old.host.driver.layout old.host.driver.setup resets.values resets.parts resets.accesses)

-- The ticks of a reset

engines : (h : HostState) (world : World) → HostReady h world → EnginesRun world.adapter
engines h world ready = record { receiver = ready.ready.law.runs.receiver_runs; transmitter = ready.ready.law.runs.transmitter_runs }

-- No step is a fault, because both engines run right before CTRL.RST is written and at the end. Only the write of
-- CTRL.RST is a reset.
no-fault : (k : ℕ) (counts : Counts) (setup : DriverSetup) (values : ResetValues) (parts : ResetParts)
    (a last enabled b : List StationState)
    → PartsAccess k counts setup values parts → LeadsTo k (before_reset k parts) a last → LeadsTo k (at_rest k setup parts) last enabled
    → LeadsTo k parts.later enabled b → EnginesRun (world_at last k).adapter → EnginesRun (world_at b k).adapter
    → MeetsNoFault k (whole_reset k setup parts) a
no-fault k counts setup values parts a last enabled b are first rest behind run_first run =
    let first_steps = before_reset k parts in
    let later_steps = after_steps k setup parts in
    faultless-around-reset k k first_steps later_steps (Writes CTRL (alone ctrl_rst)) a last (after_atomic (reset_of k) last) b first
    (none-resets (past_at k first_steps).accesses (first-leaves k counts setup values parts are)) run_first
    (leads_join k (parts.resting ++ enable_of k setup ∷ []) parts.later (after_atomic (reset_of k) last) enabled b rest.2 behind)
    (none-resets (past_at k later_steps).accesses (later-leaves k counts setup values parts are)) run

pub reset-ticks : (k : ℕ) (steps : List AtomicStep) (old new : ConnectedHost) → LeadsTo k steps old.stations new.stations
    → ResetsInSteps k steps old new → AreAnswered k old.stations steps
reset-ticks k steps old new leads resets =
    let setup = old.host.driver.setup in
    let stopped = stopped_host resets.values.misses old.host in
    let at_last : HostReady stopped (world_at resets.last k) =
    record { sizes = resets.stops.goes.sizes; ready = resets.stops.goes.driver.flows.ready } in
    let faultless = no-fault k old.host.driver.layout setup resets.values resets.parts old.stations resets.last resets.enabled new.stations
    resets.accesses resets.stops.leads resets.rests.leads resets.restarts.leads
    (engines stopped (world_at resets.last k) at_last) (engines new.host (world_at new.stations k) resets.restarts.ready) in
    ticks-answered k k steps old.stations new.stations leads (accesses-counted k steps old new resets)
    (subst (λ (list : List AtomicStep). MeetsNoFault k list old.stations) (sym resets.split) faultless)

pub reset-counts : (k : ℕ) (steps : List AtomicStep) (old new : ConnectedHost) → LeadsTo k steps old.stations new.stations
    → ResetsInSteps k steps old new → counts_of (world_at new.stations k).adapter ≡ counts_at old.stations steps k
reset-counts k steps old new leads resets =
    counts-go k k steps old.stations new.stations leads (accesses-counted k steps old new resets)

-- TCTL.EN, by the accesses

abbrev written : Option Register → ℕ → Bool → Bool
written (Some Ctrl) value enabled = if is_set value ctrl_rst then false else enabled
written (Some Tctl) value enabled = is_set (bit_and value transmit_control_mask) tctl_en
written _ value enabled = enabled

abbrev accessed : List Access → Bool → Bool
accessed [] enabled = enabled
accessed (Reads offset value ∷ later) enabled = accessed later enabled
accessed (Writes offset value ∷ later) enabled = accessed later (written (register_at offset) value enabled)
accessed (Loads address size ∷ later) enabled = accessed later enabled
accessed (Stores address bytes ∷ later) enabled = accessed later enabled

accessed-append : (first later : List Access) (enabled : Bool) → accessed (first ++ later) enabled ≡ accessed later (accessed first enabled)
accessed-append [] later enabled = refl
accessed-append (Reads offset value ∷ first) later enabled = accessed-append first later enabled
accessed-append (Writes offset value ∷ first) later enabled =
    accessed-append first later (written (register_at offset) value enabled)
accessed-append (Loads address size ∷ first) later enabled = accessed-append first later enabled
accessed-append (Stores address bytes ∷ first) later enabled = accessed-append first later enabled

reset-or : (resets : Bool) (counts : HostCounts)
    → (if resets then emptied counts else counts).transmit.is_enabled ≡ (if resets then false else counts.transmit.is_enabled)
reset-or true counts = refl
reset-or false counts = refl

write-transmits : (found : Option Register) (value : ℕ) (counts : HostCounts)
    → (counts_after_write found value counts).transmit.is_enabled ≡ written found value counts.transmit.is_enabled
write-transmits None value counts = refl
write-transmits (Some Ctrl) value counts = reset-or (is_set value ctrl_rst) counts
write-transmits (Some Rctl) value counts = refl
write-transmits (Some Tctl) value counts = refl
write-transmits (Some (Receive part)) value counts = refl
write-transmits (Some (Transmit part)) value counts = refl
write-transmits (Some Eerd) value counts = refl
write-transmits (Some _) value counts = refl

no-accesses : (kind : StepKind) (answer : FrameOutcome) → (past_of_step kind answer).accesses ≡ []
no-accesses TxTake answer = refl
no-accesses TxPut answer = refl
no-accesses RxData answer = refl
no-accesses RxDone answer = refl
no-accesses EepromTick answer = refl
no-accesses PhyTick answer = refl

events-transmit : (events : List Event) (counts : HostCounts)
    → (counts_behind events counts).transmit.is_enabled ≡ accessed (past_of events).accesses counts.transmit.is_enabled
events-transmit [] counts = refl
events-transmit (Steps kind wire_free answer ∷ later) counts =
    events-transmit later (after_outcome kind answer counts)
    ∙ ap (accessed (past_of later).accesses) (sides-stay (Steps kind wire_free answer ∷ []) counts
    (subst (λ (list : List Access). All LeavesEnabled (list ++ [])) (sym (no-accesses kind answer)) (all-none LeavesEnabled))).1
    ∙ ap (λ (list : List Access). accessed (list ++ (past_of later).accesses) counts.transmit.is_enabled) (sym (no-accesses kind answer))
events-transmit (Arrives frame fate ∷ later) counts = events-transmit later (counts_after (Arrives frame fate) counts)
events-transmit (Accesses (Reads offset value) ∷ later) counts = events-transmit later counts
events-transmit (Accesses (Writes offset value) ∷ later) counts =
    events-transmit later (counts_after_write (register_at offset) value counts)
    ∙ ap (accessed (past_of later).accesses) (write-transmits (register_at offset) value counts)
events-transmit (Accesses (Loads address size) ∷ later) counts = events-transmit later counts
events-transmit (Accesses (Stores address bytes) ∷ later) counts = events-transmit later counts

accessed-clears : (first count : ℕ) (enabled : Bool) → accessed (clears_from first count) enabled ≡ enabled
accessed-clears first zero enabled = refl
accessed-clears first (suc k) enabled =
    accessed-append (clears_from first k) (clears (first + 16 * k) ∷ []) enabled ∙ accessed-clears first k enabled

accessed-last : (base bytes : ℕ) (enabled : Bool)
    → accessed (accesses_of (ring_setup_writes TDBAL base bytes ++ transmit_writes) ++ accesses_of mask_writes) enabled ≡ true
unfolding register_at
accessed-last base bytes enabled = refl

later-transmits : (counts : Counts) (enabled : Bool) → accessed (later_accesses counts) enabled ≡ true
later-transmits counts enabled =
    let base = 16 * counts.rx in
    let clear = clears_from base counts.tx in
    let ring = accesses_of (ring_setup_writes TDBAL base (16 * counts.tx) ++ transmit_writes) in
    ap (λ (list : List Access). accessed list enabled) (append_assoc clear ring (accesses_of mask_writes))
    ∙ accessed-append clear (ring ++ accesses_of mask_writes) enabled
    ∙ ap (accessed (ring ++ accesses_of mask_writes)) (accessed-clears base counts.tx enabled)
    ∙ accessed-last base (16 * counts.tx) enabled

pub reset-can : (k : ℕ) (steps : List AtomicStep) (old new : ConnectedHost) → ResetsInSteps k steps old new
    → CanAnswer (world_at new.stations k).adapter
reset-can k steps old new resets =
    let b = world_at new.stations k in
    let events = events_at k resets.parts.later in
    let counted = subst (All IsCounted) (sym resets.accesses.later)
    (all-counted (later_accesses old.host.driver.layout) (later-leave old.host.driver.layout)) in
    let goes = trail-goes events (world_at resets.enabled k) b counted
    (trail-of k k resets.parts.later resets.enabled new.stations resets.restarts.leads) in
    let before = counts_of (world_at resets.enabled k).adapter in
    record {
      receives = subst (λ (word : ℕ). HasBit word rctl_en) (sym resets.keeps.set_up.filter.receive_control_is)
          (controls old.host.driver.setup.promiscuous old.host.driver.setup.by_vlan).receives;
      transmits = set-bit b.adapter.transmit_control tctl_en
          (ap (λ (c : HostCounts). c.transmit.is_enabled) goes ∙ events-transmit events before
          ∙ ap (λ (list : List Access). accessed list before.transmit.is_enabled) resets.accesses.later
          ∙ later-transmits old.host.driver.layout before.transmit.is_enabled);
      receive = receive-valid new.host b resets.restarts.ready;
      transmit = transmit-valid new.host b resets.restarts.ready;
    }
