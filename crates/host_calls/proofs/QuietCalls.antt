-- Calls in which no tick is played: their steps are accesses of the calling host's driver, and don't change the receive
-- engine.
use Rattle.std.specs.Bool.{⊤}
use Rattle.std.proofs.Common.{◌≡◌, ◌≢◌, ◌<◌, ◌⊎◌, ◌==◌, ◌++◌, ◌∷◌, [], ℕ, Bool, true, false, List, map, inl, inr, ⊎_elim}
use Rattle.std.proofs.Common.{if◌then◌else◌, refl, sym, ap, subst, ◌∙◌}
use Rattle.std.specs.List.{All}
use Rattle.std.proofs.lemmas.Bool.Decides.{eqb_tells}
use Rattle.std.proofs.lemmas.List.Elements.{All-cons}
use Rattle.adapter.specs.State.{AdapterState}
use Rattle.adapter.specs.Registers.{after_read, after_write}
use Rattle.adapter.specs.Table.{register_at}
use Rattle.adapter.specs.World.{World}
use Rattle.adapter.specs.model_types.offsets.TheConstants.{ICR, MPC, RDT, TDT}
use Rattle.adapter.proofs.Lists.{all-head, all-none, all-tail}
use Rattle.adapter.specs.TickGroups.{without_go}
use Rattle.adapter.specs.Trails.{Trail, past_of, world_after_access}
use Rattle.adapter.specs.bus_types.event.Access.{Access}
use Rattle.adapter.specs.bus_types.event.Access.TheVariants.{Loads, Reads, Stores, Writes}
use Rattle.adapter.specs.bus_types.event.Event.{Event}
use Rattle.adapter.specs.bus_types.event.Event.TheVariants.{Accesses, Arrives, Steps}
use Rattle.dma_memory.specs.Layout.{Counts}
use Rattle.stations.specs.AtomicSteps.{At, AtomicStep, Idles, after_atomic, tick_of}
use Rattle.stations.specs.Stations.{StationState}
use Rattle.stations.specs.declared.tick.Tick.TheVariants.{Deliver, Go, Step}
use Rattle.stations.specs.declared.tick.Tick.{Tick}
use Rattle.stations.specs.AtomicRuns.{LeadsTo, events_at, is_go}
use Rattle.host_calls.specs.Happenings.{happened_in}
use Rattle.packet_socket.specs.HostActs.{IsOfDriver, IsTailWrite}
use Rattle.host_calls.specs.DrainedHosts.{IsDrainStep}

-- The receive engine, the filter and the mask of causes don't change. The recorded causes don't change or are all
-- cleared.
pub record LeavesEngine (a b : AdapterState) : Type 0 where
  pub receiver : b.receiver ≡ a.receiver
  pub filter : b.filter ≡ a.filter
  pub mask : b.causes.mask ≡ a.causes.mask
  pub recorded : (b.causes.recorded ≡ a.causes.recorded) ⊎ (b.causes.recorded ≡ 0)

leaves-none : (a b : AdapterState) → b ≡ a → LeavesEngine a b
leaves-none a b same = record {
  receiver = ap (λ (s : AdapterState). s.receiver) same;
  filter = ap (λ (s : AdapterState). s.filter) same;
  mask = ap (λ (s : AdapterState). s.causes.mask) same;
  recorded = inl (ap (λ (s : AdapterState). s.causes.recorded) same);
}

leaves-join : (a b c : AdapterState) → LeavesEngine a b → LeavesEngine b c → LeavesEngine a c
leaves-join a b c one two = record {
  receiver = two.receiver ∙ one.receiver;
  filter = two.filter ∙ one.filter;
  mask = two.mask ∙ one.mask;
  recorded = ⊎_elim
      (λ (stays : c.causes.recorded ≡ b.causes.recorded). ⊎_elim
      (λ (same : b.causes.recorded ≡ a.causes.recorded). inl (stays ∙ same))
      (λ (none : b.causes.recorded ≡ 0). inr (stays ∙ none)) one.recorded)
      (λ (none : c.causes.recorded ≡ 0). inr none) two.recorded;
}

-- One access

read-leaves : (offset : ℕ) (state : AdapterState) → (offset ≡ ICR) ⊎ (offset ≡ MPC) → LeavesEngine state (after_read offset state)
unfolding register_at
read-leaves offset state is = ⊎_elim
    (λ (icr : offset ≡ ICR). subst (λ (o : ℕ). LeavesEngine state (after_read o state)) (sym icr)
    (record { receiver = refl; filter = refl; mask = refl; recorded = inr refl }))
    (λ (mpc : offset ≡ MPC). subst (λ (o : ℕ). LeavesEngine state (after_read o state)) (sym mpc)
    (record { receiver = refl; filter = refl; mask = refl; recorded = inl refl })) is

write-leaves : (counts : Counts) (offset value : ℕ) (state : AdapterState) → IsTailWrite counts offset value
    → LeavesEngine state (after_write offset value state)
unfolding register_at
write-leaves counts offset value state is = ⊎_elim
    (λ (receive : (offset ≡ RDT) × (value < counts.rx)). subst (λ (o : ℕ). LeavesEngine state (after_write o value state)) (sym receive.0)
    (record { receiver = refl; filter = refl; mask = refl; recorded = inl refl }))
    (λ (transmit : (offset ≡ TDT) × (value < counts.tx)). subst (λ (o : ℕ). LeavesEngine state (after_write o value state)) (sym transmit.0)
    (record { receiver = refl; filter = refl; mask = refl; recorded = inl refl })) is

access-leaves : (counts : Counts) (access : Access) (world : World) → IsOfDriver counts access
    → LeavesEngine world.adapter (world_after_access access world).adapter
access-leaves counts (Reads offset value) world is = read-leaves offset world.adapter is
access-leaves counts (Writes offset value) world is = write-leaves counts offset value world.adapter is
access-leaves counts (Loads address size) world is = leaves-none world.adapter world.adapter refl
access-leaves counts (Stores address bytes) world is = leaves-none world.adapter world.adapter refl

read-clears : (state : AdapterState) → (after_read ICR state).causes.recorded ≡ 0
unfolding register_at
read-clears state = refl

-- Trails of accesses

abbrev pub IsAccess : Event → Type 0
IsAccess (Steps kind wire_free answer) = ⊥
IsAccess (Arrives frame fate) = ⊥
IsAccess (Accesses access) = ⊤

pub trail-leaves : (counts : Counts) (events : List Event) (a b : World) → All IsAccess events
    → All (IsOfDriver counts) (past_of events).accesses → Trail events a b → LeavesEngine a.adapter b.adapter
trail-leaves counts [] a b are own trail = leaves-none a.adapter b.adapter (ap (λ (w : World). w.adapter) trail)
trail-leaves counts (Steps kind wire_free answer ∷ later) a b are own trail =
    absurd (all-head IsAccess (Steps kind wire_free answer) later are)
trail-leaves counts (Arrives frame fate ∷ later) a b are own trail = absurd (all-head IsAccess (Arrives frame fate) later are)
trail-leaves counts (Accesses access ∷ later) a b are own trail =
    leaves-join a.adapter (world_after_access access a).adapter b.adapter
    (access-leaves counts access a (all-head (IsOfDriver counts) access (past_of later).accesses own))
    (trail-leaves counts later (world_after_access access a) b (all-tail IsAccess (Accesses access) later are)
    (all-tail (IsOfDriver counts) access (past_of later).accesses own) trail.1)

pub trail-clears : (counts : Counts) (first : List Event) (causes : ℕ) (later : List Event) (a b : World)
    → All IsAccess (first ++ Accesses (Reads ICR causes) ∷ later)
    → All (IsOfDriver counts) (past_of (first ++ Accesses (Reads ICR causes) ∷ later)).accesses
    → Trail (first ++ Accesses (Reads ICR causes) ∷ later) a b → b.adapter.causes.recorded ≡ 0
trail-clears counts [] causes later a b are own trail =
    let middle = world_after_access (Reads ICR causes) a in
    let leaves = trail-leaves counts later middle b (all-tail IsAccess (Accesses (Reads ICR causes)) later are)
    (all-tail (IsOfDriver counts) (Reads ICR causes) (past_of later).accesses own) trail.1 in
    ⊎_elim (λ (stays : b.adapter.causes.recorded ≡ middle.adapter.causes.recorded). stays ∙ read-clears a.adapter)
    (λ (none : b.adapter.causes.recorded ≡ 0). none) leaves.recorded
trail-clears counts (Steps kind wire_free answer ∷ first) causes later a b are own trail =
    absurd (all-head IsAccess (Steps kind wire_free answer) (first ++ Accesses (Reads ICR causes) ∷ later) are)
trail-clears counts (Arrives frame fate ∷ first) causes later a b are own trail =
    absurd (all-head IsAccess (Arrives frame fate) (first ++ Accesses (Reads ICR causes) ∷ later) are)
trail-clears counts (Accesses access ∷ first) causes later a b are own trail =
    trail-clears counts first causes later (world_after_access access a) b
    (all-tail IsAccess (Accesses access) (first ++ Accesses (Reads ICR causes) ∷ later) are)
    (all-tail (IsOfDriver counts) access (past_of (first ++ Accesses (Reads ICR causes) ∷ later)).accesses own) trail.1

-- Steps of a call without ticks

-- the atomic step is an access of the host `caller`
abbrev pub IsAccessAt : (caller : ℕ) → AtomicStep → Type 0
IsAccessAt caller (At host (Steps kind wire_free answer)) = ⊥
IsAccessAt caller (At host (Arrives frame fate)) = ⊥
IsAccessAt caller (At host (Accesses access)) = host ≡ caller
IsAccessAt caller (Idles tick) = ⊥

idle-none : (tick : Tick) (later : List Tick) → is_go tick ≡ false → without_go is_go (tick ∷ later) ≡ [] → ⊥
idle-none Go later not none = absurd (cc)
idle-none (Step host kind) later not none = absurd (cc)
idle-none (Deliver host) later not none = absurd (cc)

pub accesses-alone : (caller : ℕ) (steps : List AtomicStep) (a b : List StationState) → LeadsTo caller steps a b
    → without_go is_go (map tick_of steps) ≡ [] → All (IsAccessAt caller) steps
accesses-alone caller [] a b leads none = all-none (IsAccessAt caller)
accesses-alone caller (At host (Steps kind wire_free answer) ∷ later) a b leads none = absurd (cc none)
accesses-alone caller (At host (Arrives frame fate) ∷ later) a b leads none = absurd (cc none)
accesses-alone caller (At host (Accesses access) ∷ later) a b leads none =
    All-cons (IsAccessAt caller) (At host (Accesses access)) later leads.1
    (accesses-alone caller later (after_atomic (At host (Accesses access)) a) b leads.2 none)
accesses-alone caller (Idles tick ∷ later) a b leads none = absurd (idle-none tick (map tick_of later) leads.1 none)

pub drain-steps : (caller : ℕ) (steps : List AtomicStep) → All (IsAccessAt caller) steps → All (IsDrainStep caller) steps
drain-steps caller [] are = all-none (IsDrainStep caller)
drain-steps caller (At host (Steps kind wire_free answer) ∷ later) are =
    absurd (all-head (IsAccessAt caller) (At host (Steps kind wire_free answer)) later are)
drain-steps caller (At host (Arrives frame fate) ∷ later) are =
    absurd (all-head (IsAccessAt caller) (At host (Arrives frame fate)) later are)
drain-steps caller (At host (Accesses access) ∷ later) are =
    All-cons (IsDrainStep caller) (At host (Accesses access)) later
    (all-head (IsAccessAt caller) (At host (Accesses access)) later are)
    (drain-steps caller later (all-tail (IsAccessAt caller) (At host (Accesses access)) later are))
drain-steps caller (Idles tick ∷ later) are = absurd (all-head (IsAccessAt caller) (Idles tick) later are)

pub nothing-happened : (caller : ℕ) (steps : List AtomicStep) → All (IsAccessAt caller) steps → happened_in steps ≡ []
nothing-happened caller [] are = refl
nothing-happened caller (At host (Steps kind wire_free answer) ∷ later) are =
    absurd (all-head (IsAccessAt caller) (At host (Steps kind wire_free answer)) later are)
nothing-happened caller (At host (Arrives frame fate) ∷ later) are =
    absurd (all-head (IsAccessAt caller) (At host (Arrives frame fate)) later are)
nothing-happened caller (At host (Accesses access) ∷ later) are =
    nothing-happened caller later (all-tail (IsAccessAt caller) (At host (Accesses access)) later are)
nothing-happened caller (Idles tick ∷ later) are = absurd (all-head (IsAccessAt caller) (Idles tick) later are)

pub events-here : (caller k : ℕ) (steps : List AtomicStep) → All (IsAccessAt caller) steps → All IsAccess (events_at k steps)
events-here caller k [] are = all-none IsAccess
events-here caller k (At host (Steps kind wire_free answer) ∷ later) are =
    absurd (all-head (IsAccessAt caller) (At host (Steps kind wire_free answer)) later are)
events-here caller k (At host (Arrives frame fate) ∷ later) are =
    absurd (all-head (IsAccessAt caller) (At host (Arrives frame fate)) later are)
events-here caller k (At host (Accesses access) ∷ later) are =
    chosen (k == host) (events-here caller k later (all-tail (IsAccessAt caller) (At host (Accesses access)) later are))
  where
    chosen : (here : Bool) → All IsAccess (events_at k later)
        → All IsAccess ((if here then Accesses access ∷ [] else []) ++ events_at k later)
    chosen true rest = All-cons IsAccess (Accesses access) (events_at k later) tt rest
    chosen false rest = rest
events-here caller k (Idles tick ∷ later) are = absurd (all-head (IsAccessAt caller) (Idles tick) later are)

pub events-elsewhere : (caller k : ℕ) (steps : List AtomicStep) → k ≢ caller → All (IsAccessAt caller) steps → events_at k steps ≡ []
events-elsewhere caller k [] other are = refl
events-elsewhere caller k (At host (Steps kind wire_free answer) ∷ later) other are =
    absurd (all-head (IsAccessAt caller) (At host (Steps kind wire_free answer)) later are)
events-elsewhere caller k (At host (Arrives frame fate) ∷ later) other are =
    absurd (all-head (IsAccessAt caller) (At host (Arrives frame fate)) later are)
events-elsewhere caller k (At host (Accesses access) ∷ later) other are =
    let rest = events-elsewhere caller k later other (all-tail (IsAccessAt caller) (At host (Accesses access)) later are) in
    let here : host ≡ caller = all-head (IsAccessAt caller) (At host (Accesses access)) later are in
    elim (eqb_tells k host) [
      | inl same ↦ absurd (other (same.1 ∙ here))
      | inr differ ↦ subst (λ (there : Bool). (if there then Accesses access ∷ [] else []) ++ events_at k later ≡ []) (sym differ.0) rest
    ]
events-elsewhere caller k (Idles tick ∷ later) other are = absurd (all-head (IsAccessAt caller) (Idles tick) later are)
