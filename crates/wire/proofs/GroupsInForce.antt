-- The fates of frames in a call, by the groups that its host has joined at each point.
use Rattle.std.proofs.Common.{◌≡◌, ◌==◌, ◌<◌, ◌+◌, ◌*◌, ◌++◌, ◌∷◌, [], ℕ, Bool, true, List, map, refl, sym, ap, subst, ◌∙◌}
use Rattle.std.proofs.Common.{append_assoc, arith, if◌then◌else◌, inl, inr, ⊎_elim}
use Rattle.std.specs.List.{All}
use Rattle.std.proofs.lemmas.Bool.{eq-eqb}
use Rattle.std.proofs.lemmas.Grind.{flat_map-append}
use Rattle.std.proofs.lemmas.List.{append-nil}
use Rattle.std.proofs.lemmas.List.Elements.{All-append, All-cons}
use Rattle.registers.specs.Bits.{HasBit}
use Rattle.registers.specs.Places.{rctl_en}
use Rattle.rx_filter.specs.NumberTables.{HasNumbers, numbers_of_groups}
use Rattle.rx_filter.specs.Registers.{FilterRegisters}
use Rattle.adapter.specs.State.{AdapterState}
use Rattle.adapter.specs.World.{World, world_after_write}
use Rattle.adapter.proofs.Lists.{all-head, all-none, all-tail, all-weaker}
use Rattle.adapter.specs.Pasts.{Past}
use Rattle.adapter.specs.TickGroups.{without_go}
use Rattle.adapter.specs.Trails.{past_of}
use Rattle.adapter.specs.bus_types.event.Access.{Access}
use Rattle.adapter.specs.bus_types.event.Access.TheVariants.{Loads, Reads, Stores, Writes}
use Rattle.adapter.specs.bus_types.event.Event.TheVariants.{Accesses, Arrives, Steps}
use Rattle.bring_up.specs.ConfiguredAdapters.{AreWords, FilterHasSetup, HasSetup}
use Rattle.adapter.specs.DriverState.{DriverSetup}
use Rattle.dma_memory.specs.Layout.{Counts}
use Rattle.bring_up.specs.Groups.{HasTable, SetsTable, WritesWord, word_of}
use Rattle.stations.proofs.HostTrails.{world-here}
use Rattle.stations.specs.AtomicRunLaws.{past_join}
use Rattle.stations.specs.AtomicRuns.{IsTick, LeadsTo, events_at, is_go, noted_of, past_at}
use Rattle.stations.specs.AtomicSteps.{At, AtomicStep, Idles, IsNoAccess, after_atomic, tick_of}
use Rattle.stations.specs.Stations.{StationState, world_at}
use Rattle.stations.specs.declared.tick.Tick.{Tick}
use Rattle.host_calls.proofs.Joining.{marks-append}
use Rattle.host_calls.proofs.RightFates.{changes-alone, fates-right, filter-stays, receives-append, tails-leave_reception, word-changes}
use Rattle.host_calls.proofs.ToldAround.{told-at_access, told-at_end}
use Rattle.host_calls.specs.DeliveryLaws.{MarksGroups}
use Rattle.host_calls.specs.Fates.{Joins, Mark, Quits, marks}
use Rattle.host_calls.specs.Happenings.{Happening, Joined, Left, happened_by, happened_in, of_host, tick_happenings_around}
use Rattle.host_calls.specs.Reception.{LeavesReception, ReceivesRightly, SameButGroups}
use Rattle.packet_socket.specs.HostActs.{IsOfDriver, IsTailWrite}
use Rattle.packet_socket.specs.HostCalls.{Given}
use Rattle.packet_socket.specs.HostEffects.{JoinsGroup, LeavesGroup, groups_act}
use Rattle.packet_socket.specs.HostState.{HostState}
use Rattle.host_calls.proofs.FirstAccess.{first-access, tick-accesses}
use Rattle.host_calls.proofs.HostTrails.{none-alone}
use Rattle.host_calls.specs.CallsInSteps.{InSteps}
use Rattle.host_calls.specs.CallsOfHosts.{EndsWithAccess, GroupsStay}
use Rattle.host_calls.specs.ConnectedHosts.{connected}
use Rattle.wire.specs.Equations.{HostStands}

-- From the stations `a` to `b`, the fates of host k's frames are right. At the end, the adapter has the driver's setup,
-- and MTA has exactly the bits of the joined groups.
pub record Right (k : ℕ) (happened : List Happening) (a b : List StationState) (h h' : HostState) : Type 0 where
  pub right : ReceivesRightly h.driver.groups (world_at a k).adapter (marks k happened) h'.driver.groups (world_at b k).adapter
  pub set_up : HasSetup h'.driver.setup (world_at b k).adapter
  pub table : HasTable h'.driver.groups (world_at b k)

pub same-setup : (setup other : DriverSetup) (a b : AdapterState) → SameButGroups a.filter b.filter
    → b.receive_kilobytes ≡ a.receive_kilobytes → other ≡ setup → HasSetup setup a → HasSetup other b
same-setup setup other a b filter kilobytes same has =
    subst (λ (s : DriverSetup). HasSetup s b) (sym same) (record {
      filter = subst (FilterHasSetup setup) (sym filter) (record {
        receive_control_is = has.filter.receive_control_is;
        vlans = has.filter.vlans;
        words = has.filter.words;
        address_low = has.filter.address_low;
        address_high = has.filter.address_high;
        vlan_type = has.filter.vlan_type;
      });
      allocation = kilobytes ∙ has.allocation;
    })

tail-leaves : (counts : Counts) (offset value : ℕ) → IsTailWrite counts offset value → LeavesReception (Writes offset value)
tail-leaves counts offset value is = tails-leave_reception offset value
    (⊎_elim (λ (receive : (offset ≡ Rattle.adapter.specs.model_types.offsets.TheConstants.RDT) × (value < counts.rx)). inl receive.0)
    (λ (transmit : (offset ≡ Rattle.adapter.specs.model_types.offsets.TheConstants.TDT) × (value < counts.tx)). inr transmit.0) is)

leaves : (counts : Counts) (access : Access) → IsOfDriver counts access → LeavesReception access
leaves counts (Reads offset value) is = tt
leaves counts (Writes offset value) is = tail-leaves counts offset value is
leaves counts (Loads address size) is = tt
leaves counts (Stores address bytes) is = tt

all-leave : (counts : Counts) (accesses : List Access) → All (IsOfDriver counts) accesses → All LeavesReception accesses
all-leave counts accesses are = all-weaker (IsOfDriver counts) LeavesReception accesses (leaves counts) are

same-table : (groups : List (List ℕ)) (caller k : ℕ) (steps : List AtomicStep) (a b : List StationState) → LeadsTo caller steps a b
    → All LeavesReception (past_at k steps).accesses → HasTable groups (world_at a k) → HasTable groups (world_at b k)
same-table groups caller k steps a b leads leave has =
    let same : (world_at b k).adapter.filter.mta ≡ (world_at a k).adapter.filter.mta =
    ap (λ (f : FilterRegisters). f.mta) (filter-stays caller k steps a b leads leave) in
    record {
      numbers = subst (λ (table : List ℕ). HasNumbers table (numbers_of_groups groups)) (sym same) has.numbers;
      words = subst AreWords (sym same) has.words;
    }

pub stay-right : (caller k : ℕ) (steps : List AtomicStep) (happened : List Happening) (a b : List StationState) (h h' : HostState)
    → LeadsTo caller steps a b → HostStands h (world_at a k) → GroupsStay k steps (connected h a) (connected h' b)
    → marks k happened ≡ marks k (happened_in steps) → Right k happened a b h h'
stay-right caller k steps happened a b h h' leads stands stay same =
    let groups = h.driver.groups in
    let leave = all-leave h.driver.layout (past_at k steps).accesses stay.accesses in
    let keeps = fates-right caller k steps a b groups leads leave
    stands.can.receives stands.groups.numbers in
    record {
      right =
          subst (λ (behind : List (List ℕ)). ReceivesRightly groups (world_at a k).adapter (marks k happened) behind (world_at b k).adapter)
          (sym stay.groups)
          (subst (λ (all : List Mark). ReceivesRightly groups (world_at a k).adapter all groups (world_at b k).adapter) (sym same)
          keeps.right);
      set_up = same-setup h.driver.setup h'.driver.setup (world_at a k).adapter (world_at b k).adapter keeps.right.filter
          keeps.right.kilobytes stay.setup stands.set_up;
      table = subst (λ (list : List (List ℕ)). HasTable list (world_at b k)) (sym stay.groups)
          (same-table groups caller k steps a b leads leave stands.groups);
    }

-- Steps of a call with at most one access

leads-behind : (caller : ℕ) (first later : List AtomicStep) (a m b : List StationState) → LeadsTo caller (first ++ later) a b
    → LeadsTo caller first a m → LeadsTo caller later m b
leads-behind caller [] later a m b all one = subst (λ (s : List StationState). LeadsTo caller later s b) (sym one) all
leads-behind caller (step ∷ first) later a m b all one = leads-behind caller first later (after_atomic step a) m b all.2 one.2

only-ticks : (caller : ℕ) (steps : List AtomicStep) (a b : List StationState) → LeadsTo caller steps a b
    → (past_at caller steps).accesses ≡ [] → All IsTick steps
only-ticks caller [] a b leads none = all-none IsTick
only-ticks caller (At host (Steps kind wire_free answer) ∷ later) a b leads none =
    let step = At host (Steps kind wire_free answer) in
    All-cons IsTick step later tt (only-ticks caller later (after_atomic step a) b leads.2
    (sym (tick-accesses caller step later tt) ∙ none))
only-ticks caller (At host (Arrives frame fate) ∷ later) a b leads none =
    let step = At host (Arrives frame fate) in
    All-cons IsTick step later tt (only-ticks caller later (after_atomic step a) b leads.2
    (sym (tick-accesses caller step later tt) ∙ none))
only-ticks caller (Idles tick ∷ later) a b leads none =
    All-cons IsTick (Idles tick) later leads.1 (only-ticks caller later a b leads.2 none)
only-ticks caller (At host (Accesses access) ∷ later) a b leads none =
    let here : (caller == host) ≡ true = eq-eqb caller host (sym leads.1) in
    let some : access ∷ (past_at caller later).accesses ≡ [] =
    subst (λ (c : Bool). (past_of ((if c then Accesses access ∷ [] else []) ++ events_at caller later)).accesses ≡ []) here none in
    absurd (cc some)

none-behind : (early later : List AtomicStep) (step : AtomicStep) → EndsWithAccess (early ++ step ∷ later) → All IsTick later → later ≡ []
none-behind [] [] step ends are = refl
none-behind [] (next ∷ later) step ends are = absurd (never next later ends are)
  where
    is-no_access : (tick : AtomicStep) → IsTick tick → IsNoAccess tick
    is-no_access (At host (Steps kind wire_free answer)) is = tt
    is-no_access (At host (Arrives frame fate)) is = tt
    is-no_access (At host (Accesses access)) is = absurd (cc is)
    is-no_access (Idles tick) is = tt

    never : (tick : AtomicStep) (more : List AtomicStep) → EndsWithAccess (tick ∷ more) → All IsTick (tick ∷ more) → ⊥
    never tick [] ends are = ends (is-no_access tick (all-head IsTick tick [] are))
    never tick (next ∷ more) ends are = never next more ends (all-tail IsTick tick (next ∷ more) are)
none-behind (first ∷ []) later step ends are = none-behind [] later step ends are
none-behind (first ∷ next ∷ early) later step ends are = none-behind (next ∷ early) later step ends are

-- The steps are ticks, and then this access.
record OnlyAccess (caller : ℕ) (steps : List AtomicStep) (a b : List StationState) (access : Access) : Type 0 where
  early : List AtomicStep
  middle : List StationState
  split : steps ≡ early ++ At caller (Accesses access) ∷ []
  ticks : All IsTick early
  leads : LeadsTo caller early a middle
  then_it : LeadsTo caller (At caller (Accesses access) ∷ []) middle b

only-access : (caller : ℕ) (steps : List AtomicStep) (a b : List StationState) (access : Access) → LeadsTo caller steps a b
    → (past_at caller steps).accesses ≡ access ∷ [] → EndsWithAccess steps → OnlyAccess caller steps a b access
only-access caller steps a b access leads made ends =
    let one = first-access caller steps a b access [] leads made in
    let step = At caller (Accesses access) in
    let all = subst (λ (list : List AtomicStep). LeadsTo caller list a b) one.split leads in
    let behind = leads-behind caller one.early (step ∷ one.later) a one.middle b all one.leads in
    let count : (past_at caller one.early).accesses ++ (past_at caller (step ∷ one.later)).accesses ≡ access ∷ [] =
    sym (ap (λ (past : Past). past.accesses) (past_join caller one.early (step ∷ one.later)))
    ∙ ap (λ (list : List AtomicStep). (past_at caller list).accesses) (sym one.split) ∙ made in
    let rest : (past_at caller (step ∷ one.later)).accesses ≡ access ∷ [] =
    sym (ap (λ (list : List Access). list ++ (past_at caller (step ∷ one.later)).accesses) (none-alone caller one.early one.ticks))
    ∙ count in
    let itself : (caller == caller) ≡ true = eq-eqb caller caller refl in
    let more : access ∷ (past_at caller one.later).accesses ≡ access ∷ [] =
    subst (λ (c : Bool). (past_of ((if c then Accesses access ∷ [] else []) ++ events_at caller one.later)).accesses ≡ access ∷ [])
    itself rest in
    let none : (past_at caller one.later).accesses ≡ [] = cc more in
    let are = only-ticks caller one.later (after_atomic step one.middle) b behind.2 none in
    let last = none-behind one.early one.later step (subst EndsWithAccess one.split ends) are in
    record {
      early = one.early;
      middle = one.middle;
      split = one.split ∙ ap (λ (list : List AtomicStep). one.early ++ step ∷ list) last;
      ticks = one.ticks;
      leads = one.leads;
      then_it = subst (λ (list : List AtomicStep). LeadsTo caller (step ∷ list) one.middle b) last behind;
    }

-- A call that joined or left a group

below-words : (group : List ℕ) → word_of group < 128
below-words group = omega arith

around-marks : (k : ℕ) (mark : Mark) (first middle last : List Happening) → marks k middle ≡ mark ∷ []
    → marks k (first ++ (middle ++ last)) ≡ marks k first ++ (mark ∷ [] ++ marks k last)
around-marks k mark first middle last is =
    marks-append k first (middle ++ last)
    ∙ ap (λ (list : List Mark). marks k first ++ list) (marks-append k middle last)
    ∙ ap (λ (list : List Mark). marks k first ++ (list ++ marks k last)) is

-- The join or leave writes a word of MTA. Its mark comes after the happenings of the ticks before the write.
written-right : (caller : ℕ) (mark : Mark) (middle : List Happening) (ticks : List Tick) (steps first rest : List AtomicStep)
    (a m b : List StationState) (h h' : HostState) (group : List ℕ) (made : List Access)
    → HostStands h (world_at a caller) → h'.driver.setup ≡ h.driver.setup → MarksGroups mark h.driver.groups h'.driver.groups
    → marks caller middle ≡ mark ∷ []
    → steps ≡ first ++ rest → LeadsTo caller first a m → LeadsTo caller rest m b
    → without_go is_go (map tick_of steps) ≡ without_go is_go ticks
    → (past_at caller first).accesses ≡ made → (past_at caller rest).accesses ≡ [] → EndsWithAccess first
    → WritesWord group h'.driver.groups made → HasTable h'.driver.groups (world_at m caller)
    → Right caller (tick_happenings_around middle ticks (noted_of 0 steps)) a b h h'
written-right caller mark middle ticks steps first rest a m b h h' group made stands setup changes says split leads later played made_are
    quiet ends writes has =
    let g = h.driver.groups in
    let g' = h'.driver.groups in
    let offset = 0x5200 + 4 * word_of group in
    let access = Writes offset writes.value in
    let step = At caller (Accesses access) in
    let one = only-access caller first a m access leads (made_are ∙ writes.is) ends in
    let after_ticks = only-ticks caller rest m b later quiet in
    let w = world_at one.middle caller in
    let world : world_at m caller ≡ world_after_write offset writes.value w =
    ap (λ (s : List StationState). world_at s caller) one.then_it.2
    ∙ world-here one.middle caller (Accesses access) (eq-eqb caller caller refl) one.then_it.0 in
    let before = fates-right caller caller one.early a one.middle g one.leads
    (subst (λ (list : List Access). All LeavesReception list) (sym (none-alone caller one.early one.ticks)) (all-none LeavesReception))
    stands.can.receives stands.groups.numbers in
    let written = subst (λ (v : World). ReceivesRightly g w.adapter (mark ∷ []) g' v.adapter) (sym world)
    (word-changes mark (word_of group) writes.value g g' w changes (below-words group)) in
    let enabled : HasBit (world_at m caller).adapter.filter.rctl rctl_en =
    subst (λ (word : ℕ). HasBit word rctl_en)
    (sym (ap (λ (f : FilterRegisters). f.rctl) written.filter ∙ ap (λ (f : FilterRegisters). f.rctl) before.right.filter))
    stands.can.receives in
    let leave = subst (λ (list : List Access). All LeavesReception list) (sym quiet) (all-none LeavesReception) in
    let behind = fates-right caller caller rest m b g' later leave enabled has.numbers in
    let whole : steps ≡ one.early ++ step ∷ rest =
    split ∙ ap (λ (list : List AtomicStep). list ++ rest) one.split ∙ append_assoc one.early (step ∷ []) rest in
    let said : tick_happenings_around middle ticks (noted_of 0 steps) ≡ happened_in one.early ++ (middle ++ happened_in rest) =
    ap (λ (list : List AtomicStep). tick_happenings_around middle ticks (noted_of 0 list)) whole
    ∙ told-at_access caller ticks access one.early rest middle one.ticks after_ticks
    (ap (λ (list : List AtomicStep). without_go is_go (map tick_of list)) (sym whole) ∙ played) in
    let right : ReceivesRightly g (world_at a caller).adapter (marks caller (tick_happenings_around middle ticks (noted_of 0 steps))) g'
    (world_at b caller).adapter =
    subst (λ (all : List Mark). ReceivesRightly g (world_at a caller).adapter all g' (world_at b caller).adapter)
    (sym (ap (marks caller) said ∙ around-marks caller mark (happened_in one.early) middle (happened_in rest) says))
    (receives-append g g g' (world_at a caller).adapter w.adapter (world_at b caller).adapter (marks caller (happened_in one.early))
    (mark ∷ [] ++ marks caller (happened_in rest)) before.right
    (receives-append g g' g' w.adapter (world_at m caller).adapter (world_at b caller).adapter (mark ∷ [])
    (marks caller (happened_in rest)) written behind.right)) in
    record {
      right = right;
      set_up = same-setup h.driver.setup h'.driver.setup (world_at a caller).adapter (world_at b caller).adapter right.filter
          right.kilobytes setup stands.set_up;
      table = same-table g' caller caller rest m b later leave has;
    }

-- The join or leave makes no access, so its mark comes after the happenings of all ticks.
shared-right : (caller : ℕ) (mark : Mark) (middle : List Happening) (ticks : List Tick) (steps first rest : List AtomicStep)
    (a m b : List StationState) (h h' : HostState)
    → HostStands h (world_at a caller) → h'.driver.setup ≡ h.driver.setup → MarksGroups mark h.driver.groups h'.driver.groups
    → marks caller middle ≡ mark ∷ []
    → steps ≡ first ++ rest → LeadsTo caller first a m → LeadsTo caller rest m b
    → without_go is_go (map tick_of steps) ≡ without_go is_go ticks
    → (past_at caller first).accesses ≡ [] → (past_at caller rest).accesses ≡ []
    → HasTable h'.driver.groups (world_at m caller)
    → Right caller (tick_happenings_around middle ticks (noted_of 0 steps)) a b h h'
shared-right caller mark middle ticks steps first rest a m b h h' stands setup changes says split leads later played none quiet has =
    let g = h.driver.groups in
    let g' = h'.driver.groups in
    let free = all-none LeavesReception in
    let early = fates-right caller caller first a m g leads (subst (λ (list : List Access). All LeavesReception list) (sym none) free)
    stands.can.receives stands.groups.numbers in
    let enabled : HasBit (world_at m caller).adapter.filter.rctl rctl_en =
    subst (λ (word : ℕ). HasBit word rctl_en) (sym (ap (λ (f : FilterRegisters). f.rctl) early.right.filter)) stands.can.receives in
    let leave = subst (λ (list : List Access). All LeavesReception list) (sym quiet) free in
    let late = fates-right caller caller rest m b g later leave enabled early.has in
    let are : All IsTick steps =
    subst (λ (list : List AtomicStep). All IsTick list) (sym split)
    (All-append IsTick first rest (only-ticks caller first a m leads none) (only-ticks caller rest m b later quiet)) in
    let said : tick_happenings_around middle ticks (noted_of 0 steps) ≡ (happened_in first ++ happened_in rest) ++ middle =
    told-at_end ticks steps middle are played
    ∙ ap (λ (list : List AtomicStep). happened_in list ++ middle) split
    ∙ ap (λ (list : List Happening). list ++ middle) (flat_map-append happened_by first rest) in
    let right : ReceivesRightly g (world_at a caller).adapter (marks caller (tick_happenings_around middle ticks (noted_of 0 steps))) g'
    (world_at b caller).adapter =
    subst (λ (all : List Mark). ReceivesRightly g (world_at a caller).adapter all g' (world_at b caller).adapter)
    (sym (ap (marks caller) said ∙ marks-append caller (happened_in first ++ happened_in rest) middle
    ∙ ap (λ (list : List Mark). list ++ marks caller middle) (marks-append caller (happened_in first) (happened_in rest))
    ∙ ap (λ (list : List Mark). (marks caller (happened_in first) ++ marks caller (happened_in rest)) ++ list) says))
    (receives-append g g g' (world_at a caller).adapter (world_at b caller).adapter (world_at b caller).adapter
    (marks caller (happened_in first) ++ marks caller (happened_in rest)) (mark ∷ [])
    (receives-append g g g (world_at a caller).adapter (world_at m caller).adapter (world_at b caller).adapter
    (marks caller (happened_in first)) (marks caller (happened_in rest)) early.right late.right)
    (changes-alone mark g g' (world_at b caller).adapter changes)) in
    record {
      right = right;
      set_up = same-setup h.driver.setup h'.driver.setup (world_at a caller).adapter (world_at b caller).adapter right.filter
          right.kilobytes setup stands.set_up;
      table = same-table g' caller caller rest m b later leave has;
    }

-- In these steps, a host in the state `h` makes a call, while the ticks of the call are played.
pub record InCall (caller : ℕ) (ticks : List Tick) (steps : List AtomicStep) (a b : List StationState) (h : HostState) : Type 0 where
  pub stands : HostStands h (world_at a caller)
  pub leads : LeadsTo caller steps a b
  pub played : without_go is_go (map tick_of steps) ≡ without_go is_go ticks

changed : {caller : ℕ} {ticks : List Tick} {steps : List AtomicStep} {a b : List StationState} {h : HostState} (mark : Mark)
    (middle : List Happening) (h' : HostState) (given : List Given) (kept : List (List ℕ)) (group : List ℕ) (made : List Access)
    → InCall caller ticks steps a b h → h'.driver.setup ≡ h.driver.setup → MarksGroups mark h.driver.groups h'.driver.groups
    → marks caller middle ≡ mark ∷ [] → SetsTable kept group h'.driver.groups made
    → InSteps caller given steps (connected h a) (connected h' b) (groups_act h h' made)
    → Right caller (tick_happenings_around middle ticks (noted_of 0 steps)) a b h h'
changed {caller} {ticks} {steps} {a} {b} {h} mark middle h' given kept group made call setup changes says sets runs =
    let stands = call.stands in
    let played = call.played in
    let stage = runs.stages in
    let later = leads-behind caller stage.first stage.rest a stage.middle b
    (subst (λ (list : List AtomicStep). LeadsTo caller list a b) stage.split call.leads) stage.leads in
    elim sets [
      | inl shared ↦
          shared-right caller mark middle ticks steps stage.first stage.rest a stage.middle b h h' stands setup changes says stage.split
          stage.leads later played (stage.made_are ∙ shared.1) stage.later (stage.holds stands.groups)
      | inr writes ↦
          written-right caller mark middle ticks steps stage.first stage.rest a stage.middle b h h' group made stands setup changes says
          stage.split stage.leads later played stage.made_are stage.later stage.ends writes.1 (stage.holds stands.groups)
    ]

itself : {T : Type 0} (k : ℕ) (list : List T) → of_host k k list ≡ list
itself k list = ap (λ (here : Bool). if here then list else []) (eq-eqb k k refl)

pub joined-right : {caller : ℕ} {ticks : List Tick} {steps : List AtomicStep} {a b : List StationState} {h : HostState} (group : List ℕ)
    (h' : HostState) (given : List Given) → InCall caller ticks steps a b h
    → JoinsGroup group h h' (InSteps caller given steps (connected h a) (connected h' b))
    → Right caller (tick_happenings_around (Joined caller group ∷ []) ticks (noted_of 0 steps)) a b h h'
joined-right {caller} {h = h} group h' given call it =
    changed (Joins group) (Joined caller group ∷ []) h' given h.driver.groups group it.accesses call
    (ap (λ (host : HostState). host.driver.setup) it.joined) (ap (λ (host : HostState). host.driver.groups) it.joined)
    (append-nil _ ∙ itself caller (Joins group ∷ [])) it.sets it.runs

pub left-right : {caller : ℕ} {ticks : List Tick} {steps : List AtomicStep} {a b : List StationState} {h : HostState} (group : List ℕ)
    (h' : HostState) (given : List Given) → InCall caller ticks steps a b h
    → LeavesGroup group h h' (InSteps caller given steps (connected h a) (connected h' b))
    → Right caller (tick_happenings_around (Left caller group ∷ []) ticks (noted_of 0 steps)) a b h h'
left-right {caller} group h' given call it =
    changed (Quits group) (Left caller group ∷ []) h' given h'.driver.groups group it.accesses call
    (ap (λ (host : HostState). host.driver.setup) it.others) it.left (append-nil _ ∙ itself caller (Quits group ∷ [])) it.sets it.runs
