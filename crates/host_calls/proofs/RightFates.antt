-- The fates of frames that reach a host are right in atomic steps whose accesses don't change how the host receives.
use Rattle.std.proofs.Common.{◌≡◌, ◌<◌, ◌⊎◌, ◌+◌, ◌*◌, ◌++◌, ◌∷◌, [], ℕ, Bool, true, false, Option, Some, None, List, All, drop}
use Rattle.std.proofs.Common.{inl, inr, refl, subst, sym, ap, ◌∙◌}
use Rattle.std.proofs.lemmas.List.{append-nil}
use Rattle.std.specs.List.{flat_map}
use Rattle.std.specs.Prelude.{IfSome}
use Rattle.registers.specs.Bits.{HasBit}
use Rattle.registers.specs.Places.{rctl_en}
use Rattle.eeprom.specs.Eerd.{is_pending}
use Rattle.mdic_phy.specs.Mdic as mdi
use Rattle.mdic_phy.specs.declared.mdic.Ticked.{Ticked}
use Rattle.rx_engine.specs.declared.arrival.Fate.{Fate}
use Rattle.rx_engine.specs.declared.arrival.Fate.TheVariants.{Off, Illegal, Filtered, Missed, Stored}
use Rattle.rx_engine.specs.Arriving.{kept}
use Rattle.rx_filter.specs.Laws.{Passes-same, SameSets, SameSets-sym}
use Rattle.rx_filter.specs.NumberTables.{HasNumbers, numbers_of_groups}
use Rattle.rx_filter.specs.Passing.{Passes, ReceiveFilter}
use Rattle.rx_filter.specs.Registers.{FilterRegisters, filter_of}
use Rattle.adapter.specs.Receiving.{IsFate, after_arrive, room}
use Rattle.adapter.specs.Registers.{left_by_read, left_by_write, read_of, write_of}
use Rattle.adapter.specs.State.{AdapterState}
use Rattle.adapter.specs.Steps.{Answers, after_phy_told, ticked}
use Rattle.adapter.specs.Table.{register_at}
use Rattle.adapter.specs.TableLaws.{register_at-mta}
use Rattle.adapter.specs.World.{World, world_after_write}
use Rattle.adapter.specs.model_types.offsets.TheConstants.{RDT, TDT}
use Rattle.adapter.specs.model_types.register.Register.{Register}
use Rattle.adapter.specs.model_types.register.Register.TheVariants.{Icr, Ims, Mta, Receive, Tctl, Transmit}
use Rattle.adapter.specs.model_types.register.RingRegister.{RingRegister}
use Rattle.adapter.specs.model_types.register.RingRegister.TheVariants.{Tail}
use Rattle.adapter.specs.model_types.step.StepKind.{StepKind}
use Rattle.adapter.specs.model_types.step.StepKind.TheVariants.{EepromTick, PhyTick, RxData, RxDone, TxPut, TxTake}
use Rattle.adapter.specs.Outcomes.{FrameOutcome}
use Rattle.adapter.specs.model_types.outcome.Outcome.TheVariants as outcome
use Rattle.adapter.proofs.Accesses.{at_offset}
use Rattle.adapter.proofs.Lists.{all-head, all-left, all-right}
use Rattle.adapter.specs.StepsAndArrivals.{world_after_step}
use Rattle.adapter.specs.Trails.{Occurs, Trail, past_of, past_of_event, world_after}
use Rattle.adapter.specs.bus_types.event.Access.{Access}
use Rattle.adapter.specs.bus_types.event.Access.TheVariants.{Loads, Reads, Stores, Writes}
use Rattle.adapter.specs.bus_types.event.Event.{Event}
use Rattle.adapter.specs.bus_types.event.Event.TheVariants.{Accesses, Arrives, Steps}
use Rattle.stations.specs.Stations.{world_at}
use Rattle.stations.proofs.HostTrails.{trail-of}
use Rattle.stations.specs.AtomicRuns.{events_at}
use Rattle.host_calls.proofs.HostLists.{marks-told, marks_in, marks_of_answer}
use Rattle.host_calls.proofs.Joining.{fates-append}
use Rattle.host_calls.specs.DeliveryLaws.{MarksGroups, FatesAreRight, FilterStays, GroupsChangeAlone, KeepsReceiving, WritesChangeGroups}
use Rattle.host_calls.specs.Fates.{AreRightFates, Came, Emptied, IsRightFate, Joins, KeepsGroups, Mark, Quits, Reception, SwitchedOff}
use Rattle.host_calls.specs.Fates.{SwitchedOn, Went, in_force, reception}
use Rattle.host_calls.specs.Reception.{IsNotOfReception, LeavesReception, ReceivesRightly, SameButGroups}

-- Receptions join

-- MTA has exactly the bits of the joined groups.
abbrev Has : List (List ℕ) → AdapterState → Type 0
Has groups a = HasNumbers a.filter.mta (numbers_of_groups groups)

-- If the filter registers are the same except MTA, the right fates are the same, because `in_force` doesn't use MTA.
judged-alike : (a b : FilterRegisters) (room : ℕ) (now final : Reception) (all : List Mark) → SameButGroups a b
    → AreRightFates b room now all final → AreRightFates a room now all final
unfolding filter_of
judged-alike a b room now final [] same are = are
judged-alike a b room now final (Came frame fate ∷ later) same are = (
  subst (λ (filter : ReceiveFilter). IsRightFate filter room now.enabled now.buffered frame fate)
      (ap (λ (registers : FilterRegisters). in_force registers now.groups) same) are.0,
  judged-alike a b room (record now { buffered = now.buffered ++ kept fate frame }) final later same are.1,
)
judged-alike a b room now final (Went ∷ later) same are =
    (are.0, are.1, judged-alike a b room (record now { buffered = drop 1 now.buffered }) final later same are.2)
judged-alike a b room now final (Joins group ∷ later) same are =
    judged-alike a b room (record now { groups = now.groups ++ group ∷ [] }) final later same are
judged-alike a b room now final (Quits group ∷ later) same are =
    (are.0, are.1, judged-alike a b room (record now { groups = are.0 }) final later same are.2)
judged-alike a b room now final (SwitchedOff ∷ later) same are =
    judged-alike a b room (record now { enabled = false }) final later same are
judged-alike a b room now final (SwitchedOn ∷ later) same are =
    judged-alike a b room (record now { enabled = true }) final later same are
judged-alike a b room now final (Emptied ∷ later) same are =
    judged-alike a b room (record now { buffered = [] }) final later same are

others-join : (a b c : FilterRegisters) → SameButGroups a b → SameButGroups b c → SameButGroups a c
others-join a b c one two = two ∙ ap (λ (r : FilterRegisters). let f : FilterRegisters = record r { mta = c.mta } in f) one

pub receives-none : (groups : List (List ℕ)) (a : AdapterState) → ReceivesRightly groups a [] groups a
receives-none groups a = record { filter = refl; unchanged = λ keeps. refl; kilobytes = refl; fates = refl }

keeps-first : (first later : List Mark) → KeepsGroups (first ++ later) → KeepsGroups first
keeps-first [] later keeps = tt
keeps-first (Joins group ∷ first) later keeps = keeps
keeps-first (Quits group ∷ first) later keeps = keeps
keeps-first (mark ∷ first) later keeps = keeps-first first later keeps

keeps-later : (first later : List Mark) → KeepsGroups (first ++ later) → KeepsGroups later
keeps-later [] later keeps = keeps
keeps-later (Joins group ∷ first) later keeps = absurd keeps
keeps-later (Quits group ∷ first) later keeps = absurd keeps
keeps-later (mark ∷ first) later keeps = keeps-later first later keeps

pub receives-append : (g1 g2 g3 : List (List ℕ)) (a b c : AdapterState) (first later : List Mark) → ReceivesRightly g1 a first g2 b
    → ReceivesRightly g2 b later g3 c → ReceivesRightly g1 a (first ++ later) g3 c
receives-append g1 g2 g3 a b c first later one two = record {
  filter = others-join a.filter b.filter c.filter one.filter two.filter;
  unchanged = λ keeps. two.unchanged (keeps-later first later keeps) ∙ one.unchanged (keeps-first first later keeps);
  kilobytes = two.kilobytes ∙ one.kilobytes;
  fates =
      fates-append a.filter (room a) (reception g1 a.receiver.buffer) (reception g2 b.receiver.buffer) (reception g3 c.receiver.buffer)
      first later one.fates
      (judged-alike a.filter b.filter (room a) (reception g2 b.receiver.buffer) (reception g3 c.receiver.buffer) later one.filter
      (subst (λ (n : ℕ). AreRightFates b.filter (n * 1024) (reception g2 b.receiver.buffer) later (reception g3 c.receiver.buffer))
      one.kilobytes two.fates));
}

same : (groups : List (List ℕ)) (a b : AdapterState) → b.filter ≡ a.filter → b.receive_kilobytes ≡ a.receive_kilobytes
    → b.receiver.buffer ≡ a.receiver.buffer → ReceivesRightly groups a [] groups b
same groups a b filter kilobytes buffer = record {
  filter =
      filter
      ∙ ap (λ (table : List ℕ). let f : FilterRegisters = record a.filter { mta = table } in f)
      (sym (ap (λ (f : FilterRegisters). f.mta) filter));
  unchanged = λ keeps. filter;
  kilobytes = kilobytes;
  fates = ap (reception groups) buffer;
}

-- Steps

phy-receives : (groups : List (List ℕ)) (told : Option Ticked) (a : AdapterState)
    → ReceivesRightly groups a [] groups (after_phy_told told a)
phy-receives groups None a = receives-none groups a
phy-receives groups (Some told) a = same groups a (after_phy_told (Some told) a) refl refl refl

never-moved : (works : Bool) → outcome.Moved ≡ ticked works → ⊥
never-moved true is = absurd (cc)
never-moved false is = absurd (cc)

pub step-receives : (groups : List (List ℕ)) (kind : StepKind) (wire_free : Bool) (answer : FrameOutcome) (w : World)
    → Answers kind wire_free w.memory w.adapter answer
    → ReceivesRightly groups w.adapter (marks_of_answer answer) groups (world_after_step kind answer w).adapter
step-receives groups TxTake wire_free outcome.Moved w answers = absurd answers
step-receives groups TxTake wire_free outcome.Took w answers = same groups w.adapter _ refl refl refl
step-receives groups TxTake wire_free outcome.Fault w answers = same groups w.adapter _ refl refl refl
step-receives groups TxTake wire_free _ w answers = receives-none groups w.adapter
step-receives groups TxPut wire_free outcome.Moved w answers = absurd answers
step-receives groups TxPut wire_free (outcome.Put frame) w answers = same groups w.adapter _ refl refl refl
step-receives groups TxPut wire_free _ w answers = receives-none groups w.adapter
step-receives groups RxData wire_free outcome.Moved w answers = record {
  filter = refl;
  unchanged = λ keeps. refl;
  kilobytes = refl;
  fates = (answers.0.ready.frames, refl, refl);
}
step-receives groups RxData wire_free outcome.Part w answers = same groups w.adapter _ refl refl refl
step-receives groups RxData wire_free outcome.Fault w answers = same groups w.adapter _ refl refl refl
step-receives groups RxData wire_free _ w answers = receives-none groups w.adapter
step-receives groups RxDone wire_free outcome.Moved w answers = absurd answers
step-receives groups RxDone wire_free outcome.Done w answers = same groups w.adapter _ refl refl refl
step-receives groups RxDone wire_free _ w answers = receives-none groups w.adapter
step-receives groups EepromTick wire_free outcome.Moved w answers = absurd (never-moved (is_pending w.adapter.eerd) answers)
step-receives groups EepromTick wire_free _ w answers = same groups w.adapter _ refl refl refl
step-receives groups PhyTick wire_free outcome.Moved w answers =
    absurd (never-moved (mdi.has_work w.adapter.mdic w.adapter.phy) answers)
step-receives groups PhyTick wire_free _ w answers = phy-receives groups (mdi.told w.adapter.mdic w.adapter.phy) w.adapter

-- Arrivals

same-sets : (groups : List (List ℕ)) (a : AdapterState) → Has groups a → SameSets (filter_of a.filter) (in_force a.filter groups)
unfolding filter_of
same-sets groups a has = record {
  addresses = λ address. ((λ x. x), (λ x. x));
  groups = λ number below. has.bits number below;
  shift = refl;
  vlans = record { every_vlan = ((λ x. x), (λ x. x)); numbers = λ number below. ((λ x. x), (λ x. x)); vlan_type = refl };
  all_individuals = ((λ x. x), (λ x. x));
  all_groups = ((λ x. x), (λ x. x));
  broadcasts = ((λ x. x), (λ x. x));
}

passes-in : (groups : List (List ℕ)) (a : AdapterState) (frame : List ℕ) → Has groups a → Passes (filter_of a.filter) frame
    → Passes (in_force a.filter groups) frame
passes-in groups a frame has = Passes-same (filter_of a.filter) (in_force a.filter groups) frame (same-sets groups a has)

passes-out : (groups : List (List ℕ)) (a : AdapterState) (frame : List ℕ) → Has groups a → Passes (in_force a.filter groups) frame
    → Passes (filter_of a.filter) frame
passes-out groups a frame has =
    Passes-same (in_force a.filter groups) (filter_of a.filter) frame
    (SameSets-sym (filter_of a.filter) (in_force a.filter groups) (same-sets groups a has))

right-fate : (groups : List (List ℕ)) (fate : Fate) (frame : List ℕ) (a : AdapterState) → Has groups a → HasBit a.filter.rctl rctl_en
    → IsFate a frame fate → IsRightFate (in_force a.filter groups) (room a) true a.receiver.buffer frame fate
right-fate groups Off frame a has enabled is = is enabled
right-fate groups Illegal frame a has enabled is = is.1
right-fate groups Filtered frame a has enabled is = (is.1, λ passes. is.2 (passes-out groups a frame has passes))
right-fate groups Missed frame a has enabled is = (is.0.legal, passes-in groups a frame has is.0.passes, is.1)
right-fate groups Stored frame a has enabled is = (is.0.legal, passes-in groups a frame has is.0.passes, is.1)

pub arrival-filter : (fate : Fate) (frame : List ℕ) (a : AdapterState) → (after_arrive fate frame a).filter ≡ a.filter
arrival-filter Stored frame a = refl
arrival-filter _ frame a = refl

arrival-receives : (groups : List (List ℕ)) (fate : Fate) (frame : List ℕ) (a : AdapterState) → Has groups a
    → HasBit a.filter.rctl rctl_en → IsFate a frame fate
    → ReceivesRightly groups a (Came frame fate ∷ []) groups (after_arrive fate frame a)
arrival-receives groups Off frame a has enabled is = absurd (is enabled)
arrival-receives groups Stored frame a has enabled is = record {
  filter = refl;
  unchanged = λ keeps. refl;
  kilobytes = refl;
  fates = (right-fate groups Stored frame a has enabled is, refl);
}
arrival-receives groups fate frame a has enabled is = record {
  filter = refl;
  unchanged = λ keeps. refl;
  kilobytes = refl;
  fates = (right-fate groups fate frame a has enabled is, ap (reception groups) (sym (append-nil a.receiver.buffer)));
}

-- Accesses

read-receives : (groups : List (List ℕ)) (register : Register) (a : AdapterState)
    → ReceivesRightly groups a [] groups (read_of register a)
read-receives groups Icr a = same groups a _ refl refl refl
read-receives groups _ a = same groups a _ refl refl refl

pub found-read : (groups : List (List ℕ)) (found : Option Register) (a : AdapterState)
    → ReceivesRightly groups a [] groups (left_by_read found a)
found-read groups None a = receives-none groups a
found-read groups (Some register) a = read-receives groups register a

ring-receives : (groups : List (List ℕ)) (part : RingRegister) (value : ℕ) (a : AdapterState)
    → ReceivesRightly groups a [] groups (write_of (Transmit part) value a)
ring-receives groups Tail value a = same groups a _ refl refl refl
ring-receives groups _ value a = same groups a _ refl refl refl

write-receives : (groups : List (List ℕ)) (register : Register) (value : ℕ) (a : AdapterState) → IsNotOfReception register
    → ReceivesRightly groups a [] groups (write_of register value a)
write-receives groups (Receive Tail) value a is = same groups a _ refl refl refl
write-receives groups (Transmit part) value a is = ring-receives groups part value a
write-receives groups Tctl value a is = same groups a _ refl refl refl
write-receives groups Ims value a is = same groups a _ refl refl refl
write-receives groups _ value a is = absurd is

found-write : (groups : List (List ℕ)) (found : Option Register) (value : ℕ) (a : AdapterState) → IfSome found IsNotOfReception
    → ReceivesRightly groups a [] groups (left_by_write found value a)
found-write groups None value a is = receives-none groups a
found-write groups (Some register) value a is = write-receives groups register value a is

access-receives : (groups : List (List ℕ)) (access : Access) (w : World) → LeavesReception access
    → ReceivesRightly groups w.adapter [] groups (world_after (Accesses access) w).adapter
access-receives groups (Reads offset value) w leaves = found-read groups (register_at offset) w.adapter
access-receives groups (Writes offset value) w leaves = found-write groups (register_at offset) value w.adapter leaves
access-receives groups (Loads address size) w leaves = receives-none groups w.adapter
access-receives groups (Stores address bytes) w leaves = receives-none groups w.adapter

pub tails-leave_reception : (offset value : ℕ) → (offset ≡ RDT) ⊎ (offset ≡ TDT) → LeavesReception (Writes offset value)
tails-leave_reception offset value is = elim is [
  | inl receive ↦
      subst (λ (o : ℕ). IfSome (register_at o) IsNotOfReception) (sym receive) (at_offset IsNotOfReception (Receive Tail) tt tt)
  | inr transmit ↦
      subst (λ (o : ℕ). IfSome (register_at o) IsNotOfReception) (sym transmit) (at_offset IsNotOfReception (Transmit Tail) tt tt)
]

-- Trails

event-receives : (groups : List (List ℕ)) (event : Event) (w : World) → Has groups w.adapter
    → All LeavesReception (past_of_event event).accesses → HasBit w.adapter.filter.rctl rctl_en
    → Occurs event w → ReceivesRightly groups w.adapter (marks_in event) groups (world_after event w).adapter
event-receives groups (Steps kind wire_free answer) w has leave enabled occurs = step-receives groups kind wire_free answer w occurs.1
event-receives groups (Arrives frame fate) w has leave enabled occurs = arrival-receives groups fate frame w.adapter has enabled occurs.1
event-receives groups (Accesses access) w has leave enabled occurs =
    access-receives groups access w (all-head LeavesReception access [] leave)

answer-keeps : (answer : FrameOutcome) → KeepsGroups (marks_of_answer answer)
answer-keeps (outcome.Put frame) = tt
answer-keeps outcome.Moved = tt
answer-keeps _ = tt

event-keeps : (event : Event) → KeepsGroups (marks_in event)
event-keeps (Steps kind wire_free answer) = answer-keeps answer
event-keeps (Arrives frame fate) = tt
event-keeps (Accesses access) = tt

event-filter : (event : Event) (w : World) → All LeavesReception (past_of_event event).accesses → Occurs event w
    → (world_after event w).adapter.filter ≡ w.adapter.filter
event-filter (Steps kind wire_free answer) w leave occurs =
    (step-receives [] kind wire_free answer w occurs.1).unchanged (answer-keeps answer)
event-filter (Arrives frame fate) w leave occurs = arrival-filter fate frame w.adapter
event-filter (Accesses access) w leave occurs = (access-receives [] access w (all-head LeavesReception access [] leave)).unchanged tt

pub trail-filter : (events : List Event) (a b : World) → All LeavesReception (past_of events).accesses → Trail events a b
    → b.adapter.filter ≡ a.adapter.filter
trail-filter [] a b leave trail = ap (λ (w : World). w.adapter.filter) trail
trail-filter (event ∷ later) a b leave trail =
    let accesses = (past_of_event event).accesses in
    let behind = (past_of later).accesses in
    trail-filter later (world_after event a) b (all-right LeavesReception accesses behind leave) trail.1
    ∙ event-filter event a (all-left LeavesReception accesses behind leave) trail.0

pub filter-stays : FilterStays
filter-stays caller k steps a b leads leave =
    trail-filter (events_at k steps) (world_at a k) (world_at b k) leave (trail-of caller k steps a b leads)

pub trail-receives : (groups : List (List ℕ)) (events : List Event) (a b : World) → Has groups a.adapter
    → All LeavesReception (past_of events).accesses → HasBit a.adapter.filter.rctl rctl_en → Trail events a b
    → KeepsReceiving groups a.adapter (flat_map marks_in events) b.adapter
trail-receives groups [] a b has leave enabled trail =
    subst (λ (w : World). KeepsReceiving groups a.adapter [] w.adapter) (sym trail)
    (record { right = receives-none groups a.adapter; has = has })
trail-receives groups (event ∷ later) a b has leave enabled trail =
    let accesses = (past_of_event event).accesses in
    let behind = (past_of later).accesses in
    let first = event-receives groups event a has (all-left LeavesReception accesses behind leave) enabled trail.0 in
    let same = sym (first.unchanged (event-keeps event)) in
    let rest = trail-receives groups later (world_after event a) b
    (subst (λ (f : FilterRegisters). HasNumbers f.mta (numbers_of_groups groups)) same has)
    (all-right LeavesReception accesses behind leave) (subst (λ (f : FilterRegisters). HasBit f.rctl rctl_en) same enabled) trail.1 in
    record {
      right = receives-append groups groups groups a.adapter (world_after event a).adapter b.adapter (marks_in event)
          (flat_map marks_in later) first rest.right;
      has = rest.has;
    }

pub fates-right : FatesAreRight
fates-right caller k steps a b groups leads leave enabled has =
    subst (λ (all : List Mark). KeepsReceiving groups (world_at a k).adapter all (world_at b k).adapter)
    (sym (marks-told caller k steps a b leads))
    (trail-receives groups (events_at k steps) (world_at a k) (world_at b k) has leave enabled (trail-of caller k steps a b leads))

-- Groups are joined and left

changes-receives : (mark : Mark) (groups groups' : List (List ℕ)) (a b : AdapterState) → MarksGroups mark groups groups'
    → SameButGroups a.filter b.filter → b.receive_kilobytes ≡ a.receive_kilobytes → b.receiver.buffer ≡ a.receiver.buffer
    → ReceivesRightly groups a (mark ∷ []) groups' b
changes-receives (Joins group) groups groups' a b changes filter kilobytes buffer = record {
  filter = filter;
  unchanged = λ keeps. absurd keeps;
  kilobytes = kilobytes;
  fates = ap (reception groups') buffer ∙ ap (λ (list : List (List ℕ)). reception list a.receiver.buffer) changes;
}
changes-receives (Quits group) groups groups' a b changes filter kilobytes buffer = record {
  filter = filter;
  unchanged = λ keeps. absurd keeps;
  kilobytes = kilobytes;
  fates = (groups', changes, ap (reception groups') buffer);
}
changes-receives _ groups groups' a b changes filter kilobytes buffer = absurd changes

pub changes-alone : GroupsChangeAlone
changes-alone mark groups groups' a changes = changes-receives mark groups groups' a a changes refl refl refl

written-word : (word value : ℕ) (a : World) → word < 128
    → (world_after_write (0x5200 + 4 * word) value a).adapter ≡ write_of (Mta word) value a.adapter
written-word word value a within = ap (λ (found : Option Register). left_by_write found value a.adapter) (register_at-mta word within)

pub word-changes : WritesChangeGroups
word-changes mark word value groups groups' a changes within =
    subst (ReceivesRightly groups a.adapter (mark ∷ []) groups') (sym (written-word word value a within))
    (changes-receives mark groups groups' a.adapter (write_of (Mta word) value a.adapter) changes refl refl refl)
