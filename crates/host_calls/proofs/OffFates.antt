-- While the receive side is disabled, each frame that arrives has the fate Off, and no frame is moved out of the packet
-- buffer.
use Rattle.std.proofs.Common.{◌≡◌, ◌∷◌, [], ℕ, Bool, true, false, Option, Some, None, List, All, refl, subst, sym, ap}
use Rattle.std.proofs.Common.{if◌then◌else◌, ◌∙◌}
use Rattle.std.proofs.lemmas.List.{append-nil}
use Rattle.std.specs.List.{flat_map}
use Rattle.registers.specs.Bits.{HasBit}
use Rattle.registers.specs.Places.{rctl_en}
use Rattle.eeprom.specs.Eerd.{is_pending}
use Rattle.mdic_phy.specs.Mdic as mdi
use Rattle.mdic_phy.specs.declared.mdic.Ticked.{Ticked}
use Rattle.rx_engine.specs.declared.arrival.Fate.{Fate}
use Rattle.rx_engine.specs.declared.arrival.Fate.TheVariants.{Off, Illegal, Filtered, Missed, Stored}
use Rattle.rx_filter.specs.Registers.{FilterRegisters}
use Rattle.adapter.specs.Receiving.{IsFate, after_arrive}
use Rattle.adapter.specs.Registers.{after_reset, by_row, is_reset, left_by_read, left_by_write, write_of}
use Rattle.adapter.specs.State.{AdapterState}
use Rattle.adapter.specs.Table.{register_at, row_of}
use Rattle.adapter.specs.model_types.register.Register.{Register}
use Rattle.adapter.specs.model_types.register.Register.TheVariants.{Ctrl, Icr, Receive, Transmit}
use Rattle.adapter.specs.model_types.register.RingRegister.{RingRegister}
use Rattle.adapter.specs.model_types.register.RingRegister.TheVariants.{Tail}
use Rattle.adapter.specs.Steps.{Answers, after_phy_told, ticked}
use Rattle.adapter.specs.World.{World}
use Rattle.adapter.specs.Outcomes.{FrameOutcome}
use Rattle.adapter.specs.model_types.outcome.Outcome.TheVariants as outcome
use Rattle.adapter.specs.model_types.step.StepKind.{StepKind}
use Rattle.adapter.specs.model_types.step.StepKind.TheVariants.{EepromTick, PhyTick, RxData, RxDone, TxPut, TxTake}
use Rattle.adapter.proofs.Lists.{all-left, all-right}
use Rattle.adapter.proofs.Settings.{stays-off, writes-append, writes-set}
use Rattle.adapter.specs.Settings.{IsOff, LeavesReceiver, Settings, settings_of, writes_in}
use Rattle.adapter.specs.StepsAndArrivals.{world_after_step}
use Rattle.adapter.specs.Trails.{Occurs, Trail, past_of, past_of_event, world_after}
use Rattle.adapter.specs.bus_types.event.Access.{Access}
use Rattle.adapter.specs.bus_types.event.Access.TheVariants.{Loads, Reads, Stores, Writes}
use Rattle.adapter.specs.bus_types.event.Event.{Event}
use Rattle.adapter.specs.bus_types.event.Event.TheVariants.{Accesses, Arrives, Steps}
use Rattle.stations.specs.Stations.{world_at}
use Rattle.stations.proofs.HostTrails.{trail-of}
use Rattle.stations.specs.AtomicRuns.{events_at}
use Rattle.host_calls.proofs.HostLists.{marks-told, marks_in, marks_of_answer}
use Rattle.host_calls.proofs.Joining.{fates-append}
use Rattle.host_calls.proofs.RightFates.{arrival-filter, found-read, step-receives}
use Rattle.host_calls.specs.DeliveryLaws.{FatesAreOff, StaysTurnedOff}
use Rattle.host_calls.specs.Fates.{AreRightFates, Came, Mark, Reception}
use Rattle.host_calls.specs.Reception.{SameButGroups}

abbrev turned_off : (groups buffered : List (List ℕ)) → Reception
turned_off groups buffered = record { groups = groups; buffered = buffered; enabled = false }

abbrev AreOff : List Mark → Type 0
AreOff all =
    (registers : FilterRegisters) (room : ℕ) (groups buffered : List (List ℕ))
    → AreRightFates registers room (turned_off groups buffered) all (turned_off groups buffered)

never-moved : (works : Bool) → outcome.Moved ≡ ticked works → ⊥
never-moved true is = absurd (cc)
never-moved false is = absurd (cc)

step-off : (kind : StepKind) (wire_free : Bool) (answer : FrameOutcome) (w : World) → Answers kind wire_free w.memory w.adapter answer
    → IsOff w → AreOff (marks_of_answer answer)
step-off TxTake wire_free outcome.Moved w answers off = absurd answers
step-off TxPut wire_free outcome.Moved w answers off = absurd answers
step-off RxData wire_free outcome.Moved w answers off = absurd (off answers.0.enabled)
step-off RxDone wire_free outcome.Moved w answers off = absurd answers
step-off EepromTick wire_free outcome.Moved w answers off = absurd (never-moved (is_pending w.adapter.eerd) answers)
step-off PhyTick wire_free outcome.Moved w answers off = absurd (never-moved (mdi.has_work w.adapter.mdic w.adapter.phy) answers)
step-off kind wire_free (outcome.Put frame) w answers off = λ registers room groups buffered. refl
step-off kind wire_free _ w answers off = λ registers room groups buffered. refl

is-off : (fate : Fate) (frame : List ℕ) (a : AdapterState) → ¬ (HasBit a.filter.rctl rctl_en) → IsFate a frame fate → fate ≡ Off
is-off Off frame a off is = refl
is-off Illegal frame a off is = absurd (off is.0)
is-off Filtered frame a off is = absurd (off is.0)
is-off Missed frame a off is = absurd (off is.0.enabled)
is-off Stored frame a off is = absurd (off is.0.enabled)

came-off : (frame : List ℕ) (fate : Fate) → fate ≡ Off → AreOff (Came frame fate ∷ [])
came-off frame fate is = λ registers room groups buffered.
    subst (λ (f : Fate). AreRightFates registers room (turned_off groups buffered) (Came frame f ∷ []) (turned_off groups buffered))
    (sym is) (refl, ap (turned_off groups) (sym (append-nil buffered)))

event-fates : (event : Event) (w : World) → Occurs event w → IsOff w → AreOff (marks_in event)
event-fates (Steps kind wire_free answer) w occurs off = step-off kind wire_free answer w occurs.1 off
event-fates (Arrives frame fate) w occurs off = came-off frame fate (is-off fate frame w.adapter off occurs.1)
event-fates (Accesses access) w occurs off = λ registers room groups buffered. refl

-- The receive side remains disabled

same-off : (a b : AdapterState) → SameButGroups a.filter b.filter → ¬ (HasBit a.filter.rctl rctl_en) → ¬ (HasBit b.filter.rctl rctl_en)
same-off a b same off = subst (λ (f : FilterRegisters). ¬ (HasBit f.rctl rctl_en)) (sym same) off

access-stays_off : (access : Access) (w : World) → All LeavesReceiver (writes_in (access ∷ [])) → IsOff w
    → IsOff (world_after (Accesses access) w)
access-stays_off (Reads offset value) w leaves off =
    same-off w.adapter (left_by_read (register_at offset) w.adapter) (found-read [] (register_at offset) w.adapter).filter off
access-stays_off (Writes offset value) w leaves off =
    subst (λ (settings : Settings). ¬ (HasBit settings.filter.rctl rctl_en)) (sym (writes-set offset value w.adapter))
    (stays-off (record { offset = offset; value = value } ∷ []) (settings_of w.adapter) leaves off)
access-stays_off (Loads address size) w leaves off = off
access-stays_off (Stores address bytes) w leaves off = off

event-stays_off : (event : Event) (w : World) → All LeavesReceiver (writes_in (past_of_event event).accesses) → Occurs event w → IsOff w
    → IsOff (world_after event w)
event-stays_off (Steps kind wire_free answer) w leaves occurs off =
    same-off w.adapter (world_after (Steps kind wire_free answer) w).adapter (step-receives [] kind wire_free answer w occurs.1).filter off
event-stays_off (Arrives frame fate) w leaves occurs off =
    subst (λ (f : FilterRegisters). ¬ (HasBit f.rctl rctl_en)) (sym (arrival-filter fate frame w.adapter)) off
event-stays_off (Accesses access) w leaves occurs off = access-stays_off access w leaves off

-- An empty buffer remains empty

step-empty : (kind : StepKind) (wire_free : Bool) (answer : FrameOutcome) (w : World) → Answers kind wire_free w.memory w.adapter answer
    → w.adapter.receiver.buffer ≡ [] → (world_after_step kind answer w).adapter.receiver.buffer ≡ []
step-empty RxData wire_free outcome.Moved w answers none = absurd (answers.0.ready.frames none)
step-empty TxTake wire_free outcome.Took w answers none = none
step-empty TxTake wire_free outcome.Fault w answers none = none
step-empty TxTake wire_free _ w answers none = none
step-empty TxPut wire_free (outcome.Put frame) w answers none = none
step-empty TxPut wire_free _ w answers none = none
step-empty RxData wire_free outcome.Part w answers none = none
step-empty RxData wire_free outcome.Fault w answers none = none
step-empty RxData wire_free _ w answers none = none
step-empty RxDone wire_free outcome.Done w answers none = none
step-empty RxDone wire_free _ w answers none = none
step-empty EepromTick wire_free _ w answers none = none
step-empty PhyTick wire_free _ w answers none = told-empty (mdi.told w.adapter.mdic w.adapter.phy) w.adapter none
  where
    told-empty : (told : Option Ticked) (a : AdapterState) → a.receiver.buffer ≡ [] → (after_phy_told told a).receiver.buffer ≡ []
    told-empty None a none = none
    told-empty (Some told) a none = none

arrival-empty : (frame : List ℕ) (fate : Fate) (a : AdapterState) → fate ≡ Off → a.receiver.buffer ≡ []
    → (after_arrive fate frame a).receiver.buffer ≡ []
arrival-empty frame Off a is none = none
arrival-empty frame _ a is none = absurd (cc is)

reset-empty : (resets : Bool) (a other : AdapterState) → other.receiver.buffer ≡ a.receiver.buffer → a.receiver.buffer ≡ []
    → (if resets then after_reset a else other).receiver.buffer ≡ []
reset-empty true a other same none = refl
reset-empty false a other same none = same ∙ none

written-empty : (register : Register) (value : ℕ) (a : AdapterState) → a.receiver.buffer ≡ []
    → (write_of register value a).receiver.buffer ≡ []
written-empty (Receive part) value a none = part-empty part none
  where
    part-empty : (part : RingRegister) → a.receiver.buffer ≡ [] → (write_of (Receive part) value a).receiver.buffer ≡ []
    part-empty Tail none = none
    part-empty _ none = none
written-empty (Transmit part) value a none = part-empty part none
  where
    part-empty : (part : RingRegister) → a.receiver.buffer ≡ [] → (write_of (Transmit part) value a).receiver.buffer ≡ []
    part-empty Tail none = none
    part-empty _ none = none
written-empty Ctrl value a none = reset-empty (is_reset Ctrl value) a (by_row (row_of Ctrl).kept Ctrl value a) refl none
written-empty _ value a none = none

access-empty : (access : Access) (w : World) → w.adapter.receiver.buffer ≡ []
    → (world_after (Accesses access) w).adapter.receiver.buffer ≡ []
access-empty (Reads offset value) w none = read-empty (register_at offset) w.adapter none
  where
    read-empty : (found : Option Register) (a : AdapterState) → a.receiver.buffer ≡ [] → (left_by_read found a).receiver.buffer ≡ []
    read-empty None a none = none
    read-empty (Some Icr) a none = none
    read-empty (Some register) a none = none
access-empty (Writes offset value) w none = found-empty (register_at offset) none
  where
    found-empty : (found : Option Register) → w.adapter.receiver.buffer ≡ [] → (left_by_write found value w.adapter).receiver.buffer ≡ []
    found-empty None none = none
    found-empty (Some register) none = written-empty register value w.adapter none
access-empty (Loads address size) w none = none
access-empty (Stores address bytes) w none = none

event-empty : (event : Event) (w : World) → Occurs event w → IsOff w → w.adapter.receiver.buffer ≡ []
    → (world_after event w).adapter.receiver.buffer ≡ []
event-empty (Steps kind wire_free answer) w occurs off none = step-empty kind wire_free answer w occurs.1 none
event-empty (Arrives frame fate) w occurs off none = arrival-empty frame fate w.adapter (is-off fate frame w.adapter off occurs.1) none
event-empty (Accesses access) w occurs off none = access-empty access w none

pub trail-off : (events : List Event) (a b : World) → All LeavesReceiver (writes_in (past_of events).accesses) → IsOff a
    → Trail events a b → StaysTurnedOff a (flat_map marks_in events) b
trail-off [] a b leave off trail = record {
  fates = λ registers room groups buffered. refl;
  off = subst IsOff (sym trail) off;
  empty = subst (λ (w : World). w.adapter.receiver.buffer ≡ []) (sym trail);
}
trail-off (event ∷ later) a b leave off trail =
    let one = (past_of_event event).accesses in
    let rest = (past_of later).accesses in
    let both = subst (All LeavesReceiver) (writes-append one rest) leave in
    let behind = trail-off later (world_after event a) b
    (all-right LeavesReceiver (writes_in one) (writes_in rest) both)
    (event-stays_off event a (all-left LeavesReceiver (writes_in one) (writes_in rest) both) trail.0 off) trail.1 in
    record {
      fates = λ registers room groups buffered.
          let off_now = turned_off groups buffered in
          fates-append registers room off_now off_now off_now (marks_in event) (flat_map marks_in later)
          (event-fates event a trail.0 off registers room groups buffered) (behind.fates registers room groups buffered);
      off = behind.off;
      empty = λ none. behind.empty (event-empty event a trail.0 off none);
    }

pub fates-off : FatesAreOff
fates-off caller k steps a b leads leave off =
    subst (λ (all : List Mark). StaysTurnedOff (world_at a k) all (world_at b k)) (sym (marks-told caller k steps a b leads))
    (trail-off (events_at k steps) (world_at a k) (world_at b k) leave off (trail-of caller k steps a b leads))
