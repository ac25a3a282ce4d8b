-- The counts after each event: `counts_after` of an event agrees with the adapter after the event.
use Rattle.std.proofs.Common.{◌≡◌, ◌+◌, ◌-◌, ℕ, Bool, true, false, Option, Some, None, List, [], ◌∷◌, drop, length, inl, inr, refl, sym}
use Rattle.std.proofs.Common.{ap, if◌then◌else◌, subst, ◌∙◌}
use Rattle.std.proofs.Common.{◌≤◌, ◌<◌, ◌++◌, ◌||◌, arith, cond, length-append, length-drop, length-take, map, take}
use Rattle.std.specs.Prelude.{IfSome, nat_le}
use Rattle.std.specs.List.{All}
use Rattle.std.proofs.lemmas.Bool.{leb-false}
use Rattle.std.proofs.lemmas.Bool.Decides.{leb_tells}
use Rattle.std.proofs.lemmas.List.{append-nil, map-append}
use Rattle.eeprom.specs.Eerd as eeprom
use Rattle.eeprom.specs.declared.eerd.ReadState.{ReadState}
use Rattle.eeprom.specs.declared.eerd.ReadState.TheVariants as reading
use Rattle.mdic_phy.specs.declared.mdic.Operation.{Operation}
use Rattle.mdic_phy.specs.declared.mdic.Ticked.{Ticked}
use Rattle.mdic_phy.specs.declared.phy.Negotiation.{Negotiation}
use Rattle.mdic_phy.specs.declared.phy.Negotiation.TheVariants.{NotStarted, Running, Complete}
use Rattle.mdic_phy.specs.Mdic.{has_work, phy_after_tick, told}
use Rattle.mdic_phy.specs.Phy.{PhyState, counted_down, is_running}
use Rattle.rx_engine.specs.declared.arrival.Fate.{Fate}
use Rattle.rx_engine.specs.declared.arrival.Fate.TheVariants.{Off, Stored}
use Rattle.rx_engine.specs.Receiver.{oldest}
use Rattle.adapter.specs.Receiving.{after_arrive}
use Rattle.adapter.specs.Registers.{left_by_read, left_by_write, read_of, write_of}
use Rattle.adapter.specs.State.{AdapterState, IsAdapter}
use Rattle.adapter.specs.Steps.{Answers, after_phy_told, ticked}
use Rattle.adapter.specs.Table.{register_at}
use Rattle.adapter.specs.World.{World}
use Rattle.adapter.specs.model_types.register.Register.{Register}
use Rattle.adapter.specs.model_types.register.Register.TheVariants.{Icr, Ctrl, Eerd, Mdic, Rctl, Tctl, Receive}
use Rattle.adapter.specs.model_types.register.Register.TheVariants.{Transmit}
use Rattle.adapter.specs.model_types.register.RingRegister.TheVariants.{Tail}
use Rattle.adapter.specs.model_types.step.StepKind.{StepKind}
use Rattle.adapter.specs.model_types.step.StepKind.TheVariants.{TxTake, TxPut, RxData, RxDone, EepromTick, PhyTick}
use Rattle.adapter.specs.Outcomes.{FrameOutcome}
use Rattle.adapter.specs.model_types.outcome.Outcome.TheVariants as outcome
use Rattle.adapter.proofs.Lists.{all-head, all-left, all-right}
use Rattle.adapter.specs.bus_types.event.Access.TheVariants.{Loads, Reads, Stores, Writes}
use Rattle.adapter.specs.bus_types.event.Event.{Event}
use Rattle.adapter.specs.bus_types.event.Event.TheVariants.{Accesses, Arrives, Steps}
use Rattle.adapter.specs.StepsAndArrivals.{world_after_step}
use Rattle.adapter.specs.Trails.{Occurs, Trail, past_of, past_of_event, world_after}
use Rattle.registers.specs.Bits.{is_set}
use Rattle.registers.specs.Places.{ctrl_rst}
use Rattle.adapter.specs.model_types.register.RingRegister.TheVariants.{BaseLow, BaseHigh, Length, Head}
use Rattle.adapter.specs.Registers.{after_reset}
use Rattle.host_calls.specs.CountedHosts.{IsCounted, IsNotMdic}
use Rattle.host_calls.specs.Counts.{
  HostCounts,
  PhyCounts,
  after_outcome,
  after_piece,
  counts_after_write,
  bytes_left,
  countdown_after,
  counts_after,
}
use Rattle.host_calls.specs.Counts.{counts_behind, counts_of, emptied, negotiation_ticks, phy_counts}

-- the counts of the adapter after this step are those of `after_outcome`
abbrev StepGoes : StepKind → Bool → FrameOutcome → World → Type 0
StepGoes kind wire_free answer w =
    Answers kind wire_free w.memory w.adapter answer
    → counts_of (world_after_step kind answer w).adapter ≡ after_outcome kind answer (counts_of w.adapter)

with-left : (counts : HostCounts) (left left' : List ℕ) → left ≡ left'
    → (let c : HostCounts = record counts { receive = record counts.receive { left = left } } in c)
    ≡ record counts { receive = record counts.receive { left = left' } }
with-left counts left left' same = rw same refl

with-buffered : (counts : HostCounts) (n n' : ℕ) → n ≡ n'
    → (let c : HostCounts = record counts { transmit = record counts.transmit { buffered = n } } in c)
    ≡ record counts { transmit = record counts.transmit { buffered = n' } }
with-buffered counts n n' same = rw same refl

with-reading : (counts : HostCounts) (reading reading' : Bool) → reading ≡ reading'
    → (let c : HostCounts = record counts { is_reading = reading } in c) ≡ record counts { is_reading = reading' }
with-reading counts reading reading' same = rw same refl

with-phy : (counts : HostCounts) (phy phy' : PhyCounts) → phy ≡ phy'
    → (let c : HostCounts = record counts { phy = phy } in c) ≡ record counts { phy = phy' }
with-phy counts phy phy' same = ap (λ (p : PhyCounts). let c : HostCounts = record counts { phy = p } in c) same

fewer : {X : Type 0} (xs : List X) → length (drop 1 xs) ≡ length xs - 1
fewer [] = omega arith
fewer (x ∷ xs) = omega arith

take-goes : (answer : FrameOutcome) (wire_free : Bool) (w : World) → StepGoes TxTake wire_free answer w
take-goes outcome.Took wire_free w answers =
    with-buffered (counts_of (world_after_step TxTake outcome.Took w).adapter) _ _ (length-append w.adapter.transmitter.buffer _ ∙ refl)
take-goes outcome.Nothing wire_free w answers = refl
take-goes outcome.Fault wire_free w answers = refl
take-goes _ wire_free w answers = absurd answers

put-goes : (answer : FrameOutcome) (wire_free : Bool) (w : World) → StepGoes TxPut wire_free answer w
put-goes (outcome.Put frame) wire_free w answers = with-buffered (counts_of w.adapter) _ _ (fewer w.adapter.transmitter.buffer)
put-goes outcome.Nothing wire_free w answers = refl
put-goes outcome.WireFull wire_free w answers = refl
put-goes _ wire_free w answers = absurd answers

left-after_last : (moved : ℕ) (frames : List (List ℕ)) → bytes_left 0 (drop 1 frames) ≡ drop 1 (bytes_left moved frames)
left-after_last moved [] = refl
left-after_last moved (frame ∷ []) = refl
left-after_last moved (frame ∷ second ∷ later) = ap (λ (n : ℕ). n ∷ map length later) (omega arith)

left-after_part : (moved size : ℕ) (frames : List (List ℕ)) → nat_le (length (oldest frames) - moved) size ≡ false
    → bytes_left (moved + length (take size (drop moved (oldest frames)))) frames ≡ after_piece size (bytes_left moved frames)
left-after_part moved size [] more = refl
left-after_part moved size (frame ∷ later) more =
    let full : size < length frame - moved = leb-false (length frame - moved) size more in
    ap (λ (n : ℕ). n ∷ map length later)
    (omega (arith, full, length-take size (drop moved frame), length-drop moved frame))

data-goes : (answer : FrameOutcome) (wire_free : Bool) (w : World) → StepGoes RxData wire_free answer w
data-goes outcome.Part wire_free w answers =
    let a = w.adapter in
    with-left (counts_of (world_after_step RxData outcome.Part w).adapter) _ _
    (left-after_part a.receiver.moved _ a.receiver.buffer answers.2)
data-goes outcome.Moved wire_free w answers =
    let a = w.adapter in
    with-left (counts_of (world_after_step RxData outcome.Moved w).adapter) _ _ (left-after_last a.receiver.moved a.receiver.buffer)
data-goes outcome.Nothing wire_free w answers = refl
data-goes outcome.Fault wire_free w answers = refl
data-goes _ wire_free w answers = absurd answers

done-goes : (answer : FrameOutcome) (wire_free : Bool) (w : World) → StepGoes RxDone wire_free answer w
done-goes outcome.Done wire_free w answers = refl
done-goes outcome.Nothing wire_free w answers = refl
done-goes _ wire_free w answers = absurd answers

-- The EEPROM

read-left : (words : List ℕ) (state : ReadState) (answer : FrameOutcome) (counts : HostCounts) → counts.is_reading ≡ eeprom.is_pending state
    → answer ≡ ticked (eeprom.is_pending state)
    → (let c : HostCounts = record counts { is_reading = eeprom.is_pending (eeprom.after_tick words state) } in c)
    ≡ after_outcome EepromTick answer counts
read-left words reading.Idle answer counts same is =
    with-reading counts false counts.is_reading (sym same)
    ∙ ap (λ (x : FrameOutcome). after_outcome EepromTick x counts) (sym is)
read-left words (reading.Pending address) answer counts same is =
    ap (λ (x : FrameOutcome). after_outcome EepromTick x counts) (sym is)
read-left words (reading.Done address word) answer counts same is =
    with-reading counts false counts.is_reading (sym same)
    ∙ ap (λ (x : FrameOutcome). after_outcome EepromTick x counts) (sym is)

eeprom-goes : (answer : FrameOutcome) (wire_free : Bool) (w : World) → StepGoes EepromTick wire_free answer w
eeprom-goes answer wire_free w answers = read-left w.adapter.image w.adapter.eerd answer (counts_of w.adapter) refl answers

-- The PHY

lowered : (negotiation : Negotiation) → is_running negotiation ≡ true
    → negotiation_ticks (counted_down negotiation) ≡ negotiation_ticks negotiation - 1
lowered NotStarted runs = absurd (cc)
lowered Complete runs = absurd (cc)
lowered (Running left) runs = elim (leb_tells left 1) [
  | inl last ↦ rw last.0 (omega (arith, last.1))
  | inr more ↦ rw more.0 (omega (arith, more.1))
]

countdown-left : (value : ℕ) (pending : Option Operation) (phy : PhyState)
    → has_work (record { value = value; pending = pending }) phy ≡ true
    → negotiation_ticks (phy_after_tick (record { value = value; pending = pending }) phy).negotiation
    ≡ countdown_after (phy_counts (record { value = value; pending = pending }) phy).command (negotiation_ticks phy.negotiation)
countdown-left value (Some operation) phy works = refl
countdown-left value None phy works = lowered phy.negotiation (without_none (is_running phy.negotiation) works)
  where
    without_none : (runs : Bool) → (runs || false) ≡ true → runs ≡ true
    without_none true works = refl
    without_none false works = works

with-countdown : (n n' : ℕ) → n ≡ n'
    → (let p : PhyCounts = record { countdown = n; command = None } in p) ≡ record { countdown = n'; command = None }
with-countdown n n' same = rw same refl

phy-left : (b : Bool) (ticks : Ticked) (tells : Option Ticked) (a : AdapterState) → has_work a.mdic a.phy ≡ b
    → tells ≡ cond b (Some ticks) None
    → counts_of (after_phy_told tells a) ≡ after_outcome PhyTick (ticked b) (counts_of a)
phy-left false ticks tells a works is = ap (λ (t : Option Ticked). counts_of (after_phy_told t a)) is
phy-left true ticks None a works is = absurd (cc)
phy-left true ticks (Some t) a works is =
    with-phy (counts_of a) _ _ (with-countdown _ _ (countdown-left a.mdic.value a.mdic.pending a.phy works))

phy-goes : (answer : FrameOutcome) (wire_free : Bool) (w : World) → StepGoes PhyTick wire_free answer w
phy-goes answer wire_free w answers =
    let a = w.adapter in
    subst (λ (x : FrameOutcome). counts_of (after_phy_told (told a.mdic a.phy) a) ≡ after_outcome PhyTick x (counts_of a))
    (sym answers) (phy-left (has_work a.mdic a.phy) _ (told a.mdic a.phy) a refl refl)

step-goes : (kind : StepKind) (wire_free : Bool) (answer : FrameOutcome) (w : World) → StepGoes kind wire_free answer w
step-goes TxTake wire_free answer w answers = take-goes answer wire_free w answers
step-goes TxPut wire_free answer w answers = put-goes answer wire_free w answers
step-goes RxData wire_free answer w answers = data-goes answer wire_free w answers
step-goes RxDone wire_free answer w answers = done-goes answer wire_free w answers
step-goes EepromTick wire_free answer w answers = eeprom-goes answer wire_free w answers
step-goes PhyTick wire_free answer w answers = phy-goes answer wire_free w answers

-- Arrivals

none-stored : (a : AdapterState) → counts_of a ≡ counts_after (Arrives [] Off) (counts_of a)
none-stored a = with-left (counts_of a) _ _ (sym (append-nil (bytes_left a.receiver.moved a.receiver.buffer)))

-- a stored frame is appended with its whole length, because none of its bytes has been moved
left-stored : (moved : ℕ) (frames : List (List ℕ)) (frame : List ℕ) → moved ≤ length (oldest frames) - 1
    → bytes_left moved (frames ++ frame ∷ []) ≡ bytes_left moved frames ++ length frame ∷ []
left-stored moved [] frame begun = ap (λ (n : ℕ). n ∷ []) (omega (arith, begun))
left-stored moved (first ∷ frames) frame begun =
    ap (λ (later : List ℕ). (length first - moved) ∷ later) (map-append length frames (frame ∷ []))

arrival-goes : (fate : Fate) (frame : List ℕ) (a : AdapterState) → IsAdapter a
    → counts_of (after_arrive fate frame a) ≡ counts_after (Arrives frame fate) (counts_of a)
arrival-goes Stored frame a is = with-left (counts_of a) _ _ (left-stored a.receiver.moved a.receiver.buffer frame is.receiver.begun)
arrival-goes _ frame a is = none-stored a

-- Accesses

read-goes : (register : Register) (a : AdapterState) → counts_of (read_of register a) ≡ counts_of a
read-goes Icr a = refl
read-goes _ a = refl

found-read : (found : Option Register) (a : AdapterState) → counts_of (left_by_read found a) ≡ counts_of a
found-read None a = refl
found-read (Some register) a = read-goes register a

reset-goes : (b : Bool) (a other : AdapterState) → counts_of other ≡ counts_of a
    → counts_of (cond b (after_reset a) other) ≡ cond b (emptied (counts_of a)) (counts_of a)
reset-goes false a other same = same
reset-goes true a other same = refl

started : (starts : Bool) (address : ℕ) (state : ReadState)
    → eeprom.is_pending (if starts then reading.Pending address else state) ≡ (if starts then true else eeprom.is_pending state)
started true address state = refl
started false address state = refl

write-goes : (register : Register) (value : ℕ) (a : AdapterState) → IsNotMdic register
    → counts_of (write_of register value a) ≡ counts_after_write (Some register) value (counts_of a)
write-goes (Receive BaseLow) value a counted_down = refl
write-goes (Receive BaseHigh) value a counted_down = refl
write-goes (Receive Length) value a counted_down = refl
write-goes (Receive Head) value a counted_down = refl
write-goes (Receive Tail) value a counted_down = refl
write-goes (Transmit BaseLow) value a counted_down = refl
write-goes (Transmit BaseHigh) value a counted_down = refl
write-goes (Transmit Length) value a counted_down = refl
write-goes (Transmit Head) value a counted_down = refl
write-goes (Transmit Tail) value a counted_down = refl
write-goes Ctrl value a counted_down = reset-goes (is_set value ctrl_rst) a _ refl
write-goes Rctl value a counted_down = refl
write-goes Tctl value a counted_down = refl
write-goes Eerd value a counted_down = with-reading (counts_of a) _ _ (started (eeprom.has_start value) (eeprom.addr value) a.eerd)
write-goes Mdic value a counted_down = absurd counted_down
write-goes _ value a counted_down = refl

found-written : (found : Option Register) (value : ℕ) (a : AdapterState) → IfSome found IsNotMdic
    → counts_of (left_by_write found value a) ≡ counts_after_write found value (counts_of a)
found-written None value a counted_down = refl
found-written (Some register) value a counted_down = write-goes register value a counted_down

-- Events

event-goes : (event : Event) (w : World) → All IsCounted (past_of_event event).accesses → Occurs event w
    → counts_of (world_after event w).adapter ≡ counts_after event (counts_of w.adapter)
event-goes (Steps kind wire_free answer) w counted_down occurs = step-goes kind wire_free answer w occurs.1
event-goes (Arrives frame fate) w counted_down occurs = arrival-goes fate frame w.adapter occurs.0
event-goes (Accesses (Reads offset value)) w counted_down occurs = found-read (register_at offset) w.adapter
event-goes (Accesses (Writes offset value)) w counted_down occurs =
    found-written (register_at offset) value w.adapter (all-head IsCounted (Writes offset value) [] counted_down)
event-goes (Accesses (Loads address size)) w counted_down occurs = refl
event-goes (Accesses (Stores address bytes)) w counted_down occurs = refl

pub trail-goes : (events : List Event) (a b : World) → All IsCounted (past_of events).accesses → Trail events a b
    → counts_of b.adapter ≡ counts_behind events (counts_of a.adapter)
trail-goes [] a b counted_down trail = ap (λ (w : World). counts_of w.adapter) trail
trail-goes (event ∷ later) a b counted_down trail =
    let first = all-left IsCounted (past_of_event event).accesses (past_of later).accesses counted_down in
    let behind = all-right IsCounted (past_of_event event).accesses (past_of later).accesses counted_down in
    trail-goes later (world_after event a) b behind trail.1 ∙ ap (counts_behind later) (event-goes event a first trail.0)
