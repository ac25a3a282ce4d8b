-- The proof of `PlainByHistory`, and the effect of events on what such a register reads and on EERD, MDIC and the PHY.
use Rattle.std.proofs.Common.{◌≡◌, ◌≢◌, ◌+◌, ◌==◌, ◌&&◌, ℕ, Bool, true, false, List, [], ◌∷◌, ◌++◌, Option, Some, None, refl, sym, ◌∙◌, ap}
use Rattle.std.proofs.Common.{subst, if◌then◌else◌}
use Rattle.std.specs.List.{list_any}
use Rattle.std.proofs.lemmas.Bool.{and_parts, eq-eqb, eqb-true, false≢true, or_parts}
use Rattle.mdic_phy.specs.declared.mdic.Ticked.{Ticked}
use Rattle.mdic_phy.specs.Mdic as mdi
use Rattle.mdic_phy.specs.Phy.{new_phy}
use Rattle.rx_engine.specs.declared.arrival.Fate.{Fate}
use Rattle.rx_engine.specs.declared.arrival.Fate.TheVariants.{Missed, Stored}
use Rattle.adapter_model.specs.declared.register.Register.{Register}
use Rattle.adapter_model.specs.declared.register.Register.TheVariants.{Ctrl, Status, Eerd, Mdic, Icr, Pba, Receive, Transmit, Mpc, Gprc, Gptc}
use Rattle.adapter_model.specs.declared.register.Register.TheVariants.{Rnbc}
use Rattle.adapter_model.specs.declared.step.StepKind.{StepKind}
use Rattle.adapter_model.specs.declared.register.RingRegister.{RingRegister}
use Rattle.adapter_model.specs.declared.register.RingRegister.TheVariants.{Head}
use Rattle.adapter_model.specs.declared.ring.RingRegisters.{RingRegisters}
use Rattle.adapter_model.specs.Rings.{ring_answer, ring_distance}
use Rattle.adapter_model.specs.declared.step.StepKind.TheVariants.{TxTake, TxPut, RxData, RxDone, EepromTick, PhyTick}
use Rattle.adapter_model.specs.Outcomes.{FrameOutcome}
use Rattle.adapter_model.specs.declared.outcome.Outcome.TheVariants.{Took, Put, Part, Moved, Done, Fault}
use Rattle.adapter_model.specs.AccessLaws.{Touches, link_shown, causes_set, mask_cleared}
use Rattle.adapter_model.specs.AdapterLaws.{HasRegisters-after_events, HasRegisters-new}
use Rattle.adapter_model.specs.History.{AdapterEvent, Read, Write, Step, Arrive, adapter_after, adapter_after_all, is_reset_event, moves_head}
use Rattle.adapter_model.specs.History.{sets_register}
use Rattle.adapter_model.specs.History.{NoneSets, PlainByHistory}
use Rattle.adapter_model.specs.Registers.{after_reset, after_write, answer, answer_at, answer_of, by_row, is_reset, left_by_read, left_by_write}
use Rattle.adapter_model.specs.Registers.{new_adapter, read_of, write_of}
use Rattle.adapter_model.specs.RegisterLaws.{answer-at_reset, others_stay_at_write, plain_reads_back}
use Rattle.adapter_model.specs.State.{AdapterState}
use Rattle.adapter_model.specs.Receiving.{after_arrive, after_data, after_done}
use Rattle.adapter_model.specs.Steps.{after_eeprom_tick, after_phy_told, after_step}
use Rattle.adapter_model.specs.Transmitting.{after_put, after_take, moved_on}
use Rattle.adapter_model.specs.Table.{StandsAt, register_at, row_of}
use Rattle.adapter_model.specs.TableLaws.{register_at-only, register_at-there}

image-by_row : (register : Register) (value : ℕ) (state : AdapterState)
    → (by_row (row_of register).kept register value state).image ≡ state.image
image-by_row Ctrl value state = refl
image-by_row _ value state = refl

image-written : (register : Register) (value : ℕ) (state : AdapterState) → (write_of register value state).image ≡ state.image
image-written register value state = by_test (is_reset register value)
  where
    by_test : (test : Bool) → (if test then after_reset state else by_row (row_of register).kept register value state).image ≡ state.image
    by_test true = refl
    by_test false = image-by_row register value state

image-told : (told : Option Ticked) (state : AdapterState) → (after_phy_told told state).image ≡ state.image
image-told (Some ticked) state = refl
image-told None state = refl

-- The EEPROM, EERD, MDIC and the PHY are the same in both states.
pub record LeavesParts (before after : AdapterState) : Type 0 where
  pub image : after.image ≡ before.image
  pub eerd : after.eerd ≡ before.eerd
  pub mdic : after.mdic ≡ before.mdic
  pub phy : after.phy ≡ before.phy

leaves_all : (state : AdapterState) → LeavesParts state state
leaves_all state = record { image = refl; eerd = refl; mdic = refl; phy = refl }

pub parts-read : (register : Register) (state : AdapterState) → LeavesParts state (read_of register state)
parts-read Icr state = record { image = refl; eerd = refl; mdic = refl; phy = refl }
parts-read _ state = record { image = refl; eerd = refl; mdic = refl; phy = refl }

pub parts-took : (answer : FrameOutcome) (memory : List ℕ) (state : AdapterState) → LeavesParts state (after_take answer memory state)
parts-took Took memory state = record { image = refl; eerd = refl; mdic = refl; phy = refl }
parts-took Fault memory state = record { image = refl; eerd = refl; mdic = refl; phy = refl }
parts-took _ memory state = leaves_all state

pub parts-put : (answer : FrameOutcome) (state : AdapterState) → LeavesParts state (after_put answer state)
parts-put (Put frame) state = record { image = refl; eerd = refl; mdic = refl; phy = refl }
parts-put _ state = leaves_all state

pub parts-moved : (answer : FrameOutcome) (state : AdapterState) → LeavesParts state (after_data answer state)
parts-moved Part state = record { image = refl; eerd = refl; mdic = refl; phy = refl }
parts-moved Moved state = record { image = refl; eerd = refl; mdic = refl; phy = refl }
parts-moved Fault state = record { image = refl; eerd = refl; mdic = refl; phy = refl }
parts-moved _ state = leaves_all state

pub parts-done : (answer : FrameOutcome) (state : AdapterState) → LeavesParts state (after_done answer state)
parts-done Done state = record { image = refl; eerd = refl; mdic = refl; phy = refl }
parts-done _ state = leaves_all state

pub parts-arrived : (fate : Fate) (frame : List ℕ) (state : AdapterState) → LeavesParts state (after_arrive fate frame state)
parts-arrived Missed frame state = record { image = refl; eerd = refl; mdic = refl; phy = refl }
parts-arrived Stored frame state = record { image = refl; eerd = refl; mdic = refl; phy = refl }
parts-arrived _ frame state = leaves_all state

image-stepped : (kind : StepKind) (answer : FrameOutcome) (memory : List ℕ) (state : AdapterState)
    → (after_step kind answer memory state).image ≡ state.image
image-stepped TxTake answer memory state = (parts-took answer memory state).image
image-stepped TxPut answer memory state = (parts-put answer state).image
image-stepped RxData answer memory state = (parts-moved answer state).image
image-stepped RxDone answer memory state = (parts-done answer state).image
image-stepped EepromTick answer memory state = refl
image-stepped PhyTick answer memory state = image-told (mdi.told state.mdic state.phy) state

pub image-after_event : (event : AdapterEvent) (state : AdapterState) → (adapter_after event state).image ≡ state.image
image-after_event (Read offset) state = by_case (register_at offset)
  where
    by_case : (found : Option Register) → (left_by_read found state).image ≡ state.image
    by_case (Some register) = (parts-read register state).image
    by_case None = refl
image-after_event (Write offset value) state = by_case (register_at offset)
  where
    by_case : (found : Option Register) → (left_by_write found value state).image ≡ state.image
    by_case (Some register) = image-written register value state
    by_case None = refl
image-after_event (Step kind answer memory) state = image-stepped kind answer memory state
image-after_event (Arrive fate frame) state = (parts-arrived fate frame state).image

pub image-after_events : (events : List AdapterEvent) (state : AdapterState) → (adapter_after_all events state).image ≡ state.image
image-after_events [] state = refl
image-after_events (event ∷ later) state = image-after_events later (adapter_after event state) ∙ image-after_event event state

plain-untouched : (written register : Register) (kept : ℕ) → (row_of register).kept ≡ Some kept → ¬ (Touches written register)
plain-untouched _ _ kept plain link_shown = cc
plain-untouched _ _ kept plain causes_set = cc
plain-untouched _ _ kept plain mask_cleared = cc

plain-read : (read register : Register) (kept : ℕ) (state : AdapterState) → (row_of register).kept ≡ Some kept
    → answer register (read_of read state) ≡ answer register state
plain-read Icr Icr kept state plain = cc
plain-read Mpc Mpc kept state plain = cc
plain-read Gprc Gprc kept state plain = cc
plain-read Gptc Gptc kept state plain = cc
plain-read Rnbc Rnbc kept state plain = cc
plain-read _ _ kept state plain = refl

plain-told : (register : Register) (told : Option Ticked) (kept : ℕ) (state : AdapterState) → (row_of register).kept ≡ Some kept
    → answer register (after_phy_told told state) ≡ answer register state
plain-told register None kept state plain = refl
plain-told Status (Some ticked) kept state plain = cc
plain-told Mdic (Some ticked) kept state plain = cc
plain-told Icr (Some ticked) kept state plain = cc
plain-told _ (Some ticked) kept state plain = refl

plain-eeprom : (register : Register) (kept : ℕ) (state : AdapterState) → (row_of register).kept ≡ Some kept
    → answer register (after_eeprom_tick state) ≡ answer register state
plain-eeprom Eerd kept state plain = cc
plain-eeprom _ kept state plain = refl

-- A ring's register that isn't its head reads the same after the head has advanced. The register RDBAL or TDBAL is at `base`.
not_head : (base : ℕ) (part : RingRegister) (ring : RingRegisters) → (base + ring_distance part == base + 0x10) ≡ false
    → ring_answer part (moved_on ring) ≡ ring_answer part ring
not_head base Head ring none = absurd (false≢true (sym none ∙ eq-eqb (base + 0x10) (base + 0x10) refl))
not_head base _ ring none = refl

plain-took : (register : Register) (answered : FrameOutcome) (memory : List ℕ) (kept : ℕ) (state : AdapterState)
    → (row_of register).kept ≡ Some kept
    → moves_head (row_of register).offset TxTake answered ≡ false
    → answer register (after_take answered memory state) ≡ answer register state
plain-took (Transmit part) Took memory kept state plain none = not_head 0x3800 part state.transmit_ring none
plain-took Icr Took memory kept state plain none = cc
plain-took _ Took memory kept state plain none = refl
plain-took _ Fault memory kept state plain none = refl
plain-took _ _ memory kept state plain none = refl

plain-put : (register : Register) (answered : FrameOutcome) (kept : ℕ) (state : AdapterState) → (row_of register).kept ≡ Some kept
    → answer register (after_put answered state) ≡ answer register state
plain-put Icr (Put frame) kept state plain = cc
plain-put Gptc (Put frame) kept state plain = cc
plain-put _ (Put frame) kept state plain = refl
plain-put _ _ kept state plain = refl

plain-moved : (register : Register) (answered : FrameOutcome) (kept : ℕ) (state : AdapterState) → (row_of register).kept ≡ Some kept
    → moves_head (row_of register).offset RxData answered ≡ false
    → answer register (after_data answered state) ≡ answer register state
plain-moved (Receive part) Part kept state plain none = not_head 0x2800 part state.receive_ring none
plain-moved Icr Part kept state plain none = cc
plain-moved _ Part kept state plain none = refl
plain-moved (Receive part) Moved kept state plain none = not_head 0x2800 part state.receive_ring none
plain-moved Icr Moved kept state plain none = cc
plain-moved _ Moved kept state plain none = refl
plain-moved _ Fault kept state plain none = refl
plain-moved _ _ kept state plain none = refl

plain-done : (register : Register) (answered : FrameOutcome) (kept : ℕ) (state : AdapterState) → (row_of register).kept ≡ Some kept
    → answer register (after_done answered state) ≡ answer register state
plain-done Icr Done kept state plain = cc
plain-done Gprc Done kept state plain = cc
plain-done _ Done kept state plain = refl
plain-done _ _ kept state plain = refl

plain-arrived : (register : Register) (fate : Fate) (frame : List ℕ) (kept : ℕ) (state : AdapterState) → (row_of register).kept ≡ Some kept
    → answer register (after_arrive fate frame state) ≡ answer register state
plain-arrived Icr Missed frame kept state plain = cc
plain-arrived Mpc Missed frame kept state plain = cc
plain-arrived Rnbc Missed frame kept state plain = cc
plain-arrived _ Missed frame kept state plain = refl
plain-arrived Rnbc Stored frame kept state plain = cc
plain-arrived _ Stored frame kept state plain = refl
plain-arrived _ _ frame kept state plain = refl

plain-stepped : (register : Register) (kind : StepKind) (answered : FrameOutcome) (memory : List ℕ) (kept : ℕ) (state : AdapterState)
    → (row_of register).kept ≡ Some kept → moves_head (row_of register).offset kind answered ≡ false
    → answer register (after_step kind answered memory state) ≡ answer register state
plain-stepped register TxTake answered memory kept state plain none = plain-took register answered memory kept state plain none
plain-stepped register TxPut answered memory kept state plain none = plain-put register answered kept state plain
plain-stepped register RxData answered memory kept state plain none = plain-moved register answered kept state plain none
plain-stepped register RxDone answered memory kept state plain none = plain-done register answered kept state plain
plain-stepped register EepromTick answered memory kept state plain none = plain-eeprom register kept state plain
plain-stepped register PhyTick answered memory kept state plain none = plain-told register (mdi.told state.mdic state.phy) kept state plain

-- If the event of a write at a register's offset is no reset, the write of this register is no reset.
pub no_reset : (offset value : ℕ) (register : Register) → (row_of register).offset ≡ offset → is_reset_event (Write offset value) ≡ false
    → is_reset register value ≡ false
no_reset offset value Ctrl there none = by_test (is_reset Ctrl value)
    (subst (λ (o : ℕ). (o == 0 && is_reset Ctrl value) ≡ false) (sym there) none)
  where
    by_test : (test : Bool) → (true && test) ≡ false → test ≡ false
    by_test test same = same
no_reset offset value _ there none = refl

plain-written : (offset value : ℕ) (register : Register) (kept : ℕ) (state : AdapterState) → (row_of register).kept ≡ Some kept
    → sets_register (row_of register).offset (Write offset value) ≡ false
    → answer register (after_write offset value state) ≡ answer register state
plain-written offset value register kept state plain none =
    by_case (register_at offset) (λ written found. register_at-only offset written found)
  where
    by_case : (found : Option Register) → ((written : Register) → found ≡ Some written → StandsAt offset written)
        → answer register (left_by_write found value state) ≡ answer register state
    by_case (Some written) stands =
        let parts = or_parts (offset == (row_of register).offset) (is_reset_event (Write offset value)) none in
        let there = (stands written refl).there in
        let differ : written ≢ register = λ same. false≢true (sym parts.0
        ∙ eq-eqb _ _ (sym there ∙ ap (λ (r : Register). (row_of r).offset) same)) in
        others_stay_at_write written register value state differ (plain-untouched written register kept plain)
        (no_reset offset value written there parts.1)
    by_case None stands = refl

plain-event : (event : AdapterEvent) (register : Register) (kept : ℕ) (state : AdapterState) → (row_of register).kept ≡ Some kept
    → sets_register (row_of register).offset event ≡ false
    → answer register (adapter_after event state) ≡ answer register state
plain-event (Read offset) register kept state plain none = by_case (register_at offset)
  where
    by_case : (found : Option Register) → answer register (left_by_read found state) ≡ answer register state
    by_case (Some read) = plain-read read register kept state plain
    by_case None = refl
plain-event (Write offset value) register kept state plain none = plain-written offset value register kept state plain none
plain-event (Step kind answered memory) register kept state plain none = plain-stepped register kind answered memory kept state plain none
plain-event (Arrive fate frame) register kept state plain none = plain-arrived register fate frame kept state plain

-- If no event of a list sets a register that has kept bits, the list doesn't change what the register reads.
pub plain-events : (events : List AdapterEvent) (register : Register) (kept : ℕ) (state : AdapterState) → (row_of register).kept ≡ Some kept
    → NoneSets (row_of register).offset events
    → answer register (adapter_after_all events state) ≡ answer register state
plain-events [] register kept state plain none = refl
plain-events (event ∷ later) register kept state plain none =
    let parts = or_parts (sets_register (row_of register).offset event) (list_any (sets_register (row_of register).offset) later) none in
    plain-events later register kept (adapter_after event state) plain parts.1 ∙ plain-event event register kept state plain parts.0

-- The adapter after two lists of events, one after the other.
pub adapter_after_all-append : (before after : List AdapterEvent) (state : AdapterState)
    → adapter_after_all (before ++ after) state ≡ adapter_after_all after (adapter_after_all before state)
adapter_after_all-append [] after state = refl
adapter_after_all-append (event ∷ before) after state = adapter_after_all-append before after (adapter_after event state)

plain-not_pba : (register : Register) (kept : ℕ) → (row_of register).kept ≡ Some kept → register ≢ Pba
plain-not_pba register kept plain same =
    let ruled : (row_of register).kept ≡ None = ap (λ (r : Register). (row_of r).kept) same in
    cc

-- The state after a reset event is the state of `after_reset`.
pub reset-event : (event : AdapterEvent) (state : AdapterState) → is_reset_event event ≡ true
    → adapter_after event state ≡ after_reset state
reset-event (Read offset) state resets = absurd (false≢true resets)
reset-event (Step kind answer memory) state resets = absurd (false≢true resets)
reset-event (Arrive fate frame) state resets = absurd (false≢true resets)
reset-event (Write offset value) state resets =
    let parts = and_parts (offset == 0) (is_reset Ctrl value) resets in
    let there : offset ≡ 0 = eqb-true offset 0 parts.0 in
    let found : register_at offset ≡ Some Ctrl = subst (λ (o : ℕ). register_at o ≡ Some Ctrl) (sym there) (register_at-there Ctrl tt) in
    let written : after_write offset value state
    ≡ write_of Ctrl value state = ap (λ (r : Option Register). left_by_write r value state) found in
    written ∙ rw parts.1 refl

pub plain_by_history : PlainByHistory
plain_by_history register kept words link within plain = record {
  never_written = λ all none.
      at_offset (adapter_after_all all start)
      ∙ plain-events all register kept start plain none
      ∙ answer-at_reset register words (new_phy link) 48 within differ;
  written = λ before value after none_resets none.
      let here = adapter_after_all before start in
      let event = Write (row_of register).offset value in
      at_offset (adapter_after_all (before ++ event ∷ after) start)
      ∙ ap (answer register) (adapter_after_all-append before (event ∷ after) start)
      ∙ plain-events after register kept (adapter_after event here) plain none
      ∙ ap (answer register) (ap (λ (r : Option Register). left_by_write r value here) there)
      ∙ plain_reads_back register kept value here (HasRegisters-after_events before start (HasRegisters-new words link)) within plain
      (no_reset (row_of register).offset value register refl none_resets);
  reset = λ before event after resets none.
      let here = adapter_after_all before start in
      at_offset (adapter_after_all (before ++ event ∷ after) start)
      ∙ ap (answer register) (adapter_after_all-append before (event ∷ after) start)
      ∙ plain-events after register kept (adapter_after event here) plain none
      ∙ ap (answer register) (reset-event event here resets)
      ∙ answer-at_reset register here.image here.phy here.receive_kilobytes within differ
      ∙ ap (row_of register).reset (image-after_events before start);
}
  where
    start : AdapterState
    start = new_adapter words link

    there : register_at (row_of register).offset ≡ Some register
    there = register_at-there register within

    differ : register ≢ Pba
    differ = plain-not_pba register kept plain

    at_offset : (state : AdapterState) → answer_at (row_of register).offset state ≡ answer register state
    at_offset state = ap (λ (r : Option Register). answer_of r state) there
