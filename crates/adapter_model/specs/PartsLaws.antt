-- The proof of `PartsHaveTheirLaws`: each event at an adapter has the effect of its operations on EERD, and on MDIC and the PHY.
use Rattle.std.proofs.Common.{◌≡◌, ℕ, Bool, true, false, List, [], ◌∷◌, ◌++◌, Option, Some, None, refl, sym, ◌∙◌, ap, if◌then◌else◌}
use Rattle.std.specs.List.{list_any}
use Rattle.std.specs.Option.{is_some}
use Rattle.std.proofs.lemmas.Bool.{or_parts, true≢false}
use Rattle.eeprom.specs.Eerd.{shown}
use Rattle.eeprom.specs.EerdHistory as eerd
use Rattle.eeprom.specs.EerdLaws.{after_all-append}
use Rattle.mdic_phy.specs.declared.mdic.Operation.{Operation}
use Rattle.mdic_phy.specs.declared.mdic.Ticked.{Ticked}
use Rattle.mdic_phy.specs.declared.phy.Negotiation.{Negotiation}
use Rattle.mdic_phy.specs.declared.phy.Negotiation.TheVariants.{NotStarted, Running, Complete}
use Rattle.mdic_phy.specs.Mdic.{MdicState, mdic_after_tick, phy_after_tick, told, phy_ended}
use Rattle.mdic_phy.specs.Mdic as mdi
use Rattle.mdic_phy.specs.MdicHistory.{MdicAndPhy, after_mdic_events}
use Rattle.mdic_phy.specs.MdicLaws.{accesses_by_history, after_mdic_events-append}
use Rattle.mdic_phy.specs.Phy.{PhyState, counted_down, is_counting, is_running, new_phy}
use Rattle.mdic_phy.specs.Phy as phy
use Rattle.adapter_model.specs.declared.register.Register.{Register}
use Rattle.adapter_model.specs.declared.register.Register.TheVariants.{Ctrl, Eerd, Mdic}
use Rattle.adapter_model.specs.declared.step.StepKind.TheVariants.{TxTake, TxPut, RxData, RxDone, EepromTick, PhyTick}
use Rattle.adapter_model.specs.History.{AdapterEvent, Read, Write, Step, Arrive, adapter_after, adapter_after_all, is_reset_event}
use Rattle.adapter_model.specs.HistoryLaws.{LeavesParts, adapter_after_all-append, parts-arrived, parts-done, parts-moved, parts-put, parts-read}
use Rattle.adapter_model.specs.HistoryLaws.{image-after_event, image-after_events, no_reset, parts-took, reset-event}
use Rattle.adapter_model.specs.Parts.{NoReset, PartsHaveTheirLaws, eerd_operation, eerd_operations, eerd_written, mdic_event, mdic_events}
use Rattle.adapter_model.specs.Parts.{mdic_written}
use Rattle.adapter_model.specs.Registers.{after_reset, answer_of, by_row, is_reset, left_by_read, left_by_write, new_adapter, write_of}
use Rattle.adapter_model.specs.State.{AdapterState}
use Rattle.adapter_model.specs.Steps.{after_phy_told, after_phy_tick}
use Rattle.adapter_model.specs.Table.{StandsAt, register_at, row_of}
use Rattle.adapter_model.specs.TableLaws.{register_at-only, register_at-there}

-- MDIC and the PHY of an adapter.
abbrev both_of : AdapterState → MdicAndPhy
both_of state = record { mdic = state.mdic; phy = state.phy }

mdic-idle : (pending : Option Operation) (value : ℕ) (state : PhyState) → is_some pending ≡ false
    → mdic_after_tick (record { value = value; pending = pending }) state ≡ record { value = value; pending = pending }
mdic-idle (Some operation) value state none = absurd (true≢false none)
mdic-idle None value state none = refl

negotiation-still : (negotiation : Negotiation) → is_running negotiation ≡ false → counted_down negotiation ≡ negotiation
negotiation-still NotStarted still = refl
negotiation-still (Running left) still = absurd (true≢false still)
negotiation-still Complete still = refl

phy-idle : (pending : Option Operation) (value : ℕ) (state : PhyState) → is_some pending ≡ false → is_counting state ≡ false
    → phy_ended pending value (phy.after_tick state) ≡ state
phy-idle (Some operation) value state none still = absurd (true≢false none)
phy-idle None value state none still =
    ap (λ (negotiation : Negotiation). record state { negotiation = negotiation }) (negotiation-still state.negotiation still)

-- A step `PhyTick` changes MDIC and the PHY as a `Tick` event of MDIC does, even if the step has nothing to do.
both-ticked : (state : AdapterState)
    → both_of (after_phy_tick state) ≡ after_mdic_events (Rattle.mdic_phy.specs.MdicHistory.Tick ∷ []) (both_of state)
both-ticked state = by_test (mdi.has_work state.mdic state.phy) (λ none. none)
  where
    what : Ticked
    what = record { link_changed = phy.comes_up state.phy; access_complete = mdi.tells_end state.mdic }

    by_test : (test : Bool) → (test ≡ false → mdi.has_work state.mdic state.phy ≡ false)
        → both_of (after_phy_told (if test then Some what else None) state)
        ≡ record { mdic = mdic_after_tick state.mdic state.phy; phy = phy_after_tick state.mdic state.phy }
    by_test true none = refl
    by_test false none =
        let parts = or_parts (is_counting state.phy) (is_some state.mdic.pending) (none refl) in
        let mdic = mdic-idle state.mdic.pending state.mdic.value state.phy parts.1 in
        let phy = phy-idle state.mdic.pending state.mdic.value state.phy parts.1 parts.0 in
        ap (λ (m : MdicState). both m state.phy) (sym mdic) ∙ ap (λ (p : PhyState). both (mdic_after_tick state.mdic state.phy) p) (sym phy)
      where
        both : MdicState → PhyState → MdicAndPhy
        both m p = record { mdic = m; phy = p }

both-written : (register : Register) (value : ℕ) (state : AdapterState)
    → both_of (write_of register value state) ≡ after_mdic_events (mdic_written (Some register) value) (both_of state)
both-written Mdic value state = refl
both-written Ctrl value state = by_test (is_reset Ctrl value)
  where
    by_test : (test : Bool)
        → both_of (if test then after_reset state else by_row (row_of Ctrl).kept Ctrl value state)
        ≡ after_mdic_events (if test then Rattle.mdic_phy.specs.MdicHistory.Write 0 ∷ [] else []) (both_of state)
    by_test true = refl
    by_test false = refl
both-written _ value state = refl

both-left : (before after : AdapterState) → LeavesParts before after → both_of after ≡ both_of before
both-left before after left = rw (left.mdic, left.phy) refl

both-event : (event : AdapterEvent) (state : AdapterState)
    → both_of (adapter_after event state) ≡ after_mdic_events (mdic_event event) (both_of state)
both-event (Read offset) state = by_case (register_at offset)
  where
    by_case : (found : Option Register) → both_of (left_by_read found state) ≡ both_of state
    by_case (Some register) = both-left state _ (parts-read register state)
    by_case None = refl
both-event (Write offset value) state = by_case (register_at offset)
  where
    by_case : (found : Option Register)
        → both_of (left_by_write found value state) ≡ after_mdic_events (mdic_written found value) (both_of state)
    by_case (Some register) = both-written register value state
    by_case None = refl
both-event (Step TxTake answer memory) state = both-left state _ (parts-took answer memory state)
both-event (Step TxPut answer memory) state = both-left state _ (parts-put answer state)
both-event (Step RxData answer memory) state = both-left state _ (parts-moved answer state)
both-event (Step RxDone answer memory) state = both-left state _ (parts-done answer state)
both-event (Step EepromTick answer memory) state = refl
both-event (Step PhyTick answer memory) state = both-ticked state
both-event (Arrive fate frame) state = both-left state _ (parts-arrived fate frame state)

pub both-events : (events : List AdapterEvent) (state : AdapterState)
    → both_of (adapter_after_all events state) ≡ after_mdic_events (mdic_events events) (both_of state)
both-events [] state = refl
both-events (event ∷ later) state =
    both-events later (adapter_after event state)
    ∙ ap (after_mdic_events (mdic_events later)) (both-event event state)
    ∙ sym (after_mdic_events-append (mdic_event event) (mdic_events later) (both_of state))

eerd-by_row : (register : Register) (value : ℕ) (state : AdapterState)
    → (by_row (row_of register).kept register value state).eerd ≡ eerd.after_all state.image (eerd_written (Some register) value) state.eerd
eerd-by_row Eerd value state = refl
eerd-by_row _ value state = refl

eerd-told : (what : Option Ticked) (state : AdapterState) → (after_phy_told what state).eerd ≡ state.eerd
eerd-told (Some ticked) state = refl
eerd-told None state = refl

eerd-event : (event : AdapterEvent) (state : AdapterState) → is_reset_event event ≡ false
    → (adapter_after event state).eerd ≡ eerd.after_all state.image (eerd_operation event) state.eerd
eerd-event (Read offset) state none = by_case (register_at offset)
  where
    by_case : (found : Option Register) → (left_by_read found state).eerd ≡ state.eerd
    by_case (Some register) = (parts-read register state).eerd
    by_case None = refl
eerd-event (Write offset value) state none = by_case (register_at offset) (λ register found. register_at-only offset register found)
  where
    by_case : (found : Option Register) → ((register : Register) → found ≡ Some register → StandsAt offset register)
        → (left_by_write found value state).eerd ≡ eerd.after_all state.image (eerd_written found value) state.eerd
    by_case (Some register) stands =
        ap (λ (test : Bool). (if test then after_reset state else by_row (row_of register).kept register value state).eerd)
        (no_reset offset value register (stands register refl).there none)
        ∙ eerd-by_row register value state
    by_case None stands = refl
eerd-event (Step TxTake answer memory) state none = (parts-took answer memory state).eerd
eerd-event (Step TxPut answer memory) state none = (parts-put answer state).eerd
eerd-event (Step RxData answer memory) state none = (parts-moved answer state).eerd
eerd-event (Step RxDone answer memory) state none = (parts-done answer state).eerd
eerd-event (Step EepromTick answer memory) state none = refl
eerd-event (Step PhyTick answer memory) state none = eerd-told (told state.mdic state.phy) state
eerd-event (Arrive fate frame) state none = (parts-arrived fate frame state).eerd

pub eerd-events : (events : List AdapterEvent) (state : AdapterState) → NoReset events
    → (adapter_after_all events state).eerd ≡ eerd.after_all state.image (eerd_operations events) state.eerd
eerd-events [] state none = refl
eerd-events (event ∷ later) state none =
    let parts = or_parts (is_reset_event event) (list_any is_reset_event later) none in
    eerd-events later (adapter_after event state) parts.1
    ∙ ap (λ (words : List ℕ). eerd.after_all words (eerd_operations later) (adapter_after event state).eerd) (image-after_event event state)
    ∙ ap (eerd.after_all state.image (eerd_operations later)) (eerd-event event state parts.0)
    ∙ sym (after_all-append state.image (eerd_operation event) (eerd_operations later) state.eerd)

pub parts_have_their_laws : PartsHaveTheirLaws
parts_have_their_laws words link = record {
  eerd_since_power_on = λ all none.
      ap (λ (found : Option Register). answer_of found (adapter_after_all all start)) (register_at-there Eerd tt)
      ∙ ap shown (eerd-events all start none);
  eerd_since_reset = λ before event after resets none.
      let here = adapter_after_all before start in
      ap (λ (found : Option Register). answer_of found (adapter_after_all (before ++ event ∷ after) start)) (register_at-there Eerd tt)
      ∙ ap (λ (state : AdapterState). shown state.eerd) (adapter_after_all-append before (event ∷ after) start)
      ∙ ap (λ (state : AdapterState). shown (adapter_after_all after state).eerd) (reset-event event here resets)
      ∙ ap shown (eerd-events after (after_reset here) none)
      ∙ ap (λ (image : List ℕ). eerd.reads_after image (eerd_operations after)) (image-after_events before start);
  mdic = λ all.
      ap (λ (found : Option Register). answer_of found (adapter_after_all all start)) (register_at-there Mdic tt)
      ∙ ap (λ (both : MdicAndPhy). both.mdic.value) (both-events all start);
  phy = λ all.
      ap (λ (both : MdicAndPhy). both.phy) (both-events all start)
      ∙ accesses_by_history (new_phy link) (mdic_events all);
}
  where
    start : AdapterState
    start = new_adapter words link
