-- The registers of an adapter meet their invariant (`HasRegisters`) after power-on, a reset, and each access, step and arrival.
use Rattle.std.proofs.Common.{◌≡◌, ◌%◌, ◌==◌, ◌≤◌, ℕ, Bool, true, false, List, [], ◌∷◌, length, Option, Some, None, refl, ◌∙◌}
use Rattle.std.proofs.Common.{if◌then◌else◌, arith, length-set}
use Rattle.std.proofs.lemmas.Bool.{and_parts, eqb-true, leb-true}
use Rattle.mdic_phy.specs.declared.mdic.Ticked.{Ticked}
use Rattle.mdic_phy.specs.declared.phy.Link.{Link}
use Rattle.mdic_phy.specs.Mdic as mdi
use Rattle.registers.specs.Bits.{IsSubset, union}
use Rattle.rx_engine.specs.declared.arrival.Fate.{Fate}
use Rattle.rx_engine.specs.declared.arrival.Fate.TheVariants.{Missed, Stored}
use Rattle.tx_engine.specs.Transmitter.{Queued}
use Rattle.registers.specs.Counting.{greatest_count}
use Rattle.registers.specs.Kept.{all_causes}
use Rattle.registers.specs.Laws.{IsSubset-intersection, IsSubset-masked, IsSubset-union}
use Rattle.adapter_model.specs.declared.register.Register.{Register}
use Rattle.adapter_model.specs.declared.register.Register.TheVariants.{Icr, Ics, Ims, Imc, Pba, Mpc, Gprc, Gptc, Rnbc, Mta, Ral, Rah, Vfta}
use Rattle.adapter_model.specs.declared.step.StepKind.{StepKind}
use Rattle.adapter_model.specs.declared.step.StepKind.TheVariants.{TxTake, TxPut, RxData, RxDone, EepromTick, PhyTick}
use Rattle.adapter_model.specs.Outcomes.{FrameOutcome}
use Rattle.adapter_model.specs.declared.outcome.Outcome.TheVariants.{Took, Put, Part, Moved, Done, Fault}
use Rattle.adapter_model.specs.History.{AdapterEvent, Read, Write, Step, Arrive, adapter_after, adapter_after_all}
use Rattle.registers.specs.PacketBuffer.{IsAllocation, allocation_written, is_allocation}
use Rattle.adapter_model.specs.Registers.{after_reset, answer, by_row, is_reset, left_by_read, left_by_write, new_adapter, read_of, write_of}
use Rattle.adapter_model.specs.State.{AdapterState, CausesAlone, CountersFit, HasTables, HasRegisters}
use Rattle.adapter_model.specs.Receiving.{after_arrive, after_data, after_done, causes_of_finishing, causes_of_moving, is_ending}
use Rattle.adapter_model.specs.Receiving.{no_buffers_counted, received_counted}
use Rattle.adapter_model.specs.Recording.{one_more, with_causes}
use Rattle.adapter_model.specs.Steps.{after_phy_told, causes_told, after_step}
use Rattle.adapter_model.specs.Transmitting.{after_put, after_take, causes_of_putting, causes_of_taking}
use Rattle.adapter_model.specs.Table.{register_at, row_of}

IsAllocation-written : (value kilobytes : ℕ) → IsAllocation kilobytes → IsAllocation (allocation_written value kilobytes)
IsAllocation-written value kilobytes allocation =
    by_test (is_allocation (value % 65536)) (λ passes. passes)
  where
    by_test : (test : Bool) → (test ≡ true → is_allocation (value % 65536) ≡ true)
        → IsAllocation (if test then value % 65536 else kilobytes)
    by_test true passes =
        let least = and_parts _ _ (passes refl) in
        let most = and_parts _ _ least.1 in
        record { least = leb-true 2 _ least.0; most = leb-true _ 48 most.0; even = eqb-true _ 0 most.1 }
    by_test false passes = allocation

no_counts : CountersFit 0 0 0 0
no_counts = record { missed = omega arith; received = omega arith; transmitted = omega arith; no_buffers = omega arith }

no_causes : CausesAlone 0 0
no_causes = record { recorded_causes = refl; masked_causes = refl }

of-parts : {state : AdapterState} → HasTables state.filter.ral state.filter.rah state.filter.mta state.filter.vfta
    → IsAllocation state.receive_kilobytes → CausesAlone state.causes.recorded state.causes.mask
    → CountersFit state.missed_packets state.received_packets state.transmitted_packets state.no_receive_buffers → HasRegisters state
of-parts tables allocation causes counters = record { tables = tables; allocation = allocation; causes = causes; counters = counters }

of-tables : {ral rah mta vfta : List ℕ} → length ral ≡ 16 → length rah ≡ 16 → length mta ≡ 128 → length vfta ≡ 128
    → HasTables ral rah mta vfta
of-tables ral rah mta vfta = record { ral_entries = ral; rah_entries = rah; mta_words = mta; vfta_words = vfta }

of-causes : {recorded mask : ℕ} → IsSubset recorded all_causes → IsSubset mask all_causes → CausesAlone recorded mask
of-causes recorded masked = record { recorded_causes = recorded; masked_causes = masked }

of-counters : {mpc gprc gptc rnbc : ℕ} → mpc ≤ greatest_count → gprc ≤ greatest_count → gptc ≤ greatest_count → rnbc ≤ greatest_count
    → CountersFit mpc gprc gptc rnbc
of-counters missed received transmitted no_buffers = record
    { missed = missed; received = received; transmitted = transmitted; no_buffers = no_buffers }

pub HasRegisters-at_reset : (state : AdapterState) → HasRegisters state → HasRegisters (after_reset state)
HasRegisters-at_reset state adapter =
    record {
      tables = record { ral_entries = refl; rah_entries = refl; mta_words = refl; vfta_words = refl };
      allocation = adapter.allocation;
      causes = no_causes;
      counters = no_counts;
    }

pub HasRegisters-new : (words : List ℕ) (link : Link) → HasRegisters (new_adapter words link)
HasRegisters-new words link =
    record {
      tables = record { ral_entries = refl; rah_entries = refl; mta_words = refl; vfta_words = refl };
      allocation = record { least = omega arith; most = omega arith; even = refl };
      causes = no_causes;
      counters = no_counts;
    }

HasRegisters-by_row : (register : Register) (value : ℕ) (state : AdapterState) → HasRegisters state
    → HasRegisters (by_row (row_of register).kept register value state)
HasRegisters-by_row Pba value state adapter =
    of-parts adapter.tables (IsAllocation-written value state.receive_kilobytes adapter.allocation) adapter.causes adapter.counters
HasRegisters-by_row (Mta word) value state adapter =
    let t = adapter.tables in
    of-parts (of-tables t.ral_entries t.rah_entries (length-set state.filter.mta word _ ∙ t.mta_words) t.vfta_words) adapter.allocation
    adapter.causes adapter.counters
HasRegisters-by_row (Ral entry) value state adapter =
    let t = adapter.tables in
    of-parts (of-tables (length-set state.filter.ral entry _ ∙ t.ral_entries) t.rah_entries t.mta_words t.vfta_words) adapter.allocation
    adapter.causes adapter.counters
HasRegisters-by_row (Rah entry) value state adapter =
    let t = adapter.tables in
    of-parts (of-tables t.ral_entries (length-set state.filter.rah entry _ ∙ t.rah_entries) t.mta_words t.vfta_words) adapter.allocation
    adapter.causes adapter.counters
HasRegisters-by_row (Vfta word) value state adapter =
    let t = adapter.tables in
    of-parts (of-tables t.ral_entries t.rah_entries t.mta_words (length-set state.filter.vfta word _ ∙ t.vfta_words)) adapter.allocation
    adapter.causes adapter.counters
HasRegisters-by_row Icr value state adapter =
    let recorded = IsSubset-intersection state.causes.recorded _ all_causes adapter.causes.recorded_causes in
    of-parts adapter.tables adapter.allocation (of-causes recorded adapter.causes.masked_causes) adapter.counters
HasRegisters-by_row Ics value state adapter =
    let recorded = IsSubset-union state.causes.recorded _ all_causes adapter.causes.recorded_causes (IsSubset-masked value all_causes) in
    of-parts adapter.tables adapter.allocation (of-causes recorded adapter.causes.masked_causes) adapter.counters
HasRegisters-by_row Ims value state adapter =
    let masked = IsSubset-union state.causes.mask _ all_causes adapter.causes.masked_causes (IsSubset-masked value all_causes) in
    of-parts adapter.tables adapter.allocation (of-causes adapter.causes.recorded_causes masked) adapter.counters
HasRegisters-by_row Imc value state adapter =
    let masked = IsSubset-intersection state.causes.mask _ all_causes adapter.causes.masked_causes in
    of-parts adapter.tables adapter.allocation (of-causes adapter.causes.recorded_causes masked) adapter.counters
HasRegisters-by_row _ value state adapter = of-parts adapter.tables adapter.allocation adapter.causes adapter.counters

pub HasRegisters-written : (register : Register) (value : ℕ) (state : AdapterState) → HasRegisters state
    → HasRegisters (write_of register value state)
HasRegisters-written register value state adapter =
    by_test (is_reset register value)
  where
    by_test : (test : Bool) → HasRegisters (if test then after_reset state else by_row (row_of register).kept register value state)
    by_test true = HasRegisters-at_reset state adapter
    by_test false = HasRegisters-by_row register value state adapter

pub HasRegisters-read : (register : Register) (state : AdapterState) → HasRegisters state → HasRegisters (read_of register state)
HasRegisters-read Icr state adapter = of-parts adapter.tables adapter.allocation
    (of-causes refl adapter.causes.masked_causes) adapter.counters
HasRegisters-read Mpc state adapter =
    let c = adapter.counters in
    of-parts adapter.tables adapter.allocation adapter.causes (of-counters (omega arith) c.received c.transmitted c.no_buffers)
HasRegisters-read Gprc state adapter =
    let c = adapter.counters in
    of-parts adapter.tables adapter.allocation adapter.causes (of-counters c.missed (omega arith) c.transmitted c.no_buffers)
HasRegisters-read Gptc state adapter =
    let c = adapter.counters in
    of-parts adapter.tables adapter.allocation adapter.causes (of-counters c.missed c.received (omega arith) c.no_buffers)
HasRegisters-read Rnbc state adapter =
    let c = adapter.counters in
    of-parts adapter.tables adapter.allocation adapter.causes (of-counters c.missed c.received c.transmitted (omega arith))
HasRegisters-read _ state adapter = of-parts adapter.tables adapter.allocation adapter.causes adapter.counters

causes_told-alone : (ticked : Ticked) → IsSubset (causes_told ticked) all_causes
causes_told-alone ticked = by_tests ticked.link_changed ticked.access_complete
  where
    by_tests : (changed complete : Bool) → IsSubset (union (if changed then 0x4 else 0) (if complete then 0x200 else 0)) all_causes
    by_tests true true = refl
    by_tests true false = refl
    by_tests false true = refl
    by_tests false false = refl

HasRegisters-with_causes : (causes : ℕ) (state : AdapterState) → IsSubset causes all_causes → HasRegisters state
    → HasRegisters (with_causes causes state)
HasRegisters-with_causes causes state alone adapter =
    let recorded = IsSubset-union state.causes.recorded causes all_causes adapter.causes.recorded_causes alone in
    of-parts adapter.tables adapter.allocation (of-causes recorded adapter.causes.masked_causes) adapter.counters

HasRegisters-told : (told : Option Ticked) (state : AdapterState) → HasRegisters state → HasRegisters (after_phy_told told state)
HasRegisters-told (Some ticked) state adapter =
    HasRegisters-with_causes (causes_told ticked) _ (causes_told-alone ticked)
    (of-parts adapter.tables adapter.allocation adapter.causes adapter.counters)
HasRegisters-told None state adapter = adapter

cause-alone : (test : Bool) (cause : ℕ) → IsSubset cause all_causes → IsSubset (if test then cause else 0) all_causes
cause-alone true cause alone = alone
cause-alone false cause alone = refl

one_more-fits : (count : ℕ) → one_more count ≤ greatest_count
one_more-fits count = omega arith

no_buffers-fit : (state : AdapterState) → HasRegisters state → no_buffers_counted state ≤ greatest_count
no_buffers-fit state adapter = by_test (state.receive_ring.head == state.receive_ring.tail)
  where
    by_test : (test : Bool) → (if test then one_more state.no_receive_buffers else state.no_receive_buffers) ≤ greatest_count
    by_test true = one_more-fits state.no_receive_buffers
    by_test false = adapter.counters.no_buffers

received-fit : (state : AdapterState) → HasRegisters state → received_counted state ≤ greatest_count
received-fit state adapter = by_test (is_ending state.receiver.work)
  where
    by_test : (test : Bool) → (if test then one_more state.received_packets else state.received_packets) ≤ greatest_count
    by_test true = one_more-fits state.received_packets
    by_test false = adapter.counters.received

HasRegisters-took : (answer : FrameOutcome) (memory : List ℕ) (state : AdapterState) → HasRegisters state
    → HasRegisters (after_take answer memory state)
HasRegisters-took Took memory state adapter =
    HasRegisters-with_causes (causes_of_taking state.transmit_ring) _ (cause-alone _ 0x2 refl)
    (of-parts adapter.tables adapter.allocation adapter.causes adapter.counters)
HasRegisters-took Fault memory state adapter =
    of-parts adapter.tables adapter.allocation adapter.causes adapter.counters
HasRegisters-took _ memory state adapter = adapter

putting-alone : (buffer : List Queued) → IsSubset (causes_of_putting buffer) all_causes
putting-alone [] = refl
putting-alone (queued ∷ later) = cause-alone queued.rs 0x1 refl

HasRegisters-put : (answer : FrameOutcome) (state : AdapterState) → HasRegisters state → HasRegisters (after_put answer state)
HasRegisters-put (Put frame) state adapter =
    let c = adapter.counters in
    HasRegisters-with_causes (causes_of_putting state.transmitter.buffer) _ (putting-alone state.transmitter.buffer)
    (of-parts adapter.tables adapter.allocation adapter.causes
    (of-counters c.missed c.received (one_more-fits state.transmitted_packets) c.no_buffers))
HasRegisters-put _ state adapter = adapter

HasRegisters-moved : (answer : FrameOutcome) (state : AdapterState) → HasRegisters state → HasRegisters (after_data answer state)
HasRegisters-moved Part state adapter =
    HasRegisters-with_causes (causes_of_moving state.receive_ring) _ (cause-alone _ 0x10 refl)
    (of-parts adapter.tables adapter.allocation adapter.causes adapter.counters)
HasRegisters-moved Moved state adapter =
    HasRegisters-with_causes (causes_of_moving state.receive_ring) _ (cause-alone _ 0x10 refl)
    (of-parts adapter.tables adapter.allocation adapter.causes adapter.counters)
HasRegisters-moved Fault state adapter =
    of-parts adapter.tables adapter.allocation adapter.causes adapter.counters
HasRegisters-moved _ state adapter = adapter

HasRegisters-done : (answer : FrameOutcome) (state : AdapterState) → HasRegisters state → HasRegisters (after_done answer state)
HasRegisters-done Done state adapter =
    let c = adapter.counters in
    HasRegisters-with_causes (causes_of_finishing state.receiver.work) _ (cause-alone _ 0x80 refl)
    (of-parts adapter.tables adapter.allocation adapter.causes
    (of-counters c.missed (received-fit state adapter) c.transmitted c.no_buffers))
HasRegisters-done _ state adapter = adapter

pub HasRegisters-arrived : (fate : Fate) (frame : List ℕ) (state : AdapterState) → HasRegisters state
    → HasRegisters (after_arrive fate frame state)
HasRegisters-arrived Missed frame state adapter =
    let c = adapter.counters in
    HasRegisters-with_causes 0x40 _ refl
    (of-parts adapter.tables adapter.allocation adapter.causes
    (of-counters (one_more-fits state.missed_packets) c.received c.transmitted (no_buffers-fit state adapter)))
HasRegisters-arrived Stored frame state adapter =
    let c = adapter.counters in
    of-parts adapter.tables adapter.allocation adapter.causes (of-counters c.missed c.received c.transmitted (no_buffers-fit state adapter))
HasRegisters-arrived _ frame state adapter = adapter

pub HasRegisters-stepped : (kind : StepKind) (answer : FrameOutcome) (memory : List ℕ) (state : AdapterState) → HasRegisters state
    → HasRegisters (after_step kind answer memory state)
HasRegisters-stepped TxTake answer memory state adapter = HasRegisters-took answer memory state adapter
HasRegisters-stepped TxPut answer memory state adapter = HasRegisters-put answer state adapter
HasRegisters-stepped RxData answer memory state adapter = HasRegisters-moved answer state adapter
HasRegisters-stepped RxDone answer memory state adapter = HasRegisters-done answer state adapter
HasRegisters-stepped EepromTick answer memory state adapter =
    of-parts adapter.tables adapter.allocation adapter.causes adapter.counters
HasRegisters-stepped PhyTick answer memory state adapter = HasRegisters-told (mdi.told state.mdic state.phy) state adapter

pub HasRegisters-after_event : (event : AdapterEvent) (state : AdapterState) → HasRegisters state → HasRegisters (adapter_after event state)
HasRegisters-after_event (Read offset) state adapter = by_case (register_at offset)
  where
    by_case : (found : Option Register) → HasRegisters (left_by_read found state)
    by_case (Some register) = HasRegisters-read register state adapter
    by_case None = adapter
HasRegisters-after_event (Write offset value) state adapter = by_case (register_at offset)
  where
    by_case : (found : Option Register) → HasRegisters (left_by_write found value state)
    by_case (Some register) = HasRegisters-written register value state adapter
    by_case None = adapter
HasRegisters-after_event (Step kind answer memory) state adapter = HasRegisters-stepped kind answer memory state adapter
HasRegisters-after_event (Arrive fate frame) state adapter = HasRegisters-arrived fate frame state adapter

pub HasRegisters-after_events : (events : List AdapterEvent) (state : AdapterState) → HasRegisters state
    → HasRegisters (adapter_after_all events state)
HasRegisters-after_events [] state adapter = adapter
HasRegisters-after_events (event ∷ later) state adapter =
    HasRegisters-after_events later (adapter_after event state) (HasRegisters-after_event event state adapter)
