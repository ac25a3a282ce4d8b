-- The state of an adapter after an access, an arrival or a step, from what the parts of the adapter return.
use Rattle.std.proofs.Common.{◌≡◌, ◌≢◌, ◌↔◌, ◌+◌, ◌++◌, ◌∷◌, [], ◌==◌, ℕ, Bool, true, false, List, length}
use Rattle.std.proofs.Common.{Option, Some, None, IfSome, refl, sym, ap, subst, drop, ◌∙◌, if◌then◌else◌}
use Rattle.descriptors.specs.declared.ring.Ring.{Ring}
use Rattle.descriptors.specs.Ring.{address_of, next_of}
use Rattle.mdic_phy.specs.declared.mdic.Ticked.{Ticked}
use Rattle.mdic_phy.specs.Mdic as mdi
use Rattle.mdic_phy.specs.Phy.{PhyState}
use Rattle.registers.specs.Bits.{HasBit, union}
use Rattle.registers.specs.Interrupts.{Interrupts}
use Rattle.registers.specs.Kept.{all_causes, causes_of}
use Rattle.registers.specs.Laws.{IsSubset-masked, IsSubset-union}
use Rattle.registers.specs.Places.{alone, rctl_en, rxt0, txdw, txqe}
use Rattle.descriptors.specs.Frames.{IsLegal}
use Rattle.dma_memory.specs.Areas.{ChangesOnly, area_at}
use Rattle.rx_engine.specs.Finishing.{engine_after_done, memory_after_done}
use Rattle.rx_engine.specs.Arriving.{IsAccepted, after_arrival}
use Rattle.rx_filter.specs.Passing.{Passes}
use Rattle.rx_filter.specs.Registers.{filter_of}
use Rattle.rx_engine.specs.Room.{HasRoomFor, LacksRoomFor}
use Rattle.rx_engine.specs.Receiver.{IsReceiver, Receiver}
use Rattle.rx_engine.specs.declared.arrival.Fate.{Fate}
use Rattle.rx_engine.specs.declared.arrival.Fate.TheVariants.{Off, Illegal, Filtered, Missed, Stored}
use Rattle.rx_engine.specs.declared.done.Done.{Done}
use Rattle.rx_engine.specs.declared.done.Done.TheVariants as dones
use Rattle.rx_engine.specs.declared.engine.Work.{Work}
use Rattle.tx_engine.specs.Fetching.{fetched, pads}
use Rattle.tx_engine.specs.Steps.{DiffersAtMostAt, IfFront, IfPut, IfTook, Takes, status_place, written_back}
use Rattle.tx_engine.specs.Transmitter.{Queued, Transmitter}
use Rattle.tx_engine.specs.declared.answers.Put.{Put}
use Rattle.tx_engine.specs.declared.answers.Put.TheVariants as puts
use Rattle.tx_engine.specs.declared.answers.Take.{Take}
use Rattle.tx_engine.specs.declared.answers.Take.TheVariants as takes
use Rattle.adapter_model.proofs.DataSteps.{none_recorded}
use Rattle.adapter_model.specs.DataOutcomes.{causes_of_take, causes_of_tick, file_after_put, outcome_of_done}
use Rattle.adapter_model.specs.DataOutcomes.{outcome_of_put, outcome_of_take, outcome_of_tick}
use Rattle.adapter_model.specs.Hashed.{file_of}
use Rattle.adapter_model.specs.Outcomes.{framed, oldest_queued}
use Rattle.adapter_model.specs.Receiving.{ChangesDescriptorOf, DoneAnswers, IsFate, after_arrive, after_done, causes_of_finishing, is_ending}
use Rattle.adapter_model.specs.Receiving.{room}
use Rattle.adapter_model.specs.Recording.{one_more}
use Rattle.adapter_model.specs.AdapterLaws.{HasRegisters-read, HasRegisters-written}
use Rattle.adapter_model.specs.Registers.{after_reset, by_row, is_reset, left_by_read, left_by_write, left_without_reset, write_of}
use Rattle.adapter_model.specs.Rings.{ring_of}
use Rattle.adapter_model.specs.State.{AdapterState, CausesAlone, HasRegisters, IsAdapter}
use Rattle.adapter_model.specs.Steps.{after_phy_tick, after_phy_told, causes_told, ticked}
use Rattle.adapter_model.specs.Table.{IsInTable, register_at, row_of}
use Rattle.adapter_model.specs.TableLaws.{register_at-only, register_at-there}
use Rattle.adapter_model.specs.Transmitting.{CanTake, ChangesStatusOfOldest, HasNothingToTake, IsOldest, PutAnswers}
use Rattle.adapter_model.specs.Transmitting.{TakeAnswers, after_put, after_take}
use Rattle.adapter_model.specs.Transmitting.{causes_of_putting, memory_after_put, memory_reported as reported_to}
use Rattle.adapter_model.specs.View.{with_file}
use Rattle.adapter_model.specs.declared.outcome.Outcome.TheVariants as outcomes
use Rattle.adapter_model.specs.declared.register_file.RegisterFile.{RegisterFile}
use Rattle.adapter_model.specs.declared.ring.RingRegisters.{RingRegisters}
use Rattle.adapter_model.specs.declared.register.Register.{Register}
use Rattle.adapter_model.specs.declared.register.Register.TheVariants.{Ctrl, Icr, Pba}

kept-state : (register : Register) (value : ℕ) (state : AdapterState) → register ≢ Pba
    → with_file (file_of (by_row (row_of register).kept register value state)) state ≡ by_row (row_of register).kept register value state
kept-state Pba value state other = absurd (other refl)
kept-state _ value state other = refl

write-state : (register : Register) (value : ℕ) (state : AdapterState) → is_reset register value ≡ false → register ≢ Pba
    → with_file (file_of (by_row (row_of register).kept register value state)) state ≡ write_of register value state
write-state register value state is other =
    kept-state register value state other
    ∙ ap (λ (b : Bool). if b then after_reset state else by_row (row_of register).kept register value state) (sym is)

no-reset : (register : Register) (value : ℕ) → (Some register ≡ Some Ctrl → is_reset Ctrl value ≡ false) → is_reset register value ≡ false
no-reset Ctrl value calm = calm refl
no-reset _ value calm = refl

pub left-write : (found : Option Register) (value : ℕ) (state : AdapterState) → (found ≡ Some Ctrl → is_reset Ctrl value ≡ false)
    → found ≢ Some Pba → with_file (file_of (left_without_reset found value state)) state ≡ left_by_write found value state
left-write (Some register) value state calm other =
    write-state register value state (no-reset register value calm) (λ is. other (ap (λ (r : Register). Some r) is))
left-write None value state calm other = refl

pub left-read : (found : Option Register) (state : AdapterState)
    → with_file (file_of (left_by_read found state)) state ≡ left_by_read found state
left-read (Some Icr) state = refl
left-read (Some _) state = refl
left-read None state = refl

-- The registers keep their invariant in accesses at any offset.
pub registers-read : (found : Option Register) (state : AdapterState) → HasRegisters state → HasRegisters (left_by_read found state)
registers-read (Some register) state has = HasRegisters-read register state has
registers-read None state has = has

pub registers-written : (found : Option Register) (value : ℕ) (state : AdapterState) → HasRegisters state
    → HasRegisters (left_by_write found value state)
registers-written (Some register) value state has = HasRegisters-written register value state has
registers-written None value state has = has

-- The register at an offset.
pub at-register : {A : Type 0} (f : Option Register → A) (offset : ℕ) (register : Register) → IsInTable register
    → offset ≡ (row_of register).offset → f (Some register) ≡ f (register_at offset)
at-register f offset register within is = ap f (sym (register_at-there register within) ∙ ap register_at (sym is))

pub other-register : (offset : ℕ) (register : Register) (found : Option Register) → found ≡ register_at offset
    → offset ≢ (row_of register).offset → found ≢ Some register
other-register offset register found at other is = other (sym (register_at-only offset register (sym at ∙ is)).there)

-- An adapter keeps its invariant if causes are recorded, and its engines, rings, PHY or MDIC change.
pub adapter-raised : (state : AdapterState) (causes : ℕ) {after : Interrupts} {receiver : Receiver} {transmitter : Transmitter}
    {receive_ring transmit_ring : RingRegisters} {phy : PhyState} {mdic : mdi.MdicState}
    → after ≡ record state.causes { recorded = union state.causes.recorded (causes_of causes) } → IsAdapter state → IsReceiver receiver
    → IsAdapter (record state {
      causes = after;
      receiver = receiver;
      transmitter = transmitter;
      receive_ring = receive_ring;
      transmit_ring = transmit_ring;
      phy = phy;
      mdic = mdic;
    })
adapter-raised state causes is adapter received =
    let before = adapter.registers in
    record {
      registers = record {
        tables = before.tables;
        allocation = before.allocation;
        causes = subst (λ (c : Interrupts). CausesAlone c.recorded c.mask) (sym is) (record {
          recorded_causes = IsSubset-union state.causes.recorded (causes_of causes) all_causes before.causes.recorded_causes
              (IsSubset-masked causes all_causes);
          masked_causes = before.causes.masked_causes;
        });
        counters = before.counters;
      };
      receiver = received;
      image = adapter.image;
    }

-- The fate that the receive engine returns meets `IsFate`.
pub fate-is : (fate : Fate) (frame : List ℕ) (state : AdapterState)
    → (fate ≡ Off) ↔ (¬ (HasBit state.filter.rctl rctl_en))
    → (fate ≡ Illegal) ↔ (HasBit state.filter.rctl rctl_en × (¬ (IsLegal frame)))
    → (fate ≡ Filtered) ↔ (HasBit state.filter.rctl rctl_en × IsLegal frame × (¬ (Passes (filter_of state.filter) frame)))
    → (fate ≡ Missed) ↔ (IsAccepted state.filter frame × LacksRoomFor (room state) state.receiver.buffer frame)
    → (fate ≡ Stored) ↔ (IsAccepted state.filter frame × HasRoomFor (room state) state.receiver.buffer frame)
    → IsFate state frame fate
fate-is Off frame state off illegal filtered missed stored = off.0 refl
fate-is Illegal frame state off illegal filtered missed stored = illegal.0 refl
fate-is Filtered frame state off illegal filtered missed stored = filtered.0 refl
fate-is Missed frame state off illegal filtered missed stored = missed.0 refl
fate-is Stored frame state off illegal filtered missed stored = stored.0 refl

pub arrive-state : (fate : Fate) (frame : List ℕ) (state : AdapterState) (receiver : Receiver)
    → receiver ≡ after_arrival fate frame state.receiver
    → record (with_file (file_of (after_arrive fate frame state)) state) { receiver = receiver } ≡ after_arrive fate frame state
arrive-state Off frame state receiver is = ap (λ (r : Receiver). record state { receiver = r }) is
arrive-state Illegal frame state receiver is = ap (λ (r : Receiver). record state { receiver = r }) is
arrive-state Filtered frame state receiver is = ap (λ (r : Receiver). record state { receiver = r }) is
arrive-state Missed frame state receiver is =
    ap (λ (r : Receiver). record (after_arrive Missed frame state) { receiver = r }) is
arrive-state Stored frame state receiver is =
    ap (λ (r : Receiver). record (after_arrive Stored frame state) { receiver = r }) is

-- The adapter after a done step, by the piece that was in progress.
abbrev left_by_done : Option Work → AdapterState → AdapterState
left_by_done work state = record state {
  causes = record state.causes { recorded = union state.causes.recorded (causes_of_finishing work) };
  received_packets = if is_ending work then one_more state.received_packets else state.received_packets;
  receiver = record state.receiver { work = None };
}

done_as : (F : Type 0) (answer : Done) (state : AdapterState) → (answer ≡ dones.Nothing) ↔ (state.receiver.work ≡ None)
    → left_by_done state.receiver.work state ≡ after_done (framed {F = F} (outcome_of_done {F = F} answer) state) state
done_as F dones.Done state nothing = refl
done_as F dones.Nothing state nothing =
    let idle = nothing.0 refl in
    ap (λ (w : Option Work). left_by_done w state) idle
    ∙ none_recorded (record state { receiver = record state.receiver { work = None } })
    ∙ ap (λ (w : Option Work). record state { receiver = record state.receiver { work = w } }) (sym idle)

pub done-state : (F : Type 0) (answer : Done) (state : AdapterState) (ends : Bool) (file : RegisterFile) (receiver : Receiver)
    → ends ≡ is_ending state.receiver.work
    → file ≡ record (file_of state) {
      causes = record state.causes { recorded = union state.causes.recorded (if ends then alone rxt0 else 0) };
      gprc = (if ends then one_more state.received_packets else state.received_packets);
    }
    → receiver ≡ engine_after_done state.receiver → (answer ≡ dones.Nothing) ↔ (state.receiver.work ≡ None)
    → record (with_file file state) { receiver = receiver } ≡ after_done (framed {F = F} (outcome_of_done {F = F} answer) state) state
done-state F answer state ends file receiver ends_is file_is receiver_is nothing =
    ap (λ (f : RegisterFile). record (with_file f state) { receiver = receiver }) file_is
    ∙ ap (λ (b : Bool). record state {
      causes = record state.causes { recorded = union state.causes.recorded (if b then alone rxt0 else 0) };
      received_packets = if b then one_more state.received_packets else state.received_packets;
      receiver = receiver;
    }) ends_is
    ∙ ap (λ (r : Receiver). record (left_by_done state.receiver.work state) { receiver = r }) receiver_is
    ∙ done_as F answer state nothing

pub done-only : (work : Option Work) (memory memory' : List ℕ) → memory' ≡ memory_after_done work memory
    → IfSome work (λ work. ChangesOnly memory memory' (area_at (work.descriptor + 8) 8)) → ChangesDescriptorOf work memory memory'
done-only None memory memory' is only = is
done-only (Some work) memory memory' is only = only

pub done-size : (work : Option Work) (memory memory' : List ℕ) → ChangesDescriptorOf work memory memory' → length memory' ≡ length memory
done-size None memory memory' only = ap length only
done-size (Some work) memory memory' only = only.size

pub done-answers : (F : Type 0) (answer : Done) (state : AdapterState) → (answer ≡ dones.Nothing) ↔ (state.receiver.work ≡ None)
    → DoneAnswers state (framed {F = F} (outcome_of_done {F = F} answer) state)
done-answers F dones.Nothing state nothing = nothing.0 refl
done-answers F dones.Done state nothing = λ idle. let no : dones.Done ≡ dones.Nothing = nothing.1 idle in cc

-- The adapter with the transmit engine, the head of the ring and the causes after a step `TxTake`.
abbrev put_back : Transmitter → Ring → ℕ → AdapterState → AdapterState
put_back engine ring causes state = record state {
  transmitter = engine;
  transmit_ring = record state.transmit_ring { head = ring.head };
  causes = record state.causes { recorded = union state.causes.recorded causes };
}

taking-causes : (emptied test : Bool) → emptied ≡ test → causes_of (if emptied then alone txqe else 0) ≡ (if test then alone txqe else 0)
taking-causes true true same = refl
taking-causes false false same = refl
taking-causes true false same = cc
taking-causes false true same = cc

take_as : (F : Type 0) (answer : Take) (memory : List ℕ) (state : AdapterState) (ring : Ring) (engine : Transmitter)
    → ((answer ≡ takes.Nothing) → (engine ≡ state.transmitter) × (ring ≡ ring_of state.transmit_ring))
    → ((answer ≡ takes.Fault) → (engine ≡ record state.transmitter { stopped = true }) × (ring ≡ ring_of state.transmit_ring))
    → IfTook answer (λ _. Takes state.transmit_control memory (ring_of state.transmit_ring) ring state.transmitter engine)
    → IfTook answer (λ emptied. emptied ≡ (ring.head == ring.tail))
    → put_back engine ring (causes_of (causes_of_take answer)) state
    ≡ after_take (framed {F = F} (outcome_of_take {F = F} answer) state) memory state
take_as F takes.Nothing memory state ring engine untouched stopped took emptied =
    ap (λ (e : Transmitter). put_back e ring 0 state) (untouched refl).0
    ∙ ap (λ (r : Ring). put_back state.transmitter r 0 state) (untouched refl).1
    ∙ none_recorded state
take_as F takes.Fault memory state ring engine untouched stopped took emptied =
    ap (λ (e : Transmitter). put_back e ring 0 state) (stopped refl).0
    ∙ ap (λ (r : Ring). put_back (record state.transmitter { stopped = true }) r 0 state) (stopped refl).1
    ∙ none_recorded (record state { transmitter = record state.transmitter { stopped = true } })
take_as F (takes.Took now_empty) memory state ring engine untouched stopped took emptied =
    let grown : Transmitter = record state.transmitter {
      buffer = state.transmitter.buffer
          ++ fetched (pads state.transmit_control) memory (address_of (ring_of state.transmit_ring) state.transmit_ring.head) ∷ [];
    } in
    let moved : Ring = record (ring_of state.transmit_ring) { head = next_of (ring_of state.transmit_ring) state.transmit_ring.head } in
    let causes = causes_of (if now_empty then alone txqe else 0) in
    ap (λ (e : Transmitter). put_back e ring causes state) took.buffer
    ∙ ap (λ (r : Ring). put_back grown r causes state) took.head
    ∙ ap (λ (n : ℕ). put_back grown moved n state)
    (taking-causes now_empty (moved.head == moved.tail) (emptied ∙ ap (λ (r : Ring). r.head == r.tail) took.head))

pub take-state : (F : Type 0) (answer : Take) (memory : List ℕ) (state : AdapterState) (ring : Ring) (engine : Transmitter)
    (bits : ℕ) (causes : Interrupts) → bits ≡ causes_of_take answer
    → causes ≡ record state.causes { recorded = union state.causes.recorded (causes_of bits) }
    → ((answer ≡ takes.Nothing) → (engine ≡ state.transmitter) × (ring ≡ ring_of state.transmit_ring))
    → ((answer ≡ takes.Fault) → (engine ≡ record state.transmitter { stopped = true }) × (ring ≡ ring_of state.transmit_ring))
    → IfTook answer (λ _. Takes state.transmit_control memory (ring_of state.transmit_ring) ring state.transmitter engine)
    → IfTook answer (λ emptied. emptied ≡ (ring.head == ring.tail))
    → record state { transmitter = engine; transmit_ring = record state.transmit_ring { head = ring.head }; causes = causes }
    ≡ after_take (framed {F = F} (outcome_of_take {F = F} answer) state) memory state
take-state F answer memory state ring engine bits causes bits_are causes_are untouched stopped took emptied =
    ap (λ (i : Interrupts). record state {
      transmitter = engine;
      transmit_ring = record state.transmit_ring { head = ring.head };
      causes = i;
    }) causes_are
    ∙ ap (λ (n : ℕ). put_back engine ring (causes_of n) state) bits_are
    ∙ take_as F answer memory state ring engine untouched stopped took emptied

pub take-answers : (F : Type 0) (answer : Take) (memory : List ℕ) (state : AdapterState)
    → (answer ≡ takes.Nothing) ↔ HasNothingToTake state
    → (answer ≡ takes.Fault) ↔ ((¬ (HasNothingToTake state)) × (¬ (CanTake memory state)))
    → IfTook answer (λ _. CanTake memory state)
    → TakeAnswers memory state (framed {F = F} (outcome_of_take {F = F} answer) state)
take-answers F takes.Nothing memory state nothing fault can = nothing.0 refl
take-answers F takes.Fault memory state nothing fault can = fault.0 refl
take-answers F (takes.Took emptied) memory state nothing fault can =
    ((λ idle. let no : takes.Took emptied ≡ takes.Nothing = nothing.1 idle in cc), can)

pub put-answers : (answer : Put) (wire_free : Bool) (state : AdapterState) → (answer ≡ puts.Nothing) ↔ (state.transmitter.buffer ≡ [])
    → (answer ≡ puts.WireFull) ↔ ((¬ (state.transmitter.buffer ≡ [])) × (wire_free ≡ false))
    → PutAnswers wire_free state (framed (outcome_of_put answer) state)
put-answers puts.Nothing wire_free state nothing full = nothing.0 refl
put-answers puts.WireFull wire_free state nothing full = full.0 refl
put-answers (puts.Put reported) wire_free state nothing full =
    let some : state.transmitter.buffer ≢ [] = λ none. let no : puts.Put reported ≡ puts.Nothing = nothing.1 none in cc in
    let free = is_free wire_free (λ busy. let no : puts.Put reported ≡ puts.WireFull = full.1 (some, busy) in cc) in
    (free, is_oldest state.transmitter.buffer some)
  where
    is_free : (free : Bool) → free ≢ false → free ≡ true
    is_free true other = refl
    is_free false other = absurd (other refl)

    is_oldest : (buffer : List Queued) → buffer ≢ [] → IsOldest buffer (oldest_queued buffer)
    is_oldest [] some = absurd (some refl)
    is_oldest (queued ∷ later) some = refl

putting-causes : (reported : Bool) (buffer : List Queued) → buffer ≢ [] → IfFront buffer (λ queued. reported ≡ queued.rs)
    → (if reported then alone txdw else 0) ≡ causes_of_putting buffer
putting-causes reported [] some is = absurd (some refl)
putting-causes reported (queued ∷ later) some is = ap (λ (b : Bool). if b then alone txdw else 0) is

pub put-state : (answer : Put) (state : AdapterState) (file : RegisterFile) (engine : Transmitter) (memory memory' : List ℕ)
    → file ≡ file_after_put answer (file_of state)
    → (answer ≡ puts.Nothing) ↔ (state.transmitter.buffer ≡ [])
    → (answer ≡ puts.Nothing → (engine ≡ state.transmitter) × (memory' ≡ memory))
    → (answer ≡ puts.WireFull → (engine ≡ state.transmitter) × (memory' ≡ memory))
    → IfPut answer (λ _. engine ≡ record state.transmitter { buffer = drop 1 state.transmitter.buffer })
    → IfPut answer (λ reported. IfFront state.transmitter.buffer (λ queued. reported ≡ queued.rs))
    → record (with_file file state) { transmitter = engine } ≡ after_put (framed (outcome_of_put answer) state) state
put-state puts.Nothing state file engine memory memory' file_is nothing untouched waits gone reports =
    ap (λ (f : RegisterFile). record (with_file f state) { transmitter = engine }) file_is
    ∙ ap (λ (e : Transmitter). record state { transmitter = e }) (untouched refl).0
put-state puts.WireFull state file engine memory memory' file_is nothing untouched waits gone reports =
    ap (λ (f : RegisterFile). record (with_file f state) { transmitter = engine }) file_is
    ∙ ap (λ (e : Transmitter). record state { transmitter = e }) (waits refl).0
put-state (puts.Put reported) state file engine memory memory' file_is nothing untouched waits gone reports =
    let some : state.transmitter.buffer ≢ [] = λ none. let no : puts.Put reported ≡ puts.Nothing = nothing.1 none in cc in
    ap (λ (f : RegisterFile). record (with_file f state) { transmitter = engine }) file_is
    ∙ ap (λ (e : Transmitter). record (with_file (file_after_put (puts.Put reported) (file_of state)) state) { transmitter = e }) gone
    ∙ ap (λ (n : ℕ). record state {
      causes = record state.causes { recorded = union state.causes.recorded n };
      transmitted_packets = one_more state.transmitted_packets;
      transmitter = record state.transmitter { buffer = drop 1 state.transmitter.buffer };
    }) (putting-causes reported state.transmitter.buffer some reports)

pub put-memory : (answer : Put) (state : AdapterState) (engine : Transmitter) (memory memory' : List ℕ)
    → (answer ≡ puts.Nothing) ↔ (state.transmitter.buffer ≡ [])
    → (answer ≡ puts.Nothing → (engine ≡ state.transmitter) × (memory' ≡ memory))
    → (answer ≡ puts.WireFull → (engine ≡ state.transmitter) × (memory' ≡ memory))
    → IfPut answer (λ _. IfFront state.transmitter.buffer (λ queued. memory' ≡ written_back memory queued))
    → memory' ≡ memory_after_put (framed (outcome_of_put answer) state) memory state
put-memory puts.Nothing state engine memory memory' nothing untouched waits written = (untouched refl).1
put-memory puts.WireFull state engine memory memory' nothing untouched waits written = (waits refl).1
put-memory (puts.Put reported) state engine memory memory' nothing untouched waits written =
    by_buffer state.transmitter.buffer (λ none. let no : puts.Put reported ≡ puts.Nothing = nothing.1 none in cc) written
  where
    by_buffer : (buffer : List Queued) → buffer ≢ [] → IfFront buffer (λ queued. memory' ≡ written_back memory queued)
        → memory' ≡ reported_to buffer memory
    by_buffer [] some written = absurd (some refl)
    by_buffer (queued ∷ later) some written = written

pub put-only : (answer : Put) (buffer : List Queued) (engine before : Transmitter) (memory memory' : List ℕ)
    → (answer ≡ puts.Nothing) ↔ (buffer ≡ [])
    → (answer ≡ puts.Nothing → (engine ≡ before) × (memory' ≡ memory))
    → IfFront buffer (λ queued. DiffersAtMostAt (status_place queued) memory memory') → ChangesStatusOfOldest buffer memory memory'
put-only answer [] engine before memory memory' nothing untouched one = (untouched (nothing.1 refl)).1
put-only answer (queued ∷ later) engine before memory memory' nothing untouched one = one

pub put-size : (buffer : List Queued) (memory memory' : List ℕ) → ChangesStatusOfOldest buffer memory memory'
    → length memory' ≡ length memory
put-size [] memory memory' only = ap length only
put-size (queued ∷ later) memory memory' only = only.size

told-causes : (ticked : Ticked) → causes_of (causes_told ticked) ≡ causes_told ticked
told-causes ticked = by_tests ticked.link_changed ticked.access_complete
  where
    by_tests : (changed complete : Bool) → causes_of (union (if changed then 0x4 else 0) (if complete then 0x200 else 0))
        ≡ union (if changed then 0x4 else 0) (if complete then 0x200 else 0)
    by_tests true true = refl
    by_tests true false = refl
    by_tests false true = refl
    by_tests false false = refl

abbrev told_by : PhyState → mdi.MdicState → ℕ → AdapterState → AdapterState
told_by phy mdic causes state = record state {
  phy = phy;
  mdic = mdic;
  causes = record state.causes { recorded = union state.causes.recorded causes };
}

tick_as : (told : Option Ticked) (phy : PhyState) (mdic : mdi.MdicState) (state : AdapterState)
    → phy ≡ mdi.phy_after_tick state.mdic state.phy → mdic ≡ mdi.mdic_after_tick state.mdic state.phy
    → (told ≡ None → mdic ≡ state.mdic) → (told ≡ None → phy ≡ state.phy)
    → told_by phy mdic (causes_of (causes_of_tick told)) state ≡ after_phy_told told state
tick_as None phy mdic state phy_is mdic_is mdic_stays phy_stays =
    ap (λ (p : PhyState). told_by p mdic 0 state) (phy_stays refl)
    ∙ ap (λ (m : mdi.MdicState). told_by state.phy m 0 state) (mdic_stays refl)
    ∙ none_recorded state
tick_as (Some did) phy mdic state phy_is mdic_is mdic_stays phy_stays =
    ap (λ (p : PhyState). told_by p mdic (causes_of (causes_told did)) state) phy_is
    ∙ ap (λ (m : mdi.MdicState). told_by (mdi.phy_after_tick state.mdic state.phy) m (causes_of (causes_told did)) state) mdic_is
    ∙ ap (λ (n : ℕ). told_by (mdi.phy_after_tick state.mdic state.phy) (mdi.mdic_after_tick state.mdic state.phy) n state)
    (told-causes did)

pub tick-state : (told : Option Ticked) (phy : PhyState) (mdic : mdi.MdicState) (bits : ℕ) (causes : Interrupts) (state : AdapterState)
    → bits ≡ causes_of_tick told → causes ≡ record state.causes { recorded = union state.causes.recorded (causes_of bits) }
    → phy ≡ mdi.phy_after_tick state.mdic state.phy → mdic ≡ mdi.mdic_after_tick state.mdic state.phy
    → (told ≡ None → mdic ≡ state.mdic) → (told ≡ None → phy ≡ state.phy) → told ≡ mdi.told state.mdic state.phy
    → record state { phy = phy; mdic = mdic; causes = causes } ≡ after_phy_tick state
tick-state told phy mdic bits causes state bits_are causes_are phy_is mdic_is mdic_stays phy_stays is =
    ap (λ (i : Interrupts). record state { phy = phy; mdic = mdic; causes = i }) causes_are
    ∙ ap (λ (n : ℕ). told_by phy mdic (causes_of n) state) bits_are
    ∙ tick_as told phy mdic state phy_is mdic_is mdic_stays phy_stays
    ∙ ap (λ (t : Option Ticked). after_phy_told t state) is

pub tick-nothing : (F : Type 0) (told : Option Ticked) (state : AdapterState) → told ≡ mdi.told state.mdic state.phy
    → outcome_of_tick {F = F} told ≡ outcomes.Nothing → after_phy_tick state ≡ state
tick-nothing F None state is nothing = ap (λ (t : Option Ticked). after_phy_told t state) (sym is)
tick-nothing F (Some did) state is nothing = cc

pub tick-answers : (F : Type 0) (told : Option Ticked) (state : AdapterState) → told ≡ mdi.told state.mdic state.phy
    → framed {F = F} (outcome_of_tick {F = F} told) state ≡ ticked (mdi.has_work state.mdic state.phy)
tick-answers F told state is =
    ap (λ (t : Option Ticked). framed {F = F} (outcome_of_tick {F = F} t) state) is
    ∙ by_test (mdi.has_work state.mdic state.phy) _
  where
    by_test : (works : Bool) (t : Ticked)
        → framed {F = F} (outcome_of_tick {F = F} (if works then Some t else None)) state ≡ ticked works
    by_test true t = refl
    by_test false t = refl
