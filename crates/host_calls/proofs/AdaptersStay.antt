-- `IsAdapter` remains true in each event; after a tick of the EEPROM, `IsAdapter` is true.
use Rattle.std.proofs.Common.{◌≡◌, ◌≢◌, ◌≤◌, ◌<◌, ◌-◌, ◌/◌, ◌^◌, ◌∷◌, ◌++◌, []}
use Rattle.std.proofs.Common.{Bool, true, false, ℕ, zero, suc, List, Option}
use Rattle.std.proofs.Common.{Some, None, All}
use Rattle.std.proofs.Common.{if◌then◌else◌, ap, arith, drop, length, length-drop, length-take, refl, subst, sym, ◌∙◌}
use Rattle.std.specs.Option.{ForSome}
use Rattle.std.specs.Prelude.{bit_and}
use Rattle.std.proofs.lemmas.Bool.{leb-false}
use Rattle.std.proofs.lemmas.Nat.{mod_below}
use Rattle.std.proofs.lemmas.List.Elements.{All-append, All-cons, All-drop}
use Rattle.std.proofs.lemmas.List.Sums.{sum_by-take-drop}
use Rattle.adapter.proofs.Lists.{all-head, all-none}
use Rattle.mdic_phy.specs.declared.mdic.Ticked.{Ticked}
use Rattle.mdic_phy.specs.Mdic.{told}
use Rattle.registers.specs.Bits.{field}
use Rattle.registers.specs.ReceiveControl.{buffer_size_of}
use Rattle.descriptors.specs.Frames.{IsLegal, longest_frame}
use Rattle.rx_engine.specs.Moving.{buffer_bytes, left_bytes, next_piece}
use Rattle.rx_engine.specs.Receiver.{IsReceiver, Receiver, new_receiver, oldest}
use Rattle.rx_engine.specs.Room.{cost}
use Rattle.rx_engine.specs.RoomLaws.{occupied-append}
use Rattle.rx_engine.specs.declared.arrival.Fate.{Fate}
use Rattle.rx_engine.specs.declared.arrival.Fate.TheVariants.{Missed, Stored}
use Rattle.rx_engine.specs.declared.engine.Work.{Work}
use Rattle.adapter.specs.AdapterLaws.{HasRegisters-after_event}
use Rattle.adapter.specs.History.{AdapterEvent, Arrive, Read, Step, Write, adapter_after}
use Rattle.adapter.specs.HistoryLaws.{image-after_event}
use Rattle.adapter.specs.Outcomes.{FrameOutcome}
use Rattle.adapter.specs.Receiving.{DataAnswers, IsFate, after_arrive, after_data, after_done}
use Rattle.adapter.specs.Registers.{after_reset, by_row, by_rule, is_reset, left_by_read, left_by_write, with_register}
use Rattle.adapter.specs.State.{AdapterState, IsAdapter}
use Rattle.adapter.specs.Steps.{Answers, after_phy_told, after_step}
use Rattle.adapter.specs.Table.{register_at, row_of}
use Rattle.adapter.specs.Transmitting.{after_put, after_take}
use Rattle.adapter.specs.World.{World}
use Rattle.adapter.specs.model_types.outcome.Outcome.TheVariants.{Done, Fault, Moved, Part, Put, Took}
use Rattle.adapter.specs.model_types.register.Register.{Register}
use Rattle.adapter.specs.model_types.register.Register.TheVariants.{Ctrl, Eerd, Icr}
use Rattle.adapter.specs.model_types.step.StepKind.{StepKind}
use Rattle.adapter.specs.model_types.step.StepKind.TheVariants.{EepromTick, PhyTick, RxData, RxDone, TxPut, TxTake}
use Rattle.adapter.specs.Trails.{Occurs, Trail, past_of, world_after}
use Rattle.adapter.specs.bus_types.event.Access.{Access}
use Rattle.adapter.specs.bus_types.event.Access.TheVariants.{Loads, Reads, Stores, Writes}
use Rattle.adapter.specs.bus_types.event.Event.{Event}
use Rattle.adapter.specs.bus_types.event.Event.TheVariants.{Accesses, Arrives, Steps}

-- The receive engine after accesses

after-read : (register : Option Register) (state : AdapterState) → (left_by_read register state).receiver ≡ state.receiver
after-read None state = refl
after-read (Some Icr) state = refl
after-read (Some register) state = refl

by-rule : (register : Register) (value : ℕ) (state : AdapterState) → (by_rule register value state).receiver ≡ state.receiver
by-rule Eerd value state = refl
by-rule register value state = refl

by-kept : (register : Register) (number : ℕ) (state : AdapterState) → (with_register register number state).receiver ≡ state.receiver
by-kept Ctrl number state = refl
by-kept register number state = refl

by-row : (kept : Option ℕ) (register : Register) (value : ℕ) (state : AdapterState)
    → (by_row kept register value state).receiver ≡ state.receiver
by-row None register value state = by-rule register value state
by-row (Some kept) register value state = by-kept register (bit_and value kept) state

none-in_work : (P : Work → Type 0) → ForSome None P
none-in_work P work is = absurd (cc)

one-in_work : (P : Work → Type 0) (work : Work) → P work → ForSome (Some work) P
one-in_work P work holds other is = let same : work ≡ other = cc in subst P same holds

is-empty : IsReceiver new_receiver
is-empty = record {
  room = omega arith;
  frames = all-none IsLegal;
  begun = omega arith;
  least = none-in_work (λ (work : Work). 1 ≤ work.length);
  most = none-in_work (λ (work : Work). work.length ≤ longest_frame);
}

reset-or : (resets : Bool) (state other : AdapterState) → IsReceiver state.receiver → other.receiver ≡ state.receiver
    → IsReceiver (if resets then after_reset state else other).receiver
reset-or true state other is same = is-empty
reset-or false state other is same = subst IsReceiver (sym same) is

after-write : (register : Option Register) (value : ℕ) (state : AdapterState) → IsReceiver state.receiver
    → IsReceiver (left_by_write register value state).receiver
after-write None value state is = is
after-write (Some register) value state is =
    let kept = (row_of register).kept in
    reset-or (is_reset register value) state (by_row kept register value state) is (by-row kept register value state)

-- The receive engine after steps

after-taking : (answer : FrameOutcome) (memory : List ℕ) (state : AdapterState) → (after_take answer memory state).receiver ≡ state.receiver
after-taking Took memory state = refl
after-taking Fault memory state = refl
after-taking _ memory state = refl

after-putting : (answer : FrameOutcome) (state : AdapterState) → (after_put answer state).receiver ≡ state.receiver
after-putting (Put frame) state = refl
after-putting _ state = refl

first-legal : (frames : List (List ℕ)) → frames ≢ [] → All IsLegal frames → IsLegal (oldest frames)
first-legal [] some are = absurd (some refl)
first-legal (frame ∷ later) some are = all-head IsLegal frame later are

some-sized : (code : ℕ) → code < 4 → 1 ≤ buffer_size_of code
some-sized zero small = omega arith
some-sized (suc zero) small = omega arith
some-sized (suc (suc zero)) small = omega arith
some-sized (suc (suc (suc zero))) small = omega arith
some-sized (suc (suc (suc (suc code)))) small = absurd (omega (arith, small))

some-bytes : (control : ℕ) → 1 ≤ buffer_bytes control
some-bytes control = some-sized (field control 16 2) (mod_below (control / 2 ^ 16) 4 (omega arith))

sized-piece : (control : ℕ) (engine : Receiver) → IsReceiver engine → engine.buffer ≢ []
    → (1 ≤ length (next_piece control engine)) × (length (next_piece control engine) ≤ longest_frame)
sized-piece control engine is some =
    let first = first-legal engine.buffer some is.frames in
    let piece = length-take (buffer_bytes control) (drop engine.moved (oldest engine.buffer)) in
    let left = length-drop engine.moved (oldest engine.buffer) in
    (omega (arith, is.begun, first.least, piece, left, some-bytes control), omega (arith, first.most, piece, left))

after-moving : (answer : FrameOutcome) (memory : List ℕ) (state : AdapterState) → IsReceiver state.receiver
    → DataAnswers memory state answer → IsReceiver (after_data answer state).receiver
after-moving Part memory state is answers =
    let engine = state.receiver in
    let size = buffer_bytes state.filter.rctl in
    let piece = sized-piece state.filter.rctl engine is answers.0.ready.frames in
    let more = leb-false (left_bytes engine) size answers.2 in
    let count = length-take size (drop engine.moved (oldest engine.buffer)) in
    record {
      room = is.room;
      frames = is.frames;
      begun = omega (arith, more, count, length-drop engine.moved (oldest engine.buffer));
      least = one-in_work (λ (work : Work). 1 ≤ work.length) _ piece.0;
      most = one-in_work (λ (work : Work). work.length ≤ longest_frame) _ piece.1;
    }
after-moving Moved memory state is answers =
    let piece = sized-piece state.filter.rctl state.receiver is answers.0.ready.frames in
    let fewer = sum_by-take-drop cost state.receiver.buffer 1 in
    record {
      room = omega (arith, fewer, is.room);
      frames = All-drop IsLegal 1 state.receiver.buffer is.frames;
      begun = omega arith;
      least = one-in_work (λ (work : Work). 1 ≤ work.length) _ piece.0;
      most = one-in_work (λ (work : Work). work.length ≤ longest_frame) _ piece.1;
    }
after-moving Fault memory state is answers =
    record { room = is.room; frames = is.frames; begun = is.begun; least = is.least; most = is.most }
after-moving _ memory state is answers = is

after-finishing : (answer : FrameOutcome) (state : AdapterState) → IsReceiver state.receiver → IsReceiver (after_done answer state).receiver
after-finishing Done state is = record {
  room = is.room;
  frames = is.frames;
  begun = is.begun;
  least = none-in_work (λ (work : Work). 1 ≤ work.length);
  most = none-in_work (λ (work : Work). work.length ≤ longest_frame);
}
after-finishing _ state is = is

after-telling : (ticked : Option Ticked) (state : AdapterState) → (after_phy_told ticked state).receiver ≡ state.receiver
after-telling None state = refl
after-telling (Some ticked) state = refl

after-stepping : (kind : StepKind) (wire_free : Bool) (answer : FrameOutcome) (memory : List ℕ) (state : AdapterState)
    → IsReceiver state.receiver → Answers kind wire_free memory state answer → IsReceiver (after_step kind answer memory state).receiver
after-stepping TxTake wire_free answer memory state is answers = subst IsReceiver (sym (after-taking answer memory state)) is
after-stepping TxPut wire_free answer memory state is answers = subst IsReceiver (sym (after-putting answer state)) is
after-stepping RxData wire_free answer memory state is answers = after-moving answer memory state is answers
after-stepping RxDone wire_free answer memory state is answers = after-finishing answer state is
after-stepping EepromTick wire_free answer memory state is answers = is
after-stepping PhyTick wire_free answer memory state is answers =
    subst IsReceiver (sym (after-telling (told state.mdic state.phy) state)) is

-- The receive engine after arrivals: a frame is stored if there is room for it

still-begun : (frames : List (List ℕ)) (frame : List ℕ) (moved : ℕ) → moved ≤ length (oldest frames) - 1
    → moved ≤ length (oldest (frames ++ frame ∷ [])) - 1
still-begun [] frame moved begun = omega (arith, begun)
still-begun (first ∷ later) frame moved begun = begun

after-arriving : (fate : Fate) (frame : List ℕ) (state : AdapterState) → IsAdapter state → IsFate state frame fate
    → IsReceiver (after_arrive fate frame state).receiver
after-arriving Stored frame state is fated =
    let most = is.registers.allocation.most in
    let before = is.receiver in
    let below = fated.1 in
    let more = occupied-append state.receiver.buffer frame in
    record {
      room = omega (arith, most, below, more);
      frames =
          All-append IsLegal state.receiver.buffer (frame ∷ []) before.frames
          (All-cons IsLegal frame [] fated.0.legal (all-none IsLegal));
      begun = still-begun state.receiver.buffer frame state.receiver.moved before.begun;
      least = before.least;
      most = before.most;
    }
after-arriving Missed frame state is fated = is.receiver
after-arriving _ frame state is fated = is.receiver

-- The whole adapter

of-event : (event : AdapterEvent) (state : AdapterState) → IsAdapter state → IsReceiver (adapter_after event state).receiver
    → IsAdapter (adapter_after event state)
of-event event state is receiver = record {
  registers = HasRegisters-after_event event state is.registers;
  receiver = receiver;
  image = ap (λ (words : List ℕ). length words) (image-after_event event state) ∙ is.image;
}

after-access : (access : Access) (world : World) → IsAdapter world.adapter → IsAdapter (world_after (Accesses access) world).adapter
after-access (Reads offset value) world is =
    of-event (Read offset) world.adapter is (subst IsReceiver (sym (after-read (register_at offset) world.adapter)) is.receiver)
after-access (Writes offset value) world is =
    of-event (Write offset value) world.adapter is (after-write (register_at offset) value world.adapter is.receiver)
after-access (Loads address size) world is = is
after-access (Stores address bytes) world is = is

pub adapter-after : (event : Event) (world : World) → IsAdapter world.adapter → Occurs event world
    → IsAdapter (world_after event world).adapter
adapter-after (Steps kind wire_free answer) world is occurs =
    of-event (Step kind answer world.memory) world.adapter is
    (after-stepping kind wire_free answer world.memory world.adapter is.receiver occurs.1)
adapter-after (Arrives frame fate) world is occurs =
    of-event (Arrive fate frame) world.adapter is (after-arriving fate frame world.adapter is occurs.1)
adapter-after (Accesses access) world is occurs = after-access access world is

pub adapter-behind : (events : List Event) (a b : World) → Trail events a b → IsAdapter a.adapter → IsAdapter b.adapter
adapter-behind [] a b trail is = subst (λ (world : World). IsAdapter world.adapter) (sym trail) is
adapter-behind (event ∷ later) a b trail is = adapter-behind later (world_after event a) b trail.1 (adapter-after event a is trail.0)

-- `Occurs` of a step or a delivery states `IsAdapter`. So `IsAdapter` holds after a trail in which the EEPROM took a
-- step.
pub adapter-ticked : (events : List Event) (a b : World) → Trail events a b → 0 < (past_of events).eeprom_ticks → IsAdapter b.adapter
adapter-ticked [] a b trail some = absurd (omega (arith, some))
adapter-ticked (Steps kind wire_free answer ∷ later) a b trail some =
    adapter-behind (Steps kind wire_free answer ∷ later) a b trail trail.0.0
adapter-ticked (Arrives frame fate ∷ later) a b trail some = adapter-behind (Arrives frame fate ∷ later) a b trail trail.0.0
adapter-ticked (Accesses access ∷ later) a b trail some =
    adapter-ticked later (world_after (Accesses access) a) b trail.1 (omega (arith, some))
