-- What is played on an adapter, and what an observer is told about it (our choice).
use denote.RawPtr.{Ptr}
use Rattle.std.specs.Prelude.{◌≡◌, ◌==◌, ◌+◌, ◌++◌, ◌<◌, ◌≤◌, ◌&&◌, ◌||◌, [], ◌∷◌, ℕ, Bool, false, true, List, Option, None, All}
use Rattle.std.specs.Prelude.{drop, if◌then◌else◌, length, min, nat_le, nat_lt, not, sum}
use Rattle.rand_core.specs.Pcg32Seed.{pcg32_seed}
use Rattle.rand_pcg.specs.Pcg.{pcg32_of_seed}
use Rattle.adapter.specs.Outcomes.{FrameOutcome, framed, put_by}
use Rattle.adapter.specs.State.{AdapterState}
use Rattle.adapter.specs.World.{World}
use Rattle.adapter.specs.model_types.outcome.Outcome.{Outcome}
use Rattle.adapter.specs.model_types.outcome.Outcome.TheVariants.{Fault, Nothing, Put, WireFull}
use Rattle.adapter.specs.model_types.step.StepKind.{StepKind}
use Rattle.adapter.specs.model_types.step.StepKind.TheVariants.{EepromTick, PhyTick, RxData, RxDone, TxPut, TxTake}
use Rattle.adapter.specs.LivelyBuses.{most_accesses}
use Rattle.adapter.specs.Machines.{after_event, is_asserted}
use Rattle.adapter.specs.Trails.{Occurs}
use Rattle.adapter.specs.bus_types.event.Access.{Access}
use Rattle.adapter.specs.bus_types.event.Access.TheVariants.{Loads, Stores}
use Rattle.adapter.specs.bus_types.event.Event.{Event}
use Rattle.adapter.specs.bus_types.event.Event.TheVariants as event
use Rattle.dma_memory.specs.HostMemory.{bytes_at}
use Rattle.access_names.specs.Faults.{fault_if_any}
use Rattle.access_names.specs.declared.engine_fault.EngineFault.{EngineFault}
use Rattle.rx_engine.specs.declared.arrival.Fate.{Fate}
use Rattle.tx_engine.specs.Transmitter.{Queued}
use Rattle.step_schedules.specs.declared.deviation.Action.{Action}
use Rattle.step_schedules.specs.declared.deviation.Action.TheVariants.{Arrive}
use Rattle.played_adapter.specs.Choices.{drawn, step_action}
use Rattle.played_adapter.specs.Draws.{drawn_count}
use Rattle.played_adapter.specs.Order.{InOrder, Joins, Times}
use Rattle.played_adapter.specs.Outcomes.{did, moved_by}
use Rattle.played_adapter.specs.Told.{Arrived, Line, Noted, OfferedArrived, Stepped, Told}
use Rattle.played_adapter.specs.Told as tell
use Rattle.played_adapter.specs.declared.choices.Choice.{Choice}
use Rattle.played_adapter.specs.declared.choices.Choice.TheVariants.{Arrival, Step}
use Rattle.played_adapter.specs.declared.choices.Move.{Move}
use Rattle.played_adapter.specs.declared.choices.Move.TheVariants.{Hold, Play, Tick}
use Rattle.played_adapter.specs.declared.player.PlayedAdapter.{PlayedAdapter}
use Rattle.played_adapter.specs.declared.player.Queues.{Queues}
use Rattle.played_adapter.specs.declared.scheduling.ScheduledStep.{ScheduledStep}

-- A new adapter.

-- empty queues, with room for this many frames on the wire, and for this many scheduled steps
abbrev pub empty_queues : (frames steps : ℕ) → Queues
empty_queues frames steps =
    record { wire = record { capacity = frames; frames = [] }; offered = []; scheduled = record { items = []; capacity = steps } }

-- a new adapter with these frames and steps that wait, whose memory has this address, before its first access; a seed has 16 bytes
unfoldable pub new_with_queues : Queues → (memory : List ℕ) → AdapterState → Option Ptr → PlayedAdapter
new_with_queues queues memory adapter address = record {
  machine = record { world = record { memory = memory; adapter = adapter }; reported = is_asserted adapter };
  address = address;
  wire = queues.wire;
  keeps_put = true;
  wire_free = true;
  offered = queues.offered;
  generator = pcg32_of_seed (pcg32_seed 16 0);
  most_steps = 0;
  pace = 0;
  scheduled = queues.scheduled;
  accesses = 0;
  ticks = false;
}

-- a new adapter with empty queues, whose memory has this address, before its first access
abbrev pub new_with_room : (frames steps : ℕ) → (memory : List ℕ) → AdapterState → Option Ptr → PlayedAdapter
new_with_room frames steps memory adapter address = new_with_queues (empty_queues frames steps) memory adapter address

-- a new adapter with room for 64 frames on its wire, and for 4,096 scheduled steps
abbrev pub new_player : (memory : List ℕ) → AdapterState → Option Ptr → PlayedAdapter
new_player memory adapter address = new_with_room 64 4096 memory adapter address

-- a new adapter whose frames don't wait on the wire, with no room for a scheduled step; the generator has this seed
abbrev pub new_without_wire : (memory : List ℕ) → AdapterState → (seed : ℕ) → Option Ptr → PlayedAdapter
new_without_wire memory adapter seed address =
    record (new_with_room 0 0 memory adapter address) { keeps_put = false; generator = pcg32_of_seed (pcg32_seed 16 seed) }

-- the adapter after it has reported the level of its interrupt line
abbrev pub reported : PlayedAdapter → PlayedAdapter
reported a = record a { machine = record a.machine { reported = is_asserted a.machine.world.adapter } }

-- An adapter is a copy of another one: its memory may have another address, and the level of its interrupt line counts as told.
pub record IsCopy (a copy : PlayedAdapter) : Type 0 where
  -- the same adapter and the same memory
  pub world : copy.machine.world ≡ a.machine.world
  -- everything else is also the same, except the address, and the level that counts as told
  pub same : copy ≡ record (reported a) { address = copy.address }

-- What happens.

-- the change of the interrupt line between two levels, if they differ
abbrev pub change_told : (was is : Bool) → List Told
change_told false true = Line true ∷ []
change_told true false = Line false ∷ []
change_told true true = []
change_told false false = []

-- the change of the interrupt line since the level that counts as told, if the level now differs
abbrev pub line_change : PlayedAdapter → List Told
line_change a = change_told a.machine.reported (is_asserted a.machine.world.adapter)

-- A change of the interrupt line, if there is one, is told. Then the level of the line counts as told.
abbrev pub ReportsLine : PlayedAdapter → PlayedAdapter → List Told → Type 0
ReportsLine a b told = (b ≡ reported a) × (told ≡ line_change a)

-- An event happens, and leads to the state `next`. The observer is told `of_it`, and then a change of the interrupt line, if there is one.
pub record HappensTold (one : Event) (of_it : List Told) (next : PlayedAdapter) (a b : PlayedAdapter) (told : List Told) : Type 0 where
  -- the event can happen in this state
  pub occurs : Occurs one a.machine.world
  -- after the event, the level of the line counts as told
  pub after : b ≡ reported next
  -- the event is told, and then the change of the line, if there is one
  pub told_is : told ≡ of_it ++ line_change next

-- the adapter after an event that changes only the machine
abbrev pub after : Event → PlayedAdapter → PlayedAdapter
after one a = record a { machine = after_event one a.machine }

-- A frame arrives, and has this fate.
abbrev pub Arrives : (frame : List ℕ) → Fate → PlayedAdapter → PlayedAdapter → List Told → Type 0
Arrives frame fate a b told = HappensTold (event.Arrives frame fate) (Arrived frame fate ∷ []) (after (event.Arrives frame fate) a) a b told

-- An offered frame arrives with this fate, and the later frames still wait.
abbrev pub FrameArrives : (frame : List ℕ) → (later : List (List ℕ)) → Fate → PlayedAdapter → PlayedAdapter → List Told → Type 0
FrameArrives frame later fate a b told = HappensTold (event.Arrives frame fate) (OfferedArrived frame fate ∷ [])
    (after (event.Arrives frame fate) (record a { offered = later })) a b told

-- The oldest of these frames arrives, if there is one.
abbrev pub OldestArrives : (offered : List (List ℕ)) → PlayedAdapter → PlayedAdapter → List Told → Type 0
OldestArrives [] a b told = (b ≡ a) × (told ≡ [])
OldestArrives (frame ∷ later) a b told = (fate : Fate) × FrameArrives frame later fate a b told

-- The oldest offered frame arrives, if there is one.
abbrev pub NextArrives : PlayedAdapter → PlayedAdapter → List Told → Type 0
NextArrives a b told = OldestArrives a.offered a b told

-- All offered frames arrive, the oldest first.
abbrev pub AllArrive : PlayedAdapter → PlayedAdapter → List Told → Type 0
AllArrive a b told = Times NextArrives (length a.offered) a b told

-- Steps.

-- whether the wire has room: the wire is free, and, if frames that are put wait on it, fewer frames wait than fit
abbrev pub has_room : PlayedAdapter → Bool
has_room a = a.wire_free && (not a.keeps_put || nat_lt (length a.wire.frames) a.wire.capacity)

-- the event of a step of this kind with this outcome; if the step puts a frame, the event contains this frame
abbrev pub step_of : StepKind → Outcome (Unit {0}) → PlayedAdapter → Event
step_of kind outcome a = event.Steps kind (has_room a) (framed outcome a.machine.world.adapter)

-- the frame that is put next, the oldest of a packet buffer, if there is one
abbrev pub next_frames : List Queued → List (List ℕ)
next_frames [] = []
next_frames (queued ∷ later) = queued.frame ∷ []

-- the adapter after a step `TxPut` was announced; if frames that are put wait, the frame that the step will put waits on the wire after the
-- others
abbrev pub after_announced_put : PlayedAdapter → PlayedAdapter
after_announced_put a = record a {
  wire = record a.wire {
    frames = if a.keeps_put && has_room a then a.wire.frames ++ next_frames a.machine.world.adapter.transmitter.buffer
        else a.wire.frames;
  };
}

-- the adapter after a step; a frame that the step put waits on the wire after the others, if frames that are put wait
abbrev pub after_played_step : StepKind → Outcome (Unit {0}) → PlayedAdapter → PlayedAdapter
after_played_step kind outcome a = record a {
  machine = after_event (step_of kind outcome a) a.machine;
  wire = record a.wire {
    frames = if a.keeps_put then a.wire.frames ++ put_by (framed outcome a.machine.world.adapter) else a.wire.frames;
  };
}

-- the fault of a step, from the world after the step, or no fault if the outcome isn't a fault
abbrev pub fault_told : StepKind → Outcome (Unit {0}) → World → Option EngineFault
fault_told kind Fault world = fault_if_any kind world
fault_told kind outcome world = None

-- A step of this kind is played, with this outcome.
abbrev pub Steps : StepKind → Outcome (Unit {0}) → PlayedAdapter → PlayedAdapter → List Told → Type 0
Steps kind outcome a b told =
    HappensTold (step_of kind outcome a)
    (Stepped kind (framed outcome a.machine.world.adapter) (fault_told kind outcome (after_played_step kind outcome a).machine.world) ∷ [])
    (after_played_step kind outcome a) a b told

-- the outcome of a step `TxPut`, by whether the wire has room, and by the frames that the adapter can put
abbrev pub expected : (wire_free : Bool) → List Queued → FrameOutcome
expected wire_free [] = Nothing
expected true (queued ∷ later) = Put queued.frame
expected false (queued ∷ later) = WireFull

-- A step of this kind is played, and counted if the step does something. A state is an adapter and the number of steps counted so far.
pub record PlaysStepOfKind (kind : StepKind) (a b : PlayedAdapter × ℕ) (told : List Told) : Type 0 where
  -- the outcome of the step
  pub outcome : Outcome (Unit {0})
  -- the step is played
  pub steps : Steps kind outcome a.0 b.0 told
  -- the number of steps that did something, which grows by 1 if this step did something
  pub count : b.1 ≡ a.1 + moved_by outcome

-- The wire.

-- the first of these frames, or no bytes if there is no frame
abbrev pub front_of : List (List ℕ) → List ℕ
front_of [] = []
front_of (frame ∷ later) = frame

-- the adapter without the oldest frame on its wire
abbrev pub without_front : PlayedAdapter → PlayedAdapter
without_front a = record a { wire = record a.wire { frames = drop 1 a.wire.frames } }

-- The oldest frame is taken off the wire into a buffer, if it fits. `old` and `new` are the bytes of the buffer before and after. If there
-- is no frame, nothing changes.
pub record AnswersTaking (old new : List ℕ) (answer : ℕ) (a b : PlayedAdapter) : Type 0 where
  -- the answer is the length of the oldest frame, or 0 if there is no frame
  pub length_is : answer ≡ length (front_of a.wire.frames)
  -- if the frame fits, it is at the beginning of the buffer
  pub bytes : answer ≤ length old → new ≡ front_of a.wire.frames ++ drop answer old
  -- if the frame fits, it is no longer on the wire
  pub taken : answer ≤ length old → b ≡ without_front a
  -- if the frame doesn't fit, the buffer is unchanged
  pub same_bytes : length old < answer → new ≡ old
  -- if the frame doesn't fit, the adapter is unchanged
  pub same : length old < answer → b ≡ a

-- Cycles.

-- the kinds of steps in a cycle, each once, in order
abbrev pub cycle : List StepKind
cycle = TxTake ∷ TxPut ∷ RxData ∷ RxDone ∷ EepromTick ∷ PhyTick ∷ []

-- Steps of these kinds are played, in order, and `moved` of them do something.
abbrev pub PlaysAll : List StepKind → (moved : ℕ) → PlayedAdapter → PlayedAdapter → List Told → Type 0
PlaysAll kinds moved a b told = InOrder PlaysStepOfKind kinds (a, 0) (b, moved) told

-- A cycle is played, and `moved` of its steps do something.
abbrev pub Cycle : (moved : ℕ) → PlayedAdapter → PlayedAdapter → List Told → Type 0
Cycle moved a b told = PlaysAll cycle moved a b told

-- the maximum number of cycles of a settle
abbrev pub most_cycles : ℕ
most_cycles = 131072

-- For each cycle, the number of its steps that do something. The busy cycles come first, and then a cycle that does nothing, if fewer than
-- the maximum are busy.
abbrev pub with_last : (most : ℕ) → (busy : List ℕ) → List ℕ
with_last most busy = if nat_lt (length busy) most then busy ++ 0 ∷ [] else busy

-- Cycles are played until one does nothing, up to `most` cycles. `moved` of their steps do something.
pub record Settles (most moved : ℕ) (a b : PlayedAdapter) (told : List Told) : Type 0 where
  -- for each cycle that does something, the number of its steps that do something
  pub busy : List ℕ
  -- each of these numbers is above 0
  pub each : All (λ here. 0 < here) busy
  -- the maximum isn't exceeded
  pub few : length busy ≤ most
  -- these cycles are played, in order
  pub plays : InOrder Cycle (with_last most busy) a b told
  -- `moved` is the sum of these numbers
  pub moved_is : moved ≡ sum busy

-- Steps before an access.

-- the ticks before an access: a step of the EEPROM, and one of the PHY
abbrev pub kinds_of_ticks : List StepKind
kinds_of_ticks = EepromTick ∷ PhyTick ∷ []

-- The ticks are played, if they are on.
abbrev pub Ticks : PlayedAdapter → PlayedAdapter → List Told → Type 0
Ticks a b told = (moved : ℕ) × PlaysAll (if a.ticks then kinds_of_ticks else []) moved a b told

-- the steps that are due before an access: from the front of the scheduled steps, those before the first step for a later access
abbrev pub due : (access : ℕ) → List ScheduledStep → List ScheduledStep
due access [] = []
due access (step ∷ later) = if nat_le step.access access then step ∷ due access later else []

-- the steps that are due before the next access
abbrev pub due_in : PlayedAdapter → List ScheduledStep
due_in a = due a.accesses a.scheduled.items

-- the adapter without its first scheduled step
abbrev pub without_next : PlayedAdapter → PlayedAdapter
without_next a = record a { scheduled = record a.scheduled { items = drop 1 a.scheduled.items } }

-- The first scheduled step is removed, and a step of this kind is played.
abbrev pub PlaysScheduled : ScheduledStep → PlayedAdapter → PlayedAdapter → List Told → Type 0
PlaysScheduled step a b told = (outcome : Outcome (Unit {0})) × Steps step.kind outcome (without_next a) b told

-- A step is scheduled after the others, if there is room for another step.
pub record AnswersSchedule (access : ℕ) (kind : StepKind) (answer : Bool) (a b : PlayedAdapter) : Type 0 where
  -- the answer is whether there is room for another step
  pub range : answer ≡ nat_lt (length a.scheduled.items) a.scheduled.capacity
  -- if there is room, the step is scheduled after the others
  pub taken : answer ≡ true → b ≡ record a {
    scheduled = record a.scheduled { items = a.scheduled.items ++ record { access = access; kind = kind } ∷ [] };
  }
  -- if there is no room, nothing changes
  pub refused : answer ≡ false → b ≡ a

-- the list that consists of this noted action if `did` is true, else an empty list
abbrev pub noted : (did : Bool) → Action → List Told
noted true action = Noted action ∷ []
noted false action = []

-- A step is played, and noted if the step does something.
pub record StepChosen (kind : StepKind) (a b : PlayedAdapter) (told : List Told) : Type 0 where
  -- the outcome of the step
  pub outcome : Outcome (Unit {0})
  -- what is told of the step
  pub first : List Told
  -- the step is played
  pub steps : Steps kind outcome a b first
  -- the step is noted if it did something
  pub told_is : told ≡ first ++ noted (did outcome) (step_action kind)

-- If a frame is offered, the oldest one arrives, and the arrival is noted.
pub record ArrivalChosen (a b : PlayedAdapter) (told : List Told) : Type 0 where
  -- what is told of the arrival
  pub first : List Told
  -- the frame arrives, if there is one
  pub arrives : NextArrives a b first
  -- the arrival is noted if there was a frame
  pub told_is : told ≡ first ++ noted (not (length a.offered == 0)) Arrive

-- A choice is played.
abbrev pub Chosen : Choice → PlayedAdapter → PlayedAdapter → List Told → Type 0
Chosen (Step kind) a b told = StepChosen kind a b told
Chosen Arrival a b told = ArrivalChosen a b told

-- the adapter after the generator drew a choice
abbrev pub drawn_from : PlayedAdapter → PlayedAdapter
drawn_from a = record a { generator = (drawn a.offered a.generator).1 }

-- The choice that the generator draws is played.
abbrev pub DrawsChoice : PlayedAdapter → PlayedAdapter → List Told → Type 0
DrawsChoice a b told = Chosen (drawn a.offered a.generator).0 (drawn_from a) b told

-- The generator draws a number, and then this number of choices, each of which is played before the next is drawn.
abbrev pub Interleaves : PlayedAdapter → PlayedAdapter → List Told → Type 0
Interleaves a b told =
    Times DrawsChoice (drawn_count a.most_steps a.generator).0 (record a { generator = (drawn_count a.most_steps a.generator).1 }) b told

-- the adapter after an access was counted; the count ends at `most_accesses`
abbrev pub access_counted : PlayedAdapter → PlayedAdapter
access_counted a = record a { accesses = min (a.accesses + 1) most_accesses }

-- What the generator draws is played, and the access is counted.
abbrev pub Draws : PlayedAdapter → PlayedAdapter → List Told → Type 0
Draws a b told = (drawn : PlayedAdapter) × Interleaves a drawn told × (b ≡ access_counted drawn)

-- The ticks are played if they are on, then the scheduled steps that are due, and then what the generator draws. The access is
-- counted.
abbrev pub Prepares : PlayedAdapter → PlayedAdapter → List Told → Type 0
Prepares a b told =
    Joins (Ticks a) (λ ticked later. Joins (InOrder PlaysScheduled (due_in ticked) ticked) (λ waited rest. Draws waited b rest) later) told

-- A move is played.
abbrev pub Makes : Move → PlayedAdapter → PlayedAdapter → List Told → Type 0
Makes (Tick kind) a b told = (outcome : Outcome (Unit {0})) × Steps kind outcome a b told
Makes (Hold action) a b told = (b ≡ a) × (told ≡ Noted action ∷ [])
Makes (Play choice) a b told = Chosen choice a b told

-- Cycles are played until one does nothing, up to the maximum `pace`.
abbrev pub Paced : PlayedAdapter → PlayedAdapter → List Told → Type 0
Paced a b told = (moved : ℕ) × Settles a.pace moved a b told

-- Accesses.

-- Only the access happens. The access is told, and then a change of the interrupt line, if there is one.
abbrev pub HappensAlone : Access → PlayedAdapter → PlayedAdapter → List Told → Type 0
HappensAlone access a b told =
    HappensTold (event.Accesses access) (tell.Accessed access ∷ []) (after (event.Accesses access) a) a b told

-- The steps before an access are played, and then the access happens.
abbrev pub Accessed : Access → PlayedAdapter → PlayedAdapter → List Told → Type 0
Accessed access a b told = Joins (Prepares a) (λ middle rest. HappensAlone access middle b rest) told

-- whether memory contains all of the `count` bytes from an address on
abbrev pub has_bytes : PlayedAdapter → (address count : ℕ) → Bool
has_bytes a address count = nat_le (address + count) (length a.machine.world.memory)

-- Bytes are loaded into a buffer, if memory contains them. `old` and `new` are the bytes of the buffer before and after.
pub record AnswersLoad (address : ℕ) (old new : List ℕ) (answer : Bool) (a b : PlayedAdapter) (told : List Told) : Type 0 where
  -- the answer is whether memory contains all bytes
  pub range : answer ≡ has_bytes a address (length old)
  -- if memory contains them, the steps before the access are played, and the access happens
  pub accessed : answer ≡ true → Accessed (Loads address (length old)) a b told
  -- if memory contains them, the buffer contains the bytes of memory after the access
  pub loaded : answer ≡ true → new ≡ bytes_at b.machine.world.memory address (length old)
  -- if memory doesn't contain all of them, nothing happens
  pub refused : answer ≡ false → (new ≡ old) × (b ≡ a) × (told ≡ [])

-- Bytes are stored in memory, if memory contains all their places.
pub record AnswersStore (address : ℕ) (bytes : List ℕ) (answer : Bool) (a b : PlayedAdapter) (told : List Told) : Type 0 where
  -- the answer is whether memory contains all their places
  pub range : answer ≡ has_bytes a address (length bytes)
  -- if memory contains them, the steps before the access are played, and the access happens
  pub accessed : answer ≡ true → Accessed (Stores address bytes) a b told
  -- if memory doesn't contain all of them, nothing happens
  pub refused : answer ≡ false → (b ≡ a) × (told ≡ [])

-- Suppose that ticks are off, no steps are drawn, and no scheduled step is due. Then the access is counted, and nothing but the access
-- happens.
abbrev pub QuietAccessesAreExact : Type 0
QuietAccessesAreExact =
    (access : Access) (a b : PlayedAdapter) (told : List Told) → a.ticks ≡ false → a.most_steps ≡ 0 → due_in a ≡ []
    → Accessed access a b told → HappensAlone access (access_counted a) b told
