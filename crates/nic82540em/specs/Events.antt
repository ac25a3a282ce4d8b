-- The events that are kept for C's program (our choice).
use Rattle.std.specs.Prelude.{◌==◌, ◌&&◌, ◌++◌, ◌∷◌, ◌≡◌, [], ℕ, false, List, Option, Some, None, drop, if◌then◌else◌, length, nat_lt}
use Rattle.adapter.specs.model_types.step.StepKind.{StepKind}
use Rattle.adapter.specs.model_types.step.StepKind.TheVariants.{EepromTick, PhyTick, RxData, RxDone, TxPut, TxTake}
use Rattle.access_names.specs.declared.engine_fault.EngineFault.{EngineFault}
use Rattle.access_names.specs.declared.engine_fault.Reason.{Reason}
use Rattle.access_names.specs.declared.engine_fault.Reason.TheVariants.{Ring, Descriptor, Dext, Eop, Length, Buffer, Bsex}
use Rattle.nic82540em.specs.Numbers.{fate_number, outcome_number}
use Rattle.nic82540em.specs.declared.events.Events.{Events}
use Rattle.nic82540em.specs.declared.events.KeptEvent.{KeptEvent}
use Rattle.played_adapter.specs.Told.{Told, Accessed, Arrived, Line, Noted, OfferedArrived, Stepped}

-- the number of a kind of steps
abbrev pub kind_number : StepKind → ℕ
kind_number TxTake = 0
kind_number TxPut = 1
kind_number RxData = 2
kind_number RxDone = 3
kind_number EepromTick = 4
kind_number PhyTick = 5

-- the number of the reason of a fault
abbrev pub reason_number : Reason → ℕ
reason_number Ring = 1
reason_number Descriptor = 2
reason_number Dext = 3
reason_number Eop = 4
reason_number Length = 5
reason_number Buffer = 6
reason_number Bsex = 7

-- The event of a step, from the numbers of its kind and its outcome. The event of a fault also has the reason and the head of the engine's
-- ring.
abbrev pub step_event : (kind outcome : ℕ) → Option EngineFault → KeptEvent
step_event kind outcome None = record { what = 0; kind = kind; value = outcome; reason = 0; index = 0 }
step_event kind outcome (Some fault) =
    record { what = 0; kind = kind; value = outcome; reason = reason_number fault.reason; index = fault.index }

-- the event of an arrival or of a change of the interrupt line
abbrev pub other_event : (what value : ℕ) → KeptEvent
other_event what value = record { what = what; kind = 0; value = value; reason = 0; index = 0 }

-- The event of a thing that is told: of a step with another outcome than `Nothing`, an arrival, or a change of the interrupt line. Other
-- things have no event.
abbrev pub event_of : Told → Option KeptEvent
event_of (Stepped kind outcome fault) =
    if outcome_number outcome == 0 then None else Some (step_event (kind_number kind) (outcome_number outcome) fault)
event_of (Arrived frame fate) = Some (other_event 1 (fate_number fate))
event_of (OfferedArrived frame fate) = Some (other_event 1 (fate_number fate))
event_of (Accessed access) = None
event_of (Noted action) = None
event_of (Line level) = Some (other_event 2 (if level then 1 else 0))

-- no event waits, 4,096 events have room, and new events aren't kept
abbrev pub no_events : Events
no_events = record { on = false; waiting = record { items = []; capacity = 4096 } }

-- The events after an event, if there is one, was told. The event waits after the others, if new events are kept and there is room.
abbrev pub keeps : Events → Option KeptEvent → Events
keeps events None = events
keeps events (Some event) =
    if events.on && nat_lt (length events.waiting.items) events.waiting.capacity
    then record events { waiting = record events.waiting { items = events.waiting.items ++ event ∷ [] } } else events

-- the events after this list was told
abbrev pub hears : List Told → Events → Events
hears [] events = events
hears (told ∷ later) events = hears later (keeps events (event_of told))

-- between two states, the events heard this list
abbrev pub HearsBetween : Events → Events → List Told → Type 0
HearsBetween before after told = after ≡ hears told before

-- the events without the oldest one
abbrev pub without_first : Events → Events
without_first events = record events { waiting = record events.waiting { items = drop 1 events.waiting.items } }
