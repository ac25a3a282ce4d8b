-- What happens to a world, event by event: adapter steps, deliveries and accesses.
use Rattle.std.specs.Prelude.{◌≡◌, List, [], ◌∷◌, All, ⊤}
use Rattle.adapter_model.specs.Receiving.{IsFate}
use Rattle.adapter_model.specs.Registers.{answer_at}
use Rattle.adapter_model.specs.Steps.{Answers}
use Rattle.bus.specs.declared.event.Event.{Event}
use Rattle.bus.specs.declared.event.Event.TheVariants.{Accesses, Arrives, Steps}
use Rattle.bus.specs.Law.{Happens}
use Rattle.bus.specs.Pasts.{Past, joined, nothing}
use Rattle.bus.specs.declared.event.Access.{Access}
use Rattle.bus.specs.declared.event.Access.TheVariants.{Loads, Reads, Stores, Writes}
use Rattle.bus.specs.StepsAndArrivals.{past_of_arrival, past_of_step, world_after_arrival, world_after_step}
use Rattle.adapter_model.specs.State.{IsAdapter}
use Rattle.adapter_model.specs.World.{World, world_after_read, world_after_store, world_after_write}

-- If the access is a read, its value is that of the register in the world before the access.
abbrev pub IsAnswered : Access → World → Type 0
IsAnswered (Reads offset value) world = value ≡ answer_at offset world.adapter
IsAnswered (Writes offset value) world = ⊤
IsAnswered (Loads address size) world = ⊤
IsAnswered (Stores address bytes) world = ⊤

-- The world after an access.
abbrev pub world_after_access : Access → World → World
world_after_access (Reads offset value) world = world_after_read offset world
world_after_access (Writes offset value) world = world_after_write offset value world
world_after_access (Loads address size) world = world
world_after_access (Stores address bytes) world = world_after_store address bytes world

-- The event, with its outcome, its fate or the value that is read, can happen in this world.
abbrev pub Occurs : Event → World → Type 0
Occurs (Steps kind wire_free answer) world = IsAdapter world.adapter × Answers kind wire_free world.memory world.adapter answer
Occurs (Arrives frame fate) world = IsAdapter world.adapter × IsFate world.adapter frame fate
Occurs (Accesses access) world = IsAnswered access world

-- The world after an event.
abbrev pub world_after : Event → World → World
world_after (Steps kind wire_free answer) world = world_after_step kind answer world
world_after (Arrives frame fate) world = world_after_arrival fate frame world
world_after (Accesses access) world = world_after_access access world

-- These events, one after the other, lead from the first world to the second.
abbrev pub Trail : List Event → World → World → Type 0
Trail [] a b = b ≡ a
Trail (event ∷ later) a b = Occurs event a × Trail later (world_after event a) b

-- What happened in one event.
abbrev pub past_of_event : Event → Past
past_of_event (Steps kind wire_free answer) = past_of_step kind answer
past_of_event (Arrives frame fate) = past_of_arrival fate frame
past_of_event (Accesses access) = record nothing { accesses = access ∷ [] }

-- What happened in all these events.
abbrev pub past_of : List Event → Past
past_of [] = nothing
past_of (event ∷ later) = joined (past_of_event event) (past_of later)

-- A step or an arrival.
abbrev pub IsStep : Event → Type 0
IsStep (Steps kind wire_free answer) = ⊤
IsStep (Arrives frame fate) = ⊤
IsStep (Accesses access) = ⊥

-- Any steps and deliveries may happen between two accesses.
abbrev pub TrailsHappen : Type 0
TrailsHappen = (events : List Event) (a b : World) → All IsStep events → Trail events a b → Happens a b (past_of events)
