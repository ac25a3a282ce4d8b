-- An adapter and its host's memory, as plain data (our choice).
use Rattle.std.specs.Prelude.{Bool, bit_and, nat_lt}
use Rattle.adapter_model.specs.State.{AdapterState, IsAdapter}
use Rattle.adapter_model.specs.World.{World}
use Rattle.bus.specs.Trails.{world_after}
use Rattle.bus.specs.declared.event.Event.{Event}
use Rattle.bus.specs.declared.machine.Machine.TheInside.{Inside}

-- Whether the interrupt line is asserted: a recorded cause is in the mask (13.4.17 "Interrupt Cause Read Register").
abbrev pub is_asserted : AdapterState → Bool
is_asserted adapter = nat_lt 0 (bit_and adapter.causes.recorded adapter.causes.mask)

-- An adapter with its host's memory, and the level of its interrupt line at the last report.
pub record MachineState : Type 0 where
  -- The adapter and the memory.
  pub world : World
  -- The level of the interrupt line when it was last reported.
  pub reported : Bool

-- The value of a machine in contracts, from the fields of the struct.
abbrev pub machine_of : Inside → MachineState
machine_of inside = record {
  world = record { memory = inside.memory; adapter = inside.adapter };
  reported = inside.reported;
}

-- The invariant of a machine is the invariant of its adapter.
abbrev pub IsMachine : Inside → Type 0
IsMachine inside = IsAdapter inside.adapter

-- The machine after an event.
abbrev pub after_event : Event → MachineState → MachineState
after_event event machine = record machine { world = world_after event machine.world }
