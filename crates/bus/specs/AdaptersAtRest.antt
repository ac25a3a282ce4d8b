-- An adapter at rest (our choice). After a reset, an adapter is at rest until its driver writes RCTL or a register of a ring.
use Rattle.std.specs.Prelude.{⊤, ◌≡◌, [], Option, Some, length}
use Rattle.rx_engine.specs.Receiver.{new_receiver}
use Rattle.tx_engine.specs.Transmitter.{new_transmitter}
use Rattle.adapter_model.specs.Registers.{after_reset}
use Rattle.adapter_model.specs.Running.{CanRun}
use Rattle.adapter_model.specs.Table.{register_at}
use Rattle.adapter_model.specs.State.{IsAdapter}
use Rattle.adapter_model.specs.World.{World}
use Rattle.adapter_model.specs.declared.register.Register.{Register}
use Rattle.adapter_model.specs.declared.register.Register.TheVariants.{Rctl, Receive, Transmit}
use Rattle.bus.specs.IdleRings.{HasIdleRings, IsIdle}
use Rattle.bus.specs.Law.{Happens}
use Rattle.bus.specs.Pasts.{Past}
use Rattle.bus.specs.declared.event.Access.{Access}
use Rattle.bus.specs.declared.event.Access.TheVariants.{Loads, Reads, Stores, Writes}
use Rattle.bus.specs.Trails.{world_after_access}

-- An adapter at rest: its rings are idle, its engines hold no frame, no fault has stopped them, and RCTL and MPC are 0.
pub record IsAtRest (world : World) : Type 0 where
  -- No slot of either ring is offered, and the rings are inside memory and apart from each other.
  pub rings : HasIdleRings world
  -- No frame is in the receive engine, and no fault has stopped the engine.
  pub receiver : world.adapter.receiver ≡ new_receiver
  -- No frame is in the transmit engine, and no fault has stopped the engine.
  pub transmitter : world.adapter.transmitter ≡ new_transmitter
  -- RCTL is 0.
  pub control : world.adapter.filter.rctl ≡ 0
  -- MPC is 0.
  pub none_missed : world.adapter.missed_packets ≡ 0

-- An adapter at rest has idle rings, and its engines can run.
abbrev pub RestIsIdle : Type 0
RestIsIdle = (world : World) → IsAtRest world → IsIdle world × CanRun world

-- After a reset, an adapter is at rest.
abbrev pub RestAfterReset : Type 0
RestAfterReset = (world : World) → IsAtRest (record world { adapter = after_reset world.adapter })

-- No frame was put on the wire, stored or missed.
pub record NoFrame (past : Past) : Type 0 where
  -- No frame was put on the wire.
  pub none_put : past.put ≡ []
  -- No frame was stored.
  pub none_stored : past.stored ≡ []
  -- No frame was missed.
  pub none_missed : past.missed ≡ 0

-- Whatever happens between two accesses, an adapter at rest remains at rest, and no frame is put on the wire, stored or missed.
abbrev pub HappeningsKeepRest : Type 0
HappeningsKeepRest = (a b : World) (past : Past) → Happens a b past → IsAdapter b.adapter → IsAtRest a → IsAtRest b × NoFrame past

-- No register, or a register other than RCTL and the registers of the rings.
abbrev pub IsElsewhere : Option Register → Type 0
IsElsewhere (Some Rctl) = ⊥
IsElsewhere (Some (Receive part)) = ⊥
IsElsewhere (Some (Transmit part)) = ⊥
IsElsewhere _ = ⊤

-- Any access except a write of RCTL or of a register of a ring.
abbrev pub LeavesRest : Access → Type 0
LeavesRest (Reads offset value) = ⊤
LeavesRest (Writes offset value) = IsElsewhere (register_at offset)
LeavesRest (Loads address size) = ⊤
LeavesRest (Stores address bytes) = ⊤

-- An adapter at rest remains at rest after an access within memory, except a write of RCTL or of a register of a ring.
abbrev pub AccessesKeepRest : Type 0
AccessesKeepRest =
    (access : Access) (world : World) → LeavesRest access → length (world_after_access access world).memory ≡ length world.memory
    → IsAtRest world → IsAtRest (world_after_access access world)
