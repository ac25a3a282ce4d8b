-- A lively bus: a machine whose EEPROM and PHY take a step before each access (our choice).
use Rattle.std.specs.Prelude.{⊤, ◌≡◌, ◌+◌, ◌-◌, ◌^◌, ◌∷◌, [], ℕ, true, List, All, length, min}
use Rattle.adapter_model.specs.Outcomes.{FrameOutcome}
use Rattle.adapter_model.specs.World.{World}
use Rattle.adapter_model.specs.declared.step.StepKind.TheVariants.{EepromTick, PhyTick}
use Rattle.bus.specs.Pasts.{Past}
use Rattle.bus.specs.Trails.{Trail, past_of}
use Rattle.bus.specs.declared.event.Event.{Event}
use Rattle.bus.specs.declared.event.Event.TheVariants.{Accesses, Arrives, Steps}
use Rattle.bus.specs.declared.lively_bus.LivelyBus.{LivelyBus}

-- The adapter and the memory of the machine that is lent.
abbrev pub machine_world : LivelyBus → World
machine_world bus = bus.machine.now.world

-- The number of bytes of this memory.
abbrev pub machine_bytes : LivelyBus → ℕ
machine_bytes bus = length (machine_world bus).memory

-- The greatest count of accesses.
abbrev pub most_accesses : ℕ
most_accesses = 2 ^ 64 - 1

-- The same machine is lent in both states.
pub record IsSameMachine (a b : LivelyBus) : Type 0 where
  pub machine : b.machine.ghost_name ≡ a.machine.ghost_name

-- The event is an access, or a step of the EEPROM or the PHY.
abbrev pub IsQuietEvent : Event → Type 0
IsQuietEvent (Steps EepromTick wire_free outcome) = ⊤
IsQuietEvent (Steps PhyTick wire_free outcome) = ⊤
IsQuietEvent (Steps kind wire_free outcome) = ⊥
IsQuietEvent (Arrives frame fate) = ⊥
IsQuietEvent (Accesses access) = ⊤

-- The same machine is lent in both states. Between them, only accesses, steps of the EEPROM and steps of the PHY happened, the same number
-- of each. The accesses are counted, up to the greatest u64.
pub record Lives (a b : LivelyBus) (past : Past) : Type 0 where
  pub lent : IsSameMachine a b
  pub events : List Event
  pub trail : Trail events (machine_world a) (machine_world b)
  pub past_is : past ≡ past_of events
  pub quiet : All IsQuietEvent events
  pub eeprom : past.eeprom_ticks ≡ length past.accesses
  pub phy : past.phy_ticks ≡ length past.accesses
  pub count : min b.accesses most_accesses ≡ min (a.accesses + length past.accesses) most_accesses

-- The steps of the EEPROM and the PHY before an access, with their outcomes.
abbrev pub both_ticks : (eeprom phy : FrameOutcome) → List Event
both_ticks eeprom phy = Steps EepromTick true eeprom ∷ Steps PhyTick true phy ∷ []

-- Before an access, a step of the EEPROM and a step of the PHY are played. The access is counted, up to the greatest u64.
pub record IsPrepared (a b : LivelyBus) : Type 0 where
  pub lent : IsSameMachine a b
  pub eeprom : FrameOutcome
  pub phy : FrameOutcome
  pub trail : Trail (both_ticks eeprom phy) (machine_world a) (machine_world b)
  pub count : b.accesses ≡ min (a.accesses + 1) most_accesses
