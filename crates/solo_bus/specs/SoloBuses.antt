-- The state of a solo bus, the effect of its calls, and the record of what happened between two states.
use Rattle.std.specs.Prelude.{⊤, ◌≡◌, ◌+◌, ◌++◌, ℕ, Bool, true, false, List, [], ◌∷◌, All, length, map, min, nat_lt, sum_by}
use Rattle.std.specs.Prelude.{if◌then◌else◌}
use Rattle.rx_engine.specs.declared.arrival.Fate.{Fate}
use Rattle.adapter_model.specs.Outcomes.{put_by, framed}
use Rattle.adapter_model.specs.World.{World}
use Rattle.tx_engine.specs.Transmitter.{Queued}
use Rattle.adapter_model.specs.declared.step.StepKind.{StepKind}
use Rattle.adapter_model.specs.declared.step.StepKind.TheVariants.{EepromTick, PhyTick}
use Rattle.adapter_model.specs.declared.outcome.Outcome.{Outcome}
use Rattle.adapter_model.specs.Outcomes.{FrameOutcome}
use Rattle.bus.specs.LivelyBuses.{most_accesses}
use Rattle.bus.specs.TickGroups.{behind_group, group_of, groups_of, played_in, waiting_after}
use Rattle.bus.specs.Pasts.{Past}
use Rattle.bus.specs.declared.event.Access.{Access}
use Rattle.bus.specs.StepsAndArrivals.{past_of_step, world_after_arrival, world_after_step}
use Rattle.bus.specs.Trails.{IsStep, Trail, past_of}
use Rattle.bus.specs.declared.event.Event.{Event}
use Rattle.bus.specs.declared.event.Event.TheVariants.{Accesses, Arrives, Steps}
use Rattle.solo_bus.specs.declared.solo_bus.SoloTick.{SoloTick}
use Rattle.solo_bus.specs.declared.solo_bus.SoloTick.TheVariants.{Arrive, Go, Step}

-- The state of a solo bus in contracts.
pub record SoloState : Type 0 where
  -- The adapter and its memory.
  pub world : World
  -- Whether the bus plays a tick of the EEPROM and a tick of the PHY before each access.
  pub lively : Bool
  -- The ticks that are still to be played.
  pub waiting : List SoloTick
  -- The frames on the wire, the oldest first: those that steps put and no call removed.
  pub wire : List (List ℕ)
  -- The number of accesses so far, at most the greatest u64.
  pub accesses : ℕ

-- The number of frames for which the wire has room (our choice).
abbrev pub wire_frames : ℕ
wire_frames = 64

-- The greatest number of ticks that wait (our choice).
abbrev pub most_ticks : ℕ
most_ticks = 32

-- Whether the wire has room: it has fewer than `wire_frames` frames.
abbrev pub wire_has_room : SoloState → Bool
wire_has_room solo = nat_lt (length solo.wire) wire_frames

-- The outcome of a step from this state, with the frame that it put if the outcome is `Put`.
abbrev pub solo_framed : Outcome (Unit {0}) → SoloState → FrameOutcome
solo_framed outcome solo = framed outcome solo.world.adapter

-- The frame that is put next, as a list: the oldest frame of a packet buffer, if there is one.
abbrev pub frames_put_next : List Queued → List (List ℕ)
frames_put_next [] = []
frames_put_next (queued ∷ later) = queued.frame ∷ []

-- The bus after a step. A frame that the step put is after the others on the wire.
abbrev pub solo_after_step : StepKind → FrameOutcome → SoloState → SoloState
solo_after_step kind answer solo = record solo { world = world_after_step kind answer solo.world; wire = solo.wire ++ put_by answer }

-- The bus after a frame has arrived, with this fate.
abbrev pub solo_after_arrival : Fate → List ℕ → SoloState → SoloState
solo_after_arrival fate frame solo = record solo { world = world_after_arrival fate frame solo.world }

-- Whether a tick is `Go`.
abbrev pub is_solo_go : SoloTick → Bool
is_solo_go Go = true
is_solo_go (Step kind) = false
is_solo_go (Arrive frame) = false

-- The tick of an event. The tick of an access is `Go`.
abbrev pub solo_tick_of : Event → SoloTick
solo_tick_of (Steps kind wire_free answer) = Step kind
solo_tick_of (Arrives frame fate) = Arrive frame
solo_tick_of (Accesses access) = Go

-- The ticks that a bus plays by itself before each access. A lively bus plays a tick of the EEPROM and then a tick of the PHY. A bus that
-- isn't lively plays no ticks by itself.
abbrev pub lively_ticks : Bool → List SoloTick
lively_ticks lively = if lively then Step EepromTick ∷ Step PhyTick ∷ [] else []

-- Each step was played with a free wire if and only if the wire had room. `frames` is the number of frames on the wire before the first
-- step.
abbrev pub AreFree : List Event → ℕ → Type 0
AreFree [] frames = ⊤
AreFree (Steps kind wire_free answer ∷ later) frames =
    (wire_free ≡ nat_lt frames wire_frames) × AreFree later (frames + length (past_of_step kind answer).put)
AreFree (Arrives frame fate ∷ later) frames = AreFree later frames
AreFree (Accesses access ∷ later) frames = AreFree later frames

-- From `a` to `b`, the steps of these events put the frames `put` on the wire.
pub record PutOnWire (a b : SoloState) (events : List Event) (put : List (List ℕ)) : Type 0 where
  -- Each step was played with the wire free if and only if the wire had room.
  pub free : AreFree events (length a.wire)
  -- The wire contains the frames that it contained in `a`, followed by those of `put`.
  pub frames : b.wire ≡ a.wire ++ put

-- `past` is the record of what happened from `a` to `b`.
pub record Recounts (a b : SoloState) (past : Past) : Type 0 where
  -- The accesses, steps and arrivals from `a` to `b`, in order.
  pub events : List Event
  -- From the world of `a`, these events reach the world of `b`.
  pub trail : Trail events a.world b.world
  -- The record contains exactly these events.
  pub past_is : past ≡ past_of events
  -- Before each access, the bus's own ticks and those of the next group were played, one event for each tick, in order. No event followed
  -- the last access.
  pub played : map solo_tick_of events ≡ played_in is_solo_go Go (lively_ticks a.lively) past.accesses a.waiting
  -- One group was played for each access. All other ticks still wait.
  pub waiting : b.waiting ≡ waiting_after is_solo_go past.accesses a.waiting
  -- The frames that the steps put are on the wire.
  pub wire : PutOnWire a b events past.put
  pub lively : b.lively ≡ a.lively
  -- Each access was counted, up to the greatest u64.
  pub count : min b.accesses most_accesses ≡ min (a.accesses + length past.accesses) most_accesses

-- 1 if the tick is a tick of the EEPROM, else 0.
abbrev pub eeprom_tick : SoloTick → ℕ
eeprom_tick (Step EepromTick) = 1
eeprom_tick _ = 0

-- 1 if the tick is a tick of the PHY, else 0.
abbrev pub phy_tick : SoloTick → ℕ
phy_tick (Step PhyTick) = 1
phy_tick _ = 0

-- The number of ticks of the EEPROM, and of ticks of the PHY, that a bus plays by itself before these accesses.
abbrev pub lively_count : Bool → List Access → ℕ
lively_count lively accesses = if lively then length accesses else 0

-- Before each access, a lively bus plays exactly one tick of the EEPROM and one tick of the PHY by itself. All other ticks are those of the
-- groups that waited.
pub record PlaysLively (a : SoloState) (past : Past) : Type 0 where
  pub eeprom : past.eeprom_ticks ≡ lively_count a.lively past.accesses + sum_by eeprom_tick (groups_of is_solo_go past.accesses a.waiting)
  pub phy : past.phy_ticks ≡ lively_count a.lively past.accesses + sum_by phy_tick (groups_of is_solo_go past.accesses a.waiting)

-- From `a` to `b`, exactly these ticks are played, with one event for each tick and no access. In `b`, the ticks `left` wait.
pub record PlaysSoloTicks (ticks left : List SoloTick) (a b : SoloState) : Type 0 where
  -- The events of the ticks, in order.
  pub events : List Event
  -- No event is an access.
  pub are : All IsStep events
  -- From the world of `a`, these events reach the world of `b`.
  pub trail : Trail events a.world b.world
  -- The events are those of exactly these ticks.
  pub played : map solo_tick_of events ≡ ticks
  pub waiting : b.waiting ≡ left
  -- The frames that the steps put are on the wire.
  pub wire : PutOnWire a b events (past_of events).put
  pub lively : b.lively ≡ a.lively
  pub accesses : b.accesses ≡ a.accesses

-- From `a` to `b`, the bus plays its own ticks and the next group before an access. The bus also counts the access, up to the greatest u64.
pub record Prepared (a b : SoloState) : Type 0 where
  -- Except for its count of accesses, `b` is the bus after these ticks are played. The other ticks still wait.
  pub plays : PlaysSoloTicks (lively_ticks a.lively ++ group_of is_solo_go a.waiting) (behind_group is_solo_go a.waiting) a
      (record b { accesses = a.accesses })
  pub count : b.accesses ≡ min (a.accesses + 1) most_accesses
