-- The value of a solo bus in contracts, from its fields (our choice).
use Rattle.std.specs.Prelude.{◌≡◌}
use Rattle.solo_bus.specs.SoloBuses.{SoloState, most_ticks, wire_frames}
use Rattle.solo_bus.specs.declared.solo_bus.SoloBus.TheInside.{Inside}

-- The plain data of a solo bus with these fields.
abbrev pub solo_of : Inside → SoloState
solo_of inside = record {
  world = inside.machine.world;
  lively = inside.lively;
  waiting = inside.waiting.items;
  wire = inside.wire.frames;
  accesses = inside.accesses;
}

-- The invariant of a solo bus: its queues have room for 32 ticks and 64 frames.
pub record HasQueues (inside : Inside) : Type 0 where
  pub waiting : inside.waiting.capacity ≡ most_ticks
  pub wire : inside.wire.capacity ≡ wire_frames
