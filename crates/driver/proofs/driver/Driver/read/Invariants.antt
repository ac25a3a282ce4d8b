use Rattle.std.proofs.Common.{◌-◌, ◌≡◌, ◌≤◌, ◌++◌, Bool, List, length, take, drop}
use Rattle.adapter.specs.Keeping.{Keeps}
use Rattle.adapter.specs.Calls.{IsReadyOver, Ran, at, held_at, only}
use Rattle.adapter.specs.DriverState.{HandedOut, frame_of}
use Rattle.driver.specs.Parts.{part_loads, parts_of}
use Rattle.driver.proofs.ReadFrames.{bytes_before}
use Rattle.driver.proofs.driver.Driver.read.Given as goal

abbrev pub invariant-loop-part : goal.invariant-loop-part
invariant-loop-part g l = record {
  few : l.index ≤ length l.received.parts;
  read_is : l.read ≡ bytes_before l.received.parts l.index;
  room : length l.into ≡ 1518;
  rest : drop l.read l.into ≡ drop l.read l.initial.into;
  keeps : Keeps g.B.Bus l.initial.bus l.bus;
  ran : (up : Bool) (held : List HandedOut) → IsReadyOver g.B.Bus up (held_at held (at l.initial.bus l.self))
      → Ran g.B.Bus up (only (part_loads l.self.layout (take l.index l.received.parts))) (held_at held (at l.initial.bus l.self))
      (held_at held (at l.bus l.self));
  frame : (up : Bool) (first pieces later : List HandedOut)
      → IsReadyOver g.B.Bus up (held_at (first ++ (pieces ++ later)) (at l.initial.bus l.self)) → parts_of pieces ≡ l.received.parts
      → take l.read l.into ≡ frame_of (take l.index pieces);
}

abbrev pub decreases-loop-part : goal.decreases-loop-part
decreases-loop-part g l = length l.received.parts - l.index
