use Rattle.std.proofs.Common.{◌-◌, ◌≡◌, ◌*◌, ◌≤◌, Bool, List, length, sum, take}
use Rattle.std.specs.Prelude.{IsTrue}
use Rattle.adapter.specs.Keeping.{Keeps}
use Rattle.adapter.specs.Calls.{IsReadyOver, at, held_at}
use Rattle.adapter.specs.DriverState.{HandedOut, holding}
use Rattle.driver.specs.Parts.{AreFull}
use Rattle.driver.proofs.SeenSlots.{SeesSlots}
use Rattle.driver.proofs.driver.Driver.look.Given as goal

abbrev pub invariant-loop-run : goal.invariant-loop-run
invariant-loop-run g l = record {
  few : l.run.count ≤ 6;
  size : length l.run.lengths ≡ 6;
  outstanding : l.run.count ≤ length l.self.buffers;
  short : l.run.length ≤ 65535 * l.run.count;
  sum_is : l.run.length ≡ sum (take l.run.count l.run.lengths);
  full : IsTrue l.run.whole → AreFull (take l.run.count l.run.lengths);
  keeps : Keeps g.B.Bus l.initial.bus l.bus;
  sees : (up : Bool) (held : List HandedOut) → IsReadyOver g.B.Bus up (held_at held (at l.initial.bus l.self))
      → SeesSlots g.B.Bus l.run up (holding held l.self) l.initial.bus l.bus;
}

abbrev pub decreases-loop-run : goal.decreases-loop-run
decreases-loop-run g l = 6 - l.run.count
