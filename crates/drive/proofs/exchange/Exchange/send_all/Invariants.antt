use Rattle.std.proofs.Common.{◌≡◌, ◌≤◌}
use Rattle.dma_memory.specs.Layout.{size_of}
use Rattle.drive.specs.Exchanging.{SendsUpTo, moment_of}
use Rattle.drive.proofs.exchange.Exchange.send_all.Given as goal

abbrev pub invariant-loop-frame : goal.invariant-loop-frame
invariant-loop-frame g l = record {
  memory : size_of l.self.host.driver.layout ≤ g.B.Bus.extent l.bus;
  failures : g.S.Sink.failures l.sink ≡ g.S.Sink.failures l.initial.sink;
  so_far : SendsUpTo g.B.Bus l.frames l.frame-iterator l.handed.sent l.handed.illegal
      (moment_of l.initial.bus l.initial.self (g.S.Sink.taken l.initial.sink)) (moment_of l.bus l.self (g.S.Sink.taken l.sink));
}
