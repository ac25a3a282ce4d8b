use Rattle.std.proofs.Common.{sym, ap, ◌∙◌, length}
use Rattle.tx_engine.specs.Transmitter.{Transmitter}
use Rattle.tx_engine.specs.BufferLaws.{length-side_by_side}
use Rattle.tx_engine.proofs.engine.TxEngine.len.Goals as goal

pub returns-clause-count : goal.returns-clause-count
returns-clause-count c =
    let engine = c.self.inside in
    c.len.ensures.count
    ∙ sym (length-side_by_side engine.frames.frames engine.reports.items c.self.invariant.same)
    ∙ ap (λ (t : Transmitter). length t.buffer) c.self.view_is
