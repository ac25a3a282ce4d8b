use Rattle.std.proofs.Common.{◌∙◌, ℕ, List, length, map, slice_get, ap, sym, arith}
use Rattle.tx_engine.specs.Transmitter.{Queued, Transmitter}
use Rattle.tx_engine.specs.BufferLaws.{length-side_by_side, side_by_side-frames}
use Rattle.tx_engine.proofs.engine.TxEngine.frame_at.Goals as goal

pub frame_at-requires : goal.frame_at-requires
frame_at-requires c =
    let engine = c.self.inside in
    let view = ap (λ (t : Transmitter). length t.buffer) c.self.view_is in
    omega (arith, view, c.requires, length-side_by_side engine.frames.frames engine.reports.items c.self.invariant.same)

pub returns-clause-frame : goal.returns-clause-frame
returns-clause-frame c =
    let engine = c.self.inside in
    ap (λ (t : Transmitter). slice_get (map (λ (q : Queued). q.frame) t.buffer) c.args.index) (sym c.self.view_is)
    ∙ ap (λ (frames : List (List ℕ)). slice_get frames c.args.index)
    (side_by_side-frames engine.frames.frames engine.reports.items c.self.invariant.same)
    ∙ c.frame_at.ensures.frame
