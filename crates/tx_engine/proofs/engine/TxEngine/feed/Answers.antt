use Rattle.std.proofs.Common.{◌≡◌, ◌++◌, List, length, map, flat_map, sym, ap, ◌∙◌}
use Rattle.std.proofs.lemmas.Grind.{flat_map-append}
use Rattle.std.specs.Hash.{bool, fed_along, fed_then}
use Rattle.descriptors.specs.HashedFrames.{frames_writes}
use Rattle.tx_engine.specs.Buffer.{transmitter_of}
use Rattle.tx_engine.specs.BufferLaws.{side_by_side-frames, side_by_side-reports}
use Rattle.tx_engine.specs.Hashed.{queued_writes, report_writes}
use Rattle.tx_engine.specs.Transmitter.{Queued, Transmitter}
use Rattle.tx_engine.specs.declared.engine.TxEngine.TheInside.{Inside}
use Rattle.tx_engine.specs.declared.report.Report.{Report}
use Rattle.tx_engine.proofs.engine.TxEngine.feed.Goals as goal

frames : (engine : Inside) (seen : Transmitter) → length engine.frames.frames ≡ length engine.reports.items → transmitter_of engine ≡ seen
    → frames_writes engine.frames.frames ≡ frames_writes (map (λ (q : Queued). q.frame) seen.buffer)
frames engine seen same view = ap frames_writes (sym (side_by_side-frames engine.frames.frames engine.reports.items same)
    ∙ ap (λ (t : Transmitter). map (λ (q : Queued). q.frame) t.buffer) view)

reports : (engine : Inside) (seen : Transmitter) (front wrapped : List Report) → length engine.frames.frames ≡ length engine.reports.items
    → transmitter_of engine ≡ seen → front ++ wrapped ≡ engine.reports.items
    → flat_map report_writes front ++ flat_map report_writes wrapped ≡ flat_map queued_writes seen.buffer
reports engine seen front wrapped same view parts = sym (flat_map-append report_writes front wrapped)
    ∙ ap (flat_map report_writes) parts
    ∙ sym (side_by_side-reports engine.frames.frames engine.reports.items same)
    ∙ ap (λ (t : Transmitter). flat_map queued_writes t.buffer) view

pub returns : goal.returns
returns g c =
    let write = g.H.Hasher.write in
    let engine = c.self.inside in
    let seen = c.args.self.now in
    let front = c.as_slices.result.0.now in
    let wrapped = c.as_slices.result.1.now in
    let held_writes = frames_writes (map (λ (q : Queued). q.frame) seen.buffer) in
    let asked_writes = flat_map queued_writes seen.buffer in
    let stopped = fed_along write c.args.hasher.now c.hash.new.state (ap bool c.is_stopped.ensures) c.hash.ensures in
    let same_frames = frames engine seen c.self.invariant.same c.self.view_is in
    let held = fed_along write c.hash.new.state c.feed.new.hasher same_frames c.feed.ensures in
    let parts = reports engine seen front wrapped c.self.invariant.same c.self.view_is c.as_slices.ensures in
    let asked = fed_along write c.feed.new.hasher c.feed_reports-2.new.hasher parts
    (fed_then write c.feed.new.hasher c.feed_reports.new.hasher c.feed_reports-2.new.hasher (flat_map report_writes front)
    (flat_map report_writes wrapped) c.feed_reports.ensures c.feed_reports-2.ensures) in
    fed_then write c.args.hasher.now c.hash.new.state c.feed_reports-2.new.hasher (bool seen.stopped) (held_writes ++ asked_writes) stopped
    (fed_then write c.hash.new.state c.feed.new.hasher c.feed_reports-2.new.hasher held_writes asked_writes held asked)
