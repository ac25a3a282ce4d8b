-- Lemmas about frames, each paired with the report of its descriptor. The list of reports is as long as the list of frames. Also lemmas
-- about the engine after a frame and its report are added.
use Rattle.std.proofs.Common.{◌≡◌, ◌<◌, not, length-append, ◌++◌, ◌∷◌, [], ℕ, List, length, map, flat_map, slice_get, Some, ◌↔◌}
use Rattle.std.proofs.Common.{refl, ap, ◌∙◌, arith}
use Rattle.circular_buffer.specs.Buffer.{Buffer, buffer, keep_last}
use Rattle.descriptors.specs.QueueLaws.{keep_last-room}
use Rattle.descriptors.specs.QueuedFrames.{Frames}
use Rattle.tx_engine.specs.Transmitter.{Queued, Transmitter}
use Rattle.tx_engine.specs.Buffer.{side_by_side, transmitter_of, IsWhole}
use Rattle.tx_engine.specs.Hashed.{queued_writes, report_writes}
use Rattle.tx_engine.specs.Steps.{IfFront}
use Rattle.tx_engine.specs.declared.report.Report.{Report}
use Rattle.tx_engine.specs.declared.engine.TxEngine.TheInside.{Inside}

-- The number of pairs is the number of frames.
pub length-side_by_side : (frames : List (List ℕ)) (reports : List Report) → length frames ≡ length reports
    → length (side_by_side frames reports) ≡ length frames
length-side_by_side [] reports same = refl
length-side_by_side (frame ∷ frames) [] same = absurd (omega arith)
length-side_by_side (frame ∷ frames) (report ∷ reports) same =
    let rest = length-side_by_side frames reports (omega arith) in
    omega arith

-- If a frame and its report are added at the end of both lists, they are the last pair.
pub side_by_side-push : (frames : List (List ℕ)) (reports : List Report) (frame : List ℕ) (report : Report) → length frames ≡ length reports
    → side_by_side (frames ++ frame ∷ []) (reports ++ report ∷ [])
    ≡ side_by_side frames reports ++ record { frame = frame; descriptor = report.descriptor; rs = report.rs } ∷ []
side_by_side-push [] [] frame report same = refl
side_by_side-push [] (other ∷ reports) frame report same = absurd (omega arith)
side_by_side-push (first ∷ frames) [] frame report same = absurd (omega arith)
side_by_side-push (first ∷ frames) (other ∷ reports) frame report same =
    let q : Queued = record { frame = first; descriptor = other.descriptor; rs = other.rs } in
    ap (λ (rest : List Queued). q ∷ rest) (side_by_side-push frames reports frame report (omega arith))

-- There is no pair if and only if there is no frame.
pub side_by_side-none : (frames : List (List ℕ)) (reports : List Report) → length frames ≡ length reports → (frames ≡ [])
    ↔ (side_by_side frames reports ≡ [])
side_by_side-none [] reports same = (λ none. refl, λ none. refl)
side_by_side-none (frame ∷ frames) [] same = absurd (omega arith)
side_by_side-none (frame ∷ frames) (report ∷ reports) same = (λ none. cc, λ none. cc)

-- The first frame of the list is the frame of the first pair.
pub side_by_side-front : (frames : List (List ℕ)) (reports : List Report) (frame : List ℕ) → length frames ≡ length reports
    → slice_get frames 0 ≡ Some frame → IfFront (side_by_side frames reports) (λ queued. queued.frame ≡ frame)
side_by_side-front [] reports frame same front = tt
side_by_side-front (first ∷ frames) [] frame same front = absurd (omega arith)
side_by_side-front (first ∷ frames) (report ∷ reports) frame same front = cc

-- The frames of the pairs are the list of frames.
pub side_by_side-frames : (frames : List (List ℕ)) (reports : List Report) → length frames ≡ length reports
    → map (λ (q : Queued). q.frame) (side_by_side frames reports) ≡ frames
side_by_side-frames [] reports same = refl
side_by_side-frames (frame ∷ frames) [] same = absurd (omega arith)
side_by_side-frames (frame ∷ frames) (report ∷ reports) same = ap (λ fs. frame ∷ fs) (side_by_side-frames frames reports (omega arith))

-- The pairs feed the same addresses and RS bits to a hasher as the reports.
pub side_by_side-reports : (frames : List (List ℕ)) (reports : List Report) → length frames ≡ length reports
    → flat_map queued_writes (side_by_side frames reports) ≡ flat_map report_writes reports
side_by_side-reports [] [] same = refl
side_by_side-reports [] (report ∷ reports) same = absurd (omega arith)
side_by_side-reports (frame ∷ frames) [] same = absurd (omega arith)
side_by_side-reports (frame ∷ frames) (report ∷ reports) same =
    ap (λ ws. report_writes report ++ ws) (side_by_side-reports frames reports (omega arith))

pushed-reports : (engine : Inside) (report : Report) (reports : Buffer Report) → IsWhole engine → length engine.frames.frames < 4
    → reports ≡ buffer (keep_last engine.reports.capacity (engine.reports.items ++ report ∷ [])) engine.reports.capacity
    → reports.items ≡ engine.reports.items ++ report ∷ []
pushed-reports engine report reports whole room pushed = ap (λ (b : Buffer Report). b.items) pushed
    ∙ keep_last-room engine.reports.items engine.reports.capacity report (omega (arith, whole.reports, whole.same))

-- If a frame and its report are added to a packet buffer of fewer than four frames, the fields still meet their invariant.
pub pushed-whole : (engine : Inside) (frame : List ℕ) (report : Report) (frames : Frames) (reports : Buffer Report) → IsWhole engine
    → length engine.frames.frames < 4 → frames ≡ record engine.frames { frames = engine.frames.frames ++ frame ∷ [] }
    → reports ≡ buffer (keep_last engine.reports.capacity (engine.reports.items ++ report ∷ [])) engine.reports.capacity
    → IsWhole (record { frames = frames; reports = reports; running = engine.running })
pushed-whole engine frame report frames reports whole room pushed_frame pushed_report =
    let one_more : frames.frames ≡ engine.frames.frames ++ frame ∷ [] = ap (λ (f : Frames). f.frames) pushed_frame in
    let one_report : reports.items ≡ engine.reports.items ++ report ∷ [] = pushed-reports engine report reports whole room pushed_report in
    record {
      frames = ap (λ (f : Frames). f.capacity) pushed_frame ∙ whole.frames;
      reports = ap (λ (b : Buffer Report). b.capacity) pushed_report ∙ whole.reports;
      same = rw (one_more, one_report)
          (omega (arith, whole.same, length-append engine.frames.frames (frame ∷ []), length-append engine.reports.items (report ∷ [])));
    }

-- After a frame and its report are added, the frame, with this report, is the last one of the packet buffer.
pub pushed-view : (engine : Inside) (frame : List ℕ) (report : Report) (frames : Frames) (reports : Buffer Report) (seen : Transmitter)
    → transmitter_of engine ≡ seen → IsWhole engine → length engine.frames.frames < 4
    → frames ≡ record engine.frames { frames = engine.frames.frames ++ frame ∷ [] }
    → reports ≡ buffer (keep_last engine.reports.capacity (engine.reports.items ++ report ∷ [])) engine.reports.capacity
    → transmitter_of (record { frames = frames; reports = reports; running = engine.running })
    ≡ record seen { buffer = seen.buffer ++ record { frame = frame; descriptor = report.descriptor; rs = report.rs } ∷ [] }
pushed-view engine frame report frames reports seen view whole room pushed_frame pushed_report =
    let last : Queued = record { frame = frame; descriptor = report.descriptor; rs = report.rs } in
    let one_more : frames.frames ≡ engine.frames.frames ++ frame ∷ [] = ap (λ (f : Frames). f.frames) pushed_frame in
    let one_report : reports.items ≡ engine.reports.items ++ report ∷ [] = pushed-reports engine report reports whole room pushed_report in
    let grown : side_by_side frames.frames reports.items ≡ side_by_side engine.frames.frames engine.reports.items ++ last ∷ [] =
    ap (λ (fs : List (List ℕ)). side_by_side fs reports.items) one_more
    ∙ ap (side_by_side (engine.frames.frames ++ frame ∷ [])) one_report
    ∙ side_by_side-push engine.frames.frames engine.reports.items frame report whole.same in
    ap (λ (queue : List Queued). let t : Transmitter = record { buffer = queue; stopped = not engine.running } in t) grown
    ∙ ap (λ (t : Transmitter). let u : Transmitter = record t { buffer = t.buffer ++ last ∷ [] } in u) view
