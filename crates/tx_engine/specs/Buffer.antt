-- How the engine stores its packet buffer (our choice): the frames in one queue, and the reports in another. A report is the address and
-- the RS bit of a frame's descriptor.
use Rattle.std.specs.Prelude.{◌≡◌, ℕ, List, [], ◌∷◌, length, not}
use Rattle.tx_engine.specs.Transmitter.{Queued, Transmitter}
use Rattle.tx_engine.specs.declared.report.Report.{Report}
use Rattle.tx_engine.specs.declared.engine.TxEngine.TheInside.{Inside}

-- The frames, each with the report at the same index, up to the end of the shorter list.
abbrev pub side_by_side : List (List ℕ) → List Report → List Queued
side_by_side [] reports = []
side_by_side (frame ∷ frames) [] = []
side_by_side (frame ∷ frames) (report ∷ reports) = record { frame = frame; descriptor = report.descriptor; rs = report.rs }
    ∷ side_by_side frames reports

-- The plain data of a transmit engine with these fields.
abbrev pub transmitter_of : Inside → Transmitter
transmitter_of engine = record { buffer = side_by_side engine.frames.frames engine.reports.items; stopped = not engine.running }

-- The invariant of the fields of a transmit engine.
pub record IsWhole (engine : Inside) : Type 0 where
  -- The queue of frames has four places.
  pub frames : engine.frames.capacity ≡ 4
  -- The queue of reports has four places.
  pub reports : engine.reports.capacity ≡ 4
  -- Both queues have the same number of entries.
  pub same : length engine.frames.frames ≡ length engine.reports.items
